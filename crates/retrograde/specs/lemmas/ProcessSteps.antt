-- The steps by which a position is processed: its record is written, and then its predecessors are seen to one by one.
use Rattle.std.specs.Prelude.{ℕ, if◌then◌else◌, Option, Some, None, [], ◌∷◌, ◌++◌, zero, suc, length, slice_get, slice_set}
use Rattle.rbg_game.specs.declared.roles.Player.{Player}
use Rattle.rbg_game.specs.declared.roles.Role.{Role}
use Rattle.retrograde.specs.declared.records.Record.{Record}
use Rattle.retrograde.specs.Graph.{Graph}
use Rattle.retrograde.specs.Stored.{Stored}
use Rattle.retrograde.specs.Process.{is_due, lowered, processed_record}

-- what is stored then, where the predecessor p has this record
abbrev pub with_lowered : {P : Type 0} → Role → Player → ℕ → ℕ → Record → Stored P → Stored P
with_lowered mover w d p r stored = record stored {
  records = slice_set stored.records p (lowered mover w d r);
  order = if is_due mover w r then stored.order ++ p ∷ [] else stored.order;
}

-- the same, where the predecessor is this position, if it is known, and has this record
abbrev pub lower_with : {P : Type 0} → Graph P → Player → ℕ → ℕ → Stored P → Option P → Option Record → Stored P
lower_with graph w d p stored None r = stored
lower_with graph w d p stored (Some x) None = stored
lower_with graph w d p stored (Some x) (Some r) = with_lowered (graph.mover x) w d p r stored

-- what is stored once the predecessor p is seen to
abbrev pub lower_at : {P : Type 0} → Graph P → Player → ℕ → ℕ → Stored P → Stored P
lower_at graph w d p stored = lower_with graph w d p stored (slice_get stored.positions p) (slice_get stored.records p)

-- what is stored once the predecessors of s below n are seen to
abbrev pub lowered_below : {P : Type 0} → Graph P → ℕ → Player → ℕ → ℕ → Stored P → Stored P
lowered_below graph s w d zero stored = stored
lowered_below graph s w d (suc n) stored =
    if stored.has_edge s n
    then lower_at graph w d n (lowered_below graph s w d n stored)
    else lowered_below graph s w d n stored

-- what is stored once s, which has this record, is processed for w
abbrev pub with_processed : {P : Type 0} → Graph P → ℕ → Record → Player → Stored P → Stored P
with_processed graph s r w stored =
    lowered_below graph s w r.distance (length stored.positions)
    (record stored { records = slice_set stored.records s (processed_record r) })
