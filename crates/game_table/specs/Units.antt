-- Units of work on what is stored: the old table says which the new one is.
use Rattle.std.specs.Prelude.{◌≡◌, ℕ, zero, suc, List, length}
use Rattle.rbg_game.specs.declared.roles.Player.{Player}
use Rattle.retrograde.specs.declared.records.Record.{Record}
use Rattle.retrograde.specs.Graph.{Graph}
use Rattle.retrograde.specs.Expands.{Expands}
use Rattle.retrograde.specs.Settles.{Settles}
use Rattle.retrograde.specs.Stored.{Stored, IsTable, expanded_count}
use Rattle.retrograde.specs.Successors.{packed_cmp}

-- one unit: the position with the least number that is not expanded is expanded; or, where all are, the first settled number that is not
-- processed is processed
pub data IsUnit (graph : Graph (List ℕ)) (old new : Stored (List ℕ)) : Type 0 where
  expands : {x : List ℕ} {ys : List (List ℕ)} → Expands packed_cmp graph old new x ys → IsUnit graph old new
  settles : {s : ℕ} {r : Record} {w : Player} → expanded_count old ≡ length old.positions → Settles graph old new s r w → IsUnit graph old new

-- this many, one after another, each on a table whose parts fit together
abbrev pub AreUnits : Graph (List ℕ) → Stored (List ℕ) → ℕ → Stored (List ℕ) → Type 0
AreUnits graph old zero new = new ≡ old
AreUnits graph old (suc n) new = (mid : Stored (List ℕ)) × AreUnits graph old n mid × IsTable mid × IsUnit graph mid new
