-- What changes in what is stored when one part of it is written.
use Rattle.std.specs.Prelude.{ℕ, ◌==◌, ◌&&◌, ◌||◌, None, [], ◌∷◌, ◌++◌, length, slice_set}
use Rattle.retrograde.specs.declared.records.State.TheVariants.{Known}
use Rattle.retrograde.specs.declared.records.Record.{Record}
use Rattle.retrograde.specs.declared.records.Counts.{Counts}
use Rattle.retrograde.specs.Stored.{Stored, expanded_count, processed_count}

-- how many positions are known, expanded, settled and processed
abbrev pub counts_of : {P : Type 0} → Stored P → Counts
counts_of stored = record {
  known = length stored.positions;
  expanded = expanded_count stored;
  settled = length stored.order;
  processed = processed_count stored;
}

-- the record of a position that is known and no more
abbrev pub fresh_record : Record
fresh_record = record { state = Known; winner = None; distance = 0; left = 0; successors = 0 }

-- one more position, with the next number
abbrev pub with_position : {P : Type 0} → Stored P → P → Stored P
with_position stored x = record stored { positions = stored.positions ++ x ∷ []; records = stored.records ++ fresh_record ∷ [] }

-- this number has this record
abbrev pub with_record : {P : Type 0} → Stored P → ℕ → Record → Stored P
with_record stored i r = record stored { records = slice_set stored.records i r }

-- one more edge, to i from p
abbrev pub with_edge : {P : Type 0} → Stored P → ℕ → ℕ → Stored P
with_edge stored i p = record stored { has_edge = λ j q. stored.has_edge j q || (j == i && q == p) }

-- one more settled number, last in the order
abbrev pub with_settled : {P : Type 0} → Stored P → ℕ → Stored P
with_settled stored i = record stored { order = stored.order ++ i ∷ [] }
