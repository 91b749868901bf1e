-- What is stored before and after a settled position is processed.
use Rattle.std.specs.Prelude.{◌≡◌, ◌↔◌, ◌<◌, ℕ, true, false, Some, List, ◌++◌, length, slice_get, Contains, AllPairs}
use Rattle.rbg_game.specs.declared.roles.Player.{Player}
use Rattle.retrograde.specs.declared.records.Record.{Record}
use Rattle.retrograde.specs.Graph.{Graph}
use Rattle.retrograde.specs.Stored.{Stored, HasRecord}
use Rattle.retrograde.specs.Process.{is_due, lowered, IsNextSettled, with_processed_alone}

-- a move leads from i to s, which is processed for w, and i is due: it isn't settled, and w has the turn there or s was
-- the last that was left
pub record IsSettledBy {P : Type 0} (graph : Graph P) (stored : Stored P) (s : ℕ) (w : Player) (i : ℕ) : Type 0 where
  pub edge : stored.has_edge s i ≡ true
  pub position : P
  pub kept : Record
  pub at : slice_get stored.positions i ≡ Some position
  pub has : HasRecord stored i kept
  pub due : is_due (graph.mover position) w kept ≡ true

-- the first number of the order that is not processed, s, which has the record r and is won by w, is processed
pub record Settles {P : Type 0} (graph : Graph P) (old new : Stored P) (s : ℕ) (r : Record) (w : Player) : Type 0 where
  pub next : IsNextSettled old s r w
  pub positions : new.positions ≡ old.positions
  pub has_edge : new.has_edge ≡ old.has_edge
  -- there are as many records as there were
  pub records : length new.records ≡ length old.records
  -- one less is left of each predecessor, and one that is due is settled for w, one farther; other records stay
  pub lowers : (i : ℕ) (x : P) (q : Record) → slice_get old.positions i ≡ Some x → HasRecord (with_processed_alone s r old) i q
      → old.has_edge s i ≡ true → HasRecord new i (lowered (graph.mover x) w r.distance q)
  pub others : (i : ℕ) (q : Record) → HasRecord (with_processed_alone s r old) i q → old.has_edge s i ≡ false → HasRecord new i q
  -- those that were due follow in the order, by ascending number
  pub newly : List ℕ
  pub order : new.order ≡ old.order ++ newly
  pub ascending : AllPairs (λ i j. i < j) newly
  pub settled : (i : ℕ) → Contains newly i ↔ IsSettledBy graph (with_processed_alone s r old) s w i
