-- What is stored before and after a position is expanded.
use Rattle.std.specs.Prelude.{◌≡◌, ◌↔◌, ◌⊎◌, ℕ, suc, ◌≤◌, ◌<◌, true, Some, None, List, [], ◌∷◌, ◌++◌, length, slice_get, Contains}
use Rattle.std.specs.declared.cmp.Ordering.{Ordering}
use Rattle.rbg_game.specs.declared.roles.Player.{Player}
use Rattle.rbg_game.specs.declared.roles.Role.{Role}
use Rattle.retrograde.specs.declared.records.State.TheVariants.{Expanded, Settled}
use Rattle.retrograde.specs.declared.records.Record.{Record}
use Rattle.retrograde.specs.Graph.{Graph}
use Rattle.retrograde.specs.Stored.{Stored, HasRecord, expanded_count}
use Rattle.retrograde.specs.Successors.{IsSuccessorList}
use Rattle.retrograde.specs.Changes.{fresh_record}
use Rattle.retrograde.specs.Units.{IsNewFrom}

-- the record of an expanded position with this many successors
abbrev pub expanded_record : ℕ → Record
expanded_record n = record { state = Expanded; winner = None; distance = 0; left = n; successors = n }

-- the record of a position that has no successor, where w is ahead
abbrev pub won_record : Player → Record
won_record w = record { state = Settled; winner = Some w; distance = 0; left = 0; successors = 0 }

-- x, which has the least number that is not expanded, is expanded, and a move from it leads to each of these
pub record Expands {P : Type 0} (cmp : P → P → Ordering) (graph : Graph P) (old new : Stored P) (x : P) (ys : List P) : Type 0 where
  pub number : slice_get old.positions (expanded_count old) ≡ Some x
  pub successors : IsSuccessorList cmp graph x ys
  pub expanded : expanded_count new ≡ suc (expanded_count old)
  -- after the known positions stand, in order, those of them that were not known
  pub known : (found : List P) × IsNewFrom cmp graph old.positions x found × (new.positions ≡ old.positions ++ found)
  -- each known position has a record, and no other is kept
  pub records : length new.records ≡ length new.positions
  -- there is an edge more to each of them, and no other
  pub edges : (i p : ℕ) → (new.has_edge i p ≡ true)
      ↔ ((old.has_edge i p ≡ true) ⊎ ((p ≡ expanded_count old) × ((y : P) × Contains ys y × (slice_get new.positions i ≡ Some y))))
  -- the other records stay, and a new position has a fresh one
  pub kept : (i : ℕ) (r : Record) → (i ≡ expanded_count old → ⊥) → HasRecord old i r → HasRecord new i r
  pub fresh : (i : ℕ) → length old.positions ≤ i → i < length new.positions → HasRecord new i fresh_record
  -- x is settled at 0, last in the order, where it is ended and a player is ahead
  pub moving : (length ys ≡ 0 → ⊥) → HasRecord new (expanded_count old) (expanded_record (length ys)) × (new.order ≡ old.order)
  pub level : length ys ≡ 0 → graph.ahead x ≡ None → HasRecord new (expanded_count old) (expanded_record 0) × (new.order ≡ old.order)
  pub won : (w : Player) → length ys ≡ 0 → graph.ahead x ≡ Some w
      → HasRecord new (expanded_count old) (won_record w) × (new.order ≡ old.order ++ expanded_count old ∷ [])

-- the keeper has the turn at x, and moves to two positions
pub record IsChoice {P : Type 0} (graph : Graph P) (x : P) : Type 0 where
  pub keeper : graph.mover x ≡ Role.Keeper
  pub one : P
  pub other : P
  pub to_one : graph.Successor x one
  pub to_other : graph.Successor x other
  pub apart : one ≡ other → ⊥

-- more would be known than the limit allows if x were expanded
pub record IsTooMany {P : Type 0} (cmp : P → P → Ordering) (graph : Graph P) (limit : ℕ) (known : List P) (x : P) : Type 0 where
  pub found : List P
  pub fresh : IsNewFrom cmp graph known x found
  pub over : limit < length (known ++ found)
