-- What a table stores.
use Rattle.std.specs.Prelude.{◌≡◌, ◌↔◌, ℕ, zero, suc, ◌+◌, ◌<◌, Bool, true, false, if◌then◌else◌, Option, Some, None, IsSome, option_map}
use Rattle.std.specs.Prelude.{option_and_then, List, [], ◌∷◌, length, slice_get, count_by}
use Rattle.rbg_game.specs.declared.roles.Player.{Player}
use Rattle.retrograde.specs.declared.records.State.{State}
use Rattle.retrograde.specs.declared.records.State.TheVariants.{Known, Expanded, Settled, Processed}
use Rattle.retrograde.specs.declared.records.Record.{Record}
use Rattle.retrograde.specs.View.{View}

-- positions and records by number, whether there is an edge to the first number from the second, and the settled
-- numbers in the order in which they were settled
pub record Stored (P : Type 0) : Type 0 where
  pub positions : List P
  pub records : List Record
  pub has_edge : ℕ → ℕ → Bool
  pub order : List ℕ

-- a position in this state is expanded
abbrev pub is_expanded : State → Bool
is_expanded Known = false
is_expanded Expanded = true
is_expanded Settled = true
is_expanded Processed = true

-- a position in this state is processed
abbrev pub is_processed : State → Bool
is_processed Known = false
is_processed Expanded = false
is_processed Settled = false
is_processed Processed = true

-- a position in this state is settled
abbrev pub is_settled : State → Bool
is_settled Known = false
is_settled Expanded = false
is_settled Settled = true
is_settled Processed = true

-- how many positions are expanded
abbrev pub expanded_count : {P : Type 0} → Stored P → ℕ
expanded_count stored = count_by (λ r. is_expanded r.state) stored.records

-- how many are processed
abbrev pub processed_count : {P : Type 0} → Stored P → ℕ
processed_count stored = count_by (λ r. is_processed r.state) stored.records

-- how many are settled
abbrev pub settled_count : {P : Type 0} → Stored P → ℕ
settled_count stored = count_by (λ r. is_settled r.state) stored.records

-- the winner and distance in a record
abbrev pub value_of : Record → Option (Player × ℕ)
value_of r = option_map (λ w. (w, r.distance)) r.winner

-- there is a record, and its position is processed
abbrev pub processed_in : Option Record → Bool
processed_in None = false
processed_in (Some r) = is_processed r.state

-- what the table says
abbrev pub view_of : {P : Type 0} → Stored P → View P
view_of stored = record {
  known = stored.positions;
  expanded = expanded_count stored;
  processed = λ i. processed_in (slice_get stored.records i);
  value = λ i. option_and_then value_of (slice_get stored.records i);
}

-- what a record of each state may contain
abbrev pub FitsState : State → Record → Type 0
FitsState Known r = (r.winner ≡ None) × (r.distance ≡ 0) × (r.left ≡ 0) × (r.successors ≡ 0)
FitsState Expanded r = (r.winner ≡ None) × (r.distance ≡ 0)
FitsState Settled r = IsSome r.winner
FitsState Processed r = IsSome r.winner

-- the number i has this record
abbrev pub HasRecord : {P : Type 0} → Stored P → ℕ → Record → Type 0
HasRecord stored i r = slice_get stored.records i ≡ Some r

-- the parts fit together: this is what a file must spell to be opened
pub record IsTable {P : Type 0} (stored : Stored P) : Type 0 where
  pub started : 0 < length stored.positions
  pub records : length stored.records ≡ length stored.positions
  pub distinct : (i j : ℕ) (x : P) → slice_get stored.positions i ≡ Some x → slice_get stored.positions j ≡ Some x → i ≡ j
  pub states : (i : ℕ) (r : Record) → HasRecord stored i r → FitsState r.state r
  pub expanded : (i : ℕ) (r : Record) → HasRecord stored i r → (is_expanded r.state ≡ true) ↔ (i < expanded_count stored)
  pub listed : (i : ℕ) → IsSome ((view_of stored).value i) → (k : ℕ) × (slice_get stored.order k ≡ Some i)
  pub settled : (k i : ℕ) → slice_get stored.order k ≡ Some i → IsSome ((view_of stored).value i)
  pub counted : length stored.order ≡ settled_count stored
  pub once : (j k i : ℕ) → slice_get stored.order j ≡ Some i → slice_get stored.order k ≡ Some i → j ≡ k
  pub processed : (k i : ℕ) → slice_get stored.order k ≡ Some i → ((view_of stored).processed i ≡ true) ↔ (k < processed_count stored)
  pub edges : (i j : ℕ) → stored.has_edge i j ≡ true → (i < length stored.positions) × (j < length stored.positions)

-- how many numbers below n pass
abbrev pub count_below : ℕ → (ℕ → Bool) → ℕ
count_below zero test = 0
count_below (suc n) test = count_below n test + (if test n then 1 else 0)

-- the table of a game that was just loaded: its start, and no more
abbrev pub loaded : {P : Type 0} → P → Stored P
loaded start = record {
  positions = start ∷ [];
  records = record { state = Known; winner = None; distance = 0; left = 0; successors = 0 } ∷ [];
  has_edge = λ i p. false;
  order = [];
}
