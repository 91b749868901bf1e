-- When the parts of a stored table fit together, part by part.
use Rattle.std.specs.Prelude.{◌≡◌, ◌↔◌, ℕ, ◌<◌, true, List, length, slice_get, Some, count_by}
use Rattle.retrograde.specs.declared.records.Record.{Record}
use Rattle.retrograde.specs.Stored.{FitsState, is_expanded, is_processed, is_settled}

-- each record is possible for its state, and exactly the first ones are expanded
abbrev pub RecordsFit : ℕ → List Record → Type 0
RecordsFit expanded records =
    (i : ℕ) (r : Record) → slice_get records i ≡ Some r → FitsState r.state r × ((is_expanded r.state ≡ true) ↔ (i < expanded))

-- the record of this number is settled, and processed where that is wanted
pub record IsSettledAs (records : List Record) (i : ℕ) (Wanted : Type 0) : Type 0 where
  pub kept : Record
  pub found : slice_get records i ≡ Some kept
  pub settled : is_settled kept.state ≡ true
  pub processed : (is_processed kept.state ≡ true) ↔ Wanted

-- the order has settled numbers alone, each once, and the first ones are processed
pub record OrderFits (processed : ℕ) (records : List Record) (order : List ℕ) : Type 0 where
  pub settled : (k i : ℕ) → slice_get order k ≡ Some i → IsSettledAs records i (k < processed)
  pub once : (j k i : ℕ) → slice_get order j ≡ Some i → slice_get order k ≡ Some i → j ≡ k

-- each settled number stands in the order
abbrev pub AllListed : List Record → List ℕ → Type 0
AllListed records order =
    (i : ℕ) (r : Record) → slice_get records i ≡ Some r → is_settled r.state ≡ true → (k : ℕ) × (slice_get order k ≡ Some i)

-- records and settled order fit together, of which this many are expanded and processed
pub record PartsFit (expanded processed : ℕ) (records : List Record) (order : List ℕ) : Type 0 where
  pub started : 0 < length records
  pub each : RecordsFit expanded records
  pub counted : length order ≡ count_by (λ r. is_settled r.state) records
  pub in_order : OrderFits processed records order
  pub listed : AllListed records order
