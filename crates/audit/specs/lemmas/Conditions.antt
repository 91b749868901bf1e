-- The lowest condition that fails, of some of the seven.
use Rattle.std.specs.Prelude.{◌≡◌, ℕ, zero, suc, ◌+◌, ◌<◌, List, Option, Some, None, slice_get}
use Rattle.std.specs.List.{AllZip}
use Rattle.retrograde.specs.declared.records.Record.{Record}
use Rattle.retrograde.specs.Graph.{Graph}
use Rattle.retrograde.specs.Stored.{Stored, HasRecord, expanded_count}
use Rattle.retrograde.specs.Audit.{HasItsMoves, AreItsMoves, IsProcessedLate, IsNoNearer}
use Rattle.retrograde.specs.Audit.{IsReached, IsSettledAtTheEnd, IsSettledByItsMoves, IsUnsettledBefore}
use Rattle.retrograde.specs.Verdicts.{Reason, A1, A2, A3, A4, A5, A6, A7, number_of}
use Rattle.audit.specs.declared.verdict.Reason.{Reason as Answer}
use Rattle.audit.specs.Answers.{reason_of}

-- all hold; or the one that is answered is the lowest that does not
abbrev pub IsLowest : (Reason → Type 0) → Option Answer → Type 0
IsLowest Holds None = (r : Reason) → Holds r
IsLowest Holds (Some answer) =
    (Holds (reason_of answer) → ⊥) × ((r : Reason) → number_of r < number_of (reason_of answer) → Holds r)

-- the seven, but nothing is asked of the edges that lead to the number
abbrev pub own_condition : {P : Type 0} → Graph P → Stored P → ℕ → P → Reason → Type 0
own_condition graph stored i x A1 = IsReached graph stored i x
own_condition graph stored i x A2 = i < expanded_count stored → HasItsMoves graph stored i x
own_condition graph stored i x A3 = IsProcessedLate stored i
own_condition graph stored i x A4 = IsNoNearer stored i
own_condition graph stored i x A5 = IsSettledAtTheEnd graph stored i x
own_condition graph stored i x A6 = IsSettledByItsMoves graph stored i x
own_condition graph stored i x A7 = IsUnsettledBefore stored i

-- the two that look at the processed ones and at the settled order
abbrev pub order_condition : {P : Type 0} → Stored P → ℕ → Reason → Type 0
order_condition stored i A3 = IsProcessedLate stored i
order_condition stored i A4 = IsNoNearer stored i
order_condition stored i _ = Unit {0}

-- those and the one that looks at a position that is not expanded
abbrev pub waiting_condition : {P : Type 0} → Stored P → ℕ → Reason → Type 0
waiting_condition stored i A3 = IsProcessedLate stored i
waiting_condition stored i A4 = IsNoNearer stored i
waiting_condition stored i A7 = IsUnsettledBefore stored i
waiting_condition stored i _ = Unit {0}

-- the two that look at the value of an expanded position
abbrev pub value_condition : {P : Type 0} → Graph P → Stored P → ℕ → P → Reason → Type 0
value_condition graph stored i x A5 = IsSettledAtTheEnd graph stored i x
value_condition graph stored i x A6 = IsSettledByItsMoves graph stored i x
value_condition graph stored i x _ = Unit {0}

-- the distance in a record, or 0 where there is none
abbrev pub distance_in : Option Record → ℕ
distance_in None = 0
distance_in (Some r) = r.distance

-- the distance in the record of a number, or 0 where there is none
abbrev pub distance_at : {P : Type 0} → Stored P → Option ℕ → ℕ
distance_at stored None = 0
distance_at stored (Some i) = distance_in (slice_get stored.records i)

-- the distance of the one before this place of the settled order
abbrev pub distance_before : {P : Type 0} → Stored P → ℕ → ℕ
distance_before stored zero = 0
distance_before stored (suc k) = distance_at stored (slice_get stored.order k)

-- for each number that stands below this place of the order, the distance of the one before it
abbrev pub AreFloors : {P : Type 0} → Stored P → ℕ → List ℕ → Type 0
AreFloors stored places floors =
    (k i : ℕ) → k < places → slice_get stored.order k ≡ Some i → slice_get floors i ≡ Some (distance_before stored k)

-- where the number is in the order, this is the distance of the one before it
abbrev pub IsFloor : {P : Type 0} → Stored P → ℕ → ℕ → Type 0
IsFloor stored i floor = (k : ℕ) → slice_get stored.order k ≡ Some i → floor ≡ distance_before stored k

-- these are the records of the successors, which have their edges and are counted right
pub record AreItsRecords {P : Type 0} (graph : Graph P) (stored : Stored P) (i : ℕ) (x : P) (records : List Record) : Type 0 where
  pub ys : List P
  pub js : List ℕ
  pub moves : AreItsMoves graph stored i x ys js
  pub records_are : AllZip (HasRecord stored) js records

-- the sum of f below n
abbrev pub sum_below : ℕ → (ℕ → ℕ) → ℕ
sum_below zero f = 0
sum_below (suc n) f = sum_below n f + f n

-- how many successors the record has
abbrev pub successors_in : Option Record → ℕ
successors_in None = 0
successors_in (Some r) = r.successors
