-- The distance of the one before, along the settled order.
use Rattle.std.proofs.Common.{◌≡◌, ◌∙◌, sym, ap, ℕ, ◌+◌, ◌<◌, ⊎_elim, Option, Some, List, length, arith, add-one, slice_get, set}
use Rattle.std.proofs.lemmas.Bool.{cases_lt}
use Rattle.std.proofs.lemmas.Option.{same_Some, slice_get_within}
use Rattle.retrograde.specs.Stored.{Stored, IsTable}
use Rattle.retrograde.proofs.Predecessors.{get_set_same, get_set_other}
use Rattle.retrograde.proofs.Tables.{valued_within}
use Rattle.audit.specs.lemmas.Conditions.{distance_at, distance_before, AreFloors, IsFloor}

module _ {P : Type 0} (stored : Stored P) where
  -- what is in the order is known
  pub in_range : IsTable stored → (k i : ℕ) → slice_get stored.order k ≡ Some i → i < length stored.positions
  in_range table k i at = valued_within stored table i (table.settled k i at)

  -- the distance of the number at a place is that before the next one
  pub distance_next : (k i d : ℕ) → slice_get stored.order k ≡ Some i → d ≡ distance_at stored (Some i) → d ≡ distance_before stored (k + 1)
  distance_next k i d at is = rw add-one (is ∙ ap (λ (o : Option ℕ). distance_at stored o) (sym at))

  -- one place more
  pub floors_step : IsTable stored → (places i last : ℕ) (floors floors' : List ℕ) → AreFloors stored places floors → slice_get stored.order places ≡ Some i
      → last ≡ distance_before stored places → i < length floors → floors' ≡ set floors i last → AreFloors stored (places + 1) floors'
  floors_step table places i last floors floors' before at is within written k j below j_at =
      ⊎_elim
      (λ early.
      let other : i ≡ j → ⊥ =
      λ same. let e : k ≡ places = table.once k places i (j_at ∙ ap (λ (m : ℕ). Some m) (sym same)) at in omega arith in
      ap (λ (fs : List ℕ). slice_get fs j) written ∙ (get_set_other floors i j last other ∙ before k j early j_at))
      (λ late.
      let here : k ≡ places = omega arith in
      let same : i ≡ j = same_Some i j (sym at ∙ (ap (λ (m : ℕ). slice_get stored.order m) (sym here) ∙ j_at)) in
      ap (λ (fs : List ℕ). slice_get fs j) written
      ∙ (ap (λ (m : ℕ). slice_get (set floors i last) m) (sym same)
      ∙ (get_set_same floors i last within ∙ ap (λ (d : ℕ). Some d) (is ∙ ap (λ (m : ℕ). distance_before stored m) (sym here)))))
      (cases_lt k places)

  -- what is written of a number that is in the order
  pub floor_of : (floors : List ℕ) (i floor : ℕ) → AreFloors stored (length stored.order) floors → slice_get floors i ≡ Some floor → IsFloor stored i floor
  floor_of floors i floor are at = λ k i_at.
      same_Some floor (distance_before stored k) (sym at ∙ are k i (slice_get_within stored.order k i i_at) i_at)
