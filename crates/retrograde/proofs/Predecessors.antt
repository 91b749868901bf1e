-- What the predecessors of a processed position become.
use Rattle.std.proofs.Common.{◌≡◌, ◌∙◌, ap, subst, ℕ, zero, suc, ◌+◌, ◌≤◌, ◌<◌, Bool, true, false, cond, Option, Some, None, List, [], ◌∷◌, length, get_or, set, refl, arith, slice_get}
use Rattle.std.specs.Prelude.{count_by}
use Rattle.std.proofs.lemmas.Option.{slice_get_within, get_or_from_slice_get}
use Rattle.std.proofs.lemmas.List.{length-set}
use Rattle.std.proofs.lemmas.List.Sums.{sum_by-set}
use Rattle.rbg_game.specs.declared.roles.Player.{Player}
use Rattle.retrograde.specs.declared.records.Record.{Record}
use Rattle.retrograde.specs.Graph.{Graph}
use Rattle.retrograde.specs.Stored.{Stored, HasRecord}
use Rattle.retrograde.specs.Process.{lowered}
use Rattle.retrograde.specs.lemmas.ProcessSteps.{with_lowered, lower_with, lower_at, lowered_below}

pub get_set_same : {A : Type 0} (xs : List A) (i : ℕ) (y : A) → i < length xs → slice_get (set xs i y) i ≡ Some y
get_set_same [] i y lt = absurd (omega arith)
get_set_same (x ∷ xs) zero y lt = refl
get_set_same (x ∷ xs) (suc i) y lt = get_set_same xs i y (omega arith)

pub get_set_other : {A : Type 0} (xs : List A) (i j : ℕ) (y : A) → (i ≡ j → ⊥) → slice_get (set xs i y) j ≡ slice_get xs j
get_set_other [] i j y apart = refl
get_set_other (x ∷ xs) zero zero y apart = absurd (apart refl)
get_set_other (x ∷ xs) zero (suc j) y apart = refl
get_set_other (x ∷ xs) (suc i) zero y apart = refl
get_set_other (x ∷ xs) (suc i) (suc j) y apart = get_set_other xs i j y (λ e. apart (ap (λ n. suc n) e))

-- how a count changes where one element does
pub count_set : {A : Type 0} (test : A → Bool) (xs : List A) (i : ℕ) (x y : A) → slice_get xs i ≡ Some x
    → count_by test (set xs i y) + cond (test x) 1 0 ≡ count_by test xs + cond (test y) 1 0
count_set test xs i x y at =
    let within : i < length xs = slice_get_within xs i x at in
    let same : get_or xs i x ≡ x = get_or_from_slice_get xs i x x at in
    let sums : count_by test (set xs i y) + cond (test (get_or xs i x)) 1 0 ≡ count_by test xs + cond (test y) 1 0 = sum_by-set
    (λ z. cond (test z) 1 0) xs i y x within in
    subst (λ z. count_by test (set xs i y) + cond (test z) 1 0 ≡ count_by test xs + cond (test y) 1 0) same sums

module _ {P : Type 0} (graph : Graph P) (w : Player) (d : ℕ) where
  -- a step by what is found at p
  pub lower_at_is : (p : ℕ) (stored : Stored P) (x : P) (r : Record) → slice_get stored.positions p ≡ Some x → HasRecord stored p r
      → lower_at graph w d p stored ≡ with_lowered (graph.mover x) w d p r stored
  lower_at_is p stored x r at has = ap (λ o. lower_with graph w d p stored o (slice_get stored.records p)) at
      ∙ ap (λ o. lower_with graph w d p stored (Some x) o) has

  -- what a step leaves alone
  pub record IsLowered (p : ℕ) (old new : Stored P) : Type 0 where
    pub positions : new.positions ≡ old.positions
    pub has_edge : new.has_edge ≡ old.has_edge
    pub lengths : length new.records ≡ length old.records
    pub others : (i : ℕ) → (p ≡ i → ⊥) → slice_get new.records i ≡ slice_get old.records i

  lower_with_keeps : (p : ℕ) (stored : Stored P) (o : Option P) (r : Option Record) → IsLowered p stored (lower_with graph w d p stored o r)
  lower_with_keeps p stored None r = record { positions = refl; has_edge = refl; lengths = refl; others = λ i apart. refl }
  lower_with_keeps p stored (Some x) None = record { positions = refl; has_edge = refl; lengths = refl; others = λ i apart. refl }
  lower_with_keeps p stored (Some x) (Some r) = record {
    positions = refl;
    has_edge = refl;
    lengths = length-set stored.records p (lowered (graph.mover x) w d r);
    others = λ i apart. get_set_other stored.records p i (lowered (graph.mover x) w d r) apart;
  }

  lower_at_keeps : (p : ℕ) (stored : Stored P) → IsLowered p stored (lower_at graph w d p stored)
  lower_at_keeps p stored = lower_with_keeps p stored (slice_get stored.positions p) (slice_get stored.records p)

  -- what all steps below n leave alone
  pub record AreLowered (n : ℕ) (old new : Stored P) : Type 0 where
    pub positions : new.positions ≡ old.positions
    pub has_edge : new.has_edge ≡ old.has_edge
    pub lengths : length new.records ≡ length old.records
    pub later : (i : ℕ) → n ≤ i → slice_get new.records i ≡ slice_get old.records i

  pub below_keeps : (s n : ℕ) (stored : Stored P) → AreLowered n stored (lowered_below graph s w d n stored)
  below_keeps s zero stored = record { positions = refl; has_edge = refl; lengths = refl; later = λ i le. refl }
  below_keeps s (suc n) stored = go (stored.has_edge s n) (below_keeps s n stored)
    where
      go : (b : Bool) → AreLowered n stored (lowered_below graph s w d n stored)
          → AreLowered (suc n) stored (cond b (lower_at graph w d n (lowered_below graph s w d n stored)) (lowered_below graph s w d n stored))
      go false before = record {
        positions = before.positions;
        has_edge = before.has_edge;
        lengths = before.lengths;
        later = λ i le. let le' : n ≤ i = omega arith in before.later i le';
      }
      go true before =
          let step : IsLowered n (lowered_below graph s w d n stored)
          (lower_at graph w d n (lowered_below graph s w d n stored)) = lower_at_keeps n (lowered_below graph s w d n stored) in
          record {
            positions = step.positions ∙ before.positions;
            has_edge = step.has_edge ∙ before.has_edge;
            lengths = step.lengths ∙ before.lengths;
            later = λ i le.
                let le' : n ≤ i = omega arith in
                let apart : n ≡ i → ⊥ = λ e. let lt : suc n ≤ i = le in omega arith in
                step.others i apart ∙ before.later i le';
          }
