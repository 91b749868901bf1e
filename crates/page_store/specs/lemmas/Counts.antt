-- How many pages are free.
use Rattle.std.proofs.Common.{◌≡◌, ℕ, zero, suc, ◌+◌, ◌<◌, ◌≤◌, List, [], ◌∷◌, length, refl, ap, arith}
use Rattle.page_store.specs.declared.marks.Mark.{Mark}
use Rattle.page_store.specs.declared.marks.Mark.TheVariants.{Fresh, Free}
use Rattle.page_store.specs.Marks.{mark, free_one, free_count}

-- marks that agree are as many free ones
free_same : (old new : List Mark) → length new ≡ length old → ((p : ℕ) → mark new p ≡ mark old p) → free_count new ≡ free_count old
free_same [] [] long same = refl
free_same [] (n ∷ new) long same = absurd (omega (arith, long))
free_same (m ∷ old) [] long same = absurd (omega (arith, long))
free_same (m ∷ old) (n ∷ new) long same = omega (arith, ap free_one (same 0), free_same old new (omega (arith, long)) (λ p. same (suc p)))

-- one page fewer is free
pub one_fewer : (old new : List Mark) (at : ℕ) → length new ≡ length old → at < length old → mark old at ≡ Free → mark new at ≡ Fresh
    → ((p : ℕ) → (p ≡ at → ⊥) → mark new p ≡ mark old p) → free_count new + 1 ≡ free_count old
one_fewer [] new at long low was is others = absurd (omega (arith, low))
one_fewer (m ∷ old) [] at long low was is others = absurd (omega (arith, long))
one_fewer (m ∷ old) (n ∷ new) zero long low was is others =
    omega (arith, ap free_one was, ap free_one is, free_same old new (omega (arith, long)) (λ p. others (suc p) (λ same. omega (arith, same))))
one_fewer (m ∷ old) (n ∷ new) (suc at) long low was is others =
    let fewer = one_fewer old new at (omega (arith, long)) (omega (arith, low)) was is (λ p other. others (suc p) (λ same. other (omega (arith, same)))) in
    omega (arith, ap free_one (others 0 (λ same. omega (arith, same))), fewer)

pub all_free : (marks : List Mark) → ((p : ℕ) → p < length marks → mark marks p ≡ Free) → free_count marks ≡ length marks
all_free [] each = refl
all_free (m ∷ marks) each =
    let one : free_one m ≡ 1 = ap free_one (each 0 (omega arith)) in
    omega (arith, one, all_free marks (λ p less. each (suc p) (omega (arith, less))))

-- where all pages but the system page are free
pub rest_free : (marks : List Mark) → ((p : ℕ) → 1 ≤ p → p < length marks → mark marks p ≡ Free) → length marks ≤ free_count marks + 1
rest_free [] each = omega arith
rest_free (m ∷ marks) each = omega (arith, all_free marks (λ p less. each (suc p) (omega arith) (omega (arith, less))))
