-- How a page is joined of its sectors, and that the same sectors make the same page.
use Rattle.std.specs.Prelude.{ℕ, zero, suc, ◌+◌, ◌*◌, ◌<◌, ◌≤◌, [], ◌++◌, ◌≡◌}
use Rattle.sector_disk.specs.Disk.{Image, sector}
use Rattle.page_store.specs.Page.{joined, page, IsWithin}
use Rattle.std.proofs.Common.{refl, arith}

pub joined-none : (image : Image) (at : ℕ) → joined image at 0 ≡ []
unfolding joined
joined-none image at = refl

pub joined-more : (image : Image) (at n : ℕ) → joined image at (suc n) ≡ joined image at n ++ sector image (at + n)
unfolding joined
joined-more image at n = refl

-- sectors that read the same join to the same
pub joined_same : (one other : Image) (at n : ℕ) → ((k : ℕ) → at ≤ k → k < at + n → sector one k ≡ sector other k)
    → joined one at n ≡ joined other at n
unfolding joined
joined_same one other at zero same = refl
joined_same one other at (suc n) same = λ i. joined_same one other at n (λ k low high. same k low (omega (arith, high))) i ++ same (at + n)
    (omega arith) (omega arith) i

-- and pages too
pub page_same : (one other : Image) (number : ℕ) → ((k : ℕ) → IsWithin number k → sector one k ≡ sector other k)
    → page one number ≡ page other number
page_same one other number same = joined_same one other (8 * number) 8 (λ k low high. same k (low, high))
