-- A page is written sector by sector.
use Rattle.std.proofs.Common.{◌≡◌, ◌≢◌, inl, inr, ℕ, ◌+◌, ◌*◌, ◌<◌, List, IsTrue, ◌∙◌, sym, ap, arith}
use Rattle.std.proofs.lemmas.Bool.{cases_lt}
use Rattle.sector_disk.specs.Disk.{sector, Shown, Disk, Keeps, Steps}
use Rattle.sector_disk.specs.Pages.{eighth, IsOutside}
use Rattle.sector_disk.specs.lemmas.Disk.{KeepsThroughout}
use Rattle.sector_disk.specs.lemmas.Moments.{throughout_next, keeps_fewer}

-- one sector more is written: what lies outside the page stays
pub writes_one : (number part k : ℕ) (start here next : Disk) → k ≡ 8 * number + part → part < 8 → IsTrue start.honest
    → KeepsThroughout (IsOutside number) start here → Steps here next
    → (IsTrue here.honest → Keeps (λ j. j ≢ k) here.now next.now) → KeepsThroughout (IsOutside number) start next
writes_one number part k start here next place below honest so_far step keeps =
    throughout_next honest so_far step (λ h. keeps_fewer outside (keeps h))
  where
    outside : (j : ℕ) → IsOutside number j → j ≢ k
    outside j (inl low) is = omega (arith, low, is, place)
    outside j (inr high) is = omega (arith, high, is, below, place)

-- one part more is on the disk
pub written_more : (here next : Shown) (number n place : ℕ) (from bytes : List ℕ) → place ≡ 8 * number + n → Keeps (λ j. j ≢ place) here next
    → ((k : ℕ) → k < n → sector here.contents (8 * number + k) ≡ eighth k from) → sector next.contents place ≡ bytes → bytes ≡ eighth n from
    → (k : ℕ) → k < n + 1 → sector next.contents (8 * number + k) ≡ eighth k from
written_more here next number n place from bytes at keeps so_far is part k below = elim (cases_lt k n) [
  | inl early ↦ keeps.contents (8 * number + k) (λ same. omega (arith, same, at, early)) ∙ so_far k early
  | inr late ↦
      let last : k ≡ n = omega (arith, late, below) in
      ap (λ (j : ℕ). sector next.contents (8 * number + j)) last ∙ ap (λ (j : ℕ). sector next.contents j) (sym at) ∙ is ∙ part
      ∙ ap (λ (j : ℕ). eighth j from) (sym last)
]
