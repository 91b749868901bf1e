-- What a page reads as.
use Rattle.std.proofs.Common.{◌≡◌, ◌≢◌, inl, inr, IsTrue, ℕ, zero, suc, ◌+◌, ◌*◌, ◌<◌, ◌≤◌, List, ◌++◌, take, sym, ◌∙◌, ap, arith}
use Rattle.std.proofs.lemmas.Bool.{cases_lt}
use Rattle.std.proofs.lemmas.List.{take_all}
use Rattle.std.proofs.Math.Seq.{take-add}
use Rattle.sector_disk.specs.Disk.{Image, sector, Shown, Disk, Keeps, Steps}
use Rattle.sector_disk.specs.lemmas.Disk.{KeepsThroughout}
use Rattle.sector_disk.specs.lemmas.Moments.{throughout_next, keeps_fewer}
use Rattle.sector_disk.specs.Pages.{eighth, HasSectors, IsOutside}
use Rattle.page_store.specs.Page.{joined, page, IsWithin}
use Rattle.page_store.specs.lemmas.Page.{joined-none, joined-more}

-- bytes that the sectors of a page have are what it reads as
joined_parts : (image : Image) (number n : ℕ) (bytes : List ℕ) → n ≤ 8 → ((k : ℕ) → k < 8 → sector image (8 * number + k) ≡ eighth k bytes)
    → joined image (8 * number) n ≡ take (512 * n) bytes
joined_parts image number zero bytes within each = joined-none image (8 * number)
joined_parts image number (suc n) bytes within each =
    let e : 512 * suc n ≡ 512 * n + 512 = omega arith in
    joined-more image (8 * number) n
    ∙ (λ i. joined_parts image number n bytes (omega (arith, within)) each i ++ each n (omega (arith, within)) i)
    ∙ sym (take-add (512 * n) 512 bytes) ∙ ap (λ (m : ℕ). take m bytes) (sym e)

pub sectors_read : (image : Image) (number : ℕ) (bytes : List ℕ) → HasSectors image number bytes → bytes ≡ page image number
sectors_read image number bytes has =
    sym (take_all 4096 bytes (omega (arith, has.long))) ∙ sym (joined_parts image number 8 bytes (omega arith) has.each)

-- sectors that are as they were have the same bytes
pub sectors_same : (old new : Image) (number : ℕ) (bytes : List ℕ) → ((k : ℕ) → IsWithin number k → sector new k ≡ sector old k)
    → HasSectors old number bytes → HasSectors new number bytes
sectors_same old new number bytes same has = record {
  long = has.long;
  each = λ k below. same (8 * number + k) (omega arith, omega (arith, below)) ∙ has.each k below;
}

-- one sector more is written: what lies outside the page stays
pub writes_one : (number part k : ℕ) (start here next : Disk) → k ≡ 8 * number + part → part < 8 → IsTrue start.honest
    → KeepsThroughout (IsOutside number) start here → Steps here next
    → (IsTrue here.honest → Keeps (λ j. j ≢ k) here.now next.now) → KeepsThroughout (IsOutside number) start next
writes_one number part k start here next place below honest so_far step keeps =
    throughout_next honest so_far step (λ h. keeps_fewer outside (keeps h))
  where
    outside : (j : ℕ) → IsOutside number j → j ≢ k
    outside j (inl low) is = omega (arith, low, is, place)
    outside j (inr high) is = omega (arith, high, is, below, place)

-- one part more is on the disk: it was written
pub written_more : (here next : Shown) (number n place : ℕ) (from bytes : List ℕ) → place ≡ 8 * number + n → Keeps (λ j. j ≢ place) here next
    → ((k : ℕ) → k < n → sector here.contents (8 * number + k) ≡ eighth k from) → sector next.contents place ≡ bytes → bytes ≡ eighth n from
    → (k : ℕ) → k < n + 1 → sector next.contents (8 * number + k) ≡ eighth k from
written_more here next number n place from bytes at keeps so_far is part k below = elim (cases_lt k n) [
  | inl early ↦ keeps.contents (8 * number + k) (λ same. omega (arith, same, at, early)) ∙ so_far k early
  | inr late ↦
      let last : k ≡ n = omega (arith, late, below) in
      ap (λ (j : ℕ). sector next.contents (8 * number + j)) last ∙ ap (λ (j : ℕ). sector next.contents j) (sym at) ∙ is ∙ part
      ∙ ap (λ (j : ℕ). eighth j from) (sym last)
]
