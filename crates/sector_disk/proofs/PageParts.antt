-- A page is read sector by sector.
use Rattle.std.proofs.Common.{◌≡◌, inl, inr, ℕ, ◌+◌, ◌*◌, ◌<◌, ◌≤◌, List, ◌++◌, length, take, drop, IsTrue, Result, Ok, Err, OnOk, sym, ◌∙◌, ap, subst, arith, length-drop}
use Rattle.std.proofs.lemmas.Bool.{cases_lt}
use Rattle.std.proofs.lemmas.List.{take_all, take-take, drop-take, drop-append-le, take-append-le, drop_at, length-take-le}
use Rattle.std.specs.Result.{IsErr}
use Rattle.sector_disk.specs.Disk.{Image, sector, Disk, MayLeave, Steps, LeavesOnly}
use Rattle.sector_disk.specs.Pages.{eighth}
use Rattle.sector_disk.specs.lemmas.Moments.{leaves_step, leaves_then}

-- a part of a page is a part of what stands before its end
eighth_front : (k m : ℕ) (bytes : List ℕ) → 512 * k + 512 ≤ m → eighth k (take m bytes) ≡ eighth k bytes
eighth_front k m bytes within =
    sym (drop-take (512 * k) 512 (take m bytes))
    ∙ ap (drop (512 * k)) (take-take (512 * k + 512) m bytes within)
    ∙ drop-take (512 * k) 512 bytes

-- and of what stands before others
eighth_append : (k : ℕ) (front back : List ℕ) → 512 * k + 512 ≤ length front → eighth k (front ++ back) ≡ eighth k front
eighth_append k front back within =
    ap (take 512) (drop-append-le (512 * k) front back (omega (arith, within)))
    ∙ take-append-le 512 (drop (512 * k) front) back (omega (arith, length-drop (512 * k) front, within))

-- one part more is read
pub read_more : (old mid : Image) (number n place : ℕ) (before after bytes : List ℕ) → place ≡ 8 * number + n → mid ≡ old
    → ((k : ℕ) → k < n → sector old (8 * number + k) ≡ eighth k before) → bytes ≡ sector mid place → length bytes ≡ 512
    → 512 * n ≤ length before → take (512 * (n + 1)) after ≡ take (512 * n) before ++ bytes → (k : ℕ) → k < n + 1
    → sector old (8 * number + k) ≡ eighth k after
read_more old mid number n place before after bytes at same so_far is long room more k below =
    elim (cases_lt k n) [
      | inl early ↦
          let within : 512 * k + 512 ≤ 512 * n = omega (arith, early) in
          so_far k early ∙ sym (whole (eighth_append k (take (512 * n) before) bytes (omega (arith, within, front_long))
          ∙ eighth_front k (512 * n) before within))
      | inr late ↦
          let last : k ≡ n = omega (arith, late, below) in
          ap (λ (j : ℕ). sector old (8 * number + j)) last
          ∙ ap (λ (p : Image). sector p (8 * number + n)) (sym same)
          ∙ ap (λ (j : ℕ). sector mid j) (sym at)
          ∙ sym is
          ∙ sym (whole (ap (λ (j : ℕ). eighth j (take (512 * n) before ++ bytes)) last
          ∙ ap (take 512) (drop_at (take (512 * n) before) bytes (512 * n) front_long) ∙ take_all 512 bytes (omega (arith, long))))
    ]
  where
    front_long : length (take (512 * n) before) ≡ 512 * n
    front_long = length-take-le (512 * n) before room

    whole : {bs : List ℕ} → eighth k (take (512 * n) before ++ bytes) ≡ bs → eighth k after ≡ bs
    whole is_so = sym (eighth_front k (512 * (n + 1)) after (omega (arith, below))) ∙ ap (eighth k) more ∙ is_so

-- one read more leaves all as it was
pub still_leaves : (start here next : Disk) → IsTrue start.honest → LeavesOnly start here (MayLeave start.now) → here.now ≡ start.now
    → next.now ≡ here.now → Steps here next
    → LeavesOnly start next (MayLeave start.now)
still_leaves start here next honest so_far same same_2 step =
    leaves_then step.goes_on so_far
    (leaves_step step (λ image left. subst (λ s. MayLeave s image) same left) (λ image left. subst (λ s. MayLeave s image) (same_2 ∙ same) left))

-- of what was refused nothing is said
pub none_done : {X E : Type 0} (Done : Type 0) (r : Result X E) → IsErr r → OnOk r Done
none_done Done (Ok x) is = absurd (cc)
none_done Done (Err f) is = tt
