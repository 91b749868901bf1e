-- A number that was put into a slot is read there, and the numbers before it stay.
use Rattle.std.proofs.Common.{◌≡◌, ℕ, ◌+◌, ◌^◌, ◌≤◌, ◌<◌, List, ◌++◌, length, take, drop, refl, inl, inr, sym, ◌∙◌, ap, arith}
use Rattle.std.proofs.Math.Nat.{mod-eq_of_lt}
use Rattle.std.proofs.lemmas.List.{append_assoc, drop_at, length-take-le, drop-take, get_or-drop, get_or-replicate, get_or_past}
use Rattle.std.proofs.lemmas.List.{length-replicate}
use Rattle.std.proofs.lemmas.Bool.{cases_lt}
use Rattle.std.specs.Prelude.{slice_index, replicate}
use Rattle.std.proofs.lemmas.Slice.{take-put_mid_below}
use Rattle.std.specs.Int.{bytes_high_first}
use Rattle.byteorder.specs.Endian.{big_number}
use Rattle.byteorder.specs.Numbers.{big_from-take, big_from-bytes}
use borrow.Rule.Slice.PartMut.{put_mid}

-- the number before the bytes that were written
pub word_before : (a j k : ℕ) (xs ys : List ℕ) → k + 4 ≤ a → a ≤ length xs
    → big_number 4 (drop k (put_mid a j xs ys)) ≡ big_number 4 (drop k xs)
word_before a j k xs ys low within =
    sym (big_from-take 0 4 4 (drop k (put_mid a j xs ys)) (omega arith))
    ∙ ap (λ (l : List ℕ). big_number 4 l) (sym (drop-take k 4 (put_mid a j xs ys))
    ∙ ap (λ (l : List ℕ). drop k l) (take-put_mid_below a j xs ys (k + 4) low within) ∙ drop-take k 4 xs)
    ∙ big_from-take 0 4 4 (drop k xs) (omega arith)

-- the number that was written
pub long_there : (a j n : ℕ) (xs ys rest : List ℕ) → a ≤ length xs → n < 256 ^ 8 → ys ≡ bytes_high_first 8 n ++ rest
    → big_number 8 (drop a (put_mid a j xs ys)) ≡ n
long_there a j n xs ys rest within small is =
    ap (λ (l : List ℕ). big_number 8 l)
    (drop_at (take a xs) (ys ++ drop j (drop a xs)) a (length-take-le a xs within) ∙ ap (λ (l : List ℕ). l ++ drop j (drop a xs)) is
    ∙ append_assoc (bytes_high_first 8 n) rest (drop j (drop a xs)))
    ∙ big_from-bytes 8 n (rest ++ drop j (drop a xs))
    ∙ mod-eq_of_lt small

-- eight bytes that are as they were are the number that they were
pub long_same : (old new : List ℕ) (at : ℕ) → ((k : ℕ) → at ≤ k → k < at + 8 → slice_index new k ≡ slice_index old k)
    → big_number 8 (drop at new) ≡ big_number 8 (drop at old)
long_same old new at same =
    let each : (i : ℕ) → i < 8 → slice_index (drop at new) i ≡ slice_index (drop at old) i =
    λ (i : ℕ) low. get_or-drop at new i 0 ∙ same (at + i) (omega arith) (omega (arith, low)) ∙ sym (get_or-drop at old i 0) in
    rw (
      each 0 (omega arith),
      each 1 (omega arith),
      each 2 (omega arith),
      each 3 (omega arith),
      each 4 (omega arith),
      each 5 (omega arith),
      each 6 (omega arith),
      each 7 (omega arith),
    ) refl

-- so are four
pub word_same : (old new : List ℕ) (at : ℕ) → ((k : ℕ) → at ≤ k → k < at + 4 → slice_index new k ≡ slice_index old k)
    → big_number 4 (drop at new) ≡ big_number 4 (drop at old)
word_same old new at same =
    let each : (i : ℕ) → i < 4 → slice_index (drop at new) i ≡ slice_index (drop at old) i =
    λ (i : ℕ) low. get_or-drop at new i 0 ∙ same (at + i) (omega arith) (omega (arith, low)) ∙ sym (get_or-drop at old i 0) in
    rw (each 0 (omega arith), each 1 (omega arith), each 2 (omega arith), each 3 (omega arith)) refl

-- eight zero bytes are the number zero
pub long_zero : (root : List ℕ) (at : ℕ) → ((k : ℕ) → at ≤ k → slice_index root k ≡ 0) → big_number 8 (drop at root) ≡ 0
long_zero root at zero =
    let each : (i : ℕ) → slice_index (drop at root) i ≡ 0 = λ (i : ℕ). get_or-drop at root i 0 ∙ zero (at + i) (omega arith) in
    rw (each 0, each 1, each 2, each 3, each 4, each 5, each 6, each 7) refl

-- four zero bytes are the number zero
pub word_zero : (root : List ℕ) (at : ℕ) → ((k : ℕ) → at ≤ k → slice_index root k ≡ 0) → big_number 4 (drop at root) ≡ 0
word_zero root at zero =
    let each : (i : ℕ) → slice_index (drop at root) i ≡ 0 = λ (i : ℕ). get_or-drop at root i 0 ∙ zero (at + i) (omega arith) in
    rw (each 0, each 1, each 2, each 3) refl

-- zeros all over
pub zeros : (n k : ℕ) → slice_index (replicate n 0) k ≡ 0
zeros n k = elim (cases_lt k n) [
  | inl low ↦ get_or-replicate n k 0 0 low
  | inr high ↦ get_or_past (replicate n 0) k 0 (omega (arith, high, length-replicate {A = ℕ} n 0))
]
