-- The number of some of the bits.
use Rattle.std.proofs.Common.{◌≡◌, ℕ, zero, suc, ◌+◌, ◌*◌, ◌/◌, ◌%◌, ◌-◌, ◌^◌, ◌<◌, ◌≤◌, List, [], ◌∷◌, ◌++◌, length, take, drop, get_or, get_or-drop, length-drop, replicate, ap, sym, ◌∙◌, append_assoc, arith}
use Rattle.std.specs.List.{sum_by}
use Rattle.std.specs.Int.Digits.{number_from_digits}
use Rattle.std.proofs.Math.Seq.{take-append_seam}
use Rattle.std.proofs.lemmas.Int.Digits.{number_after_append, number_more}
use Rattle.std.proofs.lemmas.List.{length-take-le, take_all}
use Rattle.std.proofs.lemmas.List.Sums.{sum_by-cons}
use Rattle.std.proofs.lemmas.List.Concat.{get_or-flat_map}
use Rattle.rbg_game.specs.declared.position.Position.{Position}
use Rattle.position_pack.specs.Shape.{Shape, IsSmall, Fits}
use Rattle.position_pack.specs.Fields.{fields_of}
use Rattle.position_pack.specs.Bits.{width, bits_of, greatest_of, field_bits, bytes_by_bits, number_at, field_at}
use Rattle.position_pack.specs.lemmas.Bits.{AreFieldsAtMost}
use Rattle.position_pack.proofs.BitLemmas.{length-bits, fits_width, double}
use Rattle.position_pack.proofs.ByteLemmas.{all_bits, length-all_bits, padded, zeros_behind}
use Rattle.position_pack.proofs.FieldLemmas.{fields_are_bits, fields_within, greatest_words, AreWords}

-- the number of the bits of a number
pub number_back : (w x : ℕ) → x < 2 ^ w → number_from_digits 2 (bits_of w x) ≡ x
number_back zero x lt = omega (arith, lt)
number_back (suc w) x lt =
    let rest : number_from_digits 2 (bits_of w (x / 2)) ≡ x / 2 = number_back w (x / 2) (omega (arith, lt, double w)) in
    number_after_append 2 0 (bits_of w (x / 2)) (x % 2 ∷ []) ∙ omega (arith, rest)

drop_behind : (xs ys : List ℕ) (n : ℕ) → drop (length xs + n) (xs ++ ys) ≡ drop n ys
drop_behind [] ys n = ap (λ k. drop k ys) (let none : 0 + n ≡ n = omega arith in none)
drop_behind (x ∷ xs) ys n =
    let next : suc (length xs) + n ≡ suc (length xs + n) = omega arith in
    ap (λ k. drop k (x ∷ (xs ++ ys))) next ∙ drop_behind xs ys n

-- a field among the bits of all
field_there : (greatest xs zs : List ℕ) (k : ℕ) → AreFieldsAtMost greatest xs → k < length xs
    → take (width (get_or greatest k 0)) (drop (sum_by width (take k greatest)) (field_bits greatest xs ++ zs)) ≡ bits_of
    (width (get_or greatest k 0)) (get_or xs k 0)
field_there [] [] zs k h lt = absurd (omega (arith, lt))
field_there [] (x ∷ xs) zs k h lt = absurd h
field_there (m ∷ greatest) [] zs k h lt = absurd h
field_there (m ∷ greatest) (x ∷ xs) zs zero h lt =
    let many : width m ≡ length (bits_of (width m) x) = sym (length-bits (width m) x) in
    ap (take (width m)) (append_assoc (bits_of (width m) x) (field_bits greatest xs) zs)
    ∙ ap (λ n. take n (bits_of (width m) x ++ (field_bits greatest xs ++ zs))) many
    ∙ take-append_seam (bits_of (width m) x) (field_bits greatest xs ++ zs)
field_there (m ∷ greatest) (x ∷ xs) zs (suc k) h lt =
    let place : sum_by width (m ∷ take k greatest) ≡ length (bits_of (width m) x) + sum_by width (take k greatest) =
    sum_by-cons width m (take k greatest) ∙ ap (λ n. n + sum_by width (take k greatest)) (sym (length-bits (width m) x)) in
    let w = width (get_or greatest k 0) in
    ap (λ n. take w (drop n ((bits_of (width m) x ++ field_bits greatest xs) ++ zs))) place
    ∙ ap (λ bs. take w (drop (length (bits_of (width m) x) + sum_by width (take k greatest)) bs))
    (append_assoc (bits_of (width m) x) (field_bits greatest xs) zs)
    ∙ ap (take w) (drop_behind (bits_of (width m) x) (field_bits greatest xs ++ zs) (sum_by width (take k greatest)))
    ∙ field_there greatest xs zs k h.1 (omega (arith, lt))

field_low : (greatest xs : List ℕ) (k : ℕ) → AreWords greatest → AreFieldsAtMost greatest xs → k < length xs → get_or xs k 0 < 2 ^ width (get_or greatest k 0)
field_low [] [] k word h lt = absurd (omega (arith, lt))
field_low [] (x ∷ xs) k word h lt = absurd h
field_low (m ∷ greatest) [] k word h lt = absurd h
field_low (m ∷ greatest) (x ∷ xs) zero word h lt = let fits : m < 2 ^ width m = fits_width m word.0 in omega (arith, h.0, fits)
field_low (m ∷ greatest) (x ∷ xs) (suc k) word h lt = field_low greatest xs k word.1 h.1 (omega (arith, lt))

-- a field of a position is read from its bytes
pub field_is : (shape : Shape) (at : Position) (k : ℕ) → IsSmall shape → Fits shape at → k < length (fields_of at)
    → field_at shape k (bytes_by_bits shape at) ≡ get_or (fields_of at) k 0
field_is shape at k small fits lt =
    let greatest = greatest_of shape in
    let xs = fields_of at in
    let within = fields_within shape at fits in
    ap (λ bs. number_from_digits 2 (take (width (get_or greatest k 0)) (drop (sum_by width (take k greatest)) bs)))
    (padded (field_bits greatest xs) (fields_are_bits greatest xs))
    ∙ ap (number_from_digits 2) (field_there greatest xs (replicate (zeros_behind (field_bits greatest xs)) 0) k within lt)
    ∙ number_back (width (get_or greatest k 0)) (get_or xs k 0) (field_low greatest xs k (greatest_words shape small) within lt)

-- ---- bit by bit

bit_of_byte : (b r : ℕ) → r < 8 → b < 256 → get_or (bits_of 8 b) r 0 ≡ b / 2 ^ (7 - r) % 2
bit_of_byte b zero lt low = omega arith
bit_of_byte b (suc zero) lt low = omega arith
bit_of_byte b (suc (suc zero)) lt low = omega arith
bit_of_byte b (suc (suc (suc zero))) lt low = omega arith
bit_of_byte b (suc (suc (suc (suc zero)))) lt low = omega arith
bit_of_byte b (suc (suc (suc (suc (suc zero))))) lt low = omega arith
bit_of_byte b (suc (suc (suc (suc (suc (suc zero)))))) lt low = omega arith
bit_of_byte b (suc (suc (suc (suc (suc (suc (suc zero))))))) lt low = omega arith
bit_of_byte b (suc (suc (suc (suc (suc (suc (suc (suc r)))))))) lt low = absurd (omega (arith, lt))

-- a bit of the bytes
pub bit_is : (bytes : List ℕ) (i : ℕ) → i / 8 < length bytes → get_or bytes (i / 8) 0 < 256
    → get_or (all_bits bytes) i 0 ≡ get_or bytes (i / 8) 0 / 2 ^ (7 - i % 8) % 2
bit_is bytes i lt low =
    let q = i / 8 in
    let r = i % 8 in
    let before : length (all_bits (take q bytes)) ≡ 8 * q = length-all_bits (take q bytes) ∙ ap (λ n. 8 * n) (length-take-le q bytes (omega (arith, lt))) in
    let place : i ≡ length (all_bits (take q bytes)) + r = omega (arith, before) in
    ap (λ n. get_or (all_bits bytes) n 0) place ∙ get_or-flat_map (bits_of 8) bytes q r 0 0 lt (omega arith)
    ∙ bit_of_byte (get_or bytes q 0) r (omega arith) low

-- one more bit is read
pub bit_more : (bytes : List ℕ) (place i j : ℕ) → i ≡ place + j → i / 8 < length bytes → get_or bytes (i / 8) 0 < 256
    → number_at place (j + 1) bytes ≡ number_at place j bytes * 2 + get_or bytes (i / 8) 0 / 2 ^ (7 - i % 8) % 2
bit_more bytes place i j at lt low =
    let bits = all_bits bytes in
    let all = length-all_bits bytes in
    let short = length-drop place bits in
    number_more 2 (drop place bits) j (omega (arith, at, lt, all, short))
    ∙ ap (λ b. number_at place j bytes * 2 + b) (get_or-drop place bits j 0 ∙ ap (λ n. get_or bits n 0) (sym at) ∙ bit_is bytes i lt low)

-- past the last byte
pub bit_none : (bytes : List ℕ) (place i j : ℕ) → i ≡ place + j → length bytes ≤ i / 8 → number_at place (j + 1) bytes ≡ number_at place j bytes
bit_none bytes place i j at past =
    let bits = all_bits bytes in
    let all = length-all_bits bytes in
    let short = length-drop place bits in
    ap (number_from_digits 2) (take_all (j + 1) (drop place bits) (omega (arith, at, past, all, short))
    ∙ sym (take_all j (drop place bits) (omega (arith, at, past, all, short))))
