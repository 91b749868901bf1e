-- Bits in whole bytes.
use Rattle.std.proofs.Common.{◌≡◌, ℕ, zero, suc, ◌+◌, ◌*◌, ◌/◌, ◌%◌, ◌-◌, ◌<◌, ◌≤◌, List, [], ◌∷◌, ◌++◌, length, drop, get_or, get_or-drop, length-drop, drop-cons, replicate, refl, ap, sym, ◌∙◌, arith}
use Rattle.std.specs.Prelude.{⊤}
use Rattle.std.specs.List.{flat_map}
use Rattle.std.proofs.lemmas.List.{length-append, length-replicate}
use Rattle.std.proofs.lemmas.List.Concat.{flat_map-cons}
use Rattle.std.specs.Ordering.{nat_cmp, ordering_then}
use Rattle.std.specs.Cmp.Lexicographic.{slice_cmp}
use Rattle.position_pack.specs.Bits.{bits_of, first_byte, bytes_from, bytes_of_bits}
use Rattle.position_pack.proofs.OrderLemmas.{cmp_parts}
use Rattle.position_pack.proofs.BitLemmas.{length-bits, bits_cmp}

-- the bits of bytes, one after another
abbrev pub all_bits : List ℕ → List ℕ
all_bits = flat_map (bits_of 8)

pub all_bits-cons : (b : ℕ) (bs : List ℕ) → all_bits (b ∷ bs) ≡ bits_of 8 b ++ all_bits bs
all_bits-cons b bs = flat_map-cons (bits_of 8) b bs

pub length-all_bits : (bs : List ℕ) → length (all_bits bs) ≡ 8 * length bs
length-all_bits [] = refl
length-all_bits (b ∷ bs) = ap length (all_bits-cons b bs) ∙ (let rest : length (all_bits bs) ≡ 8 * length bs = length-all_bits bs in omega (arith, rest))

-- each is a byte
abbrev pub AreLowBytes : List ℕ → Type 0
AreLowBytes [] = ⊤
AreLowBytes (b ∷ bs) = (b < 256) × AreLowBytes bs

pub low_bytes : (bs : List ℕ) → ((i : ℕ) → get_or bs i 0 < 256) → AreLowBytes bs
low_bytes [] low = tt
low_bytes (b ∷ bs) low = (low 0, low_bytes bs (λ i. low (suc i)))

-- one more
pub low_push : (bs : List ℕ) (b : ℕ) → ((i : ℕ) → get_or bs i 0 < 256) → b < 256 → (i : ℕ) → get_or (bs ++ b ∷ []) i 0 < 256
low_push [] b low one zero = one
low_push [] b low one (suc i) = omega arith
low_push (x ∷ bs) b low one zero = low 0
low_push (x ∷ bs) b low one (suc i) = low_push bs b (λ j. low (suc j)) one i

-- each is a bit
abbrev pub AreBits : List ℕ → Type 0
AreBits [] = ⊤
AreBits (b ∷ bits) = (b < 2) × AreBits bits

pub bits_append : (xs ys : List ℕ) → AreBits xs → AreBits ys → AreBits (xs ++ ys)
bits_append [] ys hx hy = hy
bits_append (x ∷ xs) ys hx hy = (hx.0, bits_append xs ys hx.1 hy)

pub are_bits : (w n : ℕ) → AreBits (bits_of w n)
are_bits zero n = tt
are_bits (suc w) n = bits_append (bits_of w (n / 2)) (n % 2 ∷ []) (are_bits w (n / 2)) (omega arith, tt)

pub are_zeros : (n : ℕ) → AreBits (replicate n 0)
are_zeros zero = tt
are_zeros (suc n) = (omega arith, are_zeros n)

bit_at : (xs : List ℕ) (i : ℕ) → AreBits xs → get_or xs i 0 < 2
bit_at [] i h = omega arith
bit_at (x ∷ xs) zero h = h.0
bit_at (x ∷ xs) (suc i) h = bit_at xs i h.1

bits_drop : (n : ℕ) (xs : List ℕ) → AreBits xs → AreBits (drop n xs)
bits_drop zero xs h = h
bits_drop (suc n) [] h = tt
bits_drop (suc n) (x ∷ xs) h = bits_drop n xs h.1

-- ---- bytes to bits to bytes

one_byte : (b : ℕ) → b < 256
    → 128 * (b / 2 / 2 / 2 / 2 / 2 / 2 / 2 % 2) + 64 * (b / 2 / 2 / 2 / 2 / 2 / 2 % 2) + 32 * (b / 2 / 2 / 2 / 2 / 2 % 2) + 16 * (b / 2 / 2 / 2 / 2 % 2)
    + 8 * (b / 2 / 2 / 2 % 2) + 4 * (b / 2 / 2 % 2) + 2 * (b / 2 % 2) + b % 2 ≡ b
one_byte b lt = omega (arith, lt)

-- the bytes that the bits of bytes make are those bytes
pub bytes_again : (bs : List ℕ) → AreLowBytes bs → bytes_from (length bs) (all_bits bs) ≡ bs
bytes_again [] low = refl
bytes_again (b ∷ bs) low =
    ap (bytes_from (suc (length bs))) (all_bits-cons b bs) ∙ ap (λ x. x ∷ bytes_from (length bs) (all_bits bs)) (one_byte b low.0)
    ∙ ap (λ xs. b ∷ xs) (bytes_again bs low.1)

-- bytes are made alike from bits that are the same, with zeros after
pub bytes_alike : (n : ℕ) (xs ys : List ℕ) → ((i : ℕ) → get_or xs i 0 ≡ get_or ys i 0) → bytes_from n xs ≡ bytes_from n ys
bytes_alike zero xs ys same = refl
bytes_alike (suc n) xs ys same =
    let first : first_byte xs ≡ first_byte ys = omega (arith, same 0, same 1, same 2, same 3, same 4, same 5, same 6, same 7) in
    let behind : (i : ℕ) → get_or (drop 8 xs) i 0 ≡ get_or (drop 8 ys) i 0 = λ i. get_or-drop 8 xs i 0 ∙ same (8 + i) ∙ sym (get_or-drop 8 ys i 0) in
    ap (λ b. b ∷ bytes_from n (drop 8 xs)) first ∙ ap (λ bs. first_byte ys ∷ bs) (bytes_alike n (drop 8 xs) (drop 8 ys) behind)

no_more : (xs : List ℕ) (n i : ℕ) → get_or xs i 0 ≡ get_or (xs ++ replicate n 0) i 0
no_more [] zero i = refl
no_more [] (suc n) zero = refl
no_more [] (suc n) (suc i) = no_more [] n i
no_more (x ∷ xs) n zero = refl
no_more (x ∷ xs) n (suc i) = no_more xs n i

-- ---- bits to bytes to bits

pub first_eight : (xs : List ℕ) → 8 ≤ length xs
    → xs ≡ get_or xs 0 0 ∷ get_or xs 1 0 ∷ get_or xs 2 0 ∷ get_or xs 3 0 ∷ get_or xs 4 0 ∷ get_or xs 5 0 ∷ get_or xs 6 0 ∷ get_or xs 7 0 ∷ drop 8 xs
first_eight xs le =
    let cut : (j : ℕ) → j < 8 → drop j xs ≡ get_or xs j 0 ∷ drop (suc j) xs = λ j lt. drop-cons xs j 0 (omega (arith, lt, le)) in
    cut 0 (omega arith) ∙ ap (λ r. get_or xs 0 0 ∷ r) (cut 1 (omega arith)) ∙ ap (λ r. get_or xs 0 0 ∷ get_or xs 1 0 ∷ r) (cut 2 (omega arith))
    ∙ ap (λ r. get_or xs 0 0 ∷ get_or xs 1 0 ∷ get_or xs 2 0 ∷ r) (cut 3 (omega arith))
    ∙ ap (λ r. get_or xs 0 0 ∷ get_or xs 1 0 ∷ get_or xs 2 0 ∷ get_or xs 3 0 ∷ r) (cut 4 (omega arith))
    ∙ ap (λ r. get_or xs 0 0 ∷ get_or xs 1 0 ∷ get_or xs 2 0 ∷ get_or xs 3 0 ∷ get_or xs 4 0 ∷ r) (cut 5 (omega arith))
    ∙ ap (λ r. get_or xs 0 0 ∷ get_or xs 1 0 ∷ get_or xs 2 0 ∷ get_or xs 3 0 ∷ get_or xs 4 0 ∷ get_or xs 5 0 ∷ r) (cut 6 (omega arith))
    ∙ ap (λ r. get_or xs 0 0 ∷ get_or xs 1 0 ∷ get_or xs 2 0 ∷ get_or xs 3 0 ∷ get_or xs 4 0 ∷ get_or xs 5 0 ∷ get_or xs 6 0 ∷ r) (cut 7 (omega arith))

abbrev byte : ℕ → ℕ → ℕ → ℕ → ℕ → ℕ → ℕ → ℕ → ℕ
byte a b c d e f g h = 128 * a + 64 * b + 32 * c + 16 * d + 8 * e + 4 * f + 2 * g + h

eight_bits : (a b c d e f g h : ℕ) → a < 2 → b < 2 → c < 2 → d < 2 → e < 2 → f < 2 → g < 2 → h < 2 → (n : ℕ) → n ≡ byte a b c d e f g h
    → bits_of 8 n ≡ a ∷ b ∷ c ∷ d ∷ e ∷ f ∷ g ∷ h ∷ []
eight_bits a b c d e f g h ha hb hc hd he hf hg hh n is =
    let i7 : n % 2 ≡ h = omega (arith, is, hh) in
    let n6 : n / 2 ≡ 64 * a + 32 * b + 16 * c + 8 * d + 4 * e + 2 * f + g = omega (arith, is, hh) in
    let i6 : n / 2 % 2 ≡ g = omega (arith, n6, hg) in
    let n5 : n / 2 / 2 ≡ 32 * a + 16 * b + 8 * c + 4 * d + 2 * e + f = omega (arith, n6, hg) in
    let i5 : n / 2 / 2 % 2 ≡ f = omega (arith, n5, hf) in
    let n4 : n / 2 / 2 / 2 ≡ 16 * a + 8 * b + 4 * c + 2 * d + e = omega (arith, n5, hf) in
    let i4 : n / 2 / 2 / 2 % 2 ≡ e = omega (arith, n4, he) in
    let n3 : n / 2 / 2 / 2 / 2 ≡ 8 * a + 4 * b + 2 * c + d = omega (arith, n4, he) in
    let i3 : n / 2 / 2 / 2 / 2 % 2 ≡ d = omega (arith, n3, hd) in
    let n2 : n / 2 / 2 / 2 / 2 / 2 ≡ 4 * a + 2 * b + c = omega (arith, n3, hd) in
    let i2 : n / 2 / 2 / 2 / 2 / 2 % 2 ≡ c = omega (arith, n2, hc) in
    let n1 : n / 2 / 2 / 2 / 2 / 2 / 2 ≡ 2 * a + b = omega (arith, n2, hc) in
    let i1 : n / 2 / 2 / 2 / 2 / 2 / 2 % 2 ≡ b = omega (arith, n1, hb) in
    let n0 : n / 2 / 2 / 2 / 2 / 2 / 2 / 2 ≡ a = omega (arith, n1, hb) in
    let i0 : n / 2 / 2 / 2 / 2 / 2 / 2 / 2 % 2 ≡ a = omega (arith, n0, ha) in
    rw (i0, i1, i2, i3, i4, i5, i6, i7) refl

-- the bits of the bytes that bits make are those bits
pub bits_again : (n : ℕ) (xs : List ℕ) → AreBits xs → length xs ≡ 8 * n → all_bits (bytes_from n xs) ≡ xs
bits_again zero [] bits e = refl
bits_again zero (x ∷ xs) bits e = absurd (omega (arith, e))
bits_again (suc n) xs bits e =
    let long : 8 ≤ length xs = omega (arith, e) in
    let short : length (drop 8 xs) ≡ 8 * n = length-drop 8 xs ∙ omega (arith, e) in
    let at : (i : ℕ) → get_or xs i 0 < 2 = λ i. bit_at xs i bits in
    let one : bits_of 8 (first_byte xs) ≡ get_or xs 0 0 ∷ get_or xs 1 0 ∷ get_or xs 2 0 ∷ get_or xs 3 0 ∷ get_or xs 4 0 ∷ get_or xs 5 0 ∷ get_or xs 6 0 ∷ get_or xs 7 0 ∷ [] =
    eight_bits _ _ _ _ _ _ _ _ (at 0) (at 1) (at 2) (at 3) (at 4) (at 5) (at 6) (at 7) (first_byte xs) refl in
    let rest : all_bits (bytes_from n (drop 8 xs)) ≡ drop 8 xs = bits_again n (drop 8 xs) (bits_drop 8 xs bits) short in
    all_bits-cons (first_byte xs) (bytes_from n (drop 8 xs)) ∙ ap (λ ys. ys ++ all_bits (bytes_from n (drop 8 xs))) one
    ∙ ap (λ ys. get_or xs 0 0 ∷ get_or xs 1 0 ∷ get_or xs 2 0 ∷ get_or xs 3 0 ∷ get_or xs 4 0 ∷ get_or xs 5 0 ∷ get_or xs 6 0 ∷ get_or xs 7 0 ∷ ys) rest
    ∙ sym (first_eight xs long)

pub length-bytes_from : (n : ℕ) (xs : List ℕ) → length (bytes_from n xs) ≡ n
length-bytes_from zero xs = refl
length-bytes_from (suc n) xs = ap suc (length-bytes_from n (drop 8 xs))

low_first : (xs : List ℕ) → AreBits xs → first_byte xs < 256
low_first xs bits =
    omega (
      arith,
      bit_at xs 0 bits,
      bit_at xs 1 bits,
      bit_at xs 2 bits,
      bit_at xs 3 bits,
      bit_at xs 4 bits,
      bit_at xs 5 bits,
      bit_at xs 6 bits,
      bit_at xs 7 bits,
    )

pub low_made : (n : ℕ) (xs : List ℕ) → AreBits xs → AreLowBytes (bytes_from n xs)
low_made zero xs bits = tt
low_made (suc n) xs bits = (low_first xs bits, low_made n (drop 8 xs) (bits_drop 8 xs bits))

-- ---- whole bytes, with zeros after the bits

-- this many zeros are after the bits
abbrev pub zeros_behind : List ℕ → ℕ
zeros_behind xs = 8 * ((length xs + 7) / 8) - length xs

pub few_zeros : (xs : List ℕ) → zeros_behind xs < 8
few_zeros xs = omega arith

-- the bits of the bytes of bits are those bits and zeros
pub padded : (xs : List ℕ) → AreBits xs → all_bits (bytes_of_bits xs) ≡ xs ++ replicate (zeros_behind xs) 0
padded xs bits =
    let n = (length xs + 7) / 8 in
    let z = zeros_behind xs in
    let full = xs ++ replicate z 0 in
    let long : length full ≡ 8 * n = length-append xs (replicate z 0)
    ∙ (let e : length (replicate {A = ℕ} z 0) ≡ z = length-replicate z 0 in omega (arith, e)) in
    ap all_bits (bytes_alike n xs full (no_more xs z)) ∙ bits_again n full (bits_append xs (replicate z 0) bits (are_zeros z)) long

-- bytes whose bits are these and then zeros, fewer than eight, are the bytes of the bits
pub unpadded : (bs xs : List ℕ) (z : ℕ) → AreLowBytes bs → z < 8 → all_bits bs ≡ xs ++ replicate z 0 → bs ≡ bytes_of_bits xs
unpadded bs xs z low few e =
    let many : 8 * length bs ≡ length xs + z = sym (length-all_bits bs) ∙ ap length e ∙ length-append xs (replicate z 0)
    ∙ ap (λ k. length xs + k) (length-replicate z 0) in
    let n : length bs ≡ (length xs + 7) / 8 = omega (arith, many, few) in
    sym (bytes_again bs low) ∙ ap (bytes_from (length bs)) e ∙ sym (bytes_alike (length bs) xs (xs ++ replicate z 0) (no_more xs z))
    ∙ ap (λ k. bytes_from k xs) n

-- bytes compare as their bits
pub bytes_cmp : (bs cs : List ℕ) → AreLowBytes bs → AreLowBytes cs → length bs ≡ length cs
    → slice_cmp nat_cmp (all_bits bs) (all_bits cs) ≡ slice_cmp nat_cmp bs cs
bytes_cmp [] [] hb hc e = refl
bytes_cmp [] (c ∷ cs) hb hc e = absurd (omega (arith, e))
bytes_cmp (b ∷ bs) [] hb hc e = absurd (omega (arith, e))
bytes_cmp (b ∷ bs) (c ∷ cs) hb hc e =
    let rest : slice_cmp nat_cmp (all_bits bs) (all_bits cs) ≡ slice_cmp nat_cmp bs cs = bytes_cmp bs cs hb.1 hc.1 (omega (arith, e)) in
    ap (λ xs. slice_cmp nat_cmp xs (all_bits (c ∷ cs))) (all_bits-cons b bs) ∙ ap (slice_cmp nat_cmp (bits_of 8 b ++ all_bits bs)) (all_bits-cons c cs)
    ∙ cmp_parts (bits_of 8 b) (bits_of 8 c) (all_bits bs) (all_bits cs) (length-bits 8 b ∙ sym (length-bits 8 c))
    ∙ ap (λ o. ordering_then o (slice_cmp nat_cmp (all_bits bs) (all_bits cs))) (bits_cmp 8 b c hb.0 hc.0) ∙ ap (ordering_then (nat_cmp b c)) rest
