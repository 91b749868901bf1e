-- Numbers shifted by bits, and what a writer and a reader do with them.
use Rattle.std.proofs.Common.{◌≡◌, ℕ, suc, ◌+◌, ◌*◌, ◌/◌, ◌%◌, ◌-◌, ◌^◌, ◌<◌, ◌≤◌, List, [], ◌∷◌, ◌++◌, length, drop, get_or, length-drop, replicate, ap, sym, ◌∙◌, subst, append_assoc, append-nil, arith}
use Rattle.std.proofs.Math.Pow.{pow_mono}
use Rattle.std.proofs.Math.Nat.{mul-le-mul_right, one-le-pow, mod-lt, div-lt_iff_lt-mul}
use Rattle.std.proofs.lemmas.Nat.{pow-add, div-add-mod'}
use Rattle.std.proofs.lemmas.List.{length-append, flat_map_more, drop_more}
use Rattle.position_pack.specs.Bits.{bits_of, bytes_of_bits}
use Rattle.position_pack.proofs.BitLemmas.{length-bits, bits_more, bits-zero}
use Rattle.position_pack.proofs.ByteLemmas.{all_bits, all_bits-cons, length-all_bits, AreLowBytes, unpadded}

pub power_positive : (w : ℕ) → 0 < 2 ^ w
power_positive w = one-le-pow w 2 (omega arith)

-- a number of high and low bits
pub high_low : (h x c w : ℕ) → h < 2 ^ c → x < 2 ^ w → h * 2 ^ w + x < 2 ^ (c + w)
high_low h x c w hh hx =
    let whole : 2 ^ (c + w) ≡ 2 ^ c * 2 ^ w = pow-add 2 c w in
    let le : suc h ≤ 2 ^ c = omega (arith, hh) in
    let more : suc h * 2 ^ w ≤ 2 ^ c * 2 ^ w = mul-le-mul_right (2 ^ w) le in
    let out : suc h * 2 ^ w ≡ h * 2 ^ w + 2 ^ w = omega arith in
    omega (arith, whole, more, out, hx)

-- a shift to the left that loses nothing
pub shifted : (h c w : ℕ) → h < 2 ^ c → c + w ≤ 63 → h * 2 ^ w % 18446744073709551616 ≡ h * 2 ^ w
shifted h c w hh le =
    let small : h * 2 ^ w + 0 < 2 ^ (c + w) = high_low h 0 c w hh (power_positive w) in
    let most : 2 ^ (c + w) ≤ 2 ^ 63 = pow_mono {i = c + w} {j = 63} le in
    omega (arith, small, most)

pub one_shifted : (w : ℕ) → w ≤ 62 → 1 * 2 ^ w % 18446744073709551616 ≡ 2 ^ w
one_shifted w le = let e : 1 * 2 ^ w % 18446744073709551616 ≡ 1 * 2 ^ w = shifted 1 1 w (omega arith) (omega (arith, le)) in omega (arith, e)

pub below_power : (n w : ℕ) → n % 2 ^ w < 2 ^ w
below_power n w = let positive : 0 < 2 ^ w = power_positive w in mod-lt n positive

-- the high bits of a number
pub high_bits : (n c w : ℕ) → n < 2 ^ (c + w) → n / 2 ^ w < 2 ^ c
high_bits n c w lt =
    let whole : 2 ^ (c + w) ≡ 2 ^ c * 2 ^ w = pow-add 2 c w in
    (div-lt_iff_lt-mul {k = 2 ^ w} {x = n} {y = 2 ^ c} (power_positive w)).1 (subst (λ m. n < m) whole lt)

-- bits cut in two
pub bits_cut : (c w n : ℕ) → bits_of (c + w) n ≡ bits_of c (n / 2 ^ w) ++ bits_of w (n % 2 ^ w)
bits_cut c w n =
    ap (bits_of (c + w)) (sym (div-add-mod' n (2 ^ w))) ∙ bits_more c w (n / 2 ^ w) (n % 2 ^ w) (below_power n w)

-- the lowest bits are those of the number without the others
pub bits_low : (w n : ℕ) → bits_of w (n % 2 ^ w) ≡ bits_of w n
bits_low w n = let none : 0 + w ≡ w = omega arith in sym (bits_cut 0 w n) ∙ ap (λ k. bits_of k n) none

pub byte_behind : (bs : List ℕ) (b : ℕ) → all_bits (bs ++ b ∷ []) ≡ all_bits bs ++ bits_of 8 b
byte_behind bs b = sym (flat_map_more (bits_of 8) [] bs b)

-- ---- writing

-- a whole byte of what is held
pub byte_out : (bs cs : List ℕ) (count d held : ℕ) (all : List ℕ) → count ≡ 8 + d → cs ≡ bs ++ held / 2 ^ d ∷ [] → all_bits bs ++ bits_of count held ≡ all
    → all_bits cs ++ bits_of d (held % 2 ^ d) ≡ all
byte_out bs cs count d held all many is before =
    ap (λ xs. all_bits xs ++ bits_of d (held % 2 ^ d)) is ∙ ap (λ xs. xs ++ bits_of d (held % 2 ^ d)) (byte_behind bs (held / 2 ^ d))
    ∙ append_assoc (all_bits bs) (bits_of 8 (held / 2 ^ d)) (bits_of d (held % 2 ^ d)) ∙ ap (λ xs. all_bits bs ++ xs) (sym (bits_cut 8 d held))
    ∙ ap (λ k. all_bits bs ++ bits_of k held) (sym many) ∙ before

pub length-written : (bs : List ℕ) (count held : ℕ) → length (all_bits bs ++ bits_of count held) ≡ 8 * length bs + count
length-written bs count held =
    let one = length-all_bits bs in
    let two = length-bits count held in
    length-append (all_bits bs) (bits_of count held) ∙ omega (arith, one, two)

-- the last bits and zeros
pub last_out : (bs cs : List ℕ) (count k held n : ℕ) → count + k ≡ 8 → k < 8 → n ≡ held * 2 ^ k → cs ≡ bs ++ n ∷ [] → AreLowBytes cs
    → cs ≡ bytes_of_bits (all_bits bs ++ bits_of count held)
last_out bs cs count k held n many few is made low =
    let number : n ≡ held * 2 ^ k + 0 = omega (arith, is) in
    let byte : bits_of 8 n ≡ bits_of count held ++ replicate k 0 =
    ap (bits_of 8) number ∙ ap (λ c. bits_of c (held * 2 ^ k + 0)) (sym many) ∙ bits_more count k held 0 (power_positive k)
    ∙ ap (λ xs. bits_of count held ++ xs) (bits-zero k) in
    unpadded cs (all_bits bs ++ bits_of count held) k low few
    (ap all_bits made ∙ byte_behind bs n ∙ ap (λ xs. all_bits bs ++ xs) byte ∙ sym (append_assoc (all_bits bs) (bits_of count held) (replicate k 0)))

pub none_out : (bs : List ℕ) (held : ℕ) → AreLowBytes bs → bs ≡ bytes_of_bits (all_bits bs ++ bits_of 0 held)
none_out bs held low = unpadded bs (all_bits bs ++ []) 0 low (omega arith) (sym (append-nil (all_bits bs)) ∙ sym (append-nil (all_bits bs ++ [])))

-- ---- reading

-- one more byte is held
pub byte_in : (bs : List ℕ) (next count held b : ℕ) (all : List ℕ) → next < length bs → b ≡ get_or bs next 0 → b < 256 → bits_of count held
    ++ all_bits (drop next bs) ≡ all
    → bits_of (count + 8) (held * 256 + b) ++ all_bits (drop (next + 1) bs) ≡ all
byte_in bs next count held b all lt is low before =
    let rest = all_bits (drop (next + 1) bs) in
    ap (λ xs. xs ++ rest) (bits_more count 8 held b low) ∙ append_assoc (bits_of count held) (bits_of 8 b) rest
    ∙ ap (λ n. bits_of count held ++ (bits_of 8 n ++ rest)) is
    ∙ ap (λ xs. bits_of count held ++ xs) (sym (all_bits-cons (get_or bs next 0) (drop (next + 1) bs)))
    ∙ ap (λ xs. bits_of count held ++ all_bits xs) (sym (drop_more bs next 0 lt)) ∙ before

pub length-left : (bs : List ℕ) (next count held : ℕ) → next ≤ length bs
    → length (bits_of count held ++ all_bits (drop next bs)) ≡ count + 8 * (length bs - next)
length-left bs next count held le =
    let one = length-bits count held in
    let two = length-all_bits (drop next bs) in
    let three = length-drop next bs in
    length-append (bits_of count held) (all_bits (drop next bs)) ∙ omega (arith, one, two, three)

-- the value of the first bits of those that are held
pub value_out : (w k count held : ℕ) (rest : List ℕ) → count ≡ w + k → bits_of count held ++ rest ≡ bits_of w (held / 2 ^ k)
    ++ (bits_of k (held % 2 ^ k) ++ rest)
value_out w k count held rest many =
    ap (λ c. bits_of c held ++ rest) many ∙ ap (λ xs. xs ++ rest) (bits_cut w k held) ∙ append_assoc (bits_of w (held / 2 ^ k)) (bits_of k (held % 2 ^ k)) rest
