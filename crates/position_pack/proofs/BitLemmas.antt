-- Numbers by bits.
use Rattle.std.proofs.Common.{◌≡◌, ℕ, zero, suc, ◌+◌, ◌*◌, ◌/◌, ◌%◌, ◌^◌, ◌<◌, ◌≤◌, [], ◌∷◌, ◌++◌, length, get_or, replicate, refl, ap, sym, ◌∙◌, append_assoc, append-nil, arith}
use Rattle.std.specs.Prelude.{nat_lt, Bool, true, false, if◌then◌else◌}
use Rattle.std.proofs.Math.Pow.{pow_mono}
use Rattle.std.proofs.lemmas.Bool.Decides.{nat_tests}
use Rattle.std.proofs.lemmas.List.{length-append}
use Rattle.std.specs.Ordering.{nat_cmp, ordering_then}
use Rattle.std.specs.Cmp.Lexicographic.{slice_cmp}
use Rattle.std.specs.declared.cmp.Ordering.TheVariants.{Equal}
use Rattle.position_pack.specs.Bits.{fewest, width, bits_of}
use Rattle.position_pack.proofs.OrderLemmas.{cmp_parts, same_front}

pub length-bits : (w n : ℕ) → length (bits_of w n) ≡ w
length-bits zero n = refl
length-bits (suc w) n = length-append (bits_of w (n / 2)) (n % 2 ∷ [])
    ∙ (let rest : length (bits_of w (n / 2)) ≡ w = length-bits w (n / 2) in omega (arith, rest))

pub double : (w : ℕ) → 2 ^ suc w ≡ 2 * 2 ^ w
double w = omega arith

-- the bits of two numbers, the second this many bits lower
pub bits_more : (c w a x : ℕ) → x < 2 ^ w → bits_of (c + w) (a * 2 ^ w + x) ≡ bits_of c a ++ bits_of w x
bits_more c zero a x lt =
    let none : c + 0 ≡ c = omega arith in
    let all : a * 2 ^ 0 + x ≡ a = omega (arith, lt) in
    ap (λ k. bits_of k (a * 2 ^ 0 + x)) none ∙ ap (bits_of c) all ∙ sym (append-nil (bits_of c a))
bits_more c (suc w) a x lt =
    let out : a * (2 * 2 ^ w) + x ≡ 2 * (a * 2 ^ w) + x = omega arith in
    let whole : a * 2 ^ suc w + x ≡ 2 * (a * 2 ^ w) + x = ap (λ p. a * p + x) (double w) ∙ out in
    let half : (a * 2 ^ suc w + x) / 2 ≡ a * 2 ^ w + x / 2 = omega (arith, whole) in
    let low : (a * 2 ^ suc w + x) % 2 ≡ x % 2 = omega (arith, whole) in
    let rest : bits_of (c + w) (a * 2 ^ w + x / 2) ≡ bits_of c a ++ bits_of w (x / 2) = bits_more c w a (x / 2) (omega (arith, lt, double w)) in
    let more : c + suc w ≡ suc (c + w) = omega arith in
    ap (λ k. bits_of k (a * 2 ^ suc w + x)) more
    ∙ ap (λ n. bits_of (c + w) n ++ (a * 2 ^ suc w + x) % 2 ∷ []) half ∙ ap (λ b. bits_of (c + w) (a * 2 ^ w + x / 2) ++ b ∷ []) low
    ∙ ap (λ xs. xs ++ x % 2 ∷ []) rest ∙ append_assoc (bits_of c a) (bits_of w (x / 2)) (x % 2 ∷ [])

pub append-one : (n x : ℕ) → replicate n x ++ x ∷ [] ≡ replicate (suc n) x
append-one zero x = refl
append-one (suc n) x = ap (λ xs. x ∷ xs) (append-one n x)

pub bits-zero : (w : ℕ) → bits_of w 0 ≡ replicate w 0
bits-zero zero = refl
bits-zero (suc w) =
    let none : ℕ = 0 in
    ap (λ xs. xs ++ none ∷ []) (bits-zero w) ∙ append-one w 0

last_bit : (a b : ℕ) → ordering_then (nat_cmp (a / 2) (b / 2)) (ordering_then (nat_cmp (a % 2) (b % 2)) Equal) ≡ nat_cmp a b
last_bit a b = grind (arith, nat_tests)

-- bits compare as their numbers
pub bits_cmp : (w a b : ℕ) → a < 2 ^ w → b < 2 ^ w → slice_cmp nat_cmp (bits_of w a) (bits_of w b) ≡ nat_cmp a b
bits_cmp zero a b ha hb =
    let ea : 0 ≡ a = omega (arith, ha) in
    let eb : 0 ≡ b = omega (arith, hb) in
    ap (λ n. nat_cmp n 0) ea ∙ ap (nat_cmp a) eb
bits_cmp (suc w) a b ha hb =
    cmp_parts (bits_of w (a / 2)) (bits_of w (b / 2)) (a % 2 ∷ []) (b % 2 ∷ []) (length-bits w (a / 2) ∙ sym (length-bits w (b / 2)))
    ∙ ap (λ o. ordering_then o (ordering_then (nat_cmp (a % 2) (b % 2)) Equal))
    (bits_cmp w (a / 2) (b / 2) (omega (arith, ha, double w)) (omega (arith, hb, double w)))
    ∙ last_bit a b

-- bits tell their number
pub bits_tell : (w a b : ℕ) → a < 2 ^ w → b < 2 ^ w → bits_of w a ≡ bits_of w b → a ≡ b
bits_tell zero a b ha hb e = omega (arith, ha, hb)
bits_tell (suc w) a b ha hb e =
    let cut = same_front (bits_of w (a / 2)) (bits_of w (b / 2)) (a % 2 ∷ []) (b % 2 ∷ []) (length-bits w (a / 2) ∙ sym (length-bits w (b / 2))) e in
    let high : a / 2 ≡ b / 2 = bits_tell w (a / 2) (b / 2) (omega (arith, ha, double w)) (omega (arith, hb, double w)) cut.0 in
    let low : a % 2 ≡ b % 2 = ap (λ xs. get_or xs 0 0) cut.1 in
    omega (arith, high, low)

-- ---- the fewest bits

-- both answers of a test
tested : (P : ℕ → Type 0) (x y a b : ℕ) → (a < b → P x) → (b ≤ a → P y) → P (if nat_lt a b then x else y)
tested P x y a b below not_below = by_test (nat_lt a b) refl
  where
    by_test : (t : Bool) → nat_lt a b ≡ t → P (if t then x else y)
    by_test true is = below (grind (arith, nat_tests, is))
    by_test false is = not_below (grind (arith, nat_tests, is))

-- a number has room in the fewest bits
pub fits_fewest : (k m : ℕ) → m < 2 ^ k → m < 2 ^ fewest k m
fits_fewest zero m lt = lt
fits_fewest (suc k) m lt = tested (λ n. m < 2 ^ n) (fewest k m) (suc k) m (2 ^ k) (fits_fewest k m) (λ _. lt)

-- and in no fewer
pub fewest_least : (k m c : ℕ) → m < 2 ^ c → fewest k m ≤ c
fewest_least zero m c lt = omega arith
fewest_least (suc k) m c lt = tested (λ n. n ≤ c) (fewest k m) (suc k) m (2 ^ k) (λ _. fewest_least k m c lt) over
  where
    over : 2 ^ k ≤ m → suc k ≤ c
    over big =
        let more : c ≤ k → ⊥ = λ le. omega (arith, lt, big, pow_mono {i = c} {j = k} le) in
        omega (arith, more)

pub fits_width : (m : ℕ) → m < 2 ^ 32 → m < 2 ^ width m
unfolding width
fits_width m lt = fits_fewest 32 m lt

pub width_least : (m c : ℕ) → m < 2 ^ c → width m ≤ c
unfolding width
width_least m c lt = fewest_least 32 m c lt

pub width_zero : width 0 ≡ 0
width_zero = let none : width 0 ≤ 0 = width_least 0 0 (omega arith) in omega (arith, none)

-- the width of a number between two powers of two
pub width_between : (m j : ℕ) → 2 ^ j ≤ m → m < 2 * 2 ^ j → m < 2 ^ 32 → j + 1 ≡ width m
width_between m j low high word =
    let next : j + 1 ≡ suc j = omega arith in
    let power : 2 ^ (j + 1) ≡ 2 * 2 ^ j = ap (λ n. 2 ^ n) next ∙ double j in
    let most : width m ≤ j + 1 = width_least m (j + 1) (omega (arith, high, power)) in
    let fits : m < 2 ^ width m = fits_width m word in
    let less : width m ≤ j → ⊥ = λ le. omega (arith, low, fits, pow_mono {i = width m} {j = j} le) in
    omega (arith, most, less)
