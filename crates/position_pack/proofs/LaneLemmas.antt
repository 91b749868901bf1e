-- Eight small numbers that stand in the bytes of a word, moved together.
use Rattle.std.proofs.Common.{◌≡◌, ℕ, ◌+◌, ◌*◌, ◌/◌, ◌%◌, ◌-◌, ◌^◌, ◌<◌, ◌≤◌, List, [], ◌∷◌, ◌++◌, length, drop, get_or, length-drop, refl, ap, sym, ◌∙◌, subst, append_assoc, append-nil, arith}
use Rattle.std.specs.Prelude.{bit_and}
use Rattle.std.specs.List.{flat_map}
use Rattle.std.proofs.Math.Pow.{pow_mono}
use Rattle.std.proofs.lemmas.Nat.{and_block, and_mask}
use Rattle.position_pack.specs.Bits.{bits_of}
use Rattle.position_pack.proofs.BitLemmas.{bits_more}
use Rattle.position_pack.proofs.ByteLemmas.{first_eight}
use Rattle.position_pack.proofs.ShiftLemmas.{below_power, high_low, bits_low, one_shifted}

-- two, four and eight numbers in a word, the first one the highest
abbrev pub two : ℕ → ℕ → ℕ
two a b = a * 4294967296 + b

abbrev pub four : ℕ → ℕ → ℕ → ℕ → ℕ
four a b c d = ((a * 65536 + b) * 65536 + c) * 65536 + d

abbrev pub eight : ℕ → ℕ → ℕ → ℕ → ℕ → ℕ → ℕ → ℕ → ℕ
eight a b c d e f g h = ((((((a * 256 + b) * 256 + c) * 256 + d) * 256 + e) * 256 + f) * 256 + g) * 256 + h

-- one more number below those that are masked already
below : (k x y a m u v : ℕ) → a < 2 ^ k → m < 2 ^ k → bit_and x y ≡ u → bit_and a m ≡ v → bit_and (x * 2 ^ k + a) (y * 2 ^ k + m) ≡ u * 2 ^ k + v
below k x y a m u v ha hm hu hv =
    and_block k x y a m ha hm ∙ ap (λ n. n * 2 ^ k + bit_and a m) hu ∙ ap (λ n. u * 2 ^ k + n) hv

-- each of eight bytes masked by the same
pub masked : (w a b c d e f g h : ℕ) → w ≤ 4 → a < 256 → b < 256 → c < 256 → d < 256 → e < 256 → f < 256 → g < 256 → h < 256
    → bit_and (eight a b c d e f g h) ((2 ^ w - 1) * 72340172838076673)
    ≡ eight (a % 2 ^ w) (b % 2 ^ w) (c % 2 ^ w) (d % 2 ^ w) (e % 2 ^ w) (f % 2 ^ w) (g % 2 ^ w) (h % 2 ^ w)
masked w a b c d e f g h small ha hb hc hd he hf hg hh =
    let m = 2 ^ w - 1 in
    let most : 2 ^ w ≤ 2 ^ 4 = pow_mono {i = w} {j = 4} small in
    let low : m < 256 = omega (arith, most) in
    let mask : m * 72340172838076673 ≡ eight m m m m m m m m = omega arith in
    ap (bit_and (eight a b c d e f g h)) mask
    ∙ below 8 _ _ h m _ _ hh low (below 8 _ _ g m _ _ hg low (below 8 _ _ f m _ _ hf low (below 8 _ _ e m _ _ he low
    (below 8 _ _ d m _ _ hd low (below 8 _ _ c m _ _ hc low (below 8 a m b m _ _ hb low (and_mask a w) (and_mask b w))
    (and_mask c w)) (and_mask d w)) (and_mask e w)) (and_mask f w)) (and_mask g w)) (and_mask h w)

-- the lower byte of each of four, and the lower half of each of two
byte_of : (x a b : ℕ) → b < 256 → x ≡ a * 256 + b → bit_and x 255 ≡ b
byte_of x a b low is = and_mask x 8 ∙ omega (arith, is, low)

half_of : (x a b : ℕ) → b < 65536 → x ≡ a * 65536 + b → bit_and x 65535 ≡ b
half_of x a b low is = and_mask x 16 ∙ omega (arith, is, low)

four_bytes : (a b c d p q r s : ℕ) → a < 256 → b < 256 → c < 256 → d < 256 → p < 256 → q < 256 → r < 256 → s < 256
    → bit_and (four (a * 256 + p) (b * 256 + q) (c * 256 + r) (d * 256 + s)) 71777214294589695 ≡ four p q r s
four_bytes a b c d p q r s ha hb hc hd hp hq hr hs =
    below 16 _ _ (d * 256 + s) 255 _ _ (omega (arith, hd, hs)) (omega arith)
    (below 16 _ _ (c * 256 + r) 255 _ _ (omega (arith, hc, hr)) (omega arith)
    (below 16 (a * 256 + p) 255 (b * 256 + q) 255 _ _ (omega (arith, hb, hq)) (omega arith) (byte_of _ a p hp refl) (byte_of _ b q hq refl))
    (byte_of _ c r hr refl))
    (byte_of _ d s hs refl)

two_halves : (a b p q : ℕ) → a < 65536 → b < 65536 → p < 65536 → q < 65536
    → bit_and (two (a * 65536 + p) (b * 65536 + q)) 281470681808895 ≡ two p q
two_halves a b p q ha hb hp hq =
    below 32 (a * 65536 + p) 65535 (b * 65536 + q) 65535 _ _ (omega (arith, hb, hq)) (omega arith) (half_of _ a p hp refl) (half_of _ b q hq refl)

-- eight bytes become four numbers, each of two bytes
pub pairs : (W a b c d e f g h : ℕ) → a < 256 → b < 256 → c < 256 → d < 256 → e < 256 → f < 256 → g < 256 → h < 256
    → bit_and (eight a b c d e f g h / 256) 71777214294589695 * W + bit_and (eight a b c d e f g h) 71777214294589695
    ≡ four (a * W + b) (c * W + d) (e * W + f) (g * W + h)
pairs W a b c d e f g h ha hb hc hd he hf hg hh =
    let up : eight a b c d e f g h / 256 ≡ four (0 * 256 + a) (b * 256 + c) (d * 256 + e) (f * 256 + g) = omega (arith, hh) in
    let same : eight a b c d e f g h ≡ four (a * 256 + b) (c * 256 + d) (e * 256 + f) (g * 256 + h) = omega arith in
    let zero_low : 0 < 256 = omega arith in
    let high = ap (λ n. bit_and n 71777214294589695) up ∙ four_bytes 0 b d f a c e g zero_low hb hd hf ha hc he hg in
    let low = ap (λ n. bit_and n 71777214294589695) same ∙ four_bytes a c e g b d f h ha hc he hg hb hd hf hh in
    let out : four a c e g * W + four b d f h ≡ four (a * W + b) (c * W + d) (e * W + f) (g * W + h) = omega arith in
    ap (λ n. n * W + bit_and (eight a b c d e f g h) 71777214294589695) high ∙ ap (λ n. four a c e g * W + n) low ∙ out

-- four numbers become two
pub fours : (W a b c d : ℕ) → a < 65536 → b < 65536 → c < 65536 → d < 65536
    → bit_and (four a b c d / 65536) 281470681808895 * W + bit_and (four a b c d) 281470681808895 ≡ two (a * W + b) (c * W + d)
fours W a b c d ha hb hc hd =
    let up : four a b c d / 65536 ≡ two (0 * 65536 + a) (b * 65536 + c) = omega (arith, hd) in
    let same : four a b c d ≡ two (a * 65536 + b) (c * 65536 + d) = omega arith in
    let zero_low : 0 < 65536 = omega arith in
    let high = ap (λ n. bit_and n 281470681808895) up ∙ two_halves 0 b a c zero_low hb ha hc in
    let low = ap (λ n. bit_and n 281470681808895) same ∙ two_halves a c b d ha hc hb hd in
    let out : two a c * W + two b d ≡ two (a * W + b) (c * W + d) = omega arith in
    ap (λ n. n * W + bit_and (four a b c d) 281470681808895) high ∙ ap (λ n. two a c * W + n) low ∙ out

-- and two become one
pub both : (W a b : ℕ) → a < 4294967296 → b < 4294967296
    → bit_and (two a b / 4294967296) 4294967295 * W + bit_and (two a b) 4294967295 ≡ a * W + b
both W a b ha hb =
    let high : bit_and (two a b / 4294967296) 4294967295 ≡ a = and_mask (two a b / 4294967296) 32 ∙ omega (arith, ha, hb) in
    let low : bit_and (two a b) 4294967295 ≡ b = and_mask (two a b) 32 ∙ omega (arith, hb) in
    ap (λ n. n * W + bit_and (two a b) 4294967295) high ∙ ap (λ n. a * W + n) low

-- ---- the bits

-- the bits of two numbers of as many
double_bits : (c d a b : ℕ) → d ≡ c + c → b < 2 ^ c → bits_of d (a * 2 ^ c + b) ≡ bits_of c a ++ bits_of c b
double_bits c d a b is low = ap (λ k. bits_of k (a * 2 ^ c + b)) is ∙ bits_more c c a b low

double_low : (c d a b : ℕ) → d ≡ c + c → a < 2 ^ c → b < 2 ^ c → a * 2 ^ c + b < 2 ^ d
double_low c d a b is ha hb = subst (λ k. a * 2 ^ c + b < 2 ^ k) (sym is) (high_low a b c c ha hb)

-- the lowest bits of two numbers, and of four, as one
abbrev pub pair : ℕ → ℕ → ℕ → ℕ
pair w a b = a % 2 ^ w * 2 ^ w + b % 2 ^ w

abbrev pub quad : ℕ → ℕ → ℕ → ℕ → ℕ → ℕ
quad w a b c d = pair w a b * 2 ^ (2 * w) + pair w c d

pub pair_low : (w a b : ℕ) → pair w a b < 2 ^ (2 * w)
pair_low w a b = double_low w (2 * w) (a % 2 ^ w) (b % 2 ^ w) (omega arith) (below_power a w) (below_power b w)

pub quad_low : (w a b c d : ℕ) → quad w a b c d < 2 ^ (4 * w)
quad_low w a b c d = double_low (2 * w) (4 * w) (pair w a b) (pair w c d) (omega arith) (pair_low w a b) (pair_low w c d)

pub all_low : (w a b c d e f g h : ℕ) → quad w a b c d * 2 ^ (4 * w) + quad w e f g h < 2 ^ (8 * w)
all_low w a b c d e f g h =
    double_low (4 * w) (8 * w) (quad w a b c d) (quad w e f g h) (omega arith) (quad_low w a b c d) (quad_low w e f g h)

pair_bits : (w a b : ℕ) → bits_of (2 * w) (pair w a b) ≡ bits_of w a ++ bits_of w b
pair_bits w a b =
    double_bits w (2 * w) (a % 2 ^ w) (b % 2 ^ w) (omega arith) (below_power b w)
    ∙ ap (λ xs. xs ++ bits_of w (b % 2 ^ w)) (bits_low w a) ∙ ap (λ xs. bits_of w a ++ xs) (bits_low w b)

quad_bits : (w a b c d : ℕ) → bits_of (4 * w) (quad w a b c d) ≡ (bits_of w a ++ bits_of w b) ++ (bits_of w c ++ bits_of w d)
quad_bits w a b c d =
    double_bits (2 * w) (4 * w) (pair w a b) (pair w c d) (omega arith) (pair_low w c d)
    ∙ ap (λ xs. xs ++ bits_of (2 * w) (pair w c d)) (pair_bits w a b) ∙ ap (λ xs. (bits_of w a ++ bits_of w b) ++ xs) (pair_bits w c d)

regroup : (a b c d e f g h : List ℕ)
    → ((a ++ b) ++ (c ++ d)) ++ ((e ++ f) ++ (g ++ h)) ≡ a ++ (b ++ (c ++ (d ++ (e ++ (f ++ (g ++ (h ++ [])))))))
regroup a b c d e f g h = simp (append_assoc, append-nil)

-- the eight as one number
pub all_bits_are : (w a b c d e f g h : ℕ)
    → bits_of (8 * w) (quad w a b c d * 2 ^ (4 * w) + quad w e f g h) ≡ flat_map (bits_of w) (a ∷ b ∷ c ∷ d ∷ e ∷ f ∷ g ∷ h ∷ [])
all_bits_are w a b c d e f g h =
    let B = bits_of w in
    double_bits (4 * w) (8 * w) (quad w a b c d) (quad w e f g h) (omega arith) (quad_low w e f g h)
    ∙ ap (λ xs. xs ++ bits_of (4 * w) (quad w e f g h)) (quad_bits w a b c d)
    ∙ ap (λ xs. ((B a ++ B b) ++ (B c ++ B d)) ++ xs) (quad_bits w e f g h)
    ∙ regroup (B a) (B b) (B c) (B d) (B e) (B f) (B g) (B h)

-- ---- eight pieces, step by step

all_eight : (ps : List ℕ) → length ps ≡ 8
    → ps ≡ get_or ps 0 0 ∷ get_or ps 1 0 ∷ get_or ps 2 0 ∷ get_or ps 3 0 ∷ get_or ps 4 0 ∷ get_or ps 5 0 ∷ get_or ps 6 0 ∷ get_or ps 7 0 ∷ []
all_eight ps long =
    first_eight ps (omega (arith, long))
    ∙ ap (λ r. get_or ps 0 0 ∷ get_or ps 1 0 ∷ get_or ps 2 0 ∷ get_or ps 3 0 ∷ get_or ps 4 0 ∷ get_or ps 5 0 ∷ get_or ps 6 0 ∷ get_or ps 7 0 ∷ r)
    (none_left (drop 8 ps) (length-drop 8 ps ∙ omega (arith, long)))
  where
    none_left : (xs : List ℕ) → length xs ≡ 0 → xs ≡ []
    none_left [] e = refl
    none_left (x ∷ xs) e = absurd (omega (arith, e))

few_low : (w x : ℕ) → w ≤ 4 → x % 2 ^ w < 256
few_low w x few =
    let low : x % 2 ^ w < 2 ^ w = below_power x w in
    let most : 2 ^ w ≤ 2 ^ 4 = pow_mono {i = w} {j = 4} few in
    omega (arith, low, most)

few_pair : (w a b : ℕ) → w ≤ 4 → pair w a b < 65536
few_pair w a b few =
    let low = pair_low w a b in
    let most : 2 ^ (2 * w) ≤ 2 ^ 8 = pow_mono {i = 2 * w} {j = 8} (omega (arith, few)) in
    omega (arith, low, most)

few_quad : (w a b c d : ℕ) → w ≤ 4 → quad w a b c d < 65536
few_quad w a b c d few =
    let low = quad_low w a b c d in
    let most : 2 ^ (4 * w) ≤ 2 ^ 16 = pow_mono {i = 4 * w} {j = 16} (omega (arith, few)) in
    omega (arith, low, most)

-- each is cut to its lowest bits
abbrev pub cut : ℕ → List ℕ → ℕ
cut w ps =
    eight (get_or ps 0 0 % 2 ^ w) (get_or ps 1 0 % 2 ^ w) (get_or ps 2 0 % 2 ^ w) (get_or ps 3 0 % 2 ^ w) (get_or ps 4 0 % 2 ^ w)
    (get_or ps 5 0 % 2 ^ w) (get_or ps 6 0 % 2 ^ w) (get_or ps 7 0 % 2 ^ w)

pub bytes_are : (w : ℕ) (ps : List ℕ) (word : ℕ) → w ≤ 4 → ((i : ℕ) → get_or ps i 0 < 256)
    → word ≡ eight (get_or ps 0 0) (get_or ps 1 0) (get_or ps 2 0) (get_or ps 3 0) (get_or ps 4 0) (get_or ps 5 0) (get_or ps 6 0) (get_or ps 7 0)
    → bit_and word ((1 * 2 ^ w % 18446744073709551616 - 1) * 72340172838076673) ≡ cut w ps
bytes_are w ps word few low is =
    ap (λ n. bit_and word ((n - 1) * 72340172838076673)) (one_shifted w (omega (arith, few)))
    ∙ ap (λ n. bit_and n ((2 ^ w - 1) * 72340172838076673)) is
    ∙ masked w _ _ _ _ _ _ _ _ few (low 0) (low 1) (low 2) (low 3) (low 4) (low 5) (low 6) (low 7)

abbrev pub pairs_of : ℕ → List ℕ → ℕ
pairs_of w ps =
    four (pair w (get_or ps 0 0) (get_or ps 1 0)) (pair w (get_or ps 2 0) (get_or ps 3 0)) (pair w (get_or ps 4 0) (get_or ps 5 0))
    (pair w (get_or ps 6 0) (get_or ps 7 0))

pub pairs_are : (w : ℕ) (ps : List ℕ) (x : ℕ) → w ≤ 4 → x ≡ cut w ps
    → bit_and (x / 256) 71777214294589695 * 2 ^ w + bit_and x 71777214294589695 ≡ pairs_of w ps
pairs_are w ps x few is =
    let low : (i : ℕ) → get_or ps i 0 % 2 ^ w < 256 = λ i. few_low w (get_or ps i 0) few in
    ap (λ n. bit_and (n / 256) 71777214294589695 * 2 ^ w + bit_and n 71777214294589695) is
    ∙ pairs (2 ^ w) _ _ _ _ _ _ _ _ (low 0) (low 1) (low 2) (low 3) (low 4) (low 5) (low 6) (low 7)

pub pairs_parts : (w : ℕ) (ps : List ℕ) (x : ℕ) → w ≤ 4 → x ≡ cut w ps
    → x ≡ bit_and (x / 256) 71777214294589695 * 256 + bit_and x 71777214294589695
pairs_parts w ps x few is =
    let low : (i : ℕ) → get_or ps i 0 % 2 ^ w < 256 = λ i. few_low w (get_or ps i 0) few in
    sym (ap (λ n. bit_and (n / 256) 71777214294589695 * 256 + bit_and n 71777214294589695) is
    ∙ pairs 256 _ _ _ _ _ _ _ _ (low 0) (low 1) (low 2) (low 3) (low 4) (low 5) (low 6) (low 7)
    ∙ (omega (arith, is)))

abbrev pub front : ℕ → List ℕ → ℕ
front w ps = quad w (get_or ps 0 0) (get_or ps 1 0) (get_or ps 2 0) (get_or ps 3 0)

abbrev pub back : ℕ → List ℕ → ℕ
back w ps = quad w (get_or ps 4 0) (get_or ps 5 0) (get_or ps 6 0) (get_or ps 7 0)

pub fours_are : (w : ℕ) (ps : List ℕ) (x : ℕ) → w ≤ 4 → x ≡ pairs_of w ps
    → bit_and (x / 65536) 281470681808895 * 2 ^ (2 * w) + bit_and x 281470681808895 ≡ two (front w ps) (back w ps)
fours_are w ps x few is =
    ap (λ n. bit_and (n / 65536) 281470681808895 * 2 ^ (2 * w) + bit_and n 281470681808895) is
    ∙ fours (2 ^ (2 * w)) _ _ _ _ (few_pair w (get_or ps 0 0) (get_or ps 1 0) few) (few_pair w (get_or ps 2 0) (get_or ps 3 0) few)
    (few_pair w (get_or ps 4 0) (get_or ps 5 0) few) (few_pair w (get_or ps 6 0) (get_or ps 7 0) few)

pub fours_parts : (w : ℕ) (ps : List ℕ) (x : ℕ) → w ≤ 4 → x ≡ pairs_of w ps
    → x ≡ bit_and (x / 65536) 281470681808895 * 65536 + bit_and x 281470681808895
fours_parts w ps x few is =
    sym (ap (λ n. bit_and (n / 65536) 281470681808895 * 65536 + bit_and n 281470681808895) is
    ∙ fours 65536 _ _ _ _ (few_pair w (get_or ps 0 0) (get_or ps 1 0) few) (few_pair w (get_or ps 2 0) (get_or ps 3 0) few)
    (few_pair w (get_or ps 4 0) (get_or ps 5 0) few) (few_pair w (get_or ps 6 0) (get_or ps 7 0) few)
    ∙ (omega (arith, is)))

pub both_parts : (w : ℕ) (ps : List ℕ) (x : ℕ) → w ≤ 4 → x ≡ two (front w ps) (back w ps)
    → x ≡ bit_and (x / 4294967296) 4294967295 * 4294967296 + bit_and x 4294967295
both_parts w ps x few is =
    let a = few_quad w (get_or ps 0 0) (get_or ps 1 0) (get_or ps 2 0) (get_or ps 3 0) few in
    let b = few_quad w (get_or ps 4 0) (get_or ps 5 0) (get_or ps 6 0) (get_or ps 7 0) few in
    sym (ap (λ n. bit_and (n / 4294967296) 4294967295 * 4294967296 + bit_and n 4294967295) is
    ∙ both 4294967296 _ _ (omega (arith, a)) (omega (arith, b)) ∙ sym is)

pub both_are : (w : ℕ) (ps : List ℕ) (x : ℕ) → w ≤ 4 → x ≡ two (front w ps) (back w ps)
    → bit_and (x / 4294967296) 4294967295 * 2 ^ (4 * w) + bit_and x 4294967295 ≡ front w ps * 2 ^ (4 * w) + back w ps
both_are w ps x few is =
    let a = few_quad w (get_or ps 0 0) (get_or ps 1 0) (get_or ps 2 0) (get_or ps 3 0) few in
    let b = few_quad w (get_or ps 4 0) (get_or ps 5 0) (get_or ps 6 0) (get_or ps 7 0) few in
    ap (λ n. bit_and (n / 4294967296) 4294967295 * 2 ^ (4 * w) + bit_and n 4294967295) is
    ∙ both (2 ^ (4 * w)) _ _ (omega (arith, a)) (omega (arith, b))

pub both_low : (w : ℕ) (ps : List ℕ) → front w ps * 2 ^ (4 * w) + back w ps < 2 ^ (8 * w)
both_low w ps =
    all_low w (get_or ps 0 0) (get_or ps 1 0) (get_or ps 2 0) (get_or ps 3 0) (get_or ps 4 0) (get_or ps 5 0) (get_or ps 6 0) (get_or ps 7 0)

pub bits_are : (w : ℕ) (ps : List ℕ) (n : ℕ) → length ps ≡ 8 → n ≡ front w ps * 2 ^ (4 * w) + back w ps → bits_of (8 * w) n ≡ flat_map (bits_of w) ps
bits_are w ps n long is =
    ap (bits_of (8 * w)) is ∙ all_bits_are w _ _ _ _ _ _ _ _ ∙ ap (flat_map (bits_of w)) (sym (all_eight ps long))
