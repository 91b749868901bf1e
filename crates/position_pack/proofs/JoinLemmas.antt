-- Values joined to one number, and a number cut into bytes.
use Rattle.std.proofs.Common.{◌≡◌, ℕ, zero, suc, ◌+◌, ◌*◌, ◌/◌, ◌%◌, ◌^◌, ◌<◌, ◌≤◌, List, ◌++◌, refl, ap, sym, ◌∙◌, append_assoc, arith}
use Rattle.std.specs.Int.{bytes_high_first, byte_at}
use Rattle.std.proofs.lemmas.Grind.{flat_map-append}
use Rattle.std.proofs.lemmas.Nat.{pow-add}
use Rattle.position_pack.specs.Bits.{width, bits_of}
use Rattle.position_pack.proofs.BitLemmas.{bits_more, width_between}
use Rattle.position_pack.proofs.ByteLemmas.{all_bits, all_bits-cons}
use Rattle.position_pack.proofs.ShiftLemmas.{below_power, bits_cut, bits_low, shifted, one_shifted}

-- ---- a number as bytes

byte_power : (k : ℕ) → 256 ^ k ≡ 2 ^ (8 * k)
byte_power zero = refl
byte_power (suc k) =
    let more : 8 * suc k ≡ 8 + 8 * k = omega arith in
    let rest : 256 ^ k ≡ 2 ^ (8 * k) = byte_power k in
    let one : 256 ^ suc k ≡ 256 * 256 ^ k = omega arith in
    one ∙ ap (λ p. 256 * p) rest ∙ sym (pow-add 2 8 (8 * k)) ∙ ap (λ e. 2 ^ e) (sym more)

byte_is : (k n : ℕ) → byte_at k n ≡ n / 2 ^ (8 * k) % 256
byte_is zero n = omega arith
byte_is (suc k) n = ap (λ p. n / p % 256) (byte_power (suc k))

-- the bits of the lowest bytes of a number are its lowest bits
pub byte_bits : (k n : ℕ) → all_bits (bytes_high_first k n) ≡ bits_of (8 * k) n
byte_bits zero n = refl
byte_bits (suc k) n =
    let more : 8 * suc k ≡ 8 + 8 * k = omega arith in
    all_bits-cons (byte_at k n) (bytes_high_first k n)
    ∙ ap (λ b. bits_of 8 b ++ all_bits (bytes_high_first k n)) (byte_is k n)
    ∙ ap (λ xs. xs ++ all_bits (bytes_high_first k n)) (bits_low 8 (n / 2 ^ (8 * k)))
    ∙ ap (λ xs. bits_of 8 (n / 2 ^ (8 * k)) ++ xs) (byte_bits k n ∙ sym (bits_low (8 * k) n))
    ∙ sym (bits_cut 8 (8 * k) n) ∙ ap (λ w. bits_of w n) (sym more)

-- the first four bytes of what is held
pub four_out : (bs cs : List ℕ) (count d held : ℕ) (all : List ℕ) → count ≡ 32 + d → cs ≡ bs ++ bytes_high_first 4 (held / 2 ^ d)
    → all_bits bs ++ bits_of count held ≡ all → all_bits cs ++ bits_of d (held % 2 ^ d) ≡ all
four_out bs cs count d held all many is before =
    let four = bytes_high_first 4 (held / 2 ^ d) in
    ap (λ xs. all_bits xs ++ bits_of d (held % 2 ^ d)) is ∙ ap (λ xs. xs ++ bits_of d (held % 2 ^ d)) (flat_map-append (bits_of 8) bs four)
    ∙ append_assoc (all_bits bs) (all_bits four) (bits_of d (held % 2 ^ d))
    ∙ ap (λ xs. all_bits bs ++ (xs ++ bits_of d (held % 2 ^ d))) (byte_bits 4 (held / 2 ^ d))
    ∙ ap (λ xs. all_bits bs ++ xs) (sym (bits_cut 32 d held))
    ∙ ap (λ k. all_bits bs ++ bits_of k held) (sym many) ∙ before

-- ---- values as one number

-- the bits of a number, and behind them the lowest bits of a value
pub bits_join : (c w a x n : ℕ) → n ≡ a * 2 ^ w + x % 2 ^ w → bits_of (c + w) n ≡ bits_of c a ++ bits_of w x
bits_join c w a x n is =
    ap (bits_of (c + w)) is ∙ bits_more c w a (x % 2 ^ w) (below_power x w) ∙ ap (λ xs. bits_of c a ++ xs) (bits_low w x)

-- three values, the second of which has two bits
pub three_join : (c w a b x n : ℕ) → b < 4 → n ≡ (a * 4 + b) * 2 ^ w + x % 2 ^ w
    → bits_of (c + 2 + w) n ≡ (bits_of c a ++ bits_of 2 b) ++ bits_of w x
three_join c w a b x n low is =
    let front : a * 4 + b ≡ a * 2 ^ 2 + b % 2 ^ 2 = omega (arith, low) in
    bits_join (c + 2) w (a * 4 + b) x n is ∙ ap (λ xs. xs ++ bits_of w x) (bits_join c 2 a b (a * 4 + b) front)

pub width_two : width 2 ≡ 2
width_two = sym (width_between 2 1 (omega arith) (omega arith) (omega arith))

-- a shifted number and the lowest bits of another, with no bit lost
pub join_whole : (h c w x : ℕ) → h < 2 ^ c → c + w ≤ 63 → w ≤ 62
    → h * 2 ^ w % 18446744073709551616 + x % (1 * 2 ^ w % 18446744073709551616) ≡ h * 2 ^ w + x % 2 ^ w
join_whole h c w x low few wide =
    ap (λ n. n + x % (1 * 2 ^ w % 18446744073709551616)) (shifted h c w low few)
    ∙ ap (λ n. h * 2 ^ w + x % n) (one_shifted w (omega (arith, wide)))
