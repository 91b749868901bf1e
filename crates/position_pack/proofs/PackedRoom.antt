-- That the parts of a position have room, and how long what is written is behind each.
use Rattle.std.proofs.Common.{◌≡◌, ◌≤◌, ◌+◌, ◌-◌, ◌*◌, ◌++◌, ℕ, List, length, refl, ap, ◌∙◌, arith}
use Rattle.std.specs.List.{flat_map, sum_by}
use Rattle.std.proofs.lemmas.List.{length-append}
use Rattle.position_pack.specs.Bits.{width, bits_of, field_bits}
use Rattle.position_pack.specs.Shape.{Shape, IsSmall}
use Rattle.position_pack.proofs.BitLemmas.{length-bits}
use Rattle.position_pack.proofs.PartFields.{few_bits}
use Rattle.position_pack.proofs.PieceBits.{length-piece_bits, bits_by_parts}
use Rattle.position_pack.proofs.ReadLemmas.{length-field_bits}

-- so many pieces, each in so many bits, have room with all that follows
pub parts_fit : {s : Shape} → IsSmall s → {n w : ℕ} → n ≡ s.vertices → w ≡ width (s.pieces - 1)
    → n * w + sum_by width s.bounds + width (s.vertices - 1) + width 2 + width s.actions ≤ 1920
parts_fit {s} small {n} {w} pieces piece =
    let most = few_bits s small in
    let parts = bits_by_parts s in
    let product : n * w ≡ s.vertices * width (s.pieces - 1) = ap (λ k. k * w) pieces ∙ ap (λ k. s.vertices * k) piece in
    omega (arith, most, parts, product)

-- behind pieces
pub pieces_long : (before ps : List ℕ) (w : ℕ) {after : List ℕ} → after ≡ before ++ flat_map (bits_of w) ps → length after ≡ length before + length ps * w
pieces_long before ps w is =
    let long = ap length is in
    let both = length-append before (flat_map (bits_of w) ps) in
    let all = length-piece_bits w ps in
    omega (arith, long, both, all)

-- behind fields
pub fields_long : (before greatest fields : List ℕ) {after : List ℕ} → after ≡ before ++ field_bits greatest fields
    → length after ≤ length before + sum_by width greatest
fields_long before greatest fields is =
    let long = ap length is in
    let both = length-append before (field_bits greatest fields) in
    let all = length-field_bits greatest fields in
    omega (arith, long, both, all)

-- and behind one value
pub value_long : (before : List ℕ) (w n : ℕ) {after : List ℕ} → after ≡ before ++ bits_of w n → length after ≡ length before + w
value_long before w n is =
    let long = ap length is in
    let both = length-append before (bits_of w n) in
    let all = length-bits w n in
    omega (arith, long, both, all)

-- behind the last three values
pub last_long : (before : List ℕ) (v m r x y z : ℕ) {after : List ℕ}
    → after ≡ ((before ++ bits_of v x) ++ bits_of m y) ++ bits_of r z → length after ≡ length before + v + m + r
last_long before v m r x y z is =
    let third = value_long ((before ++ bits_of v x) ++ bits_of m y) r z is in
    let second = value_long (before ++ bits_of v x) m y refl in
    let first = value_long before v x refl in
    omega (arith, third, second, first)
