-- A position as bits, by packing 2.
use Rattle.std.specs.Prelude.{ℕ, zero, suc, ◌+◌, ◌*◌, ◌-◌, ◌/◌, ◌%◌, ◌^◌, nat_lt}
use Rattle.std.specs.Prelude.{List, [], ◌∷◌, ◌++◌, length, get_or, slice_index, take, drop, replicate, if◌then◌else◌}
use Rattle.std.specs.List.{flat_map, sum_by}
use Rattle.std.specs.Int.Digits.{number_from_digits}
use Rattle.rbg_game.specs.declared.position.Position.{Position}
use Rattle.position_pack.specs.Shape.{Shape}
use Rattle.position_pack.specs.Fields.{fields_of}

-- the fewest bits that a number needs, at most this many: the least b with the number below 2 ^ b
abbrev pub fewest : ℕ → ℕ → ℕ
fewest zero most = 0
fewest (suc b) most = if nat_lt most (2 ^ b) then fewest b most else suc b

-- the fewest bits for all numbers up to the greatest, which is below 2 ^ 32; none where that is 0
unfoldable pub width : ℕ → ℕ
width most = fewest 32 most

-- the lowest bits of a number, this many of them, the most significant first
abbrev pub bits_of : ℕ → ℕ → List ℕ
bits_of zero n = []
bits_of (suc w) n = bits_of w (n / 2) ++ n % 2 ∷ []

-- the greatest value of each field, in the order of the fields; that of the role is 2
abbrev pub greatest_of : Shape → List ℕ
greatest_of shape =
    replicate shape.vertices (shape.pieces - 1) ++ shape.bounds ++ (shape.vertices - 1) ∷ 2 ∷ shape.actions ∷ []

-- each field in the fewest bits for its greatest value, one after another
abbrev pub field_bits : List ℕ → List ℕ → List ℕ
field_bits [] fields = []
field_bits (most ∷ greatest) [] = []
field_bits (most ∷ greatest) (x ∷ fields) = bits_of (width most) x ++ field_bits greatest fields

-- the number of the first eight bits, the most significant first, with zeros after the last
abbrev pub first_byte : List ℕ → ℕ
first_byte bits =
    128 * get_or bits 0 0 + 64 * get_or bits 1 0 + 32 * get_or bits 2 0 + 16 * get_or bits 3 0
    + 8 * get_or bits 4 0 + 4 * get_or bits 5 0 + 2 * get_or bits 6 0 + get_or bits 7 0

-- this many bytes, each made of the next eight bits
abbrev pub bytes_from : ℕ → List ℕ → List ℕ
bytes_from zero bits = []
bytes_from (suc n) bits = first_byte bits ∷ bytes_from n (drop 8 bits)

-- the fewest bytes that hold the bits; the last one is filled up with zeros
abbrev pub bytes_of_bits : List ℕ → List ℕ
bytes_of_bits bits = bytes_from ((length bits + 7) / 8) bits

-- the fields by bits, in whole bytes
abbrev pub bytes_by_bits : Shape → Position → List ℕ
bytes_by_bits shape at = bytes_of_bits (field_bits (greatest_of shape) (fields_of at))

-- the number that bits of the bytes spell: this many bits, from a place on; bits past the last byte are left out
abbrev pub number_at : ℕ → ℕ → List ℕ → ℕ
number_at place w bytes = number_from_digits 2 (take w (drop place (flat_map (bits_of 8) bytes)))

-- the number in field k of bytes that are packed by bits
abbrev pub field_at : Shape → ℕ → List ℕ → ℕ
field_at shape k bytes =
    number_at (sum_by width (take k (greatest_of shape))) (width (slice_index (greatest_of shape) k)) bytes
