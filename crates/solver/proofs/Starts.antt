-- The start of a game has bytes.
use Rattle.std.proofs.Common.{◌≡◌, ℕ, ◌+◌, ◌-◌, ◌/◌, ◌≤◌, List, [], ◌∷◌, ◌++◌, refl, arith}
use Rattle.std.specs.Prelude.{replicate}
use Rattle.std.specs.List.{sum_by}
use Rattle.std.proofs.lemmas.List.Sums.{sum_by-append, sum_by-cons}
use Rattle.position_pack.specs.Bits.{width}
use Rattle.position_pack.specs.Packings.{length_by}
use Rattle.position_pack.specs.Shape.{Shape}
use Rattle.position_pack.specs.declared.kind.PackingKind.{PackingKind}
use Rattle.position_pack.specs.declared.kind.PackingKind.TheVariants.{Bytes, Bits}

-- the role takes two bits
two_bits : width 2 ≡ 2
unfolding width
two_bits = refl

-- so do the fields, at the least
some_of : (cells bounds : List ℕ) (vertex actions : ℕ) → 1 ≤ (sum_by width (cells ++ bounds ++ vertex ∷ 2 ∷ actions ∷ []) + 7) / 8
some_of cells bounds vertex actions =
    let all = sum_by-append width (cells ++ bounds) (vertex ∷ 2 ∷ actions ∷ []) in
    omega (arith, two_bits, all, sum_by-cons width vertex (2 ∷ actions ∷ []), sum_by-cons width 2 (actions ∷ []))

-- a position has bytes, by either packing
pub some_bytes : (kind : PackingKind) (shape : Shape) → 1 ≤ length_by kind shape
some_bytes Bytes shape = omega arith
some_bytes Bits shape =
    some_of (replicate shape.vertices (shape.pieces - 1)) shape.bounds (shape.vertices - 1) shape.actions
