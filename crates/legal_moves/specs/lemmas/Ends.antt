-- The configurations at which a move ends, as bytes.
use Rattle.std.specs.Prelude.{ℕ, List, map, filter}
use Rattle.std.specs.List.Sorted.{IsPermutation, IsSorted}
use Rattle.std.specs.Cmp.Lexicographic.{slice_cmp}
use Rattle.std.specs.Ordering.{nat_cmp}
use Rattle.position_pack.specs.Packings.{Form, packed_by}
use Rattle.legal_moves.specs.Configurations.{Configuration}

-- the bytes, by a packing, of the configurations at which a move ends, in their order
abbrev pub ends_packed : Form → List Configuration → List (List ℕ)
ends_packed form cs = map (λ c. packed_by form.kind form.shape c.at) (filter (λ c. c.ends) cs)

-- the bytes of the ends, in ascending order
pub record AreAscendingEnds (form : Form) (cs : List Configuration) (ys : List (List ℕ)) : Type 0 where
  pub permuted : IsPermutation (ends_packed form cs) ys
  pub sorted : IsSorted (slice_cmp nat_cmp) ys
