-- When the parts of a stored table fit together, part by part.
use Rattle.std.specs.Prelude.{◌≡◌, ℕ, List, length, slice_get, Some}
use Rattle.retrograde.specs.Stored.{Stored, IsTable}

-- the parts of the table fit together, and each position has this many bytes
pub record FitsTogether (packed : ℕ) (stored : Stored (List ℕ)) : Type 0 where
  pub table : IsTable stored
  pub long : (i : ℕ) (x : List ℕ) → slice_get stored.positions i ≡ Some x → length x ≡ packed
