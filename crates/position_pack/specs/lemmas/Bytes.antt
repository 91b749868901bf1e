-- A position as bytes, by packing 1.
use Rattle.std.specs.Prelude.{◌≡◌, ℕ, ◌≤◌, List, length, EachIndex, slice_index}
use Rattle.std.specs.List.{flat_map}
use Rattle.std.specs.Int.{bytes_high_first}

-- the bytes are three for each value, and each value is within its bound
pub record AreValues (bytes bounds values : List ℕ) : Type 0 where
  pub bytes_are : bytes ≡ flat_map (bytes_high_first 3) values
  pub as_many : length values ≡ length bounds
  pub within : EachIndex values (λ v. slice_index values v ≤ slice_index bounds v)
