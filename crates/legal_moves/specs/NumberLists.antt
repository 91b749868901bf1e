-- Lists of numbers.
use Rattle.std.specs.Prelude.{◌≡◌, ℕ, ◌<◌, List, [], Some, slice_get, option_map, unwrap_or}
use Rattle.smallvec.specs.SmallVec.{SmallVec}

-- exactly the numbers that are wanted, in ascending order
pub record AreListed (IsWanted : ℕ → Type 0) (ks : List ℕ) : Type 0 where
  pub only : (i k : ℕ) → slice_get ks i ≡ Some k → IsWanted k
  pub all : (k : ℕ) → IsWanted k → (i : ℕ) × (slice_get ks i ≡ Some k)
  pub ascending : (i j k l : ℕ) → i < j → slice_get ks i ≡ Some k → slice_get ks j ≡ Some l → k < l

-- the list at the place; nothing where there is none
abbrev pub list_at : List (SmallVec ℕ) → ℕ → List ℕ
list_at lists i = unwrap_or (option_map (λ list. list.items) (slice_get lists i)) []
