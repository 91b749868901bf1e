-- The numbers that successors have or are to get.
use Rattle.std.specs.Prelude.{◌≡◌, ◌<◌, ◌≤◌, ◌⊎◌, ℕ, suc, All, List, [], ◌∷◌, Some, length, slice_get}

-- each has its number among the known, or is not known and gets the next one from k on; n is the first not given
abbrev pub AreNumbersOf : {P : Type 0} → List P → ℕ → List P → List ℕ → ℕ → Type 0
AreNumbersOf known k [] [] n = k ≡ n
AreNumbersOf known k (y ∷ ys) (i ∷ numbers) n =
    ((i < length known) × (slice_get known i ≡ Some y) × AreNumbersOf known k ys numbers n)
    ⊎ ((i ≡ k) × ((j : ℕ) → slice_get known j ≡ Some y → ⊥) × AreNumbersOf known (suc k) ys numbers n)
AreNumbersOf known k _ _ n = ⊥

-- there are so many of them, each is below n, the first that is not given, and that is none of the known numbers
pub record AreGiven (many known : ℕ) (numbers : List ℕ) (n : ℕ) : Type 0 where
  pub lengths : length numbers ≡ many
  pub within : All (λ i. i < n) numbers
  pub next : known ≤ n
