-- Positions that were found, of which some or each is good.
use Rattle.std.specs.Prelude.{ℕ, List, All, Contains}
use Rattle.arrayvec.specs.ArrayVec.{ArrayVec}

-- some of them
abbrev pub SomeOf : List (ArrayVec ℕ) → (List ℕ → Type 0) → Type 0
SomeOf found Good = (y : ArrayVec ℕ) × Contains found y × Good y.items

-- each of them
abbrev pub EachOf : List (ArrayVec ℕ) → (List ℕ → Type 0) → Type 0
EachOf found Good = All (λ y. Good y.items) found
