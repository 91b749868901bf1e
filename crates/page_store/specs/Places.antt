-- Places for pages in memory.
use Rattle.std.specs.Prelude.{◌≡◌, ℕ, ◌+◌, ◌%◌, ◌<◌, List, length, [], slice_index, slice_index_or, Option, Some, None}

-- the bytes of a place
abbrev pub kept_at : List (List ℕ) → ℕ → List ℕ
kept_at kept place = slice_index_or kept place []

-- which page stands at a place, if one does
abbrev pub number_at : List (Option ℕ) → ℕ → Option ℕ
number_at numbers place = slice_index_or numbers place None

-- the page stands at this place
pub record IsPlaced (numbers : List (Option ℕ)) (kept : List (List ℕ)) (p place : ℕ) : Type 0 where
  pub number : number_at numbers place ≡ Some p
  pub within : place < length kept

-- no page stands at two places
abbrev pub StandOnce : List (Option ℕ) → List (List ℕ) → Type 0
StandOnce numbers kept = (p x y : ℕ) → IsPlaced numbers kept p x → IsPlaced numbers kept p y → x ≡ y

-- the place of each page that stands somewhere is noted, as one more, at the remainder of its number
abbrev pub StandWhereNoted : List (Option ℕ) → List (List ℕ) → List ℕ → Type 0
StandWhereNoted numbers kept hints = (p place : ℕ) → IsPlaced numbers kept p place → slice_index hints (p % 4096) ≡ place + 1

-- the page stands at a place with these bytes
pub record HoldsAt (numbers : List (Option ℕ)) (kept : List (List ℕ)) (p : ℕ) (bytes : List ℕ) : Type 0 where
  pub place : ℕ
  pub placed : IsPlaced numbers kept p place
  pub holds : kept_at kept place ≡ bytes
