-- What a best line is.
use Rattle.std.specs.Prelude.{◌≡◌, ◌⊎◌, ℕ, zero, suc, List, [], ◌∷◌, Some, slice_get}
use Rattle.std.specs.List.{AllZip}
use Rattle.std.specs.declared.cmp.Ordering.TheVariants.{Less}
use Rattle.rbg_game.specs.declared.roles.Player.{Player}
use Rattle.retrograde.specs.Graph.{Graph}
use Rattle.retrograde.specs.View.{View, HasNumber, HasValue}
use Rattle.retrograde.specs.Successors.{packed_cmp}
use Rattle.retrograde.specs.Play.{IsPlay}

-- from i a move leads to j, w wins j in n, and each other position that is so comes after it in packed order
pub record IsBestStep (graph : Graph (List ℕ)) (view : View (List ℕ)) (i : ℕ) (w : Player) (n j : ℕ) : Type 0 where
  pub from : List ℕ
  pub to : List ℕ
  pub from_number : HasNumber view i from
  pub to_number : HasNumber view j to
  pub move : graph.Successor from to
  pub value : view.value j ≡ Some (w, n)
  pub first : (y : List ℕ) → graph.Successor from y → HasValue view y w n → (y ≡ to) ⊎ (packed_cmp to y ≡ Less)

-- no move from i leads to where w wins in n
pub record HasNoStep (graph : Graph (List ℕ)) (view : View (List ℕ)) (i : ℕ) (w : Player) (n : ℕ) : Type 0 where
  pub from : List ℕ
  pub number : HasNumber view i from
  pub none : (y : List ℕ) → graph.Successor from y → HasValue view y w n → ⊥

-- w wins the first number in n, a best step leads from each to the next, and w wins the last, j, in m
abbrev pub IsLineTo : Graph (List ℕ) → View (List ℕ) → Player → ℕ → List ℕ → ℕ → ℕ → Type 0
IsLineTo graph view w n [] j m = ⊥
IsLineTo graph view w n (i ∷ []) j m = (i ≡ j) × (n ≡ m) × (view.value i ≡ Some (w, n))
IsLineTo graph view w zero (i ∷ k ∷ rest) j m = ⊥
IsLineTo graph view w (suc n) (i ∷ k ∷ rest) j m =
    (view.value i ≡ Some (w, suc n)) × IsBestStep graph view i w n k × IsLineTo graph view w n (k ∷ rest) j m

-- w wins the first number in n, a best step leads from each to the next, and w wins the last in 0
abbrev pub IsBestLine : Graph (List ℕ) → View (List ℕ) → Player → ℕ → List ℕ → Type 0
IsBestLine graph view w zero (i ∷ []) = view.value i ≡ Some (w, 0)
IsBestLine graph view w (suc n) (i ∷ j ∷ rest) =
    (view.value i ≡ Some (w, suc n)) × IsBestStep graph view i w n j × IsBestLine graph view w n (j ∷ rest)
IsBestLine graph view w _ _ = ⊥

-- the numbers are a best line from this one, by its value, and their positions a shortest win
pub record IsBestPlay (graph : Graph (List ℕ)) (view : View (List ℕ)) (number : ℕ) (numbers : List ℕ) : Type 0 where
  pub winner : Player
  pub distance : ℕ
  pub value : view.value number ≡ Some (winner, distance)
  pub begins : slice_get numbers 0 ≡ Some number
  pub line : IsBestLine graph view winner distance numbers
  pub positions : List (List ℕ)
  pub are : AllZip (HasNumber view) numbers positions
  pub play : IsPlay graph winner distance positions

-- the numbers are the line that the table tells from this one to its end, whether or not what it tells is so in the game
pub record IsToldLine (graph : Graph (List ℕ)) (view : View (List ℕ)) (number : ℕ) (numbers : List ℕ) : Type 0 where
  pub winner : Player
  pub distance : ℕ
  pub value : view.value number ≡ Some (winner, distance)
  pub begins : slice_get numbers 0 ≡ Some number
  pub line : IsBestLine graph view winner distance numbers

-- the line that the table tells from this number comes to the last one, which w wins in n by the table
pub record LineComesTo (graph : Graph (List ℕ)) (view : View (List ℕ)) (number : ℕ) (w : Player) (last n : ℕ) : Type 0 where
  pub distance : ℕ
  pub value : view.value number ≡ Some (w, distance)
  pub numbers : List ℕ
  pub begins : slice_get numbers 0 ≡ Some number
  pub line : IsLineTo graph view w distance numbers last n

-- it comes to a number from which no move leads to where w wins in one fewer, so that there is no line
pub record BreaksOff (graph : Graph (List ℕ)) (view : View (List ℕ)) (number : ℕ) : Type 0 where
  pub winner : Player
  pub last : ℕ
  pub left : ℕ
  pub comes : LineComesTo graph view number winner last (suc left)
  pub none : HasNoStep graph view last winner left

-- it comes to a number whose position is too wide, so that its moves are not known
pub record MeetsWide (graph : Graph (List ℕ)) (IsWide : List ℕ → Type 0) (view : View (List ℕ)) (number : ℕ) : Type 0 where
  pub winner : Player
  pub last : ℕ
  pub left : ℕ
  pub comes : LineComesTo graph view number winner last (suc left)
  pub position : List ℕ
  pub number_is : HasNumber view last position
  pub wide : IsWide position
