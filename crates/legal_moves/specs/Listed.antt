-- Lists of all that passes, and what is shown of a move.
use Rattle.std.specs.Prelude.{◌≡◌, ℕ, List, All, AllPairs, Contains, map}
use Rattle.std.specs.Cmp.Lexicographic.{slice_cmp}
use Rattle.std.specs.Ordering.{nat_cmp}
use Rattle.std.specs.declared.cmp.Ordering.TheVariants.{Less}
use Rattle.rbg_game.specs.Games.{Game}
use Rattle.rbg_game.specs.declared.position.Position.{Position}
use Rattle.legal_moves.specs.Moves.{IsMove, IsSuccessor, IsShortest, ShowsFrom}
use Rattle.position_pack.specs.Bytes.{bytes_of}

-- exactly the byte strings that pass, each once, in the order of their bytes
pub record ListsExactly (Passes : List ℕ → Type 0) (listed : List (List ℕ)) : Type 0 where
  pub only : All Passes listed
  pub all : (x : List ℕ) → Passes x → Contains listed x
  pub ascending : AllPairs (λ x y. slice_cmp nat_cmp x y ≡ Less) listed

-- the bytes of a successor
abbrev pub IsSuccessorBytes : Game → Position → List ℕ → Type 0
IsSuccessorBytes game at x = (next : Position) × (x ≡ bytes_of next) × IsSuccessor game at next

-- what is shown of a move: the bytes of the successor, and the modifiers of a word
pub record ShownMove : Type 0 where
  pub next : List ℕ
  pub shown : List (ℕ × ℕ)

-- w is a word to the successor, and its modifiers are shown
pub record IsShownWord (game : Game) (at : Position) (move : ShownMove) (next : Position) (w : List ℕ) : Type 0 where
  pub bytes_are : move.next ≡ bytes_of next
  pub leads : IsMove game at w next
  pub shows : ShowsFrom game w at.state next.state move.shown

abbrev pub IsShownMove : Game → Position → ShownMove → Type 0
IsShownMove game at move = (next : Position) × (w : List ℕ) × IsShownWord game at move next w

-- the word that is shown is a shortest one
abbrev pub IsShortestMove : Game → Position → ShownMove → Type 0
IsShortestMove game at move =
    (next : Position) × (w : List ℕ) × IsShownWord game at move next w × IsShortest game at w next

-- all moves of a position: each successor once, ascending, each with a word
pub record AreMoves (game : Game) (at : Position) (moves : List ShownMove) : Type 0 where
  pub successors : ListsExactly (IsSuccessorBytes game at) (map (λ m. m.next) moves)
  pub words : All (IsShownMove game at) moves
