-- A certificate as bytes: how it is written.
use Rattle.std.specs.Prelude.{◌≡◌, ◌≢◌, ℕ, ◌<◌, ◌^◌, ◌==◌, if◌then◌else◌, List, [], ◌∷◌, ◌++◌, map, codes, All, AllPairs, Option, None, Some}
use Rattle.std.specs.Fmt.{decimal}
use Rattle.std.specs.Cmp.Lexicographic.{slice_cmp}
use Rattle.std.specs.Ordering.{nat_cmp}
use Rattle.std.specs.declared.cmp.Ordering.TheVariants.{Less}
use Rattle.base64.specs.Engines.{standard_no_pad}
use Rattle.base64.specs.GeneralPurpose.{encode_of, IsBytes}
use Rattle.rbg_text.specs.Token.{Text}
use Rattle.rbg_game.specs.Games.{Game}
use Rattle.rbg_game.specs.Goals.{CanBeGoal}
use Rattle.rbg_game.specs.declared.roles.Player.{Player}
use Rattle.rbg_game.specs.declared.roles.Player.TheVariants.{First, Second}
use Rattle.rbg_game.specs.declared.roles.Role.TheVariants as role
use Rattle.position_pack.specs.Texts.{role_text}
use Rattle.certificate.specs.Claims.{head_of}
use Rattle.certificate.specs.declared.claim.Claimed.{Claimed}
use Rattle.certificate.specs.declared.claim.Claimed.TheVariants.{Won, Drawn}
use Rattle.certificate.specs.declared.manner.Manner.{Manner}
use Rattle.certificate.specs.declared.manner.Manner.TheVariants.{AtMost, AtLeast, Never}
use Rattle.certificate.specs.declared.manner.TheConstants.{NEVER}

-- ---- the head

-- no byte 10, which ends a line, is among these
abbrev pub IsOneLine : List ℕ → Type 0
IsOneLine = All (λ b. b ≢ 10)

-- what a certificate begins with, a goal or none, the text of a game, the lines of a position and of a value; and what is behind them
pub record Beginning : Type 0 where
  pub goal : Option ℕ
  pub text : Text
  pub position : List ℕ
  pub value : List ℕ
  pub behind : List ℕ

-- a goal, where there is one, is of 1 to 1,000,000 points
abbrev pub IsGoal : Option ℕ → Type 0
IsGoal None = Unit {0}
IsGoal (Some points) = CanBeGoal points

-- the bytes begin so
pub record Begins (bytes : List ℕ) (b : Beginning) : Type 0 where
  pub begins : bytes ≡ head_of b.goal b.text b.position b.value ++ b.behind
  pub goal_is : IsGoal b.goal
  pub position_is : IsOneLine b.position
  pub value_is : IsOneLine b.value

-- ---- the lists behind it

-- a byte before the first of the lines
abbrev pub before_first : ℕ → List (List ℕ) → List (List ℕ)
before_first b [] = (b ∷ []) ∷ []
before_first b (line ∷ rest) = (b ∷ line) ∷ rest

-- the lines of bytes, without their ends: each ends in one byte 10, or the last one with the bytes
unfoldable pub lines : List ℕ → List (List ℕ)
lines [] = []
lines (b ∷ bytes) = if b == 10 then [] ∷ lines bytes else before_first b (lines bytes)

-- a line of a list: the bytes of a position, and its rank
pub record Line : Type 0 where
  pub at : List ℕ
  pub rank : ℕ

-- bytes in base 64, without `=`
unfoldable pub letters : List ℕ → List ℕ
letters = encode_of standard_no_pad

-- a line is the position and, but in `never`, a blank and the rank
abbrev pub line_text : Manner → Line → List ℕ
line_text AtMost line = letters line.at ++ 32 ∷ decimal line.rank
line_text AtLeast line = letters line.at ++ 32 ∷ decimal line.rank
line_text Never line = letters line.at

-- a rank is below 2^32; in `never` all have the same
abbrev pub CanRank : Manner → ℕ → Type 0
CanRank AtMost rank = rank < 2 ^ 32
CanRank AtLeast rank = rank < 2 ^ 32
CanRank Never rank = rank ≡ NEVER

-- a line of a list, which is not empty
pub record IsLine (manner : Manner) (line : Line) : Type 0 where
  pub bytes : IsBytes line.at
  pub rank : CanRank manner line.rank
  pub filled : line_text manner line ≢ []

-- the bytes of the positions ascend, so that no position stands twice
abbrev pub Ascends : List Line → Type 0
Ascends = AllPairs (λ (x y : Line). slice_cmp nat_cmp x.at y.at ≡ Less)

-- the lines of a list
pub record AreLines (manner : Manner) (list : List Line) : Type 0 where
  pub each : All (IsLine manner) list
  pub ascending : Ascends list

-- the words with which a list begins, in front of a player's name
abbrev pub words_of : Manner → List ℕ
words_of AtMost = codes "at most "
words_of AtLeast = codes "at least "
words_of Never = codes "never "

-- a list: an empty line, the line that names it, and its own
abbrev pub list_lines : Manner → List ℕ → List Line → List (List ℕ)
list_lines manner name list = [] ∷ (words_of manner ++ name) ∷ map (line_text manner) list

-- ---- which lists a claim has

-- what they say: of a win, in at most and in at least so many moves; of a draw, never
abbrev pub first_manner : Claimed → Manner
first_manner (Won w n) = AtMost
first_manner Drawn = Never

abbrev pub second_manner : Claimed → Manner
second_manner (Won w n) = AtLeast
second_manner Drawn = Never

-- and of whom: of the winner both, of a draw the first of the first player, and the second of the second
abbrev pub first_player : Claimed → Player
first_player (Won w n) = w
first_player Drawn = First

abbrev pub second_player : Claimed → Player
second_player (Won w n) = w
second_player Drawn = Second

-- the first and the second list of a claim, as they are written
abbrev pub first_lines : Game → Claimed → List Line → List (List ℕ)
first_lines game claimed = list_lines (first_manner claimed) (role_text game (role.Player (first_player claimed)))

abbrev pub second_lines : Game → Claimed → List Line → List (List ℕ)
second_lines game claimed = list_lines (second_manner claimed) (role_text game (role.Player (second_player claimed)))

-- what is behind the head is these two lists, and nothing else
pub record HasLists (game : Game) (claimed : Claimed) (behind : List ℕ) (first second : List Line) : Type 0 where
  pub lines_are : lines behind ≡ first_lines game claimed first ++ second_lines game claimed second
  pub first_is : AreLines (first_manner claimed) first
  pub second_is : AreLines (second_manner claimed) second
