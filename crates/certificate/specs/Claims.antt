-- What a certificate claims, and when that is so.
use Rattle.std.specs.Prelude.{◌≡◌, ℕ, List, [], ◌∷◌, ◌++◌, length, codes, Option, None, Some}
use Rattle.std.specs.Fmt.{decimal}
use Rattle.rbg_text.specs.Token.{Text}
use Rattle.rbg_game.specs.Games.{Game}
use Rattle.rbg_game.specs.declared.roles.Role.TheVariants.{Player}
use Rattle.rbg_game.specs.declared.position.Position.{Position}
use Rattle.position_pack.specs.Texts.{role_text}
use Rattle.position_pack.specs.Spelled.{IsSpelled}
use Rattle.rbg_read.specs.Reads.{Reads}
use Rattle.retrograde.specs.Graph.{Graph}
use Rattle.retrograde.specs.Values.{WonIn, Drawn as IsDrawn}
use Rattle.certificate.specs.Play.{play_of}
use Rattle.certificate.specs.declared.claim.Claimed.{Claimed}
use Rattle.certificate.specs.declared.claim.Claimed.TheVariants.{Won, Drawn}

-- `NAME in N` with the winner's name and the number of moves, or `drawn`
abbrev pub value_text : Game → Claimed → List ℕ
value_text game (Won player moves) = role_text game (Player player) ++ codes " in " ++ decimal moves
value_text game Drawn = codes "drawn"

-- the line of a goal, where there is one
abbrev pub goal_line : Option ℕ → List ℕ
goal_line None = []
goal_line (Some points) = codes "goal " ++ decimal points ++ 10 ∷ []

-- how a certificate begins: with its name and version, the goal, the text of the game behind its length, the position and the value
abbrev pub head_of : Option ℕ → Text → List ℕ → List ℕ → List ℕ
head_of goal text position value =
    codes "rbgsolve certificate 1" ++ 10 ∷ goal_line goal ++ codes "text " ++ decimal (length text) ++ 10 ∷ text
    ++ 10 ∷ codes "position " ++ position ++ 10 ∷ codes "value " ++ value ++ 10 ∷ []

-- the claimed player wins in exactly the claimed number of moves, or nobody wins
abbrev pub IsClaimSo : {P : Type 0} → Graph P → Claimed → P → Type 0
IsClaimSo graph (Won player moves) x = WonIn graph player moves x
IsClaimSo graph Drawn x = IsDrawn graph x

-- this is the text that was given, if one was
abbrev pub IsTheGiven : Option Text → Text → Type 0
IsTheGiven None text = Unit {0}
IsTheGiven (Some given) text = text ≡ given

-- what a certificate claims is so: it begins with a goal or none, this text, this text of a position and this text of a value; the text reads
-- to a game; and by the rules of that game and the goal the position has the value
pub record IsTrueClaim (certificate : List ℕ) (text : Text) (position value : List ℕ) : Type 0 where
  pub goal : Option ℕ
  pub rest : List ℕ
  pub begins : certificate ≡ head_of goal text position value ++ rest
  pub game : Game
  pub reads : Reads text game
  pub at : Position
  pub spelled : IsSpelled game at position
  pub claimed : Claimed
  pub named : value ≡ value_text game claimed
  pub so : IsClaimSo (play_of goal game) claimed at

-- and its text is the one that was given, if one was
abbrev pub IsCertified : List ℕ → Option Text → List ℕ → List ℕ → Type 0
IsCertified certificate given position value = (text : Text) × IsTrueClaim certificate text position value × IsTheGiven given text
