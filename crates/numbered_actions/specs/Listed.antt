-- The list of a text's actions, one a line.
use Rattle.std.specs.Prelude.{◌≡◌, ℕ, ◌+◌, ◌-◌, List, [], ◌∷◌, ◌++◌, length, take, drop, map, fold, if◌then◌else◌, ◌==◌}
use Rattle.std.specs.List.{list_any}
use Rattle.std.specs.Fmt.{decimal}
use Rattle.rbg_text.specs.Token.{Text, Token, token_text, Gap, Takes, Splits}
use Rattle.rbg_text.specs.Syntax.{Tokens, Section}
use Rattle.rbg_text.specs.Syntax as grammar
use Rattle.rbg_game.specs.Games.{Game}
use Rattle.rbg_read.specs.Means.{Means}
use Rattle.rbg_read.specs.Reads.{Parses}
use Rattle.numbered_actions.specs.Written.{Cut, cut_at, spots_of}
use Rattle.numbered_actions.specs.declared.lines.LineColumn.{LineColumn}

-- the place after a byte that stands at this one; a line feed ends a line
abbrev pub behind_byte : LineColumn → ℕ → LineColumn
behind_byte place b =
    if b == 10 then record { line = place.line + 1; column = 1 } else record { line = place.line; column = place.column + 1 }

-- the place of the byte after this many others
abbrev pub place_of : Text → ℕ → LineColumn
place_of text at = fold behind_byte (record { line = 1; column = 1 }) (take at text)

-- the text begins with the first of these tokens, and all of them are its tokens to the end
abbrev pub AreTokensFrom : Text → Tokens → Type 0
AreTokensFrom text [] = ⊥
AreTokensFrom text (t ∷ more) = (rest : Text) × Takes text t rest × Splits rest more

-- what stands between two tokens, in one line: as it is, or one blank where a line ends in it
abbrev pub one_line : Text → List ℕ
one_line gap = if list_any (λ b. b == 10) gap then 32 ∷ [] else gap

-- the tokens with which a text begins, in one line: each as it is written, with what stands between two
pub data ShowsTokens : Text → Tokens → List ℕ → Type 0 where
  last : {text rest : Text} {t : Token} → Takes text t rest → ShowsTokens text (t ∷ []) (token_text t)
  further : {text rest here : Text} (gap : Text) {t u : Token} {more : Tokens} {shown : List ℕ} → Takes text t rest → Gap rest here → rest ≡ gap ++ here
      → ShowsTokens here (u ∷ more) shown → ShowsTokens text (t ∷ u ∷ more) (token_text t ++ (one_line gap ++ shown))

-- what stands before the action that begins at a byte: its number, and the line and the column
abbrev pub head_of : Text → ℕ → ℕ → List ℕ
head_of text number at = decimal number ++ 32 ∷ (decimal (place_of text at).line ++ 58 ∷ (decimal (place_of text at).column ++ 32 ∷ []))

-- the line of an action: its number, where it begins in the text, and its tokens
pub record IsActionLine (text : Text) (cut : Cut) (number : ℕ) (line : List ℕ) : Type 0 where
  pub at : ℕ
  pub begins : AreTokensFrom (drop at text) cut.here
  pub shown : List ℕ
  pub shows : ShowsTokens (drop at text) (take (length cut.here - length cut.behind) cut.here) shown
  pub written : line ≡ head_of text number at ++ (shown ++ 10 ∷ [])

-- the lines of actions one after the other, with numbers from this one on
abbrev pub AreActionLines : Text → List Cut → ℕ → List ℕ → Type 0
AreActionLines text [] number lines = lines ≡ []
AreActionLines text (cut ∷ more) number lines =
    (line : List ℕ) × (rest : List ℕ) × (lines ≡ line ++ rest) × IsActionLine text cut number line × AreActionLines text more (number + 1) rest

-- the lines of the numbered actions of the game that the text reads to
abbrev pub ListsActions : Text → Game → List ℕ → Type 0
ListsActions text game lines =
    (all : List Section) × Parses text (grammar.text all) all × Means all game × AreActionLines text (map cut_at (spots_of all)) 1 lines
