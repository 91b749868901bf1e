-- How the actions are found in one walk over the tokens of a text.
use Rattle.std.specs.Prelude.{◌≡◌, ℕ, zero, suc, if◌then◌else◌, List, [], ◌∷◌, Option, Some, None, option_map, codes}
use Rattle.std.specs.Str.{bytes_eq}
use Rattle.rbg_text.specs.Token.{Token, name, sign}
use Rattle.rbg_text.specs.Syntax.{Tokens}
use Rattle.rbg_text.specs.declared.token.Sign.TheVariants.{Hash, Comma, Arrow as SingleArrow, DoubleArrow, Dollar, OpenBracket}
use Rattle.rbg_text.specs.declared.token.Sign.TheVariants.{CloseBracket, OpenBrace, CloseBrace}
use Rattle.numbered_actions.specs.declared.lexemes.Lexeme.{Lexeme}
use Rattle.numbered_actions.specs.declared.stretches.Stretch.{Stretch}
use Rattle.numbered_actions.specs.declared.stretches.Within.{Within}
use Rattle.numbered_actions.specs.declared.stretches.Within.TheVariants as code
use Rattle.numbered_actions.specs.Written.{Cut}
use Rattle.numbered_actions.specs.Tokens.{tokens_from, cut_of}

-- in what a token stands; with an action that has begun go the tokens from its first one on
pub data Place : Type 0 where
  elsewhere : Place
  hash : Place
  title : Place
  rules : Place
  arrow : Tokens → Place
  bracket : Tokens → Place
  piece : Tokens → Place
  assignment : Tokens → Place
  braces : Tokens → ℕ → Place

-- the place that goes with the indices of first tokens
abbrev pub within_at : List Lexeme → Within → Place
within_at lexemes code.Elsewhere = elsewhere
within_at lexemes code.Hash = hash
within_at lexemes code.Title = title
within_at lexemes code.Rules = rules
within_at lexemes (code.Arrow from) = arrow (tokens_from lexemes from)
within_at lexemes (code.Bracket from) = bracket (tokens_from lexemes from)
within_at lexemes (code.Piece from) = piece (tokens_from lexemes from)
within_at lexemes (code.Assignment from) = assignment (tokens_from lexemes from)
within_at lexemes (code.Braces from depth) = braces (tokens_from lexemes from) depth

-- how many more braces are open
abbrev pub depth_of : Within → ℕ
depth_of (code.Braces from depth) = depth
depth_of _ = 0

abbrev pub cut : Tokens → Tokens → Option Cut
cut here behind = Some (record { here = here; behind = behind })

abbrev pub ended_in_rules : Token → Tokens → Tokens → Option Cut
ended_in_rules (name w) here behind = cut here behind
ended_in_rules (sign DoubleArrow) here behind = cut here behind
ended_in_rules _ here behind = None

abbrev pub ended_in_assignment : Token → Tokens → Tokens → Option Cut
ended_in_assignment (sign Comma) begun here = cut begun here
ended_in_assignment (sign CloseBracket) begun here = cut begun here
ended_in_assignment _ begun here = None

abbrev pub ended_in_braces : Token → Tokens → ℕ → Tokens → Option Cut
ended_in_braces (sign CloseBrace) begun zero behind = cut begun behind
ended_in_braces (sign CloseBrace) begun (suc depth) behind = None
ended_in_braces _ begun depth behind = None

-- the action that ends with the token, the first of `here`, or right before it
abbrev pub ended : Place → Token → Tokens → Tokens → Option Cut
ended elsewhere t here behind = None
ended hash t here behind = None
ended title t here behind = None
ended rules t here behind = ended_in_rules t here behind
ended (arrow begun) t here behind = cut begun behind
ended (bracket begun) t here behind = None
ended (piece begun) t here behind = cut begun behind
ended (assignment begun) t here behind = ended_in_assignment t begun here
ended (braces begun depth) t here behind = ended_in_braces t begun depth behind

-- a section begins with `#`
abbrev pub in_section : Token → Place
in_section (sign Hash) = hash
in_section _ = elsewhere

abbrev pub behind_hash : Token → Place
behind_hash (name w) = if bytes_eq w (codes "rules") then title else elsewhere
behind_hash _ = elsewhere

abbrev pub in_rules : Token → Tokens → Place
in_rules (sign Hash) here = hash
in_rules (sign SingleArrow) here = arrow here
in_rules (sign OpenBracket) here = bracket here
in_rules (sign OpenBrace) here = braces here 0
in_rules _ here = rules

abbrev pub in_bracket : Token → Tokens → Tokens → Place
in_bracket (sign Dollar) begun behind = assignment behind
in_bracket _ begun behind = piece begun

abbrev pub in_assignment : Token → Tokens → Tokens → Place
in_assignment (sign Comma) begun behind = assignment behind
in_assignment (sign CloseBracket) begun behind = rules
in_assignment _ begun behind = assignment begun

abbrev pub in_braces : Token → Tokens → ℕ → Place
in_braces (sign OpenBrace) begun depth = braces begun (suc depth)
in_braces (sign CloseBrace) begun zero = rules
in_braces (sign CloseBrace) begun (suc depth) = braces begun depth
in_braces _ begun depth = braces begun depth

-- in what the token after this one stands
abbrev pub next : Place → Token → Tokens → Tokens → Place
next elsewhere t here behind = in_section t
next hash t here behind = behind_hash t
next title t here behind = rules
next rules t here behind = in_rules t here
next (arrow begun) t here behind = rules
next (piece begun) t here behind = rules
next (bracket begun) t here behind = in_bracket t begun behind
next (assignment begun) t here behind = in_assignment t begun behind
next (braces begun depth) t here behind = in_braces t begun depth

abbrev pub with_first : Option Cut → List Cut → List Cut
with_first None more = more
with_first (Some cut) more = cut ∷ more

-- what a walk finds that comes to these tokens within this
abbrev pub found_from : Place → Tokens → List Cut
found_from place [] = []
found_from place (t ∷ behind) = with_first (ended place t (t ∷ behind) behind) (found_from (next place t (t ∷ behind) behind) behind)

-- the stretch, if there is one
abbrev pub as_list : Option Stretch → List Stretch
as_list None = []
as_list (Some stretch) = stretch ∷ []

-- whatever the tokens are, the stretch cuts them so
abbrev pub CutsSo : Option Stretch → (List Lexeme → Option Cut) → Type 0
CutsSo found cut_in = (lexemes : List Lexeme) → option_map (cut_of lexemes) found ≡ cut_in lexemes

-- whatever the tokens are, it leads to this place in them
abbrev pub LeadsWithin : Within → (List Lexeme → Place) → Type 0
LeadsWithin within place_in = (lexemes : List Lexeme) → within_at lexemes within ≡ place_in lexemes
