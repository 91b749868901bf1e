-- Tokens as they stand in a text.
use Rattle.std.specs.Prelude.{◌≡◌, List, [], ◌∷◌, ◌++◌, drop}
use Rattle.rbg_text.specs.Token.{Text, Gap, Takes, token_text}
use Rattle.rbg_text.specs.View.{token_view}
use Rattle.numbered_actions.specs.declared.lexemes.Lexeme.{Lexeme}

-- the token stands at its byte of the text: before it, from the part `tail` of the text on, are the blanks and comments that go with it, and
-- after it is the part `rest`
pub record IsLexeme (text : Text) (lexeme : Lexeme) (tail rest : Text) : Type 0 where
  pub between : Gap tail (drop lexeme.at text)
  pub takes : Takes (drop lexeme.at text) (token_view lexeme.token) rest
  pub bytes_are : lexeme.bytes.now ≡ token_text (token_view lexeme.token)
  pub gap_is : tail ≡ lexeme.gap.now ++ drop lexeme.at text

-- these are all tokens of the text from its part `tail` on, each at its byte
abbrev pub Stand : Text → List Lexeme → Text → Type 0
Stand text [] tail = Gap tail []
Stand text (lexeme ∷ more) tail = (rest : Text) × IsLexeme text lexeme tail rest × Stand text more rest
