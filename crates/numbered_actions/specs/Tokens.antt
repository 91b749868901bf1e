-- The tokens of a text without where they stand in it.
use Rattle.std.specs.Prelude.{ℕ, List, map, drop}
use Rattle.rbg_text.specs.Syntax.{Tokens}
use Rattle.rbg_text.specs.View.{token_view}
use Rattle.numbered_actions.specs.declared.lexemes.Lexeme.{Lexeme}
use Rattle.numbered_actions.specs.declared.stretches.Stretch.{Stretch}
use Rattle.numbered_actions.specs.Written.{Cut}

abbrev pub tokens_of : List Lexeme → Tokens
tokens_of lexemes = map (λ l. token_view l.token) lexemes

-- those from an index on
abbrev pub tokens_from : List Lexeme → ℕ → Tokens
tokens_from lexemes index = tokens_of (drop index lexemes)

-- where a stretch cuts a text's tokens
abbrev pub cut_of : List Lexeme → Stretch → Cut
cut_of lexemes stretch = record { here = tokens_from lexemes stretch.from; behind = tokens_from lexemes stretch.to }
