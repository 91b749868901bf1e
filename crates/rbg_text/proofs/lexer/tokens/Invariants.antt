use Rattle.std.proofs.Common.{◌≡◌, length, map}
use Rattle.rbg_text.specs.Lex.{lex}
use Rattle.rbg_text.specs.View.{token_view}
use Rattle.rbg_text.specs.lemmas.View.{with_front}
use Rattle.rbg_text.proofs.lexer.tokens.Given as goal

abbrev pub invariant-loop-found : goal.invariant-loop-found
invariant-loop-found l = lex l.text ≡ with_front (map token_view l.found.items) (lex l.lexer)

abbrev pub decreases-loop-found : goal.decreases-loop-found
decreases-loop-found l = length l.lexer
