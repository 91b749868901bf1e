use Rattle.std.proofs.Common.{◌≡◌, drop}
use Rattle.rbg_text.specs.Lex.{skip_from, skip}
use Rattle.rbg_text.proofs.lexer.skip.Given as goal

abbrev pub invariant-loop-at : goal.invariant-loop-at
invariant-loop-at l = skip_from l.inside (drop l.at l.text) ≡ skip l.text
