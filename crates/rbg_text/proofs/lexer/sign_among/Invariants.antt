use Rattle.std.proofs.Common.{◌≡◌, drop}
use Rattle.rbg_text.specs.Lex.{sign_among}
use Rattle.rbg_text.proofs.lexer.sign_among.Given as goal

abbrev pub invariant-loop-sign : goal.invariant-loop-sign
invariant-loop-sign l = sign_among (drop l.sign-index l.signs) l.text ≡ sign_among l.signs l.text
