use Rattle.std.proofs.lemmas.Fmt.{IsAscii-from_digits}
use Rattle.std.proofs.lemmas.Str.{IsUtf8-from_ascii}
use Rattle.line_syntax.proofs.numbers.number.Goals as goal

-- src/numbers.rt
pub returns-in_default : goal.returns-in_default
returns-in_default c = λ n is. c.in_default.ensures.cases.0 (IsUtf8-from_ascii _ (IsAscii-from_digits _ is.digits.1))
