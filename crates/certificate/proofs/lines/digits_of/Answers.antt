use Rattle.std.proofs.Common.{◌∙◌, subst, sym, arith}
use Rattle.std.specs.Str.{IsUtf8}
use Rattle.std.proofs.lemmas.Fmt.{IsAscii-decimal, parse-decimal}
use Rattle.std.proofs.lemmas.Str.{IsUtf8-from_ascii}
use Rattle.certificate.proofs.lines.digits_of.Goals as goal

pub returns-in_default : goal.returns-in_default
returns-in_default c = λ n lt is.
    c.in_default.ensures.cases.0 (subst IsUtf8 (sym is) (IsUtf8-from_ascii _ (IsAscii-decimal n (omega arith))))

pub returns-in_default-parse : goal.returns-in_default-parse
returns-in_default-parse c = λ n lt is.
    let gives = parse-decimal 32 n _ _ (omega arith) (omega arith) (c.in-Ok.ensures.cases.0 ∙ is) c.parse.ensures.value.0 in
    let failed = c.in_default-parse.is in
    cc
