use Rattle.std.proofs.Common.{rules, ◌∙◌, ◌<◌, ap, ◌∷◌, ◌-◌, length, take, drop, arith}
use Rattle.std.proofs.lemmas.List.{length-append, length-drop, length-take}
use Rattle.certificate.specs.Format.{lines}
use Rattle.certificate.proofs.LineLemmas.{last_line, lines_cut, no_end}
use Rattle.certificate.proofs.lines.first_line.Goals as goal

pub returns-in-Some : goal.returns-in-Some
returns-in-Some c =
    let line = c.in-Some.line.now in
    let rest = c.in-Some.rest.now in
    let long = length-append line (10 ∷ rest) in
    let same = ap length c.in-Some.ensures.text_is in
    (omega arith, ap lines c.in-Some.ensures.text_is ∙ lines_cut line rest (no_end line c.in-Some.ensures.front_lacks))

pub returns-in-None : goal.returns-in-None
returns-in-None c =
    let bytes = c.args.bytes.now in
    let n = length bytes in
    let short = length-take (n - n) (drop n bytes) in
    let none = length-drop n bytes in
    let some : 0 < length bytes = search rules in
    (omega arith, last_line bytes (take (n - n) (drop n bytes)) c.in-None.ensures (omega arith) (omega arith))
