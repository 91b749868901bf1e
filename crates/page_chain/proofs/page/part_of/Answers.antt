use Rattle.std.proofs.Common.{◌≡◌, ◌*◌, ◌∙◌, length, take, drop, min, ap, arith}
use Rattle.std.proofs.lemmas.List.{take_all, take_min, length-drop}
use Rattle.page_chain.proofs.page.part_of.Goals as goal

pub returns : goal.returns
returns c =
    let rest = drop (4092 * c.args.place) c.args.content.now in
    let long = length-drop (4092 * c.args.place) c.args.content.now in
    let is : c.min.result ≡ min 4092 (length rest) = omega (arith, c.min.ensures, long) in
    ap (take c.min.result) (take_all _ rest (omega (arith, long))) ∙ (λ i. take (is i) rest) ∙ take_min 4092 rest
