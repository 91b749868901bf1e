use Rattle.std.proofs.Common.{◌≡◌, ◌∙◌, ◌-◌, ℕ, List, drop, ap, arith}
use Rattle.std.proofs.Math.Seq.{paste}
use Rattle.std.proofs.lemmas.List.Edits.{paste_none}
use Rattle.btree.proofs.put.items.move_within.Goals as goal

pub returns-then-start-end : goal.returns-then-start-end
returns-then-start-end c =
    let page : List ℕ = c.args.page.now in
    let none : 0 ≡ c.args.end - c.args.start = omega arith in
    paste_none page c.args.to (drop c.args.start page) ∙ ap (λ (n : ℕ). paste page c.args.to (drop c.args.start page) n) none
