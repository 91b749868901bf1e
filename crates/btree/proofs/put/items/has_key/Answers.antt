use Rattle.std.proofs.Common.{◌≡◌, arith, sym, ◌∙◌, Some, List, ℕ}
use Rattle.std.proofs.lemmas.Slice.Eq.{bytes_eq-Decides}
use Rattle.btree.specs.Page.{Item}
use Rattle.btree.proofs.put.items.has_key.Goals as goal

first_same : (a b : List ℕ) (e : Item) → Some (a, b) ≡ Some e → a ≡ e.0
first_same a b e is = cc

pub returns : goal.returns
returns c =
    let found = c.item_at.result.0.now in
    let decides = bytes_eq-Decides found c.args.key.now in (
      λ is. ((found, c.item_at.result.1.now), c.item_at.ensures.got, omega (arith, c.if-place-eq0.false), decides.0 (sym c.eq.ensures ∙ is)),
      λ (e, at, some, is). c.eq.ensures ∙ decides.1 (first_same found c.item_at.result.1.now e (sym c.item_at.ensures.got ∙ at) ∙ is),
    )
