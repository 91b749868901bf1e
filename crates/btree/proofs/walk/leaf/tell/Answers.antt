use Rattle.std.proofs.Common.{[], refl, sym, ◌∙◌, subst, append-nil, List}
use Rattle.btree.specs.Page.{Item}
use Rattle.btree.proofs.walks.Exits.{on_err}
use Rattle.btree.proofs.walk.leaf.tell.Goals as goal

pub returns-then-is_err-clause-cause : goal.returns-then-is_err-clause-cause
returns-then-is_err-clause-cause g c = λ before was. record {
  front = [];
  entry = (c.args.key.now, c.args.value.now);
  back = [];
  is = refl;
  refused = subst (λ (ts : List Item). g.V.Visitor.refuses c.entry.new.self ts (c.args.key.now, c.args.value.now)) (sym (append-nil before))
      (on_err _ c.entry.result c.entry.ensures.refused (sym c.is_err.ensures.value ∙ c.if-is_err.true) before was);
}
