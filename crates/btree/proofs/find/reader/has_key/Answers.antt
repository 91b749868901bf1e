use Rattle.std.proofs.Common.{◌≡◌, List, ℕ, Some, sym, ◌∙◌, ap, subst, arith}
use Rattle.std.specs.List.{slice_get}
use Rattle.std.proofs.lemmas.Bool.Decides.{Decides-eqb}
use Rattle.std.proofs.lemmas.Option.{same_Some}
use Rattle.std.proofs.lemmas.Slice.Eq.{slice_eq-Decides}
use Rattle.btree.specs.declared.page.kind.Kind.TheVariants.{Leaf}
use Rattle.btree.specs.Page.{Item, items_in}
use Rattle.btree.proofs.find.reader.has_key.Goals as goal

pub returns : goal.returns
returns c =
    let found : Item = (c.item_at.result.0.now, c.item_at.result.1.now) in (
      λ yes. record {
        value = c.item_at.result.1.now;
        within = omega (arith, c.if-place-count_of.false, c.count_of.ensures);
        got = subst (λ (k : List ℕ). slice_get (items_in c.args.widths Leaf c.args.leaf.now) c.args.place ≡ Some (k, c.item_at.result.1.now))
            ((slice_eq-Decides Decides-eqb _ _ _ c.eq.ensures).0 yes) c.item_at.ensures.got;
      },
      λ has. (slice_eq-Decides Decides-eqb _ _ _ c.eq.ensures).1
          (ap (λ (item : Item). item.0) (same_Some found (c.args.key.now, has.value) (sym c.item_at.ensures.got ∙ has.got))),
    )
