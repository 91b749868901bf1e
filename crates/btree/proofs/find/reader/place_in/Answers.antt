use Rattle.std.proofs.Common.{◌≡◌, List, ℕ, ◌-◌, Some, drop, ◌∙◌, ap, arith}
use Rattle.std.specs.List.{slice_get}
use Rattle.btree.specs.declared.page.kind.Kind.TheVariants.{Leaf}
use Rattle.btree.specs.Page.{Item, items_in, count_in}
use Rattle.btree.specs.lemmas.Items.{item_got, item_of}
use Rattle.btree.proofs.finds.Leaves.{leaf_begins, leaf_lacks}
use Rattle.btree.proofs.find.reader.place_in.Goals as goal

pub returns-then-behind-eq0-clause-none : goal.returns-then-behind-eq0-clause-none
returns-then-behind-eq0-clause-none c =
    leaf_begins _ c.args.key.now c.place_of-behind.result c.place_of-behind.ensures.place c.if-behind-eq0.true

pub returns-else-has_key-clause-none : goal.returns-else-has_key-clause-none
returns-else-has_key-clause-none c =
    let w = c.args.widths in
    let leaf = c.args.leaf.now in
    let behind = c.place_of-behind.result in
    let item : Item = item_of w.key w.value (behind - 1) (drop 4 leaf) in
    let got : slice_get (items_in w Leaf leaf) (behind - 1) ≡ Some item =
    item_got w.key w.value (count_in leaf) (behind - 1) (drop 4 leaf) (omega (arith, c.place_of-behind.ensures.within, c.if-behind-eq0.false)) in
    leaf_lacks _ c.args.key.now item.0 item.1 behind c.place_of-behind.ensures.place c.if-behind-eq0.false got
    (λ same.
    let yes = c.has_key.ensures.1 (record {
      value = item.1;
      within = omega (arith, c.place_of-behind.ensures.within, c.if-behind-eq0.false);
      got = got ∙ ap (λ (k : List ℕ). Some (k, item.1)) same;
    }) in
    let no = c.if-has_key.false in cc)
