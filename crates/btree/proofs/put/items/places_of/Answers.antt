use Rattle.std.proofs.Common.{◌≡◌, ◌≤◌, ◌-◌, Some, slice_get, false, true, length, drop, arith, sym, ◌∙◌}
use Rattle.btree.specs.lemmas.Items.{length-items}
use Rattle.btree.specs.Page.{Item, count_in, items_in}
use Rattle.btree.specs.declared.page.kind.Kind.TheVariants.{Leaf}
use Rattle.btree.proofs.finds.Leaves.{leaf_without}
use Rattle.btree.proofs.pages.ItemBytes.{put_again, put_new}
use Rattle.btree.proofs.put.items.places_of.Goals as goal

pub returns-then-has_key-clause-put : goal.returns-then-has_key-clause-put
returns-then-has_key-clause-put c ascend value =
    let (e, at, some, same) = c.has_key.ensures.0 c.if-has_key.true in
    put_again (items_in c.args.widths Leaf c.args.page.now) c.args.key.now value c.place_of-to.result (c.place_of-to.ensures.place ascend) ascend e at some same

pub returns-else-has_key-clause-put : goal.returns-else-has_key-clause-put
returns-else-has_key-clause-put c ascend value =
    let items = items_in c.args.widths Leaf c.args.page.now in
    let to = c.place_of-to.result in
    let other : (e : Item) → slice_get items (to - 1) ≡ Some e → 1 ≤ to → e.0 ≡ c.args.key.now
    → ⊥ = λ e at some same. let no : true ≡ false = sym (c.has_key.ensures.1 (e, at, some, same)) ∙ c.if-has_key.false in cc in
    let within : to ≤ length items = omega
    (arith, c.place_of-to.ensures.within, length-items c.args.widths.key c.args.widths.value (count_in c.args.page.now) (drop 4 c.args.page.now)) in
    put_new items c.args.key.now value to (c.place_of-to.ensures.place ascend) ascend within other

pub returns-then-has_key-clause-new_key : goal.returns-then-has_key-clause-new_key
returns-then-has_key-clause-new_key c none =
    let (e, at, some, same) = c.has_key.ensures.0 c.if-has_key.true in
    absurd (omega (arith, none, some))

pub returns-else-has_key-clause-new_key : goal.returns-else-has_key-clause-new_key
returns-else-has_key-clause-new_key c none =
    let w = c.args.widths in
    let page = c.args.page.now in
    let to = c.place_of-to.result in
    let other : (e : Item) → slice_get (items_in w Leaf page) (to - 1) ≡ Some e → 1 ≤ to → e.0 ≡ c.args.key.now
    → ⊥ = λ e at some same. let no : true ≡ false = sym (c.has_key.ensures.1 (e, at, some, same)) ∙ c.if-has_key.false in cc in
    leaf_without w.key w.value (count_in page) (drop 4 page) c.args.key.now to c.place_of-to.ensures.within c.place_of-to.ensures.place other
