use Rattle.std.proofs.Common.{◌≡◌, ◌∷◌, [], None, Some, IsTrue, subst}
use Rattle.page_store.specs.Store.{Store, reads}
use Rattle.page_store.specs.Frames.{PagesWritten}
use Rattle.btree.specs.declared.page.kind.Kind.TheVariants.{Leaf, Inner}
use Rattle.btree.specs.Page.{Item, IsPage, child_of, items_in}
use Rattle.btree.specs.Entries.{Ascend, find_entry, first_key, put_entry}
use Rattle.btree.specs.Tree.{entries_below}
use Rattle.btree.specs.lemmas.Growth.{AreWritten, IsGrowing, IsGrownTree}
use Rattle.btree.specs.lemmas.Spots.{LeadsTo, IsSpot}
use Rattle.btree.specs.declared.put.in_place.Spot.{Spot}
use Rattle.btree.proofs.puts.InPlace.{of_both, grown_by, leaf_in_place, leaf_new, inner_in_place, inner_new}
use Rattle.btree.proofs.put.in_place.+put_in_place.Goals as goal

pub returns-in-Some-Leaf-clause-grown : goal.returns-in-Some-Leaf-clause-grown
returns-in-Some-Leaf-clause-grown g t c = λ honest d top growing leads first.
    let w = c.args.widths in
    let key = c.args.key.now in
    let value = c.args.value.now in
    let q = c.args.page in
    let old : Store = g.P.Pages.store c.args.store.now in
    let new : Store = g.P.Pages.store c.put_on.new.store in
    of_both (λ done. IsTrue done → (t : Item) → child_of t ≡ q → Ascend (items_in w Leaf (reads old q)) → first_key (items_in w Leaf (reads old q)) ≡ Some t.0
    → AreWritten w Leaf q (put_entry (items_in w Leaf (reads old q)) key value) (t ∷ []) old new)
    (λ done. IsTrue done → IsPage w Leaf (reads old q)) (λ done. IsTrue done → IsGrownTree w key value d q (top ∷ []) old new) c.put_on.result
    (λ done written leaf is. leaf_in_place w key value q top old new honest leads d growing first (leaf is) (λ ascend f. written is top leads ascend f))
    (c.put_on.ensures.written honest) (c.put_on.ensures.leaf honest)

pub returns-in-Some-Below-clause-grown : goal.returns-in-Some-Below-clause-grown
returns-in-Some-Below-clause-grown g t c = λ honest d top growing leads first.
    let w = c.args.widths in
    let key = c.args.key.now in
    let value = c.args.value.now in
    let q = c.args.page in
    let child = c.in-Some-Below.child in
    let old : Store = g.P.Pages.store c.args.store.now in
    let new : Store = g.P.Pages.store c.put_in_place.new.store in
    let there : IsPage w Inner (reads old q) × LeadsTo w (reads old q) key child =
    subst (λ (s : Spot). IsSpot w (reads old q) key s) c.in-Some-Below.field-0-is (c.in-Some-Below.ensures.seen honest) in
    grown_by c.put_in_place.result (IsGrownTree w key value d q (top ∷ []) old new)
    (λ e t. IsGrowing w e child old × (child_of t ≡ child) × (first_key (entries_below w (reads old) e child) ≡ Some t.0))
    (λ e t. IsGrownTree w key value e child (t ∷ []) old new)
    (λ e t given. c.put_in_place.ensures.grown honest e t given.0 given.1 given.2)
    (λ grow (wrote : PagesWritten 0 old new).
    inner_in_place w key value q top old new honest leads child wrote.works (c.is_fresh-fresh.ensures.0 c.if-not-fresh.false)
    c.in-Some-Below.ensures.is_page c.in-Some-Below.ensures.there there.1 (λ e t is at from. grow e t (is, at, from)) d growing first there.0)
    c.put_in_place.ensures.ok

pub returns-in-Some-Leaf-clause-new_key : goal.returns-in-Some-Leaf-clause-new_key
returns-in-Some-Leaf-clause-new_key g t c = λ honest d growing.
    let w = c.args.widths in
    let key = c.args.key.now in
    let q = c.args.page in
    let only_new = c.args.only_new in
    let old : Store = g.P.Pages.store c.args.store.now in
    of_both (λ done. IsTrue done → IsTrue only_new → Ascend (items_in w Leaf (reads old q)) → None ≡ find_entry (items_in w Leaf (reads old q)) key)
    (λ done. IsTrue done → IsPage w Leaf (reads old q))
    (λ done. IsTrue done → IsTrue only_new → None ≡ find_entry (entries_below w (reads old) d q) key) c.put_on.result
    (λ done none leaf is only. leaf_new w key q old d growing (leaf is) (none is only))
    (c.put_on.ensures.new_key honest) (c.put_on.ensures.leaf honest)

pub returns-in-Some-Below-clause-new_key : goal.returns-in-Some-Below-clause-new_key
returns-in-Some-Below-clause-new_key g t c = λ honest d growing.
    let w = c.args.widths in
    let key = c.args.key.now in
    let q = c.args.page in
    let child = c.in-Some-Below.child in
    let old : Store = g.P.Pages.store c.args.store.now in
    let there : IsPage w Inner (reads old q) × LeadsTo w (reads old q) key child =
    subst (λ (s : Spot). IsSpot w (reads old q) key s) c.in-Some-Below.field-0-is (c.in-Some-Below.ensures.seen honest) in
    inner_new w key q old c.args.only_new c.put_in_place.result child d growing there.0 there.1 (λ e below. c.put_in_place.ensures.new_key honest e below)
