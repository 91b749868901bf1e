use Rattle.std.proofs.Common.{◌≡◌, ◌+◌, ◌∙◌, ◌++◌, ◌∷◌, [], ℕ, zero, suc, List, Some, length, take, drop, sym, ap, arith}
use Rattle.std.proofs.lemmas.List.{take-append-drop}
use Rattle.std.proofs.lemmas.Slice.Eq.{bytes_eq-Decides}
use Rattle.std.specs.List.{slice_get}
use Rattle.btree.specs.declared.page.kind.Kind.TheVariants.{Inner}
use Rattle.btree.specs.Page.{Item, items_in, items_of}
use Rattle.btree.proofs.pages.ItemBytes.{one_item}
use Rattle.btree.proofs.put.items.has_item.Goals as goal

-- an item in the place of itself
stands_there : (es : List Item) (i : ℕ) (e : Item) → slice_get es i ≡ Some e → take i es ++ ((e ∷ []) ++ drop (suc i) es) ≡ es
stands_there [] i e got = absurd (cc)
stands_there (x ∷ es) zero e got = let same : e ≡ x = cc in ap (λ (y : Item). y ∷ es) same
stands_there (x ∷ es) (suc i) e got = ap (λ (ys : List Item). x ∷ ys) (stands_there es i e got)

-- items that are this one item
are_one : (key n : ℕ) (bytes whole front back k v : List ℕ) → n ≡ 1 → whole ≡ bytes → front ≡ take key whole → back ≡ drop key whole
    → k ≡ front → v ≡ back → length k ≡ key → length v ≡ 4
    → items_of key 4 n bytes ≡ (k, v) ∷ []
are_one key n bytes whole front back k v one same first last is_k is_v long_k long_v =
    (λ i. items_of key 4 (one i) (sym same i))
    ∙ ap (items_of key 4 1) (sym ((λ i. (is_k ∙ first) i ++ (is_v ∙ last) i) ∙ take-append-drop key whole))
    ∙ one_item key 4 k v long_k long_v

pub returns-then-eq : goal.returns-then-eq
returns-then-eq c = λ same.
    let w = c.args.widths in
    let es = items_in w Inner c.args.page.now in
    let k : List ℕ = c.item_at.result.0.now in
    let v : List ℕ = c.item_at.result.1.now in
    let front : List ℕ = c.split_at.result.0.now in
    let back : List ℕ = c.split_at.result.1.now in
    let its_key : k ≡ front = (bytes_eq-Decides k front).0 (sym c.eq.ensures ∙ c.if-eq.true) in
    let its_child : v ≡ back = (bytes_eq-Decides v back).0 (sym c.eq-then-eq.ensures ∙ same) in
    let on : c.args.place + 1 ≡ suc c.args.place = omega arith in
    (λ i. take c.args.place es
    ++ (are_one w.key c.args.items.now.count c.args.items.now.bytes.items c.deref.result.now front back k v c.if-items-ne1.false c.deref.ensures.0 c.split_at.ensures.front c.split_at.ensures.back
    its_key its_child c.item_at.ensures.key_long c.item_at.ensures.behind_long i ++ drop (on i) es))
    ∙ stands_there es c.args.place (k, v) c.item_at.ensures.got
