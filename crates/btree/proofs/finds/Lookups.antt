-- What a map answers, from the leaf that was reached.
use Rattle.std.proofs.Common.{◌≡◌, inl, inr, ℕ, List, [], ◌∷◌, ◌++◌, Option, None, Some, length, refl, sym, ◌∙◌, ap, subst, append_assoc}
use Rattle.std.specs.List.{slice_get}
use Rattle.std.specs.Option.{option_or}
use Rattle.page_store.specs.Store.{Store, reads}
use Rattle.btree.specs.declared.page.kind.Kind.TheVariants.{Leaf}
use Rattle.btree.specs.declared.page.widths.Widths.{Widths}
use Rattle.btree.specs.Page.{Item, items_in}
use Rattle.btree.specs.Changes.{HoldsMap}
use Rattle.btree.specs.Entries.{Ascend, find_entry, first_key, next_after}
use Rattle.btree.specs.lemmas.Laws.{not_empty}
use Rattle.btree.specs.lemmas.Order.{Below, ascend_seam, find_below, find_here}
use Rattle.btree.specs.lemmas.Parts.{begins}
use Rattle.btree.specs.lemmas.Way.{reached_ascends, reached_finds, reached_next}
use Rattle.btree.specs.lemmas.Steps.{ReachesLeaf}

no_entry : (w : Widths) (store : Store) (root : ℕ) (pages : List ℕ) (es : List Item) → root ≡ 0 → HoldsMap w store root pages es → es ≡ []
no_entry w store root pages es none (inl empty) = empty.no_entry
no_entry w store root pages es none (inr map) = absurd (not_empty w (length store.marks) root pages es (reads store) none map)

pub none_found : (w : Widths) (store : Store) (root : ℕ) (key : List ℕ) → root ≡ 0 → (pages : List ℕ) (es : List Item)
    → HoldsMap w store root pages es → None ≡ find_entry es key
none_found w store root key none pages es holds = ap (λ (fs : List Item). find_entry fs key) (sym (no_entry w store root pages es none holds))

pub none_next : (w : Widths) (store : Store) (root : ℕ) (key : List ℕ) → root ≡ 0 → (pages : List ℕ) (es : List Item)
    → HoldsMap w store root pages es → None ≡ next_after es key
none_next w store root key none pages es holds = ap (λ (fs : List Item). next_after fs key) (sym (no_entry w store root pages es none holds))

-- what the leaf has at the key
pub leaf_finds : (w : Widths) (store : Store) (root : ℕ) (key leaf : List ℕ) (next : Option (List ℕ)) (answer : Option (List ℕ))
    → ReachesLeaf w store root key leaf next
    → (Ascend (items_in w Leaf leaf) → answer ≡ find_entry (items_in w Leaf leaf) key) → (pages : List ℕ) (es : List Item)
    → HoldsMap w store root pages es → answer ≡ find_entry es key
leaf_finds w store root key leaf next answer reaches is pages es holds =
    let reached = reaches pages es holds in
    is (reached_ascends es key (items_in w Leaf leaf) next reached) ∙ sym (reached_finds es key (items_in w Leaf leaf) next reached)

-- the leaf has the next entry
pub leaf_nexts : (w : Widths) (store : Store) (root : ℕ) (key leaf : List ℕ) (next : Option (List ℕ)) (entry : Item) → ReachesLeaf w store root key leaf next
    → (Ascend (items_in w Leaf leaf) → Some entry ≡ next_after (items_in w Leaf leaf) key) → (pages : List ℕ) (es : List Item)
    → HoldsMap w store root pages es → Some entry ≡ next_after es key
leaf_nexts w store root key leaf next entry reaches is pages es holds =
    let reached = reaches pages es holds in
    sym (reached_next es key (items_in w Leaf leaf) next reached
    ∙ ap (λ (o : Option Item). option_or o (slice_get reached.after 0)) (sym (is (reached_ascends es key (items_in w Leaf leaf) next reached))))

no_first : (es : List Item) → first_key es ≡ None → slice_get es 0 ≡ None
no_first [] none = refl
no_first (e ∷ es) none = absurd (cc)

-- there is no next entry
pub ends : (w : Widths) (store : Store) (root : ℕ) (key leaf : List ℕ) (next : Option (List ℕ)) → next ≡ None → ReachesLeaf w store root key leaf next
    → (Ascend (items_in w Leaf leaf) → None ≡ next_after (items_in w Leaf leaf) key) → (pages : List ℕ) (es : List Item)
    → HoldsMap w store root pages es → None ≡ next_after es key
ends w store root key leaf next none reaches is pages es holds =
    let reached = reaches pages es holds in
    sym (reached_next es key (items_in w Leaf leaf) next reached
    ∙ (λ i. option_or (sym (is (reached_ascends es key (items_in w Leaf leaf) next reached)) i) (no_first reached.after (reached.next_is ∙ none) i)))

-- the next entry is the first one after the leaf
pub record IsBehind (es : List Item) (key next : List ℕ) : Type 0 where
  pub entry : Item
  pub has : entry.0 ≡ next
  pub is : next_after es key ≡ Some entry
  pub found : find_entry es next ≡ Some entry.1

pub behind : (w : Widths) (store : Store) (root : ℕ) (key leaf : List ℕ) (next : Option (List ℕ)) (first : List ℕ) → next ≡ Some first
    → ReachesLeaf w store root key leaf next
    → (Ascend (items_in w Leaf leaf) → None ≡ next_after (items_in w Leaf leaf) key) → (pages : List ℕ) (es : List Item)
    → HoldsMap w store root pages es → IsBehind es key first
behind w store root key leaf next first some reaches is pages es holds =
    let here = items_in w Leaf leaf in
    let reached = reaches pages es holds in
    let start = begins reached.after first (reached.next_is ∙ some) in
    let before = reached.before ++ here in
    let whole : es ≡ before ++ start.entry ∷ start.rest =
    reached.is ∙ ap (λ (fs : List Item). reached.before ++ (here ++ fs)) start.is ∙ sym (append_assoc reached.before here (start.entry ∷ start.rest)) in
    let below : Below before start.entry.0 = ascend_seam before start.entry start.rest (subst Ascend whole reached.ascending) in
    record {
      entry = start.entry;
      has = start.has;
      is = reached_next es key here next reached
          ∙ (λ i. option_or (sym (is (reached_ascends es key here next reached)) i) (slice_get (start.is i) 0));
      found = ap (find_entry es) (sym start.has) ∙ ap (λ (fs : List Item). find_entry fs start.entry.0) whole
          ∙ find_below before (start.entry ∷ start.rest) start.entry.0 below ∙ find_here start.entry start.rest;
    }

pub behind_is : (es : List Item) (key next value : List ℕ) → IsBehind es key next → Some value ≡ find_entry es next → Some (next, value) ≡ next_after es key
behind_is es key next value there got =
    let same : value ≡ there.entry.1 = let e : Some value ≡ Some there.entry.1 = got ∙ there.found in cc in
    (λ i. Some (sym there.has i, same i)) ∙ sym there.is

pub behind_is_there : (es : List Item) (key next : List ℕ) → IsBehind es key next → None ≡ find_entry es next → ⊥
behind_is_there es key next there got = let e : None ≡ Some there.entry.1 = got ∙ there.found in cc
