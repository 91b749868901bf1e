-- The way down from a root to the leaf where a key belongs.
use Rattle.std.specs.Prelude.{◌≡◌, ◌⊎◌, ℕ, zero, suc, ◌+◌, ◌-◌, ◌<◌, ◌≤◌, false, List, [], ◌++◌, Option, None, Some, All, Contains, drop}
use Rattle.std.specs.Prelude.{slice_get, take}
use Rattle.std.specs.declared.cmp.Ordering.TheVariants.{Less}
use Rattle.std.specs.List.{flat_map}
use Rattle.std.specs.Option.{option_map, option_or}
use Rattle.std.specs.Ordering.{is_gt}
use Rattle.std.proofs.Common.{refl, sym, ◌∙◌, ap, subst, inl, inr, append_assoc, append-nil, arith}
use Rattle.std.proofs.lemmas.Bool.{cases_eq}
use Rattle.std.proofs.lemmas.List.Elements.{All-weaker, All-drop}
use Rattle.btree.specs.declared.page.kind.Kind.TheVariants.{Leaf, Inner}
use Rattle.btree.specs.declared.page.widths.Widths.{Widths}
use Rattle.btree.specs.Page.{Item, key_cmp, items_in, child_of, IsPage}
use Rattle.btree.specs.Place.{IsPlace}
use Rattle.btree.specs.Entries.{Ascend, first_key, find_entry, next_after}
use Rattle.btree.specs.lemmas.Laws.{contains_root, contains_later}
use Rattle.btree.specs.lemmas.Order.{Below, Past, all_both, ascend_front, ascend_back, find_below, find_past, next_below, next_past}
use Rattle.btree.specs.lemmas.Parts.{HasFirst, flat_at, all_got, contains_part, children_ascend, below_part, past_part, first_below}
use Rattle.btree.specs.lemmas.Parts.{first_key-append, got_first}
use Rattle.btree.specs.Tree.{entries_below, pages_below, IsTree, IsMap}
use Rattle.btree.specs.declared.map.limits.TheConstants.{MAX_LEVELS}

-- where a key belongs in the map of these entries: below this page on this level, where `next` is the first key of those
-- that come after the page's own
pub record IsWay (w : Widths) (bytes : ℕ → List ℕ) (capacity : ℕ) (es : List Item) (key : List ℕ) (level page : ℕ)
    (next : Option (List ℕ)) : Type 0 where
  pub depth : ℕ
  pub shallow : depth + level < MAX_LEVELS
  pub tree : IsTree w bytes depth page
  pub before : List Item
  pub after : List Item
  pub is : es ≡ before ++ (entries_below w bytes depth page ++ after)
  pub ascending : Ascend es
  pub below : Below before key
  pub past : Past after key
  pub next_is : first_key after ≡ next
  pub within : (p : ℕ) → Contains (pages_below w bytes depth page) p → (1 ≤ p) × (p < capacity)

-- here is the part of a map where a key belongs, and `next` is the first key after it
pub record BelongsHere (es : List Item) (key : List ℕ) (here : List Item) (next : Option (List ℕ)) : Type 0 where
  pub before : List Item
  pub after : List Item
  pub is : es ≡ before ++ (here ++ after)
  pub ascending : Ascend es
  pub below : Below before key
  pub past : Past after key
  pub next_is : first_key after ≡ next

module _ (es : List Item) (key : List ℕ) (here : List Item) (next : Option (List ℕ)) (reached : BelongsHere es key here next) where
  pub reached_ascends : Ascend here
  reached_ascends = ascend_front here reached.after
      (ascend_back reached.before (here ++ reached.after) (subst Ascend reached.is reached.ascending))

  pub reached_finds : find_entry es key ≡ find_entry here key
  reached_finds = ap (λ (fs : List Item). find_entry fs key) reached.is
      ∙ find_below reached.before (here ++ reached.after) key reached.below ∙ find_past here reached.after key reached.past

  pub reached_next : next_after es key ≡ option_or (next_after here key) (slice_get reached.after 0)
  reached_next = ap (λ (fs : List Item). next_after fs key) reached.is
      ∙ next_below reached.before (here ++ reached.after) key reached.below ∙ next_past here reached.after key reached.past

-- the way begins at the root
pub way_begins : (w : Widths) (bytes : ℕ → List ℕ) (capacity root : ℕ) (pages : List ℕ) (es : List Item) (key : List ℕ) → (root ≡ 0 → ⊥)
    → IsMap w capacity root pages es bytes
    → IsWay w bytes capacity es key 0 root None
way_begins w bytes capacity root pages es key some (inl empty) = absurd (some empty.at_none)
way_begins w bytes capacity root pages es key some (inr map) = record {
  depth = map.depth;
  shallow = omega (arith, map.shallow);
  tree = map.tree;
  before = [];
  after = [];
  is = sym map.entries_are ∙ sym (append-nil (entries_below w bytes map.depth root));
  ascending = map.ascending;
  below = tt;
  past = tt;
  next_is = refl;
  within = λ p here. map.within p (subst (λ (ps : List ℕ). Contains ps p) map.pages_are here);
}

module _ (w : Widths) (bytes : ℕ → List ℕ) (capacity : ℕ) (es : List Item) (key : List ℕ) (level page : ℕ) (next : Option (List ℕ))
    (way : IsWay w bytes capacity es key level page next) where
  -- its page is one that can be read, on a level that there is
  pub way_within : (1 ≤ page) × (page < capacity)
  way_within = way.within page (contains_root w bytes way.depth page)

  pub way_goes_on : level < MAX_LEVELS
  way_goes_on = omega (arith, way.shallow)

  -- what is below its page ascends
  pub way_ascends : Ascend (entries_below w bytes way.depth page)
  way_ascends = ascend_front (entries_below w bytes way.depth page) way.after
      (ascend_back way.before (entries_below w bytes way.depth page ++ way.after) (subst Ascend way.is way.ascending))

  -- it is a leaf or an inner page
  pub way_has_kind : (P : Type 0) → (IsPage w Leaf (bytes page) → P) → (IsPage w Inner (bytes page) → P) → P
  way_has_kind P leaf inner = by_depth way.depth way.tree
    where
      by_depth : (d : ℕ) → IsTree w bytes d page → P
      by_depth zero tree = leaf tree
      by_depth (suc d) tree = inner tree.0

  -- at a leaf it ends
  pub way_ends : IsPage w Leaf (bytes page) → BelongsHere es key (items_in w Leaf (bytes page)) next
  way_ends leaf = record {
    before = way.before;
    after = way.after;
    is = way.is ∙ ap (λ (fs : List Item). way.before ++ (fs ++ way.after)) (by_depth way.depth way.tree);
    ascending = way.ascending;
    below = way.below;
    past = way.past;
    next_is = way.next_is;
  }
    where
      by_depth : (d : ℕ) → IsTree w bytes d page → entries_below w bytes d page ≡ items_in w Leaf (bytes page)
      by_depth zero tree = refl
      by_depth (suc d) tree = absurd (omega (arith, leaf.first, tree.0.first))

-- one level down, to the child of this place
module _ (w : Widths) (bytes : ℕ → List ℕ) (capacity : ℕ) (es : List Item) (key : List ℕ) (level page place : ℕ) (next : Option (List ℕ))
    (child : Item) where
  inner_ascends : (d : ℕ) → IsTree w bytes (suc d) page → Ascend (entries_below w bytes (suc d) page)
      → Ascend (items_in w Inner (bytes page))
  inner_ascends d tree ascend =
      let f = λ (c : Item). entries_below w bytes d (child_of c) in
      let items = items_in w Inner (bytes page) in
      children_ascend f items (All-weaker (λ c. IsTree w bytes d (child_of c) × HasFirst f c) (HasFirst f) (λ c t. t.1) items tree.1) ascend

  way_below : (d : ℕ) → suc d + level < 24 → IsTree w bytes (suc d) page → (before after : List Item)
      → es ≡ before ++ (entries_below w bytes (suc d) page ++ after)
      → Ascend es → Ascend (entries_below w bytes (suc d) page) → Below before key → Past after key → first_key after ≡ next
      → ((p : ℕ) → Contains (pages_below w bytes (suc d) page) p → (1 ≤ p) × (p < capacity))
      → IsPlace (items_in w Inner (bytes page)) key place → slice_get (items_in w Inner (bytes page)) (place - 1) ≡ Some child
      → IsWay w bytes capacity es key (level + 1) (child_of child)
      (option_or (option_map (λ e. e.0) (slice_get (items_in w Inner (bytes page)) (suc (place - 1)))) next)
  way_below d shallow tree before after is ascending ascend below past next_is within fits got =
      let f = λ (c : Item). entries_below w bytes d (child_of c) in
      let items = items_in w Inner (bytes page) in
      let all : All (HasFirst f) items = All-weaker (λ c. IsTree w bytes d (child_of c) × HasFirst f c) (HasFirst f)
      (λ c t. t.1) items tree.1 in
      let front = flat_map f (take (place - 1) items) in
      let back = flat_map f (drop (suc (place - 1)) items) in
      let whole : (before ++ front) ++ (f child ++ (back ++ after)) ≡ es =
      sym (is ∙ ap (λ (fs : List Item). before ++ (fs ++ after)) (flat_at f items (place - 1) child got)
      ∙ ap (λ (fs : List Item). before ++ fs) (append_assoc front (f child ++ back) after
      ∙ ap (λ (fs : List Item). front ++ fs) (append_assoc (f child) back after))
      ∙ sym (append_assoc before front (f child ++ (back ++ after)))) in
      record {
        depth = d;
        shallow = omega (arith, shallow);
        tree = (all_got (λ c. IsTree w bytes d (child_of c) × HasFirst f c) items (place - 1) child tree.1 got).0;
        before = before ++ front;
        after = back ++ after;
        is = sym whole;
        ascending = ascending;
        below = all_both (λ e. key_cmp e.0 key ≡ Less) before front below
            (below_part f items (place - 1) child got all ascend key (at_first));
        past = all_both (λ e. key_cmp key e.0 ≡ Less) back after
            (past_part f items (place - 1) child got all ascend key (λ e at. fits.past (suc (place - 1)) e (omega arith) at)) past;
        next_is = first_key-append back after
            ∙ (λ i. option_or (first_below f (drop (suc (place - 1)) items) (All-drop (HasFirst f) (suc (place - 1)) items all) i)
            (next_is i))
            ∙ ap (λ (o : Option Item). option_or (option_map (λ e. e.0) o) next) (got_first (suc (place - 1)) items);
        within = λ p here. within p (contains_later page p (flat_map (λ c. pages_below w bytes d (child_of c)) items)
            (contains_part (λ c. pages_below w bytes d (child_of c)) items (place - 1) child p got here));
      }
    where
      at_first : (place - 1 ≡ 0) ⊎ (is_gt (key_cmp child.0 key) ≡ false)
      at_first = elim (cases_eq place 0) [
        | inl none ↦ inl (omega (arith, none))
        | inr some ↦ inr (fits.upto (place - 1) child (omega (arith, some)) got)
      ]

  pub way_down : IsWay w bytes capacity es key level page next → IsPage w Inner (bytes page)
      → (Ascend (items_in w Inner (bytes page)) → IsPlace (items_in w Inner (bytes page)) key place)
      → slice_get (items_in w Inner (bytes page)) (place - 1) ≡ Some child
      → IsWay w bytes capacity es key (level + 1) (child_of child)
      (option_or (option_map (λ e. e.0) (slice_get (items_in w Inner (bytes page)) (suc (place - 1)))) next)
  way_down way inner fits got = by_depth way.depth way.shallow way.tree way.is
      (way_ascends w bytes capacity es key level page next way) way.within
    where
      by_depth : (d : ℕ) → d + level < 24 → IsTree w bytes d page → es ≡ way.before ++ (entries_below w bytes d page ++ way.after)
          → Ascend (entries_below w bytes d page)
          → ((p : ℕ) → Contains (pages_below w bytes d page) p → (1 ≤ p) × (p < capacity))
          → IsWay w bytes capacity es key (level + 1) (child_of child)
          (option_or (option_map (λ e. e.0) (slice_get (items_in w Inner (bytes page)) (suc (place - 1)))) next)
      by_depth zero shallow tree is ascend within = absurd (omega (arith, inner.first, tree.first))
      by_depth (suc d) shallow tree is ascend within =
          way_below d shallow tree way.before way.after is way.ascending ascend way.below way.past way.next_is within
          (fits (inner_ascends d tree ascend)) got
