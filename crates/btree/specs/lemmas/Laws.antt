-- What holds of every tree and of every map.
use Rattle.std.specs.Prelude.{◌≡◌, ◌⊎◌, ℕ, zero, suc, ◌+◌, ◌*◌, ◌^◌, ◌<◌, ◌≤◌, List, [], ◌∷◌, ◌++◌, length, drop, All, Contains, Some}
use Rattle.std.specs.Prelude.{IsTrue}
use Rattle.std.specs.List.{flat_map}
use Rattle.std.proofs.Common.{refl, sym, ◌∙◌, ap, subst, inl, inr, arith, length-append, pow-suc}
use Rattle.std.proofs.lemmas.List.Elements.{Contains-append_left, Contains-append_right, All-head, All-tail, All-cons, All-nil, All-weaker}
use Rattle.page_store.specs.declared.marks.Mark.{Mark}
use Rattle.page_store.specs.declared.marks.Mark.TheVariants.{Committed, Fresh}
use Rattle.page_store.specs.declared.marks.Mark.TheVariants.{Waiting}
use Rattle.page_store.specs.declared.holds.HoldPlace.{HoldPlace}
use Rattle.page_store.specs.Marks.{mark, needs, keeps, IsNeeded}
use Rattle.page_store.specs.Spelled.{SpelledBy, Stands, StandsHeld, IsPrepared}
use Rattle.page_store.specs.Store.{Store, reads, IsHoldTaken}
use Rattle.page_store.specs.lemmas.Carried.{hold_stands}
use Rattle.btree.specs.declared.page.kind.Kind.TheVariants.{Leaf, Inner}
use Rattle.btree.specs.declared.page.widths.Widths.{Widths}
use Rattle.btree.specs.lemmas.Items.{length-items}
use Rattle.btree.specs.Page.{Item, IsPage, items_in, count_in, child_of}
use Rattle.btree.specs.Changes.{AreHeld, HoldsMap}
use Rattle.btree.specs.Entries.{first_key}
use Rattle.btree.specs.Tree.{entries_below, pages_below, IsTree, IsRooted, IsMap}

-- the first of some pages is one of them, and so are the others
pub contains_first : (p : ℕ) (ps : List ℕ) → Contains (p ∷ ps) p
contains_first p ps = (0, omega arith, refl)

pub contains_later : (p q : ℕ) (ps : List ℕ) → Contains ps q → Contains (p ∷ ps) q
contains_later p q ps (k, low, is) = (suc k, omega (arith, low), is)

pub none_contained : (p : ℕ) → Contains [] p → ⊥
none_contained p (k, low, is) = omega (arith, low)

-- what each child has alike, all have
flat_same : {X : Type 0} (bytes other : ℕ → List ℕ) (pages : Item → List ℕ) (f g : Item → List X)
    → ((c : Item) → ((p : ℕ) → Contains (pages c) p → other p ≡ bytes p) → g c ≡ f c)
    → (cs : List Item) → ((p : ℕ) → Contains (flat_map pages cs) p → other p ≡ bytes p) → flat_map g cs ≡ flat_map f cs
flat_same bytes other pages f g each [] same = refl
flat_same bytes other pages f g each (c ∷ cs) same =
    let one = each c (λ p here. same p (Contains-append_left (pages c) (flat_map pages cs) p here)) in
    let rest = flat_same bytes other pages f g each cs (λ p here. same p (Contains-append_right (pages c) (flat_map pages cs) p here)) in
    λ i. one i ++ rest i

all_same : (bytes other : ℕ → List ℕ) (pages : Item → List ℕ) (P Q : Item → Type 0)
    → ((c : Item) → ((p : ℕ) → Contains (pages c) p → other p ≡ bytes p) → P c → Q c)
    → (cs : List Item) → ((p : ℕ) → Contains (flat_map pages cs) p → other p ≡ bytes p) → All P cs → All Q cs
all_same bytes other pages P Q each [] same all = All-nil Q
all_same bytes other pages P Q each (c ∷ cs) same all =
    All-cons Q c cs (each c (λ p here. same p (Contains-append_left (pages c) (flat_map pages cs) p here)) (All-head P c cs all))
    (all_same bytes other pages P Q each cs (λ p here. same p (Contains-append_right (pages c) (flat_map pages cs) p here))
    (All-tail P c cs all))

-- a tree depends on its pages alone
module _ (w : Widths) (bytes other : ℕ → List ℕ) where
  pub pages_same : (d page : ℕ) → ((p : ℕ) → Contains (pages_below w bytes d page) p → other p ≡ bytes p)
      → pages_below w other d page ≡ pages_below w bytes d page
  pages_same zero page same = refl
  pages_same (suc d) page same =
      let below = λ (c : Item). pages_below w bytes d (child_of c) in
      let items = items_in w Inner (bytes page) in
      let here : other page ≡ bytes page = same page (contains_first page (flat_map below items)) in
      let rest = flat_same bytes other below below (λ c. pages_below w other d (child_of c)) (λ c. pages_same d (child_of c)) items
      (λ p there. same p (contains_later page p (flat_map below items) there)) in
      ap (λ (b : List ℕ). page ∷ flat_map (λ c. pages_below w other d (child_of c)) (items_in w Inner b)) here ∙ (λ i. page ∷ rest i)

  pub entries_same : (d page : ℕ) → ((p : ℕ) → Contains (pages_below w bytes d page) p → other p ≡ bytes p)
      → entries_below w other d page ≡ entries_below w bytes d page
  entries_same zero page same = ap (items_in w Leaf) (same page (contains_first page []))
  entries_same (suc d) page same =
      let below = λ (c : Item). pages_below w bytes d (child_of c) in
      let items = items_in w Inner (bytes page) in
      let here : other page ≡ bytes page = same page (contains_first page (flat_map below items)) in
      ap (λ (b : List ℕ). flat_map (λ c. entries_below w other d (child_of c)) (items_in w Inner b)) here
      ∙ flat_same bytes other below (λ c. entries_below w bytes d (child_of c)) (λ c. entries_below w other d (child_of c))
      (λ c. entries_same d (child_of c)) items
      (λ p there. same p (contains_later page p (flat_map below items) there))

  pub tree_same : (d page : ℕ) → ((p : ℕ) → Contains (pages_below w bytes d page) p → other p ≡ bytes p) → IsTree w bytes d page
      → IsTree w other d page
  tree_same zero page same tree = subst (λ (b : List ℕ). IsPage w Leaf b) (sym (same page (contains_first page []))) tree
  tree_same (suc d) page same tree =
      let below = λ (c : Item). pages_below w bytes d (child_of c) in
      let items = items_in w Inner (bytes page) in
      let here : other page ≡ bytes page = same page (contains_first page (flat_map below items)) in
      let P : Item → Type 0 = λ c. IsTree w bytes d (child_of c) × (first_key (entries_below w bytes d (child_of c)) ≡ Some c.0) in
      let Q : Item → Type 0 = λ c. IsTree w other d (child_of c) × (first_key (entries_below w other d (child_of c)) ≡ Some c.0) in
      let all : All Q items =
      all_same bytes other below P Q (λ c s t. (tree_same d (child_of c) s t.0, ap first_key (entries_same d (child_of c) s) ∙ t.1)) items
      (λ p there. same p (contains_later page p (flat_map below items) there)) tree.1 in
      subst (λ (b : List ℕ). IsPage w Inner b × All Q (items_in w Inner b)) (sym here) (tree.0, all)

-- a map rests on its own pages alone
pub a_map_rests_on_its_pages : (w : Widths) (capacity root : ℕ) (pages : List ℕ) (es : List Item) (bytes : ℕ → List ℕ)
    → IsMap w capacity root pages es bytes
    → SpelledBy (λ p. Contains pages p) bytes (IsMap w capacity root pages es)
a_map_rests_on_its_pages w capacity root pages es bytes (inl empty) = record { anywhere = λ other same. inl empty }
a_map_rests_on_its_pages w capacity root pages es bytes (inr map) = record {
  anywhere = λ other same.
      let here : (p : ℕ) → Contains (pages_below w bytes map.depth root) p → other p ≡ bytes p =
      λ p there. same p (subst (λ (ps : List ℕ). Contains ps p) map.pages_are there) in
      inr (record {
        depth = map.depth;
        shallow = map.shallow;
        tree = tree_same w bytes other map.depth root here map.tree;
        pages_are = pages_same w bytes other map.depth root here ∙ map.pages_are;
        entries_are = entries_same w bytes other map.depth root here ∙ map.entries_are;
        ascending = map.ascending;
        within = map.within;
        once = map.once;
      });
}

-- the kinds of its pages tell how deep a tree is
first_deep : (w : Widths) (bytes : ℕ → List ℕ) (d e : ℕ) → ((page : ℕ) → IsTree w bytes d page → IsTree w bytes e page → d ≡ e)
    → (P Q : Item → Type 0) (cs : List Item) → 2 ≤ length cs
    → All (λ c. IsTree w bytes d (child_of c) × P c) cs → All (λ c. IsTree w bytes e (child_of c) × Q c) cs → d ≡ e
first_deep w bytes d e same P Q [] many one other = absurd (omega (arith, many))
first_deep w bytes d e same P Q (c ∷ cs) many one other =
    same (child_of c) (All-head (λ c. IsTree w bytes d (child_of c) × P c) c cs one).0
    (All-head (λ c. IsTree w bytes e (child_of c) × Q c) c cs other).0

pub tree_has_one_depth : (w : Widths) (bytes : ℕ → List ℕ) (d e page : ℕ) → IsTree w bytes d page → IsTree w bytes e page → d ≡ e
tree_has_one_depth w bytes zero zero page one other = refl
tree_has_one_depth w bytes zero (suc e) page one other = absurd (omega (arith, one.first, other.0.first))
tree_has_one_depth w bytes (suc d) zero page one other = absurd (omega (arith, one.0.first, other.first))
tree_has_one_depth w bytes (suc d) (suc e) page one other =
    ap suc (first_deep w bytes d e (tree_has_one_depth w bytes d e) (λ c. first_key (entries_below w bytes d (child_of c)) ≡ Some c.0)
    (λ c. first_key (entries_below w bytes e (child_of c)) ≡ Some c.0) (items_in w Inner (bytes page))
    (omega (arith, length-items w.key 4 (count_in (bytes page)) (drop 4 (bytes page)), one.0.enough)) one.1 other.1)

-- a tree has the page below which it stands
pub contains_root : (w : Widths) (bytes : ℕ → List ℕ) (d page : ℕ) → Contains (pages_below w bytes d page) page
contains_root w bytes zero page = contains_first page []
contains_root w bytes (suc d) page = contains_first page _

pub not_empty : (w : Widths) (capacity root : ℕ) (pages : List ℕ) (es : List Item) (bytes : ℕ → List ℕ) → root ≡ 0
    → IsRooted w capacity root pages es bytes → ⊥
not_empty w capacity root pages es bytes none map =
    omega (
      arith,
      none,
      (map.within root (subst (λ (ps : List ℕ). Contains ps root) map.pages_are
          (contains_root w bytes map.depth root))).0,
    )

-- below a root there is one map at most
pub a_root_has_one_map : (w : Widths) (capacity root : ℕ) (pages others : List ℕ) (es fs : List Item) (bytes : ℕ → List ℕ)
    → IsMap w capacity root pages es bytes
    → IsMap w capacity root others fs bytes → (pages ≡ others) × (es ≡ fs)
a_root_has_one_map w capacity root pages others es fs bytes (inl one) (inl two) =
    (one.no_page ∙ sym two.no_page, one.no_entry ∙ sym two.no_entry)
a_root_has_one_map w capacity root pages others es fs bytes (inl one) (inr two) =
    absurd (not_empty w capacity root others fs bytes one.at_none two)
a_root_has_one_map w capacity root pages others es fs bytes (inr one) (inl two) =
    absurd (not_empty w capacity root pages es bytes two.at_none one)
a_root_has_one_map w capacity root pages others es fs bytes (inr one) (inr two) =
    let same : one.depth ≡ two.depth = tree_has_one_depth w bytes one.depth two.depth root one.tree two.tree in (
      sym one.pages_are ∙ ap (λ (d : ℕ). pages_below w bytes d root) same ∙ two.pages_are,
      sym one.entries_are
          ∙ ap (λ (d : ℕ). entries_below w bytes d root) same ∙ two.entries_are,
    )

-- each level at least doubles the pages
two_children : {X : Type 0} (n : ℕ) (f : Item → List X) (cs : List Item) → 2 ≤ length cs → All (λ c. n ≤ length (f c)) cs
    → n + n ≤ length (flat_map f cs)
two_children n f [] many wide = absurd (omega (arith, many))
two_children n f (a ∷ []) many wide = absurd (omega (arith, many))
two_children n f (a ∷ b ∷ cs) many wide =
    let P = λ (c : Item). n ≤ length (f c) in
    let one : n ≤ length (f a) = All-head P a (b ∷ cs) wide in
    let two : n ≤ length (f b) = All-head P b cs (All-tail P a (b ∷ cs) wide) in
    omega (arith, one, two, length-append (f a) (f b ++ flat_map f cs), length-append (f b) (flat_map f cs))

pub a_tree_is_wide : (w : Widths) (bytes : ℕ → List ℕ) (d page : ℕ) → IsTree w bytes d page → 2 ^ d ≤ length (pages_below w bytes d page)
a_tree_is_wide w bytes zero page tree = omega arith
a_tree_is_wide w bytes (suc d) page tree =
    let f = λ (c : Item). pages_below w bytes d (child_of c) in
    let items = items_in w Inner (bytes page) in
    let wide : All (λ c. 2 ^ d ≤ length (f c)) items =
    All-weaker (λ c. IsTree w bytes d (child_of c) × (first_key (entries_below w bytes d (child_of c)) ≡ Some c.0))
    (λ c. 2 ^ d ≤ length (f c)) (λ c t. a_tree_is_wide w bytes d (child_of c) t.0) items tree.1 in
    let two : 2 ^ d + 2 ^ d ≤ length (flat_map f items) =
    two_children (2 ^ d) f items (omega (arith, length-items w.key 4 (count_in (bytes page)) (drop 4 (bytes page)), tree.0.enough)) wide in
    let power : 2 ^ suc d ≡ 2 ^ d * 2 = pow-suc 2 d in
    omega (arith, two, power)

map_within : (w : Widths) (capacity root : ℕ) (pages : List ℕ) (es : List Item) (bytes : ℕ → List ℕ)
    → IsMap w capacity root pages es bytes → (p : ℕ) → Contains pages p → (1 ≤ p) × (p < capacity)
map_within w capacity root pages es bytes (inl empty) p here =
    absurd (none_contained p (subst (λ (ps : List ℕ). Contains ps p) empty.no_page here))
map_within w capacity root pages es bytes (inr map) p here = map.within p here

-- a map on pages that were handed out or are marked is prepared for the next commit
pub a_map_is_prepared : (w : Widths) (capacity root : ℕ) (pages : List ℕ) (es : List Item) (store : Store) → capacity ≤ length store.marks
    → IsMap w capacity root pages es (reads store)
    → AreHeld store.marks pages → IsPrepared (λ p. Contains pages p) (IsMap w capacity root pages es) store
a_map_is_prepared w capacity root pages es store room map held = record {
  spelled = a_map_rests_on_its_pages w capacity root pages es (reads store) map;
  kept = λ p here.
      let known = map_within w capacity root pages es (reads store) map p here in
      (known.0, omega (arith, known.1, room), held_kept (mark store.marks p) (held p here));
}
  where
    held_kept : (m : Mark) → (m ≡ Committed) ⊎ (m ≡ Fresh) → IsTrue (keeps m)
    held_kept m (inl is) = subst (λ (n : Mark). IsTrue (keeps n)) (sym is) refl
    held_kept m (inr is) = subst (λ (n : Mark). IsTrue (keeps n)) (sym is) refl

-- a map on pages that are marked is one that the committed root may need
pub a_map_stands : (w : Widths) (capacity root : ℕ) (pages : List ℕ) (es : List Item) (store : Store) → capacity ≤ length store.marks
    → IsMap w capacity root pages es (reads store)
    → ((p : ℕ) → Contains pages p → mark store.marks p ≡ Committed) → Stands (λ p. Contains pages p) (IsMap w capacity root pages es) store
a_map_stands w capacity root pages es store room map marked = record {
  spelled = a_map_rests_on_its_pages w capacity root pages es (reads store) map;
  needed = λ p here.
      let known = map_within w capacity root pages es (reads store) map p here in
      (known.0, omega (arith, known.1, room), subst (λ (m : Mark). IsTrue (needs m)) (sym (marked p here)) refl);
}

-- a map of the committed root, as a hold is taken on it
pub a_map_is_held : (w : Widths) (root : ℕ) (pages : List ℕ) (es : List Item) (place : HoldPlace) (old new : Store)
    → ((p : ℕ) → mark old.marks p ≡ Waiting → ⊥) → IsHoldTaken place old new → HoldsMap w old root pages es
    → ((p : ℕ) → Contains pages p → IsNeeded old.marks p)
    → StandsHeld place (λ p. Contains pages p) (IsMap w (length old.marks) root pages es) new
a_map_is_held w root pages es place old new sealed taken holds needed =
    hold_stands place old new sealed taken (record { spelled = a_map_rests_on_its_pages w (length old.marks) root pages es (reads old) holds; needed = needed })

-- a map that a hold needs is there
pub a_held_map_is_there : (w : Widths) (root : ℕ) (pages : List ℕ) (es : List Item) (place : HoldPlace) (store : Store)
    → StandsHeld place (λ p. Contains pages p) (IsMap w (length store.marks) root pages es) store → HoldsMap w store root pages es
a_held_map_is_there w root pages es place store stands = stands.spelled.anywhere (reads store) (λ p here. refl)
