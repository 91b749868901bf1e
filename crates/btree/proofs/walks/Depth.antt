-- The way down to the first leaf, which tells how deep a tree is.
use Rattle.std.proofs.Common.{◌≡◌, ◌≢◌, ◌⊎◌, inl, inr, ℕ, zero, suc, ◌+◌, ◌≤◌, ◌<◌, List, Some, length, Contains, IsTrue, sym, ◌∙◌, ap, subst, arith}
use Rattle.std.specs.List.{flat_map, slice_get}
use Rattle.sector_disk.specs.lemmas.Moments.{still_honest}
use Rattle.page_store.specs.Causes.{PageReadCause}
use Rattle.page_store.specs.declared.fault.PageFault.{PageFault}
use Rattle.page_store.specs.declared.fault.PageFault.TheVariants.{Disk, NotATable, Damaged, TableFull, OutOfMemory, Closed}
use Rattle.page_store.specs.Store.{Store, reads, StoreWorks, IsUnchanged}
use Rattle.page_store.specs.lemmas.Works.{works_refl, works_then}
use Rattle.btree.specs.declared.page.kind.Kind.{Kind}
use Rattle.btree.specs.declared.page.kind.Kind.TheVariants.{Leaf, Inner}
use Rattle.btree.specs.declared.page.widths.Widths.{Widths}
use Rattle.btree.specs.Page.{Item, IsPage, items_in, child_of}
use Rattle.btree.specs.Changes.{HoldsMap, MapReadCause}
use Rattle.btree.specs.Entries.{first_key}
use Rattle.btree.specs.lemmas.Laws.{contains_root, contains_later}
use Rattle.btree.specs.lemmas.Parts.{all_got, contains_part}
use Rattle.btree.specs.lemmas.Unchanged.{unchanged_refl, unchanged_then, unchanged_reads, grew_before}
use Rattle.btree.specs.Tree.{entries_below, pages_below, IsTree, IsRooted}

-- of a tree of this depth below the root, the part below this page on this level
pub record IsBelow (w : Widths) (bytes : ℕ → List ℕ) (root d level page : ℕ) : Type 0 where
  pub rest : ℕ
  pub deep : d ≡ level + rest
  pub tree : IsTree w bytes rest page
  pub pages : (p : ℕ) → Contains (pages_below w bytes rest page) p → Contains (pages_below w bytes d root) p

module _ (w : Widths) (bytes : ℕ → List ℕ) (root d level page : ℕ) (below : IsBelow w bytes root d level page) where
  -- it is a leaf or an inner page
  pub below_kind : (P : Type 0) → (IsPage w Leaf (bytes page) → P) → (IsPage w Inner (bytes page) → P) → P
  below_kind P leaf inner = by_depth below.rest below.tree
    where
      by_depth : (e : ℕ) → IsTree w bytes e page → P
      by_depth zero tree = leaf tree
      by_depth (suc e) tree = inner tree.0

  pub below_ends : IsPage w Leaf (bytes page) → d ≡ level
  below_ends leaf = by_depth below.rest below.tree below.deep
    where
      by_depth : (e : ℕ) → IsTree w bytes e page → d ≡ level + e → d ≡ level
      by_depth zero tree deep = omega (arith, deep)
      by_depth (suc e) tree deep = absurd (omega (arith, leaf.first, tree.0.first))

  pub below_child : (c : Item) → IsPage w Inner (bytes page) → slice_get (items_in w Inner (bytes page)) 0 ≡ Some c
      → IsBelow w bytes root d (level + 1) (child_of c)
  below_child c inner got = by_depth below.rest below.tree below.deep below.pages
    where
      by_depth : (e : ℕ) → IsTree w bytes e page → d ≡ level + e → ((p : ℕ) → Contains (pages_below w bytes e page) p → Contains (pages_below w bytes d root) p)
          → IsBelow w bytes root d (level + 1) (child_of c)
      by_depth zero tree deep pages = absurd (omega (arith, inner.first, tree.first))
      by_depth (suc e) tree deep pages = record {
        rest = e;
        deep = omega (arith, deep);
        tree = (all_got (λ i. IsTree w bytes e (child_of i) × (first_key (entries_below w bytes e (child_of i)) ≡ Some i.0))
            (items_in w Inner (bytes page)) 0 c tree.1 got).0;
        pages = λ p here. pages p (contains_later page p (flat_map (λ i. pages_below w bytes e (child_of i)) (items_in w Inner (bytes page)))
            (contains_part (λ i. pages_below w bytes e (child_of i)) (items_in w Inner (bytes page)) 0 c p got here));
      }

-- so far only pages were read, down to this one
pub record IsDescending (w : Widths) (old now : Store) (root level page : ℕ) : Type 0 where
  pub unchanged : IsUnchanged old now
  pub works : StoreWorks old now
  pub below : IsTrue old.disk.honest → (d : ℕ) → IsTree w (reads old) d root → IsBelow w (reads old) root d level page

pub at_root : (w : Widths) (store : Store) (root : ℕ) → IsDescending w store store root 0 root
at_root w store root = record {
  unchanged = unchanged_refl store;
  works = works_refl store;
  below = λ honest d tree. record { rest = d; deep = omega arith; tree = tree; pages = λ p here. here };
}

-- what no tree below the root has, no map has
no_map : (w : Widths) (old : Store) (root : ℕ) → root ≢ 0
    → ((pages : List ℕ) (es : List Item) → IsRooted w (length old.marks) root pages es (reads old) → ⊥) → (pages : List ℕ) (es : List Item)
    → HoldsMap w old root pages es → ⊥
no_map w old root some not pages es (inl empty) = some empty.at_none
no_map w old root some not pages es (inr map) = not pages es map

module _ (w : Widths) (old mid new : Store) (root level page : ℕ) (some : root ≢ 0) (so_far : IsDescending w old mid root level page) where
  -- the page is not read
  pub descent_fails : (fault : PageFault) → PageReadCause mid page new fault → MapReadCause w root old new fault
  descent_fails Disk grew = grew_before old.failures mid.failures new.failures so_far.works.failures grew
  descent_fails NotATable never = never
  descent_fails Damaged outside = λ honest. no_map w old root some (λ pages es map.
      let below = so_far.below honest map.depth map.tree in
      let there = map.within page (subst (λ (ps : List ℕ). Contains ps page) map.pages_are (below.pages page (contains_root w (reads old) below.rest page))) in
      out outside there)
    where
      out : (page ≡ 0) ⊎ (length mid.marks ≤ page) → (1 ≤ page) × (page < length old.marks) → ⊥
      out (inl none) there = omega (arith, none, there.0)
      out (inr past) there = omega (arith, past, there.1, so_far.works.same_pages)
  descent_fails TableFull never = never
  descent_fails OutOfMemory never = never
  descent_fails Closed closed = sym so_far.unchanged.closed ∙ closed

  -- no map has more levels
  pub too_deep : 24 ≤ level → MapReadCause w root old new Damaged
  too_deep deep = λ honest. no_map w old root some (λ pages es map.
      let below = so_far.below honest map.depth map.tree in
      omega (arith, deep, below.deep, map.shallow))

  module _ (same : IsUnchanged mid new) (works : StoreWorks mid new) (body : List ℕ) (read : IsTrue mid.disk.honest → body ≡ reads mid page) where
    read_as : IsTrue old.disk.honest → body ≡ reads old page
    read_as honest = read (still_honest so_far.works.goes_on honest) ∙ ap (λ (f : ℕ → List ℕ). f page) (unchanged_reads old mid honest so_far.unchanged)

    pub descent_unchanged : IsUnchanged old new
    descent_unchanged = unchanged_then so_far.works works so_far.unchanged same

    pub descent_works : StoreWorks old new
    descent_works = works_then so_far.works works

    pub no_kind : ((kind : Kind) → IsPage w kind body → ⊥) → MapReadCause w root old new Damaged
    no_kind none = λ honest. no_map w old root some (λ pages es map.
        below_kind w (reads old) root map.depth level page (so_far.below honest map.depth map.tree) ⊥
        (λ leaf. none Leaf (subst (IsPage w Leaf) (sym (read_as honest)) leaf))
        (λ inner. none Inner (subst (IsPage w Inner) (sym (read_as honest)) inner)))

    pub at_leaf : IsPage w Leaf body → IsTrue old.disk.honest → (d : ℕ) → IsTree w (reads old) d root → d ≡ level
    at_leaf leaf honest d tree = below_ends w (reads old) root d level page (so_far.below honest d tree) (subst (IsPage w Leaf) (read_as honest) leaf)

    pub at_inner : (c : Item) (child : ℕ) → IsPage w Inner body → slice_get (items_in w Inner body) 0 ≡ Some c → child ≡ child_of c
        → IsDescending w old new root (level + 1) child
    at_inner c child inner got leads = record {
      unchanged = descent_unchanged;
      works = descent_works;
      below = λ honest d tree. subst (λ (p : ℕ). IsBelow w (reads old) root d (level + 1) p) (sym leads)
          (below_child w (reads old) root d level page (so_far.below honest d tree) c (subst (IsPage w Inner) (read_as honest) inner)
          (subst (λ (b : List ℕ). slice_get (items_in w Inner b) 0 ≡ Some c) (read_as honest) got));
    }
