-- The descent to a leaf.
use Rattle.std.proofs.Common.{◌≡◌, inl, inr, ℕ, ◌+◌, ◌≤◌, List, Option, None, length, IsTrue, sym, ◌∙◌, ap, subst, arith}
use Rattle.std.specs.Option.{option_or}
use Rattle.sector_disk.specs.lemmas.Moments.{still_honest}
use Rattle.page_store.specs.declared.fault.PageFault.{PageFault}
use Rattle.page_store.specs.declared.fault.PageFault.TheVariants.{Disk, NotATable, Damaged, TableFull, OutOfMemory, Closed}
use Rattle.page_store.specs.Causes.{PageReadCause as PageCause}
use Rattle.page_store.specs.Store.{Store, reads, StoreWorks, IsUnchanged}
use Rattle.page_store.specs.lemmas.Works.{works_refl, works_then}
use Rattle.btree.specs.declared.page.kind.Kind.{Kind}
use Rattle.btree.specs.declared.page.kind.Kind.TheVariants.{Leaf, Inner}
use Rattle.btree.specs.declared.page.widths.Widths.{Widths}
use Rattle.btree.specs.Page.{Item, items_in, child_of, IsPage}
use Rattle.btree.specs.Changes.{HoldsMap, MapReadCause}
use Rattle.btree.specs.lemmas.Unchanged.{unchanged_refl, unchanged_then, unchanged_reads, grew_before}
use Rattle.btree.specs.lemmas.Way.{IsWay, BelongsHere, way_begins, way_within, way_goes_on, way_has_kind, way_ends, way_down}
use Rattle.btree.specs.lemmas.Steps.{IsStepDown, ReachesLeaf}

-- so far only pages were read, and the key belongs below this page
pub record IsReaching (w : Widths) (old now : Store) (root : ℕ) (key : List ℕ) (level page : ℕ) (next : Option (List ℕ)) : Type 0 where
  pub unchanged : IsUnchanged old now
  pub works : StoreWorks old now
  pub way : IsTrue old.disk.honest → (pages : List ℕ) (es : List Item) → HoldsMap w old root pages es
      → IsWay w (reads old) (length old.marks) es key level page next

pub starts : (w : Widths) (store : Store) (root : ℕ) (key : List ℕ) → (root ≡ 0 → ⊥) → IsReaching w store store root key 0 root None
starts w store root key some = record {
  unchanged = unchanged_refl store;
  works = works_refl store;
  way = λ honest pages es holds. way_begins w (reads store) (length store.marks) root pages es key some holds;
}

module _ (w : Widths) (old mid new : Store) (root : ℕ) (key : List ℕ) (level page : ℕ) (next : Option (List ℕ))
    (so_far : IsReaching w old mid root key level page next)
    (same : IsUnchanged mid new) (works : StoreWorks mid new) (bytes : List ℕ) (read : IsTrue mid.disk.honest → bytes ≡ reads mid page) where
  pub read_unchanged : IsUnchanged old new
  read_unchanged = unchanged_then so_far.works works so_far.unchanged same

  pub read_works : StoreWorks old new
  read_works = works_then so_far.works works

  read_as : IsTrue old.disk.honest → bytes ≡ reads old page
  read_as honest = read (still_honest so_far.works.goes_on honest) ∙ ap (λ (f : ℕ → List ℕ). f page) (unchanged_reads old mid honest so_far.unchanged)

  -- a page that is none of a tree
  pub read_damaged : ((kind : Kind) → IsPage w kind bytes → ⊥) → MapReadCause w root old new Damaged
  read_damaged none = λ honest pages es holds.
      way_has_kind w (reads old) (length old.marks) es key level page next (so_far.way honest pages es holds) ⊥
      (λ leaf. none Leaf (subst (λ (b : List ℕ). IsPage w Leaf b) (sym (read_as honest)) leaf))
      (λ inner. none Inner (subst (λ (b : List ℕ). IsPage w Inner b) (sym (read_as honest)) inner))

  -- the leaf
  pub read_leaf : IsPage w Leaf bytes → IsTrue old.disk.honest → ReachesLeaf w old root key bytes next
  read_leaf leaf honest = λ pages es holds.
      subst (λ (b : List ℕ). BelongsHere es key (items_in w Leaf b) next) (sym (read_as honest))
      (way_ends w (reads old) (length old.marks) es key level page next (so_far.way honest pages es holds)
      (subst (λ (b : List ℕ). IsPage w Leaf b) (read_as honest) leaf))

  -- an inner page
  pub read_inner : IsPage w Inner bytes → (child : ℕ) (behind : Option (List ℕ)) → IsStepDown w bytes key child behind
      → IsReaching w old new root key (level + 1) child (option_or behind next)
  read_inner inner child behind step = record {
    unchanged = read_unchanged;
    works = read_works;
    way = λ honest pages es holds.
        let is : bytes ≡ reads old page = read_as honest in
        let there : IsStepDown w (reads old page) key child behind = subst (λ (b : List ℕ). IsStepDown w b key child behind) is step in
        let down = way_down w (reads old) (length old.marks) es key level page there.place next there.child
        (so_far.way honest pages es holds) (subst (λ (b : List ℕ). IsPage w Inner b) is inner) there.fits there.got in
        subst (λ (p : ℕ). IsWay w (reads old) (length old.marks) es key (level + 1) p (option_or behind next)) (sym there.leads)
        (subst (λ (n : Option (List ℕ)). IsWay w (reads old) (length old.marks) es key (level + 1) (child_of there.child)
        (option_or n next)) (sym there.next_is) down);
  }

-- the next page is not read
pub read_cause : (w : Widths) (old mid new : Store) (root : ℕ) (key : List ℕ) (level page : ℕ) (next : Option (List ℕ))
    → IsReaching w old mid root key level page next → (fault : PageFault)
    → PageCause mid page new fault → MapReadCause w root old new fault
read_cause w old mid new root key level page next so_far Disk grew = grew_before old.failures mid.failures new.failures so_far.works.failures grew
read_cause w old mid new root key level page next so_far NotATable never = never
read_cause w old mid new root key level page next so_far Damaged outside = λ honest pages es holds.
    let within = way_within w (reads old) (length old.marks) es key level page next (so_far.way honest pages es holds) in
    elim outside [
      | inl none ↦ omega (arith, none, within.0)
      | inr past ↦ omega (arith, past, within.1, so_far.works.same_pages)
    ]
read_cause w old mid new root key level page next so_far TableFull never = never
read_cause w old mid new root key level page next so_far OutOfMemory never = never
read_cause w old mid new root key level page next so_far Closed closed = sym so_far.unchanged.closed ∙ closed

-- no map has more levels
pub too_deep : (w : Widths) (old now : Store) (root : ℕ) (key : List ℕ) (level page : ℕ) (next : Option (List ℕ))
    → IsReaching w old now root key level page next → 24 ≤ level
    → MapReadCause w root old now Damaged
too_deep w old now root key level page next so_far deep = λ honest pages es holds.
    omega (arith, deep, way_goes_on w (reads old) (length old.marks) es key level page next (so_far.way honest pages es holds))
