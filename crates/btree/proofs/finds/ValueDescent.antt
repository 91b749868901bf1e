-- The descent to the value at a key.
use Rattle.std.proofs.Common.{◌≡◌, inl, inr, ℕ, ◌+◌, ◌≤◌, List, Option, None, length, IsTrue, sym, ◌∙◌, ap, subst, arith}
use Rattle.std.specs.Option.{option_or}
use Rattle.sector_disk.specs.lemmas.Moments.{still_honest}
use Rattle.page_store.specs.declared.fault.PageFault.{PageFault}
use Rattle.page_store.specs.declared.fault.PageFault.TheVariants.{Disk, NotATable, Damaged, TableFull, OutOfMemory, Closed}
use Rattle.page_store.specs.Frames.{PagesRead}
use Rattle.page_store.specs.Store.{Store, reads, StoreWorks, IsUnchanged}
use Rattle.page_store.specs.lemmas.Works.{works_refl, works_then}
use Rattle.btree.specs.declared.page.kind.Kind.TheVariants.{Leaf, Inner}
use Rattle.btree.specs.declared.page.widths.Widths.{Widths}
use Rattle.btree.specs.Page.{Item, items_in, child_of, IsPage}
use Rattle.btree.specs.Changes.{HoldsMap, MapReadCause}
use Rattle.btree.specs.Entries.{Ascend, find_entry}
use Rattle.btree.specs.lemmas.Unchanged.{unchanged_refl, unchanged_then, unchanged_reads, grew_before}
use Rattle.btree.specs.lemmas.Way.{IsWay, way_begins, way_within, way_goes_on, way_has_kind, way_ends, way_down, reached_ascends, reached_finds}
use Rattle.btree.specs.lemmas.Seen.{LeadsOn, SeenCause}

-- so far only pages were read, and the key belongs below this page
pub record IsGoing (w : Widths) (old now : Store) (root : ℕ) (key : List ℕ) (level page : ℕ) : Type 0 where
  pub unchanged : IsUnchanged old now
  pub works : StoreWorks old now
  pub way : IsTrue old.disk.honest → (pages : List ℕ) (es : List Item) → HoldsMap w old root pages es
      → (next : Option (List ℕ)) × IsWay w (reads old) (length old.marks) es key level page next

pub sets_out : (w : Widths) (store : Store) (root : ℕ) (key : List ℕ) → (root ≡ 0 → ⊥) → IsGoing w store store root key 0 root
sets_out w store root key some = record {
  unchanged = unchanged_refl store;
  works = works_refl store;
  way = λ honest pages es holds. (None, way_begins w (reads store) (length store.marks) root pages es key some holds);
}

module _ (w : Widths) (old mid new : Store) (root : ℕ) (key : List ℕ) (level page : ℕ) (so_far : IsGoing w old mid root key level page)
    (same : IsUnchanged mid new) (works : StoreWorks mid new) where
  pub went_unchanged : IsUnchanged old new
  went_unchanged = unchanged_then so_far.works works so_far.unchanged same

  pub went_works : StoreWorks old new
  went_works = works_then so_far.works works

  pub went_read : PagesRead old new
  went_read = record { unchanged = went_unchanged; works = went_works }

  as_before : IsTrue old.disk.honest → reads mid page ≡ reads old page
  as_before honest = ap (λ (f : ℕ → List ℕ). f page) (unchanged_reads old mid honest so_far.unchanged)

  -- the leaf has what the map has
  pub ends_there : (answer : Option (List ℕ))
      → (IsTrue mid.disk.honest → IsPage w Leaf (reads mid page)
      × (Ascend (items_in w Leaf (reads mid page)) → answer ≡ find_entry (items_in w Leaf (reads mid page)) key))
      → IsTrue old.disk.honest → (pages : List ℕ) (es : List Item) → HoldsMap w old root pages es → answer ≡ find_entry es key
  ends_there answer seen honest pages es holds =
      let is = as_before honest in
      let (leaf, finds) = seen (still_honest so_far.works.goes_on honest) in
      let (next, way) = so_far.way honest pages es holds in
      let here = items_in w Leaf (reads old page) in
      let reached = way_ends w (reads old) (length old.marks) es key level page next way (subst (λ (b : List ℕ). IsPage w Leaf b) is leaf) in
      subst (λ (b : List ℕ). Ascend (items_in w Leaf b) → answer ≡ find_entry (items_in w Leaf b) key) is finds (reached_ascends es key here next reached)
      ∙ sym (reached_finds es key here next reached)

  -- an inner page leads on
  pub goes_on_to : (child : ℕ) → (IsTrue mid.disk.honest → IsPage w Inner (reads mid page) × LeadsOn w (reads mid page) key child)
      → IsGoing w old new root key (level + 1) child
  goes_on_to child seen = record {
    unchanged = went_unchanged;
    works = went_works;
    way = λ honest pages es holds.
        let (inner, leads) = subst (λ (b : List ℕ). IsPage w Inner b × LeadsOn w b key child) (as_before honest)
        (seen (still_honest so_far.works.goes_on honest)) in
        let (behind, step) = leads in
        let (next, way) = so_far.way honest pages es holds in
        let down = way_down w (reads old) (length old.marks) es key level page step.place next step.child way inner step.fits step.got in (
          option_or behind next,
          subst (λ (p : ℕ). IsWay w (reads old) (length old.marks) es key (level + 1) p (option_or behind next)) (sym step.leads)
              (subst (λ (n : Option (List ℕ)). IsWay w (reads old) (length old.marks) es key (level + 1) (child_of step.child)
              (option_or n next)) (sym step.next_is) down),
        );
  }

  -- the page is not seen
  pub unseen : (fault : PageFault) → SeenCause w page mid new fault → MapReadCause w root old new fault
  unseen Disk grew = grew_before old.failures mid.failures new.failures so_far.works.failures grew
  unseen NotATable never = never
  unseen Damaged (inl outside) = λ honest pages es holds.
      let (next, way) = so_far.way honest pages es holds in
      let within = way_within w (reads old) (length old.marks) es key level page next way in
      elim outside [
        | inl none ↦ omega (arith, none, within.0)
        | inr past ↦ omega (arith, past, within.1, so_far.works.same_pages)
      ]
  unseen Damaged (inr none) = λ honest pages es holds.
      let (next, way) = so_far.way honest pages es holds in
      let no = none (still_honest so_far.works.goes_on honest) in
      way_has_kind w (reads old) (length old.marks) es key level page next way ⊥
      (λ leaf. no Leaf (subst (λ (b : List ℕ). IsPage w Leaf b) (sym (as_before honest)) leaf))
      (λ inner. no Inner (subst (λ (b : List ℕ). IsPage w Inner b) (sym (as_before honest)) inner))
  unseen TableFull never = never
  unseen OutOfMemory never = never
  unseen Closed closed = sym so_far.unchanged.closed ∙ closed

-- no map has more levels
pub too_far : (w : Widths) (old now : Store) (root : ℕ) (key : List ℕ) (level page : ℕ) → IsGoing w old now root key level page → 24 ≤ level
    → MapReadCause w root old now Damaged
too_far w old now root key level page so_far deep = λ honest pages es holds.
    let (next, way) = so_far.way honest pages es holds in
    omega (arith, deep, way_goes_on w (reads old) (length old.marks) es key level page next way)
