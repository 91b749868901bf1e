-- A map with one entry put.
use Rattle.std.proofs.Common.{◌≡◌, ℕ, suc, ◌+◌, ◌<◌, ◌≤◌, List, [], ◌∷◌, None, Some, All, Contains, Result, Ok, Err, IfOk, IfErr, OnOk, length, IsTrue, refl, sym, ◌∙◌, ap, subst, inl, inr, arith, append-nil}
use Rattle.std.proofs.lemmas.List.Elements.{All-head}
use Rattle.std.specs.List.{flat_map, slice_get}
use Rattle.page_store.specs.declared.fault.PageFault.{PageFault}
use Rattle.page_store.specs.declared.fault.PageFault.TheVariants.{Disk, NotATable, Damaged, TableFull, OutOfMemory, Closed}
use Rattle.page_store.specs.Frames.{PagesRefused}
use Rattle.page_store.specs.Marks.{mark, free_count}
use Rattle.page_store.specs.Store.{Store, reads, StoreWorks}
use Rattle.btree.specs.declared.page.kind.Kind.TheVariants.{Leaf, Inner}
use Rattle.btree.specs.declared.page.widths.Widths.{Widths}
use Rattle.btree.specs.Page.{Item, IsPage, items_in, child_of}
use Rattle.btree.specs.Changes.{AreHeld, HoldsMap, TakePlace, MapPutCause}
use Rattle.btree.specs.Entries.{Ascend, find_entry, put_entry}
use Rattle.btree.specs.lemmas.PutFrame.{a_map_is_shallow}
use Rattle.btree.specs.lemmas.Laws.{contains_first, not_empty, none_contained}
use Rattle.btree.specs.lemmas.Order.{ascend_none}
use Rattle.btree.specs.lemmas.PutEntries.{puts_ascend}
use Rattle.btree.specs.lemmas.Replacements.{take_then, only_one}
use Rattle.btree.specs.Tree.{entries_below, pages_below, IsTree, IsRooted, IsEmpty, IsMap}
use Rattle.btree.specs.lemmas.Causes.{WriteCause, BelowCause, IsReadable}
use Rattle.btree.specs.lemmas.Growth.{IsGrowing, IsGrownTree}
use Rattle.btree.specs.lemmas.Once.{contains_cons, once_cons}
use Rattle.std.proofs.lemmas.Result.{IfErr-weaker}
use Rattle.page_store.specs.lemmas.Frames.{refused_since}
use Rattle.btree.proofs.puts.Faults.{cause_since}
use Rattle.btree.proofs.puts.Replacements.{IsUnion, held_not_free, take_beside}
use Rattle.btree.proofs.puts.Levels.{pages_at, entries_at, IsBranch, pages_stay, entries_stay, branches_stay, union_first}
use Rattle.btree.proofs.puts.WrittenItems.{once_one}

-- a map whose root is not 0 has a tree
rooted : (w : Widths) (capacity root : ℕ) (pages : List ℕ) (es : List Item) (bytes : ℕ → List ℕ) → (root ≡ 0 → ⊥)
    → IsMap w capacity root pages es bytes → IsRooted w capacity root pages es bytes
rooted w capacity root pages es bytes some (inl empty) = absurd (some empty.at_none)
rooted w capacity root pages es bytes some (inr map) = map

empty_at : (w : Widths) (capacity root : ℕ) (pages : List ℕ) (es : List Item) (bytes : ℕ → List ℕ) → root ≡ 0
    → IsMap w capacity root pages es bytes → IsEmpty root pages es
empty_at w capacity root pages es bytes none (inl empty) = empty
empty_at w capacity root pages es bytes none (inr map) = absurd (not_empty w capacity root pages es bytes none map)

-- the first entry
pub first_put : (w : Widths) (key value : List ℕ) (root q : ℕ) (pages : List ℕ) (es : List Item) (old new : Store) → StoreWorks old new
    → root ≡ 0 → HoldsMap w old root pages es
    → 1 ≤ q → q < length old.marks → TakePlace [] (q ∷ []) old new → IsPage w Leaf (reads new q) → items_in w Leaf (reads new q) ≡ (key, value) ∷ []
    → (others : List ℕ) × HoldsMap w new q others (put_entry es key value) × TakePlace pages others old new
first_put w key value root q pages es old new works none holds is_page there place form items =
    let empty = empty_at w (length old.marks) root pages es (reads old) none holds in (
      q ∷ [],
      inr (record {
        depth = 0;
        shallow = omega arith;
        tree = form;
        pages_are = refl;
        entries_are = items ∙ ap (λ (fs : List Item). put_entry fs key value) (sym empty.no_entry);
        ascending = subst (λ (fs : List Item). Ascend (put_entry fs key value)) (sym empty.no_entry) (puts_ascend [] key value ascend_none);
        within = λ p here. let is : p ≡ q = only_one q p here in (omega (arith, is, is_page), omega (arith, is, there, works.same_pages));
        once = once_one q;
      }),
      subst (λ (ps : List ℕ). TakePlace ps (q ∷ []) old new) (sym empty.no_page) place,
    )

-- a tree that is that of a map
module _ (w : Widths) (root : ℕ) (pages : List ℕ) (es : List Item) (old : Store) (map : IsRooted w (length old.marks) root pages es (reads old)) where
  pub grows : AreHeld old.marks pages → IsGrowing w map.depth root old
  grows held = record {
    tree = map.tree;
    ascending = subst Ascend (sym map.entries_are) map.ascending;
    held = subst (AreHeld old.marks) (sym map.pages_are) held;
    there = λ p here. map.within p (subst (λ (ps : List ℕ). Contains ps p) map.pages_are here);
    once = λ i j p. subst (λ (ps : List ℕ). slice_get ps i ≡ Some p → slice_get ps j ≡ Some p → i ≡ j) (sym map.pages_are) (map.once i j p);
  }

  readable : IsReadable w 23 root old
  readable = record {
    depth = map.depth;
    shallow = omega (arith, map.shallow);
    tree = map.tree;
    within = λ p here. map.within p (subst (λ (ps : List ℕ). Contains ps p) map.pages_are here);
  }

-- a key that its tree does not have
pub not_there : (w : Widths) (key : List ℕ) (root : ℕ) (pages : List ℕ) (es : List Item) (old : Store) → (root ≡ 0 → ⊥) → HoldsMap w old root pages es
    → AreHeld old.marks pages → ((d : ℕ) → IsGrowing w d root old → None ≡ find_entry (entries_below w (reads old) d root) key) → find_entry es key ≡ None
not_there w key root pages es old some holds held none =
    let map : IsRooted w (length old.marks) root pages es (reads old) = rooted w (length old.marks) root pages es (reads old) some holds in
    ap (λ (fs : List Item). find_entry fs key) (sym map.entries_are) ∙ sym (none map.depth (grows w root pages es old map held))

-- an entry is not put
pub put_fails : (w : Widths) (root : ℕ) (old new : Store) (fault : PageFault) → (root ≡ 0 → ⊥) → BelowCause w 23 root old new fault
    → MapPutCause w root old new fault
put_fails w root old new Disk some cause = cause
put_fails w root old new NotATable some cause = cause
put_fails w root old new Damaged some cause = λ honest pages es holds.
    cause honest (readable w root pages es old (rooted w (length old.marks) root pages es (reads old) some holds))
put_fails w root old new TableFull some cause = cause
put_fails w root old new OutOfMemory some cause = cause
put_fails w root old new Closed some cause = cause

-- nothing is written
pub as_put : (w : Widths) (root : ℕ) (old new : Store) (fault : PageFault) → WriteCause old new fault → MapPutCause w root old new fault
as_put w root old new Disk cause = cause
as_put w root old new NotATable cause = absurd cause
as_put w root old new Damaged cause = absurd cause
as_put w root old new TableFull cause = cause
as_put w root old new OutOfMemory cause = absurd cause
as_put w root old new Closed cause = cause

-- lists of one and of two
one_listed : (tops : List Item) → length tops ≡ 1 → (c : Item) × (tops ≡ c ∷ [])
one_listed [] long = absurd (omega (arith, long))
one_listed (c ∷ []) long = (c, refl)
one_listed (c ∷ d ∷ tops) long = absurd (omega (arith, long))

module _ (w : Widths) (key value : List ℕ) (root : ℕ) (pages : List ℕ) (es : List Item) (tops : List Item) (old mid : Store)
    (works : StoreWorks old mid) (some : root ≡ 0 → ⊥) (few : length old.marks ≤ 1048576)
    (holds : HoldsMap w old root pages es) (held : AreHeld old.marks pages)
    (grow : (d : ℕ) → IsGrowing w d root old → IsGrownTree w key value d root tops old mid) where
  map : IsRooted w (length old.marks) root pages es (reads old)
  map = rooted w (length old.marks) root pages es (reads old) some holds

  grown : IsGrownTree w key value map.depth root tops old mid
  grown = grow map.depth (grows w root pages es old map held)

  put_is : put_entry (entries_below w (reads old) map.depth root) key value ≡ put_entry es key value
  put_is = ap (λ (fs : List Item). put_entry fs key value) map.entries_are

  -- the page of its root is one
  pub put_one : (next : ℕ) → length tops ≡ 1 → ((c : Item) → slice_get tops 0 ≡ Some c → next ≡ child_of c)
      → (others : List ℕ) × HoldsMap w mid next others (put_entry es key value) × TakePlace pages others old mid
  put_one next long leads =
      let one = one_listed tops long in
      let c = one.0 in
      let is : next ≡ child_of c = leads c (ap (λ (ts : List Item). slice_get ts 0) one.1) in
      let below = flat_map (pages_at w (reads mid) map.depth) tops in
      let same : below ≡ pages_below w (reads mid) map.depth next =
      ap (flat_map (pages_at w (reads mid) map.depth)) one.1 ∙ append-nil (pages_below w (reads mid) map.depth (child_of c))
      ∙ ap (pages_below w (reads mid) map.depth) (sym is) in (
        below,
        inr (record {
          depth = map.depth;
          shallow = map.shallow;
          tree = subst (IsTree w (reads mid) map.depth) (sym is)
              (All-head (IsBranch w (reads mid) map.depth) c [] (subst (All (IsBranch w (reads mid) map.depth)) one.1 grown.trees)).0;
          pages_are = sym same;
          entries_are = ap (entries_below w (reads mid) map.depth) is ∙ sym (append-nil (entries_below w (reads mid) map.depth (child_of c)))
              ∙ sym (ap (flat_map (entries_at w (reads mid) map.depth)) one.1) ∙ grown.entries ∙ put_is;
          ascending = puts_ascend es key value map.ascending;
          within = λ p here. let known = grown.there p here in (known.0, subst (λ (n : ℕ). p < n) (sym works.same_pages) known.1);
          once = grown.once;
        }),
        subst (λ (ps : List ℕ). TakePlace ps below old mid) map.pages_are grown.place,
      )

  -- it becomes two, and a page leads to them
  pub put_two : (q : ℕ) (new : Store) → IsTrue mid.disk.honest → StoreWorks mid new → 1 ≤ q → q < length mid.marks
      → TakePlace [] (q ∷ []) mid new → IsPage w Inner (reads new q)
      → items_in w Inner (reads new q) ≡ tops → (others : List ℕ) × HoldsMap w new q others (put_entry es key value) × TakePlace pages others old new
  put_two q new honest more is_page there place form items = (
    q ∷ below,
    inr (record {
      depth = suc map.depth;
      shallow = omega (arith, a_map_is_shallow w (length old.marks) root pages es (reads old) map few);
      tree = (form, subst (All (IsBranch w (reads new) map.depth)) (sym items) (branches_stay w map.depth (reads mid) (reads new) tops same grown.trees));
      pages_are = ap (λ (ps : List ℕ). q ∷ ps)
          (ap (flat_map (pages_at w (reads new) map.depth)) items ∙ pages_stay w map.depth (reads mid) (reads new) tops same);
      entries_are = ap (flat_map (entries_at w (reads new) map.depth)) items ∙ entries_stay w map.depth (reads mid) (reads new) tops same
          ∙ grown.entries ∙ put_is;
      ascending = puts_ascend es key value map.ascending;
      within = within;
      once = once_cons q below (λ here. fresh q here refl) grown.once;
    }),
    subst (λ (ps : List ℕ). TakePlace ps (q ∷ below) old new) map.pages_are
        (take_then (λ p here. held p (subst (λ (ps : List ℕ). Contains ps p) map.pages_are here)) works grown.place
        (take_beside [] (q ∷ []) below below (q ∷ below) mid new union_none (union_first q below) grown.place.held
        (λ p here. absurd (none_contained p here)) place)),
  )
    where
      below : List ℕ
      below = flat_map (pages_at w (reads mid) map.depth) tops

      same : (p : ℕ) → Contains (flat_map (pages_at w (reads mid) map.depth) tops) p → reads new p ≡ reads mid p
      same p here = place.reads honest p (none_contained p) (held_not_free (mark mid.marks p) (grown.place.held p here))

      fresh : (p : ℕ) → Contains below p → p ≡ q → ⊥
      fresh p here is = elim (place.from q (contains_first q [])) [
        | inl none ↦ none_contained q none
        | inr free ↦ held_not_free (mark mid.marks p) (grown.place.held p here) (ap (mark mid.marks) is ∙ free)
      ]

      within : (p : ℕ) → Contains (q ∷ below) p → (1 ≤ p) × (p < length new.marks)
      within p here = elim (contains_cons q p below here) [
        | inl is ↦ (omega (arith, is, is_page), omega (arith, is, there, more.same_pages))
        | inr later ↦ let known = grown.there p later in (known.0, omega (arith, known.1, works.same_pages, more.same_pages))
      ]

      union_none : IsUnion [] below below
      union_none = record { split = λ p here. inr here; left = λ p here. absurd (none_contained p here); right = λ p here. here }

-- what each answer gives
pub on_ok_of : {X E B : Type 0} (A : X → Type 0) (r : Result X E) → ((x : X) → A x → B) → IfOk r A → OnOk r B
on_ok_of A (Ok x) gives a = gives x a
on_ok_of A (Err e) gives a = tt

-- pages are not written, so nothing is put
pub put_refused : {X : Type 0} (w : Widths) (root most more all : ℕ) (old mid new : Store) (r : Result X PageFault) → StoreWorks old mid
    → mid.closed ≡ old.closed
    → free_count old.marks ≤ free_count mid.marks + most → most + more ≤ all → IfErr r (PagesRefused Disk WriteCause more mid new)
    → IfErr r (PagesRefused Disk (MapPutCause w root) all old new)
put_refused w root most more all old mid new r works still took fits refused =
    IfErr-weaker r (PagesRefused Disk WriteCause more mid new) (PagesRefused Disk (MapPutCause w root) all old new)
    (λ fault it. refused_since most works still took fits (λ cause. as_put w root old new fault (cause_since old mid new fault works still cause)) it) refused
