-- A commit keeps what pages in use hold.
use Rattle.std.proofs.Common.{◌≡◌, ◌≢◌, ◌⊎◌, inl, inr, ℕ, ◌≤◌, ◌<◌, ◌^◌, Bool, true, false, List, length, Option, None, Some, Result, Ok, Err, IsTrue, refl, sym, ◌∙◌, ap, subst, arith}
use Rattle.std.specs.Prelude.{OnOk, OnErr, IfErr, IsErrOf}
use Rattle.sector_disk.specs.Disk.{GoesOn}
use Rattle.page_store.specs.declared.fault.PageFault.{PageFault}
use Rattle.page_store.specs.declared.fault.PageFault.TheVariants.{Disk, Closed}
use Rattle.page_store.specs.declared.marks.Mark.{Mark}
use Rattle.page_store.specs.declared.marks.Mark.TheVariants.{Committed, Waiting, Fresh}
use Rattle.page_store.specs.declared.holds.Holders.{Holders}
use Rattle.page_store.specs.Holds.{holders_at}
use Rattle.page_store.specs.Marks.{mark, needs, is_past, committed, IsNeeded, AreCommitted}
use Rattle.page_store.specs.lemmas.Carried.{committed_calm as carried_calm}
use Rattle.page_store.specs.Spelled.{IsCalm}
use Rattle.page_store.specs.Store.{Store, reads, IsCommitted}
use Rattle.retrograde.specs.Stored.{Stored}
use Rattle.btree.specs.Page.{Item}
use Rattle.tree_table.specs.declared.slot.TreeSlot.{TreeSlot}
use Rattle.tree_table.specs.declared.tree.Tree.{Tree}
use Rattle.tree_table.specs.Forest.{IsForest}
use Rattle.tree_table.specs.KeptTrees.{IsOneOf, IsStill, StandsInTrees, StandsFor, IsSizedSlot, AreSized, slot_or_bare}
use Rattle.tree_table.specs.Trees.{root_of}
use Rattle.tree_table.specs.WorkTable.{work_of, table_now, bare_slot, HoldsForest, HoldsTable, HoldsWork}
use Rattle.table.specs.Records.{nothing}
use Rattle.tree_table.specs.lemmas.KeptPages.{forest_rests}
use Rattle.tree_table.specs.lemmas.StandingTable.{stands_held}
use Rattle.btree.specs.lemmas.Laws.{a_map_is_prepared}
use Rattle.tree_table.proofs.Bare.{bare_holds}
use Rattle.tree_table.proofs.HeldTable.{holds_itself}

-- answers of one kind
pub on_ok : {X E : Type 0} (P Q : Type 0) (r : Result X E) → (P → Q) → OnOk r P → OnOk r Q
on_ok P Q (Ok x) so is = so is
on_ok P Q (Err e) so is = tt

pub on_err : {X E : Type 0} (P Q : Type 0) (r : Result X E) → (P → Q) → OnErr r P → OnErr r Q
on_err P Q (Ok x) so is = tt
on_err P Q (Err e) so is = so is

-- as many pages as before
pub commit_pages : (root : List ℕ) (old new : Store) (r : Result (Unit {0}) PageFault) → OnOk r (IsCommitted root old new)
    → OnErr r (new.marks ≡ old.marks) → length new.marks ≡ length old.marks
commit_pages root old new (Ok x) done left = done.marks.same_length
commit_pages root old new (Err e) done left = ap length left

-- a refusal leaves the root and its pages
pub commit_left : (old new : Store) (r : Result (Unit {0}) PageFault) → GoesOn old.disk new.disk → OnErr r (new.root ≡ old.root)
    → OnErr r (new.marks ≡ old.marks) → (IsTrue old.disk.honest → (p : ℕ) → 1 ≤ p → reads new p ≡ reads old p) → OnErr r (IsStill old new)
commit_left old new (Ok x) time root marks pages = tt
commit_left old new (Err e) time root marks pages = record {
  goes_on = time;
  root = root;
  same_pages = ap length marks;
  needed = λ p. ap (λ (ms : List Mark). needs (mark ms p)) marks;
  waiting = λ p is. ap (λ (ms : List Mark). mark ms p) (sym marks) ∙ is;
  past = λ p is. ap (λ (ms : List Mark). is_past (mark ms p)) (sym marks) ∙ is;
  reads = λ honest p needed. pages honest p needed.0;
}

-- a closed store stays closed
pub commit_shut : (old new : Store) (r : Result (Unit {0}) PageFault) → (old.closed ≡ true → IsErrOf r Closed)
    → IfErr r (λ fault. fault ≢ Disk → new ≡ old) → new.closed ≡ false → old.closed ≡ false
commit_shut old new r shut same is_open = by_cases old.closed refl
  where
    closed_still : (r : Result (Unit {0}) PageFault) → IsErrOf r Closed → IfErr r (λ fault. fault ≢ Disk → new ≡ old) → new ≡ old
    closed_still (Ok x) is same = absurd (cc)
    closed_still (Err f) is same = same (λ e. cc)

    by_cases : (b : Bool) → old.closed ≡ b → old.closed ≡ false
    by_cases false is = is
    by_cases true is =
        let same_store = closed_still r (shut is) same in
        let never : true ≡ false = sym is ∙ ap (λ (s : Store). s.closed) (sym same_store) ∙ is_open in
        absurd (cc)

-- pages in use that read as they did hold what they held
pub held_on : (slot : TreeSlot) (text : List ℕ) (table : Stored (List ℕ)) (old new : Store) → length new.marks ≡ length old.marks
    → ((p : ℕ) → (mark old.marks p ≡ Committed) ⊎ (mark old.marks p ≡ Fresh) → (mark new.marks p ≡ Committed) ⊎ (mark new.marks p ≡ Fresh))
    → ((p : ℕ) → 1 ≤ p → reads new p ≡ reads old p) → HoldsTable slot text table old → HoldsTable slot text table new
held_on slot text table old new long marks pages h = record {
  entries = h.entries;
  forest = record {
    text_pages = h.forest.text_pages;
    pages = h.forest.pages;
    forest =
        subst (λ (n : ℕ). IsForest slot.sizes.packed n slot.first slot.roots text h.forest.text_pages h.forest.pages h.entries (reads new)) (sym long)
        (forest_rests slot.sizes.packed (length old.marks) slot.first slot.roots text h.forest.text_pages h.forest.pages h.entries (reads old)
        h.forest.forest (reads new) (λ p here. pages p (some_page slot text h.entries old h.forest p here)));
    text_held = λ p here. marks p (h.forest.text_held p here);
    held = λ t p here. marks p (h.forest.held t p here);
  };
  spelled = h.spelled;
  counts = h.counts;
}
  where
    some_page : (slot : TreeSlot) (text : List ℕ) (entries : Tree → List Item) (store : Store) (h : HoldsForest slot text entries store) (p : ℕ)
        → IsOneOf h.text_pages h.pages p → 1 ≤ p
    some_page slot text entries store h p (inl here) = (h.forest.chain.within p here).0
    some_page slot text entries store h p (inr (t, here)) =
        let tree = h.forest.trees t in
        ((a_map_is_prepared tree.widths (length store.marks) (root_of slot.roots t) (h.pages t) (entries t) store (omega arith) tree.map
        (h.held t)).kept p here).0

-- marks after a commit
committed_mark : (h : Holders) (m : Mark) → (m ≡ Committed) ⊎ (m ≡ Fresh) → committed h m ≡ Committed
committed_mark h m (inl is) = ap (committed h) is
committed_mark h m (inr is) = ap (committed h) is

pub committed_held : (holders : List Holders) (old new : List Mark) → AreCommitted holders old new → (p : ℕ)
    → (mark old p ≡ Committed) ⊎ (mark old p ≡ Fresh) → mark new p ≡ Committed
committed_held holders old new marks p held = marks.each p ∙ committed_mark (holders_at holders p) (mark old p) held

pub committed_calm : (root : List ℕ) (old new : Store) → IsCommitted root old new → ((p : ℕ) → mark old.marks p ≡ Waiting → ⊥) → IsCalm new
committed_calm root old new done none = carried_calm root old new none done

-- whatever a commit answers, pages in use hold what they held
pub commit_holds : (root : List ℕ) (slot : TreeSlot) (text : List ℕ) (table : Stored (List ℕ)) (old new : Store) (r : Result (Unit {0}) PageFault)
    → OnOk r (IsCommitted root old new) → OnErr r (new.marks ≡ old.marks) → ((p : ℕ) → 1 ≤ p → reads new p ≡ reads old p)
    → HoldsTable slot text table old → HoldsTable slot text table new
commit_holds root slot text table old new (Ok x) done left pages h =
    held_on slot text table old new done.marks.same_length (λ p held. inl (committed_held old.holds.of old.marks new.marks done.marks p held)) pages h
commit_holds root slot text table old new (Err e) done left pages h =
    held_on slot text table old new (ap length left)
    (λ p held. subst (λ (ms : List Mark). (mark ms p ≡ Committed) ⊎ (mark ms p ≡ Fresh)) (sym left) held) pages h

-- so does a table at work
pub commit_work : (root : List ℕ) (slot : TreeSlot) (text : List ℕ) (torn : Bool) (old new : Store) (r : Result (Unit {0}) PageFault)
    → slot.sizes.counts.known ≤ 2 ^ 24
    → OnOk r (IsCommitted root old new) → OnErr r (new.marks ≡ old.marks) → ((p : ℕ) → 1 ≤ p → reads new p ≡ reads old p)
    → HoldsWork (work_of slot text torn old) → HoldsWork (work_of slot text torn new)
commit_work root slot text torn old new (Ok x) few done left pages h =
    holds_itself slot text (table_now (work_of slot text torn old)) new few
    (commit_holds root slot text (table_now (work_of slot text torn old)) old new (Ok x) done left pages h)
commit_work root slot text torn old new (Err e) few done left pages h =
    holds_itself slot text (table_now (work_of slot text torn old)) new few
    (held_on slot text (table_now (work_of slot text torn old)) old new (ap length left)
    (λ p held. subst (λ (ms : List Mark). (mark ms p ≡ Committed) ⊎ (mark ms p ≡ Fresh)) (sym left) held) pages h)

-- what pages in use held stands after it
pub committed_stands : (root : List ℕ) (slot : TreeSlot) (text : List ℕ) (table : Stored (List ℕ)) (old new : Store) → IsCommitted root old new
    → ((p : ℕ) → 1 ≤ p → reads new p ≡ reads old p) → HoldsTable slot text table old → StandsInTrees slot text new
unfolding held_on
committed_stands root slot text table old new done pages h =
    let on = held_on slot text table old new done.marks.same_length
    (λ p held. inl (committed_held old.holds.of old.marks new.marks done.marks p held)) pages h in
    record {
      table = table;
      text_pages = h.forest.text_pages;
      pages = h.forest.pages;
      entries = h.entries;
      forest = on.forest.forest;
      spelled = h.spelled;
      counts = h.counts;
      needed = named;
    }
  where
    at : (p : ℕ) → 1 ≤ p → p < length old.marks → (mark old.marks p ≡ Committed) ⊎ (mark old.marks p ≡ Fresh) → IsNeeded new.marks p
    at p some low held = (
      some,
      omega (arith, low, done.marks.same_length),
      subst (λ (m : Mark). IsTrue (needs m)) (sym (committed_held old.holds.of old.marks new.marks done.marks p held)) refl,
    )

    named : (p : ℕ) → IsOneOf h.forest.text_pages h.forest.pages p → IsNeeded new.marks p
    named p (inl here) =
        let (some, low) = h.forest.forest.chain.within p here in
        at p some low (h.forest.text_held p here)
    named p (inr (t, here)) =
        let tree = h.forest.forest.trees t in
        let kept = (a_map_is_prepared tree.widths (length old.marks) (root_of slot.roots t) (h.forest.pages t) (h.entries t) old
        (omega arith) tree.map (h.forest.held t)).kept p here in
        at p kept.0 kept.1 (h.forest.held t p here)

-- lengths of the slot of a game, or of the one that names no page
pub sized_slot : (game : Option TreeSlot) → AreSized game → IsSizedSlot (slot_or_bare game)
sized_slot None sized = record { some = omega arith; short = omega arith; few = omega arith; points = omega arith }
sized_slot (Some slot) sized = sized

-- between commands pages hold what stands
pub stands_holds : (game : Option TreeSlot) (text : List ℕ) (store : Store) → AreSized game → IsCalm store → StandsFor game text store
    → HoldsWork (work_of (slot_or_bare game) text false store)
stands_holds None text store sized calm is =
    holds_itself (bare_slot 1) text nothing store (omega arith)
    (subst (λ (x : List ℕ). HoldsTable (bare_slot 1) x nothing store) (sym is) (bare_holds 1 store (omega arith) (omega arith)))
stands_holds (Some slot) text store sized calm it = holds_itself slot text it.table store sized.few (stands_held slot text store calm it)
