-- What a whole file promises as a table's file of any layout does.
use Rattle.std.specs.Prelude.{◌≡◌, ◌+◌, ◌≤◌, ℕ, Bool, true, false, List, length, Option, None, Some, option_map, IsTrue}
use Rattle.std.proofs.Common.{refl, sym, ◌∙◌, ap, subst, arith}
use Rattle.std.proofs.lemmas.Option.{same_Some}
use mathlib.Core.Logic.{∥∥₁_elim}
use denote.Struct.Props.{props}
use Rattle.sector_disk.specs.Disk.{Image}
use Rattle.sector_disk.specs.lemmas.Moments.{leaves_more, still_honest}
use Rattle.page_store.specs.declared.marks.Mark.{Mark}
use Rattle.page_store.specs.declared.marks.Mark.TheVariants.{Committed, Waiting, Fresh, Released, Free, Past}
use Rattle.page_store.specs.Marks.{mark, free_count, needs, is_past, rests}
use Rattle.page_store.specs.Spelled.{IsCalm}
use Rattle.page_store.specs.Store.{Store, IsSoundStore, StoreWorks, reads}
use Rattle.page_store.specs.lemmas.Carried.{saved_spells}
use Rattle.page_store.specs.lemmas.Counts.{rest_free}
use Rattle.retrograde.specs.Stored.{Stored, IsTable}
use Rattle.game_file.specs.Fields.{commits_in, layout_in, goal_numbered, SaysPages}
use Rattle.table.specs.declared.fault.TableFault.{TableFault}
use Rattle.table.specs.declared.fault.TableFault.TheVariants.{Disk as DiskFailed, Damaged, TableFull, OutOfMemory, Closed}
use Rattle.game_file.specs.Calls.{IsAsked}
use Rattle.game_file.specs.Causes.{FileTableCause}
use Rattle.game_file.specs.Kept.{Kept, goal_kept, kept_as, packing_kept, text_kept}
use Rattle.game_file.specs.State.{GoesAhead}
use Rattle.game_file.specs.Stops.{LeavesNow, LeavesTable}
use Rattle.tree_table.specs.declared.slot.TreeSlot.{TreeSlot}
use Rattle.tree_table.specs.Held.{StoresTrees}
use Rattle.tree_table.specs.KeptTrees.{IsKeptInTrees, IsStill, slot_or_bare}
use Rattle.tree_table.specs.Slot.{slot_in}
use Rattle.tree_table.specs.Spelled.{table_in}
use Rattle.tree_table.specs.WorkTable.{HoldsWork, IsHonestWork, NoAnswerCause, table_now}
use Rattle.tree_table.specs.lemmas.KeptPages.{kept_is_held, kept_stands, kept_stays, spells_stores_trees}
use Rattle.tree_table.specs.lemmas.SpelledTable.{table_is}
use Rattle.tree_table.specs.lemmas.StandingTable.{still_keeps, works_still}
use Rattle.tree_file.specs.Calls.{FileStays, FileFails}
use Rattle.tree_file.specs.Older.{IsOlderTable}
use Rattle.tree_file.specs.File.{File, NamesSlot, IsWholeFile, kept_of, kept_with, counts_told, state_of}

-- between commands a stop leaves what is kept
pub whole_leaves : (layout : ℕ) (file : File) → IsWholeFile layout file → IsTrue file.work.store.disk.honest → file.work.store.closed ≡ false
    → LeavesNow (StoresTrees layout (length file.work.store.marks)) file.work.store.disk (kept_of file)
whole_leaves layout file whole honest is_open =
    let store = file.work.store in
    subst (λ (l : ℕ). LeavesNow (StoresTrees l (length store.marks)) store.disk (kept_of file)) whole.of_layout
    (kept_stays store (kept_of file) whole.says whole.room whole.sound.few (whole.kept honest) (whole.sound.safe honest is_open))

-- where no game is loaded all pages but the system page are free
pub no_game_is_free : {layout : ℕ} (file : File) → IsWholeFile layout file → file.game ≡ None
    → length file.work.store.marks ≤ free_count file.work.store.marks + 1
no_game_is_free file whole none = rest_free file.work.store.marks (whole.free none)

-- what is kept is what the committed root and its pages spell
pub kept_spells : (store : Store) (kept : Kept) → IsCalm store → IsKeptInTrees store (Some kept)
    → table_in (slot_in store.root) (reads store) ≡ kept.table
kept_spells store kept calm it =
    table_is (slot_in store.root) kept.text kept.table store it.keeps.slot.limits.known (kept_is_held store kept calm it)

-- what this slot spells still is what was kept
kept_same : (game : Option TreeSlot) (text : List ℕ) (old new : Store) → IsTrue old.disk.honest → IsStill old new → IsCalm new
    → NamesSlot old.root game
    → IsKeptInTrees old (kept_with game text (reads old)) → kept_with game text (reads new) ≡ kept_with game text (reads old)
kept_same None text old new honest still calm names it = refl
kept_same (Some slot) text old new honest still calm names it =
    let kept = kept_as text slot.packing (goal_numbered slot.goal) (table_in slot (reads old)) in
    let now = still_keeps old new (Some kept) honest still it in
    let root : slot ≡ slot_in new.root = names ∙ ap slot_in (sym still.root) in
    let table : table_in slot (reads new) ≡ table_in slot (reads old) = ap (λ (s : TreeSlot). table_in s (reads new)) root
    ∙ kept_spells new kept calm now in
    ap (λ (t : Stored (List ℕ)). Some (kept_as text slot.packing (goal_numbered slot.goal) t)) table

-- a page that the root does not need is free between commands
free_still : (m n : Mark) → IsTrue (rests n) → needs n ≡ needs m → (IsTrue (is_past n) → IsTrue (is_past m)) → m ≡ Free → n ≡ Free
free_still m Committed calm same past free = let never : true ≡ false = same ∙ ap needs free in absurd (cc)
free_still m Waiting calm same past free = cc
free_still m Fresh calm same past free = cc
free_still m Released calm same past free = cc
free_still m Free calm same past free = refl
free_still m Past calm same past free = let never : true ≡ false = sym (past refl) ∙ ap is_past free in absurd (cc)

-- what is kept by the same slot and text
pub as_kept : (one other : File) → other.game ≡ one.game → other.work.text ≡ one.work.text
    → kept_of other ≡ kept_with one.game one.work.text (reads other.work.store)
as_kept one other game text = λ i. kept_with (game i) (text i) (reads other.work.store)

pub text_same : (game : Option TreeSlot) (text : List ℕ) (bytes other : ℕ → List ℕ)
    → text_kept (kept_with game text bytes) ≡ text_kept (kept_with game text other)
text_same None text bytes other = refl
text_same (Some slot) text bytes other = refl

pub packing_same : (game : Option TreeSlot) (text : List ℕ) (bytes other : ℕ → List ℕ)
    → packing_kept (kept_with game text bytes) ≡ packing_kept (kept_with game text other)
packing_same None text bytes other = refl
packing_same (Some slot) text bytes other = refl

pub goal_same : (game : Option TreeSlot) (text : List ℕ) (bytes other : ℕ → List ℕ)
    → goal_kept (kept_with game text bytes) ≡ goal_kept (kept_with game text other)
goal_same None text bytes other = refl
goal_same (Some slot) text bytes other = refl

-- a later state of a whole file, whose root and its pages are as they were
module _ {layout : ℕ} (was new : File) (whole : IsWholeFile layout was) (still : IsStill was.work.store new.work.store) (game : new.game ≡ was.game)
    (text : new.work.text ≡ was.work.text)
    (calm : IsCalm new.work.store) where
  pub again_kept : IsTrue was.work.store.disk.honest → kept_of new ≡ kept_of was
  again_kept honest =
      as_kept was new game text
      ∙ kept_same was.game was.work.text was.work.store new.work.store honest still calm whole.names (whole.kept honest)

  pub again_text : text_kept (kept_of new) ≡ text_kept (kept_of was)
  again_text = ap text_kept (as_kept was new game text) ∙ text_same was.game was.work.text (reads new.work.store) (reads was.work.store)

  pub again_packing : packing_kept (kept_of new) ≡ packing_kept (kept_of was)
  again_packing =
      ap packing_kept (as_kept was new game text)
      ∙ packing_same was.game was.work.text (reads new.work.store) (reads was.work.store)

  pub again_goal : goal_kept (kept_of new) ≡ goal_kept (kept_of was)
  again_goal =
      ap goal_kept (as_kept was new game text)
      ∙ goal_same was.game was.work.text (reads new.work.store) (reads was.work.store)

  pub again_whole : IsSoundStore new.work.store → new.work.torn ≡ false → new.work.slot ≡ slot_or_bare new.game → IsWholeFile layout new
  again_whole sound torn slot = record {
    sound = sound;
    of_layout = ap layout_in still.root ∙ whole.of_layout;
    says = subst (λ (n : ℕ). SaysPages new.work.store.root n) (sym still.same_pages)
        (subst (λ (r : List ℕ). SaysPages r (length was.work.store.marks)) (sym still.root) whole.says);
    room = omega (arith, whole.room, still.same_pages);
    whole = torn;
    slot = slot;
    names = subst (λ (g : Option TreeSlot). NamesSlot new.work.store.root g) (sym game) (subst (λ (r : List ℕ). NamesSlot r was.game)
        (sym still.root) whole.names);
    calm = calm;
    free = λ none p some low.
        free_still (mark was.work.store.marks p) (mark new.work.store.marks p) (calm.each p) (still.needed p) (still.past p)
        (whole.free (sym game ∙ none) p some (omega (arith, low, still.same_pages)));
    kept = λ honest.
        let before = subst (λ (b : Bool). IsTrue b) still.goes_on.honest honest in
        subst (λ (k : Option Kept). IsKeptInTrees new.work.store k) (sym (again_kept before))
        (still_keeps was.work.store new.work.store (kept_of was) before still (whole.kept before));
  }

-- a call that commits nothing leaves what is kept, all the time
pub works_leaves : {layout : ℕ} (was : File) (now : Store) → IsWholeFile layout was → StoreWorks was.work.store now
    → IsTrue was.work.store.disk.honest → was.work.store.closed ≡ false
    → LeavesTable (StoresTrees layout (length was.work.store.marks)) was.work.store.disk now.disk (kept_of was)
works_leaves {layout} was now whole works honest is_open =
    let store = was.work.store in
    leaves_more (λ image saved. spells_stores_trees store.root layout (length store.marks) (kept_of was) image whole.of_layout whole.says
    whole.room whole.sound.few
    (saved_spells store (kept_stands store (kept_of was) (whole.kept honest)) image saved)) (works.leaves honest
    (whole.sound.safe honest is_open))

-- it is in a later state
pub works_ahead : (old new : File) → StoreWorks old.work.store new.work.store → GoesAhead (state_of old) (state_of new)
works_ahead old new works = record {
  goes_on = works.goes_on;
  same_size = works.same_size;
  failures = works.failures;
  capacity = works.same_pages;
  closes = works.closes;
}

-- the table of a whole file is what it keeps
pub whole_stored : (layout : ℕ) (file : File) (kept : Kept) → IsWholeFile layout file → IsTrue file.work.store.disk.honest → kept_of file ≡ Some kept
    → IsHonestWork file.work × (table_now file.work ≡ kept.table) × IsTable kept.table
whole_stored layout file kept whole honest is =
    let both = of_game file.game whole.slot is in
    let it : IsKeptInTrees file.work.store (Some kept) = subst (λ (k : Option Kept). IsKeptInTrees file.work.store k) is
    (whole.kept honest) in
    (record { disk = honest; whole = whole.whole }, both, it.keeps.table)
  where
    of_game : (game : Option TreeSlot) → file.work.slot ≡ slot_or_bare game
        → kept_with game file.work.text (reads file.work.store) ≡ Some kept
        → table_now file.work ≡ kept.table
    of_game None slot none = absurd (cc)
    of_game (Some s) slot some =
        ap (λ (x : TreeSlot). table_in x (reads file.work.store)) slot
        ∙ ap (λ (k : Kept). k.table) (same_Some (kept_as file.work.text s.packing (goal_numbered s.goal) (table_in s (reads file.work.store))) kept some)

-- the counts that the slot tells are those of the table at work
pub whole_counts : (layout : ℕ) (file : File) → IsWholeFile layout file
    → counts_told file.game ≡ option_map (λ (k : Kept). file.work.slot.sizes.counts) (kept_of file)
whole_counts layout file whole = of_game file.game whole.slot
  where
    of_game : (game : Option TreeSlot) → file.work.slot ≡ slot_or_bare game
        → counts_told game ≡ option_map (λ (k : Kept). file.work.slot.sizes.counts) (kept_with game file.work.text (reads file.work.store))
    of_game None slot = refl
    of_game (Some s) slot = ap (λ (x : TreeSlot). Some x.sizes.counts) (sym slot)

-- a question leaves it whole
pub whole_stays : (layout : ℕ) (old new : File) → IsSoundStore new.work.store → IsWholeFile layout old → FileStays old new
    → IsWholeFile layout new × IsAsked (StoresTrees layout) (state_of old) (state_of new)
whole_stays layout old new sound whole stays =
    let unchanged = stays.work.unchanged in
    let calm : IsCalm new.work.store = record {
      each = λ p. subst (λ (ms : List Mark). IsTrue (rests (mark ms p))) (sym unchanged.marks) (whole.calm.each p);
    } in
    let still = works_still stays.work.works in
    let is_whole = again_whole old new whole still stays.game stays.work.text calm sound (stays.work.torn ∙ whole.whole)
    (stays.work.slot ∙ whole.slot ∙ ap slot_or_bare (sym stays.game)) in (
      is_whole,
      record {
        ahead = works_ahead old new stays.work.works;
        commits = ap commits_in unchanged.root;
        counts = ap counts_told stays.game;
        text = again_text old new whole still stays.game stays.work.text calm;
        packing = again_packing old new whole still stays.game stays.work.text calm;
        goal = again_goal old new whole still stays.game stays.work.text calm;
        kept = again_kept old new whole still stays.game stays.work.text calm;
        closed = unchanged.closed;
        leaves = unchanged.leaves;
        since = λ honest is_open. works_leaves old new.work.store whole stays.work.works honest is_open;
        now = λ honest is_open.
            let later = still_honest stays.work.works.goes_on honest in
            subst (λ (n : ℕ). LeavesNow (StoresTrees layout n) new.work.store.disk (kept_of old)) stays.work.works.same_pages
            (subst (λ (k : Option Kept). LeavesNow (StoresTrees layout (length new.work.store.marks)) new.work.store.disk k)
            (again_kept old new whole still stays.game stays.work.text calm honest)
            (whole_leaves layout new is_whole later (unchanged.closed ∙ is_open)));
      },
    )

never_prop : IsProp ⊥
never_prop = hlevel props

-- a fault of its table has its cause
pub fails_for : (layout : ℕ) (old new : File) (fault : TableFault) → (IsHonestWork old.work → ∥ HoldsWork old.work ∥₁) → IsWholeFile layout old
    → FileFails old new fault
    → FileTableCause (state_of old) (state_of new) fault
fails_for layout old new fault holds whole fails = so fault fails.work.cause
  where
    so : (f : TableFault) → NoAnswerCause old.work new.work f → FileTableCause (state_of old) (state_of new) f
    so DiskFailed grew = grew
    so Damaged broken = λ honest.
        let work : IsHonestWork old.work = record { disk = honest; whole = whole.whole } in
        ∥∥₁_elim (holds work) never_prop (λ (h : HoldsWork old.work). broken (work, h))
    so TableFull none = tt
    so OutOfMemory cause = tt
    so Closed shut = shut

-- so it has after the command was given up
pub fails_for_later : (layout : ℕ) (old mid new : File) (fault : TableFault) → (IsHonestWork old.work → ∥ HoldsWork old.work ∥₁)
    → IsWholeFile layout old → FileFails old mid fault
    → new.work.store.failures ≡ mid.work.store.failures → FileTableCause (state_of old) (state_of new) fault
fails_for_later layout old mid new fault holds whole fails same =
    subst (λ (n : ℕ). FileTableCause (state_of old) (record (state_of new) { failures = n }) fault) (sym same)
    (as_cause fault (fails_for layout old mid fault holds whole fails))
  where
    as_cause : (f : TableFault) → FileTableCause (state_of old) (state_of mid) f
        → FileTableCause (state_of old) (record (state_of new) { failures = mid.work.store.failures }) f
    as_cause DiskFailed cause = cause
    as_cause Damaged cause = cause
    as_cause TableFull cause = cause
    as_cause OutOfMemory cause = cause
    as_cause Closed cause = cause

-- an image of an earlier layout stores no table of this one
pub older_none : (layout pages : ℕ) (image : Image) (kept : Option Kept) → IsOlderTable layout image → StoresTrees layout pages image kept
    → ⊥
older_none layout pages image kept older stores =
    let same : older.root ≡ stores.root = sym older.holds.is ∙ stores.holds.is in
    omega (arith, older.older.1, ap layout_in same, stores.same_layout)
