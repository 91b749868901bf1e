-- A commit of another root over the same pages: what they spell is what they spelled.
use Rattle.std.proofs.Common.{◌≡◌, ◌≢◌, ◌⊎◌, inl, inr, ℕ, ◌≤◌, ◌<◌, false, true, List, length, Option, None, Some, IsTrue, refl, sym, ◌∙◌, ap, subst, arith}
use Rattle.std.specs.Prelude.{IfSome}
use Rattle.sector_disk.specs.Disk.{GoesOn, Grew, LeavesOnly}
use Rattle.sector_disk.specs.lemmas.Moments.{leaves_more, reads_left, still_honest}
use Rattle.position_pack.specs.declared.kind.PackingKind.{PackingKind}
use Rattle.page_store.specs.Causes.{StoreCommitCause}
use Rattle.page_store.specs.declared.fault.PageFault.{PageFault}
use Rattle.page_store.specs.declared.fault.PageFault.TheVariants as page
use Rattle.page_store.specs.declared.marks.Mark.{Mark}
use Rattle.page_store.specs.Holds.{holders_at}
use Rattle.page_store.specs.Marks.{mark, is_past, needs, rests}
use Rattle.page_store.specs.Spelled.{IsCalm}
use Rattle.page_store.specs.Store.{Store, IsSoundStore, Commits, IsCommitted, IsUnchanged, SavedAs, StopLeaves, reads}
use Rattle.page_store.specs.lemmas.Carried.{saved_spells}
use Rattle.retrograde.specs.Changes.{counts_of}
use Rattle.game_file.specs.Fields.{commits_in, goal_number_in, goal_numbered, layout_in, number_of_packing, packing_in, SaysPages}
use Rattle.game_file.specs.lemmas.Goals.{goal_has_place}
use Rattle.game_file.specs.Faults.{of_pages}
use Rattle.game_file.specs.declared.fault.FileFault.TheVariants.{Disk as DiskFailed}
use Rattle.game_file.specs.Kept.{Kept, goal_kept}
use Rattle.game_file.specs.State.{count_behind}
use Rattle.game_file.specs.Stops.{LeavesNow}
use Rattle.tree_table.specs.declared.slot.TreeSlot.{TreeSlot}
use Rattle.tree_table.specs.declared.tree.Tree.{Tree}
use Rattle.tree_table.specs.Entries.{AreEntriesOf}
use Rattle.tree_table.specs.Forest.{IsForest}
use Rattle.tree_table.specs.Held.{KeepsOnPages, StoresTrees}
use Rattle.tree_table.specs.KeptTrees.{IsKeptInTrees, IsStill, StandsFor, slot_or_bare}
use Rattle.tree_table.specs.Slot.{slot_in, IsGameTreeSlot}
use Rattle.tree_table.specs.WorkTable.{work_of}
use Rattle.tree_table.specs.lemmas.Growth.{rests_on}
use Rattle.tree_table.specs.lemmas.KeptPages.{kept_stands, spells_stores_trees}
use Rattle.tree_file.specs.File.{File, NamesSlot, IsWholeFile, file_of, kept_of, kept_with, state_of}
use Rattle.tree_file.specs.MoveCauses.{IsMoved, IsNotMoved, LeavesPages}
use Rattle.tree_file.specs.lemmas.Whole.{again_kept, again_whole, whole_leaves}

-- a root that names the same slot says the same of a game
module _ (old root : List ℕ) (same : slot_in root ≡ slot_in old) where
  game_under : (kind : PackingKind) (goal : Option ℕ) → packing_in root ≡ number_of_packing kind → IsGameTreeSlot old kind goal
      → IsGameTreeSlot root kind goal
  game_under kind goal packing it = record {
    packing = packing;
    goal = ap (λ (s : TreeSlot). goal_numbered s.goal) same ∙ it.goal;
    points = omega (arith, it.points, ap (λ (s : TreeSlot). s.goal) same);
    limits = rw (ap (λ (s : TreeSlot). s.sizes) same) it.limits;
    some = subst (λ (s : TreeSlot). 1 ≤ s.sizes.packed) (sym same) it.some;
  }

  pub keeps_under : (capacity : ℕ) (kept : Kept) (text_pages : List ℕ) (pages : Tree → List ℕ) (bytes : ℕ → List ℕ)
      → packing_in root ≡ number_of_packing kept.packing
      → KeepsOnPages old capacity kept text_pages pages bytes → KeepsOnPages root capacity kept text_pages pages bytes
  keeps_under capacity kept text_pages pages bytes packing it = record {
    slot = game_under kept.packing kept.goal packing it.slot;
    entries = it.entries;
    forest = subst (λ (s : TreeSlot). IsForest s.sizes.packed capacity s.first s.roots kept.text text_pages pages it.entries bytes)
        (sym same) it.forest;
    text = it.text ∙ ap (λ (s : TreeSlot). s.sizes.text) (sym same);
    spelled = subst (λ (s : TreeSlot). AreEntriesOf s.sizes it.entries kept.table) (sym same) it.spelled;
    table = it.table;
    counts = subst (λ (s : TreeSlot). counts_of kept.table ≡ s.sizes.counts) (sym same) it.counts;
  }

-- a store under another root; it counts as closed, so that nothing is said of a stop
abbrev pub store_under : List ℕ → Store → Store
store_under root store = record store { root = root; closed = true }

-- so a file
abbrev pub file_under : List ℕ → File → File
file_under root file = file_of (work_of file.work.slot file.work.text file.work.torn (store_under root file.work.store)) file.game

sound_under : (root : List ℕ) (store : Store) → IsSoundStore store → IsSoundStore (store_under root store)
sound_under root store sound = record {
  least = sound.least;
  fits = sound.fits;
  few = sound.few;
  system = sound.system;
  safe = λ honest is_open. let never : true ≡ false = is_open in absurd (cc);
  holds = sound.holds;
}

-- what is kept is kept under a root that names the same
kept_under : (root : List ℕ) (game : Option TreeSlot) (text : List ℕ) (store : Store) → NamesSlot store.root game → NamesSlot root game
    → IfSome game (λ slot. packing_in root ≡ number_of_packing slot.packing) → IsKeptInTrees store (kept_with game text (reads store))
    → IsKeptInTrees (store_under root store) (kept_with game text (reads store))
kept_under root None text store was now packing it =
    record { text_pages = it.text_pages; pages = it.pages; keeps = now; needed = it.needed }
kept_under root (Some slot) text store was now packing it = record {
  text_pages = it.text_pages;
  pages = it.pages;
  keeps = keeps_under store.root root (sym now ∙ was) (length store.marks) _ it.text_pages it.pages (reads store) packing it.keeps;
  needed = it.needed;
}

-- so is what stands
stands_under : (root : List ℕ) (game : Option TreeSlot) (text : List ℕ) (store : Store) → StandsFor game text store
    → StandsFor game text (store_under root store)
stands_under root None text store it = it
stands_under root (Some slot) text store it = record {
  table = it.table;
  text_pages = it.text_pages;
  pages = it.pages;
  entries = it.entries;
  forest = it.forest;
  spelled = it.spelled;
  counts = it.counts;
  needed = it.needed;
}

-- a page of a calm store is used as before after a commit
calm_mark : (root : List ℕ) (old new : Store) → IsCalm old → IsCommitted root old new → (p : ℕ) → mark new.marks p ≡ mark old.marks p
calm_mark root old new calm done p = done.marks.each p ∙ rests_on (holders_at old.holds.of p) (mark old.marks p) (calm.each p)

pub still_calm : (root : List ℕ) (old new : Store) → IsCalm old → IsCommitted root old new → IsCalm new
still_calm root old new calm done = record {
  each = λ p. subst (λ (m : Mark). IsTrue (rests m)) (sym (calm_mark root old new calm done p)) (calm.each p);
}

-- a commit in a calm store changes the root alone
pub still_under : (root : List ℕ) (old new : Store) → IsCalm old → GoesOn old.disk new.disk → IsCommitted root old new
    → IsStill (store_under root old) new
still_under root old new calm goes_on done = record {
  goes_on = goes_on;
  root = done.is;
  same_pages = done.marks.same_length;
  needed = λ p. ap needs (calm_mark root old new calm done p);
  waiting = λ p is. sym (calm_mark root old new calm done p) ∙ is;
  past = λ p is. subst (λ (m : Mark). IsTrue (is_past m)) (calm_mark root old new calm done p) is;
  reads = λ honest p needed. done.reads honest p needed.0;
}

-- a root of a layout that names what a file's root names, in as many pages
pub record IsNamedAnew (to : ℕ) (was : File) (root : List ℕ) : Type 0 where
  pub of_layout : layout_in root ≡ to
  pub says : SaysPages root (length was.work.store.marks)
  pub names : NamesSlot root was.game
  pub packing : IfSome was.game (λ slot. packing_in root ≡ number_of_packing slot.packing)

pub named_anew : (to pages : ℕ) (was : File) (root : List ℕ) → layout_in root ≡ to → SaysPages root pages
    → pages ≡ length was.work.store.marks → NamesSlot root was.game
    → IfSome was.game (λ slot. packing_in root ≡ number_of_packing slot.packing) → IsNamedAnew to was root
named_anew to pages was root of_layout says capacity names packing = record {
  of_layout = of_layout;
  says = subst (λ (n : ℕ). SaysPages root n) capacity says;
  names = names;
  packing = packing;
}

-- the file of another layout, in this store
abbrev pub file_on : File → Store → File
file_on was new = file_of (work_of (slot_or_bare was.game) was.work.text false new) was.game

-- a whole file, and such a root
module _ {layout : ℕ} (to : ℕ) (was : File) (whole : IsWholeFile layout was) (root : List ℕ) (anew : IsNamedAnew to was root) where
  whole_under : IsWholeFile to (file_under root was)
  whole_under = record {
    sound = sound_under root was.work.store whole.sound;
    of_layout = anew.of_layout;
    says = anew.says;
    room = whole.room;
    whole = whole.whole;
    slot = whole.slot;
    names = anew.names;
    calm = record { each = whole.calm.each };
    free = whole.free;
    kept = λ honest. kept_under root was.game was.work.text was.work.store whole.names anew.names anew.packing (whole.kept honest);
  }

  -- a stop within the commit leaves it in the one layout or in the other
  either_layout : (new : Store) → Commits root was.work.store new → IsTrue was.work.store.disk.honest → was.work.store.closed ≡ false
      → LeavesOnly was.work.store.disk new.disk (λ image. StoresTrees layout (length was.work.store.marks) image (kept_of was)
      ⊎ StoresTrees to (length was.work.store.marks) image (kept_of was))
  either_layout new commits honest is_open =
      let store = was.work.store in
      let under = store_under root store in
      let kept = kept_of was in
      leaves_more (λ image left. elim left [
        | inl old ↦ inl (spells_stores_trees store.root layout (length store.marks) kept image whole.of_layout whole.says whole.room
            whole.sound.few
            (saved_spells store (kept_stands store kept (whole.kept honest)) image old))
        | inr now ↦ inr (spells_stores_trees root to (length store.marks) kept image anew.of_layout anew.says whole.room whole.sound.few
            (saved_spells under (kept_stands under kept (whole_under.kept honest)) image
            (record { holds = now.holds; room = now.room; pages = λ p needed. now.pages p needed.0 })))
      ]) (commits.leaves honest (whole.sound.safe honest is_open))

  -- after the commit
  module _ (new : Store) (commits : Commits root was.work.store new) (done : IsCommitted root was.work.store new)
      (sound : IsSoundStore new) where
    still : IsStill (store_under root was.work.store) new
    still = still_under root was.work.store new whole.calm commits.goes_on done

    calm : IsCalm new
    calm = still_calm root was.work.store new whole.calm done

    moved_whole : IsWholeFile to (file_on was new)
    moved_whole = again_whole (file_under root was) (file_on was new) whole_under still refl refl calm sound refl refl

    moved_kept : IsTrue was.work.store.disk.honest → kept_of (file_on was new) ≡ kept_of was
    moved_kept = again_kept (file_under root was) (file_on was new) whole_under still refl refl calm

    pub moved : commits_in root ≡ count_behind (commits_in was.work.store.root)
        → (IsTrue was.work.store.disk.honest → StopLeaves new (SavedAs root was.work.store))
        → IsMoved (StoresTrees layout) (StoresTrees to) (state_of was) new.disk new.failures
    moved counted after = record {
      from = record { goes_on = commits.goes_on; failures = commits.failures; same_size = commits.same_size };
      header = commits.header;
      leaves = λ honest. either_layout new commits honest (commits.closes.stays done.closed);
      now = λ honest.
          subst (λ (k : Option Kept). LeavesNow (StoresTrees to (length was.work.store.marks)) new.disk k) (moved_kept honest)
          (subst (λ (n : ℕ). LeavesNow (StoresTrees to n) new.disk (kept_of (file_on was new))) done.marks.same_length
          (whole_leaves to (file_on was new) moved_whole (still_honest commits.goes_on honest) done.closed));
      commits = λ honest. record {
        root = root;
        holds = (after honest new.disk.now.contents (reads_left new.disk)).holds;
        commits = counted;
      };
    }

    pub moved_pages : LeavesPages was.work.store.disk new.disk
    moved_pages = record { reads = done.reads }

  -- after a refusal
  module _ (new : Store) (commits : Commits root was.work.store new) (fault : PageFault)
      (cause : StoreCommitCause was.work.store new fault) where
    no_other : was.work.store.closed ≡ false → of_pages fault ≢ DiskFailed → ⊥
    no_other is_open other = at fault cause other
      where
        at : (f : PageFault) → StoreCommitCause was.work.store new f → of_pages f ≢ DiskFailed → ⊥
        at page.Disk cause other = other refl
        at page.NotATable cause other = cause
        at page.Damaged cause other = cause
        at page.TableFull cause other = cause
        at page.OutOfMemory cause other = cause
        at page.Closed cause other = let never : true ≡ false = sym cause ∙ is_open in cc

    -- a commit in which no write failed left the store as it was
    as_it_was : was.work.store.closed ≡ false → ¬ Grew was.work.store.disk.failed_writes new.disk.failed_writes
        → IsUnchanged was.work.store new
    as_it_was is_open spared = at fault cause
      where
        at : (f : PageFault) → StoreCommitCause was.work.store new f → IsUnchanged was.work.store new
        at page.Disk cause = elim cause.1 [ inl unchanged ↦ unchanged | inr shut ↦ absurd (spared (commits.closes.cause is_open shut)) ]
        at page.NotATable cause = absurd cause
        at page.Damaged cause = absurd cause
        at page.TableFull cause = absurd cause
        at page.OutOfMemory cause = absurd cause
        at page.Closed cause = let never : true ≡ false = sym cause ∙ is_open in absurd (cc)

    pub not_moved : IsNotMoved (StoresTrees layout) (StoresTrees to) (state_of was) new.disk new.failures (of_pages fault)
    not_moved = record {
      from = record { goes_on = commits.goes_on; failures = commits.failures; same_size = commits.same_size };
      header = commits.header;
      leaves = λ honest is_open other. absurd (no_other is_open other);
      unwritten = λ honest is_open spared. leaves_more (whole_leaves layout was whole honest is_open)
          ((as_it_was is_open spared).leaves honest);
      either = λ honest is_open. either_layout new commits honest is_open;
    }

-- a file of a layout that has no goals keeps none
pub no_goal : {layout : ℕ} (was : File) → IsWholeFile layout was → layout < 3 → goal_kept (kept_of was) ≡ None
no_goal {layout} was whole early = by_game was.game whole.names
  where
    zero : goal_number_in was.work.store.root ≡ 0
    zero = elim (goal_has_place was.work.store.root) [ inl late ↦ absurd (omega (arith, late, early, whole.of_layout)) | inr none ↦ none ]

    by_game : (game : Option TreeSlot) → NamesSlot was.work.store.root game
        → goal_kept (kept_with game was.work.text (reads was.work.store)) ≡ None
    by_game None names = refl
    by_game (Some slot) names = ap goal_numbered (ap (λ (s : TreeSlot). s.goal) names ∙ zero)
