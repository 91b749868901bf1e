-- A file that gets more pages by a commit of another root over the same pages: what they spell is what they spelled.
use Rattle.std.proofs.Common.{◌≡◌, ◌≢◌, ◌⊎◌, inl, inr, ℕ, ◌≤◌, ◌<◌, false, true, List, length, Option, None, Some, IsTrue, refl, sym, ◌∙◌, ap, subst, arith}
use Rattle.std.specs.Prelude.{IfSome}
use Rattle.std.proofs.lemmas.Bool.{cases_lt}
use mathlib.Core.Logic.{∥∥₁_elim, ∥∥₁_prop}
use Rattle.sector_disk.specs.Disk.{Disk, Grew, LeavesOnly, size}
use Rattle.sector_disk.specs.lemmas.Moments.{goes_on_trans, leaves_more, still_honest}
use Rattle.page_store.specs.Causes.{GrowCause}
use Rattle.page_store.specs.Page.{page}
use Rattle.page_store.specs.declared.fault.PageFault.{PageFault}
use Rattle.page_store.specs.declared.fault.PageFault.TheVariants as fault
use Rattle.page_store.specs.declared.marks.Mark.TheVariants.{Free}
use Rattle.page_store.specs.Marks.{mark}
use Rattle.page_store.specs.Spelled.{IsCalm}
use Rattle.page_store.specs.Store.{Store, IsRemarked, IsSoundStore, IsStoreGrown, StoreGrows, reads}
use Rattle.page_store.specs.lemmas.Carried.{saved_in_spells, saved_spells}
use Rattle.page_store.specs.lemmas.Works.{closes_same, closes_then, works_same}
use Rattle.game_file.specs.Fields.{commits_in, goal_numbered, layout_in, number_of_packing, packing_in, SaysPages}
use Rattle.game_file.specs.Faults.{of_pages}
use Rattle.game_file.specs.Growth.{FileGrowCause, GrowsAhead, IsGrownFile, IsNotGrown, LeavesEitherSize}
use Rattle.game_file.specs.Kept.{Kept, goal_kept, kept_as, packing_kept, text_kept}
use Rattle.game_file.specs.State.{count_behind}
use Rattle.game_file.specs.Stops.{LeavesTable}
use Rattle.tree_table.specs.declared.slot.TreeSlot.{TreeSlot}
use Rattle.tree_table.specs.Held.{KeepsTrees, StoresTrees}
use Rattle.tree_table.specs.KeptTrees.{AreSized, IsKeptInTrees, IsStill, KeepsOn, StandsFor, slot_or_bare}
use Rattle.tree_table.specs.Spelled.{table_in}
use Rattle.tree_table.specs.lemmas.Growth.{grown_keeps, grown_mark, grown_stands_for}
use Rattle.tree_table.specs.lemmas.KeptPages.{keeps_in_more_trees, kept_stands, spells_stores_trees}
use Rattle.tree_table.specs.lemmas.StandingTable.{was_honest}
use Rattle.tree_file.specs.File.{File, NamesSlot, IsWholeFile, counts_told, kept_of, kept_with, state_of}
use Rattle.tree_file.specs.lemmas.Backed.{IsBackedFile}
use Rattle.tree_file.specs.lemmas.Whole.{again_goal, again_kept, again_packing, again_text, as_kept, goal_same, kept_spells, packing_same, text_same, works_leaves}
use Rattle.tree_file.proofs.Renewal.{keeps_under}
use Rattle.tree_file.proofs.Commits.{calm_sealed}

-- a root of this layout that says this many pages, and names the game of this slot, or none
pub record IsNamedIn (layout pages : ℕ) (game : Option TreeSlot) (root : List ℕ) : Type 0 where
  pub of_layout : layout_in root ≡ layout
  pub says : SaysPages root pages
  pub names : NamesSlot root game
  pub packing : IfSome game (λ slot. packing_in root ≡ number_of_packing slot.packing)

-- what is kept under one root is kept under another that names the same
module _ (root : List ℕ) (text : List ℕ) (store : Store) where
  kept_under : (game : Option TreeSlot) → NamesSlot store.root game → NamesSlot root game
      → IfSome game (λ slot. packing_in root ≡ number_of_packing slot.packing) → (it : IsKeptInTrees store (kept_with game text (reads store)))
      → KeepsOn it.text_pages it.pages root (length store.marks) (kept_with game text (reads store)) (reads store)
  kept_under None was now packing it = now
  kept_under (Some slot) was now packing it =
      keeps_under store.root root (sym now ∙ was) (length store.marks) _ it.text_pages it.pages (reads store) packing it.keeps

  trees_under : (capacity : ℕ) (game : Option TreeSlot) (bytes : ℕ → List ℕ) → NamesSlot store.root game → NamesSlot root game
      → IfSome game (λ slot. packing_in root ≡ number_of_packing slot.packing)
      → KeepsTrees store.root capacity (kept_with game text (reads store)) bytes
      → KeepsTrees root capacity (kept_with game text (reads store)) bytes
  trees_under capacity None bytes was now packing it = now
  trees_under capacity (Some slot) bytes was now packing it = record {
    text_pages = it.text_pages;
    pages = it.pages;
    keeps = keeps_under store.root root (sym now ∙ was) capacity _ it.text_pages it.pages bytes packing it.keeps;
  }

-- what this slot spells in a store is what it spelled in another, where the one keeps what the other kept
spelled_same : (game : Option TreeSlot) (text : List ℕ) (old new : Store) → IsCalm new → NamesSlot new.root game
    → IsKeptInTrees new (kept_with game text (reads old)) → kept_with game text (reads new) ≡ kept_with game text (reads old)
spelled_same None text old new calm names it = refl
spelled_same (Some slot) text old new calm names it =
    let kept = kept_as text slot.packing (goal_numbered slot.goal) (table_in slot (reads old)) in
    let table : table_in slot (reads new) ≡ table_in slot (reads old) = ap (λ (s : TreeSlot). table_in s (reads new)) names ∙ kept_spells new kept calm it in
    λ i. Some (kept_as text slot.packing (goal_numbered slot.goal) (table i))

-- a whole file whose store gets this many pages by a root that names the same
module _ {layout : ℕ} (was new : File) (whole : IsWholeFile layout was) (root : List ℕ) (pages : ℕ) (named : IsNamedIn layout pages was.game root)
    (more : length was.work.store.marks < pages) (few : pages ≤ 1048576) (grows : StoreGrows root pages was.work.store new.work.store)
    (game : new.game ≡ was.game) (text : new.work.text ≡ was.work.text) where
  -- a stop meanwhile leaves what was kept, in as many pages as there were or in this many
  either_size : IsTrue was.work.store.disk.honest → was.work.store.closed ≡ false
      → LeavesEitherSize (StoresTrees layout) pages (state_of was) (state_of new)
  either_size honest is_open =
      let store = was.work.store in
      let kept = kept_of was in
      let stands = kept_stands store kept (whole.kept honest) in
      leaves_more (λ image left. elim left [
        | inl old ↦ inl (spells_stores_trees store.root layout (length store.marks) kept image whole.of_layout whole.says whole.room whole.sound.few
            (saved_spells store stands image old))
        | inr now ↦
            let spells = saved_in_spells root pages store stands image now in
            inr (spells_stores_trees root layout pages kept image named.of_layout named.says (omega (arith, whole.room, more)) few (record {
              holds = spells.holds;
              room = spells.room;
              spelt = keeps_in_more_trees root (length store.marks) pages kept (page image) (omega (arith, more))
                  (trees_under root was.work.text store (length store.marks) was.game (page image) whole.names named.names named.packing spells.spelt);
            }))
      ]) (grows.leaves honest (whole.sound.safe honest is_open))

  -- after the commit
  module _ (done : IsStoreGrown root pages was.work.store new.work.store) (calm : IsCalm new.work.store) where
    grown_names : NamesSlot new.work.store.root was.game
    grown_names = subst (λ (r : List ℕ). NamesSlot r was.game) (sym done.is) named.names

    keeps : IsTrue was.work.store.disk.honest → IsKeptInTrees new.work.store (kept_of was)
    keeps honest =
        let it = whole.kept honest in
        grown_keeps root pages was.work.store new.work.store whole.calm more done (kept_of was) honest it
        (kept_under root was.work.text was.work.store was.game whole.names named.names named.packing it)

    pub grown_kept : IsTrue was.work.store.disk.honest → kept_of new ≡ kept_of was
    grown_kept honest =
        as_kept was new game text ∙ spelled_same was.game was.work.text was.work.store new.work.store calm grown_names (keeps honest)

    grown_free : was.game ≡ None → (p : ℕ) → 1 ≤ p → p < length new.work.store.marks → mark new.work.store.marks p ≡ Free
    grown_free none p some low = elim (cases_lt p (length was.work.store.marks)) [
      | inl there ↦ grown_mark root pages was.work.store new.work.store whole.calm more done p there ∙ whole.free none p some there
      | inr behind ↦ done.marks.added p behind (omega (arith, low, done.marks.long))
    ]

    pub grown_whole : IsSoundStore new.work.store → new.work.torn ≡ false → new.work.slot ≡ slot_or_bare new.game → IsWholeFile layout new
    grown_whole sound torn slot = record {
      sound = sound;
      of_layout = ap layout_in done.is ∙ named.of_layout;
      says = subst (λ (n : ℕ). SaysPages new.work.store.root n) (sym done.marks.long)
          (subst (λ (r : List ℕ). SaysPages r pages) (sym done.is) named.says);
      room = omega (arith, whole.room, more, done.marks.long);
      whole = torn;
      slot = slot;
      names = subst (λ (g : Option TreeSlot). NamesSlot new.work.store.root g) (sym game) grown_names;
      calm = calm;
      free = λ none. grown_free (sym game ∙ none);
      kept = λ honest.
          let before = was_honest grows.goes_on honest in
          subst (λ (k : Option Kept). IsKeptInTrees new.work.store k) (sym (grown_kept before)) (keeps before);
    }

    pub grown_now : commits_in root ≡ count_behind (commits_in was.work.store.root)
        → IsGrownFile (StoresTrees layout) pages (state_of was) (state_of new)
    grown_now counted = record {
      commits = ap commits_in done.is ∙ counted;
      counts = ap counts_told game;
      text = ap text_kept (as_kept was new game text) ∙ text_same was.game was.work.text (reads new.work.store) (reads was.work.store);
      packing = ap packing_kept (as_kept was new game text) ∙ packing_same was.game was.work.text (reads new.work.store) (reads was.work.store);
      goal = ap goal_kept (as_kept was new game text) ∙ goal_same was.game was.work.text (reads new.work.store) (reads was.work.store);
      kept = grown_kept;
      capacity = done.marks.long;
      is_open = done.closed;
      leaves = λ honest. either_size honest (grows.closes.stays done.closed);
    }

  -- after a refusal
  module _ (still : IsStill was.work.store new.work.store) (calm : IsCalm new.work.store) (why : PageFault)
      (cause : GrowCause was.work.store new.work.store why) (untouched : why ≢ fault.Disk → new.work.store ≡ was.work.store) where
    as_before : IsTrue was.work.store.disk.honest → new.work.store.closed ≡ false
        → LeavesTable (StoresTrees layout (length was.work.store.marks)) was.work.store.disk new.work.store.disk (kept_of was)
    as_before honest is_open = at why cause untouched
      where
        same : new.work.store ≡ was.work.store
            → LeavesTable (StoresTrees layout (length was.work.store.marks)) was.work.store.disk new.work.store.disk (kept_of was)
        same is = works_leaves was new.work.store whole (works_same is) honest (sym (ap (λ (s : Store). s.closed) is) ∙ is_open)

        at : (f : PageFault) → GrowCause was.work.store new.work.store f → (f ≢ fault.Disk → new.work.store ≡ was.work.store)
            → LeavesTable (StoresTrees layout (length was.work.store.marks)) was.work.store.disk new.work.store.disk (kept_of was)
        at fault.Disk cause is = elim cause.1 [
          | inl longer ↦
              let store = was.work.store in
              leaves_more (λ image saved. spells_stores_trees store.root layout (length store.marks) (kept_of was) image whole.of_layout whole.says
              whole.room whole.sound.few (saved_spells store (kept_stands store (kept_of was) (whole.kept honest)) image saved))
              (longer.leaves honest (whole.sound.safe honest (sym longer.closed ∙ is_open)))
          | inr shut ↦ let never : true ≡ false = sym shut ∙ is_open in absurd (cc)
        ]
        at fault.NotATable cause is = absurd cause
        at fault.Damaged cause is = absurd cause
        at fault.TableFull cause is = absurd cause
        at fault.OutOfMemory cause is = same (is (λ e. cc))
        at fault.Closed cause is = same (is (λ e. cc))

    pub not_grown : IsNotGrown (StoresTrees layout) pages (state_of was) (state_of new)
    not_grown = record {
      commits = ap commits_in still.root;
      counts = ap counts_told game;
      text = again_text was new whole still game text calm;
      packing = again_packing was new whole still game text calm;
      goal = again_goal was new whole still game text calm;
      kept = again_kept was new whole still game text calm;
      capacity = still.same_pages;
      leaves = as_before;
      either = either_size;
    }

-- a command is given up, and then the store gets more pages
module _ (was mid new : File) (still : IsStill was.work.store mid.work.store) (others : IsRemarked was.work.store mid.work.store) where
  pub since_ahead : {root : List ℕ} {pages : ℕ} → StoreGrows root pages mid.work.store new.work.store → GrowsAhead (state_of was) (state_of new)
  since_ahead grows = record {
    goes_on = goes_on_trans still.goes_on grows.goes_on;
    no_shorter = omega (arith, ap size others.disk, grows.no_shorter);
    failures = omega (arith, others.failures, grows.failures);
    no_fewer = omega (arith, still.same_pages, grows.no_fewer);
    closes = closes_then still.goes_on.failed_writes grows.goes_on.failed_writes
        (closes_same others.closed (ap (λ (d : Disk). d.failed_writes) others.disk)) grows.closes;
  }

  pub since_cause : (pages : ℕ) (why : PageFault) → GrowCause mid.work.store new.work.store why
      → FileGrowCause pages (state_of was) (state_of new) (of_pages why)
  since_cause pages fault.Disk cause = subst (λ (n : ℕ). Grew n new.work.store.failures) others.failures cause.0
  since_cause pages fault.NotATable cause = absurd cause
  since_cause pages fault.Damaged cause = absurd cause
  since_cause pages fault.TableFull cause = absurd cause
  since_cause pages fault.OutOfMemory cause = tt
  since_cause pages fault.Closed cause = sym others.closed ∙ cause

  -- of a file that was whole
  module _ {layout : ℕ} (whole : IsWholeFile layout was) (game : mid.game ≡ was.game) (text : mid.work.text ≡ was.work.text)
      (calm : IsCalm mid.work.store) where
    same_kept : IsTrue was.work.store.disk.honest → kept_of mid ≡ kept_of was
    same_kept = again_kept was mid whole still game text calm

    since_either : (pages : ℕ) → IsTrue was.work.store.disk.honest → LeavesEitherSize (StoresTrees layout) pages (state_of mid) (state_of new)
        → LeavesEitherSize (StoresTrees layout) pages (state_of was) (state_of new)
    since_either pages honest leaves =
        subst (λ (k : Option Kept). LeavesOnly was.work.store.disk new.work.store.disk (λ image. StoresTrees layout (length was.work.store.marks) image k
        ⊎ StoresTrees layout pages image k)) (same_kept honest)
        (subst (λ (n : ℕ). LeavesOnly was.work.store.disk new.work.store.disk (λ image. StoresTrees layout n image (kept_of mid)
        ⊎ StoresTrees layout pages image (kept_of mid))) still.same_pages
        (subst (λ (d : Disk). LeavesOnly d new.work.store.disk (λ image. StoresTrees layout (length mid.work.store.marks) image (kept_of mid)
        ⊎ StoresTrees layout pages image (kept_of mid))) others.disk leaves))

    since_left : IsTrue was.work.store.disk.honest
        → LeavesTable (StoresTrees layout (length mid.work.store.marks)) mid.work.store.disk new.work.store.disk (kept_of mid)
        → LeavesTable (StoresTrees layout (length was.work.store.marks)) was.work.store.disk new.work.store.disk (kept_of was)
    since_left honest leaves =
        subst (λ (k : Option Kept). LeavesTable (StoresTrees layout (length was.work.store.marks)) was.work.store.disk new.work.store.disk k)
        (same_kept honest)
        (subst (λ (n : ℕ). LeavesTable (StoresTrees layout n) was.work.store.disk new.work.store.disk (kept_of mid)) still.same_pages
        (subst (λ (d : Disk). LeavesTable (StoresTrees layout (length mid.work.store.marks)) d new.work.store.disk (kept_of mid)) others.disk leaves))

    pub since_grown : (pages : ℕ) → IsGrownFile (StoresTrees layout) pages (state_of mid) (state_of new)
        → IsGrownFile (StoresTrees layout) pages (state_of was) (state_of new)
    since_grown pages it = record {
      commits = it.commits ∙ ap (λ (r : List ℕ). count_behind (commits_in r)) still.root;
      counts = it.counts ∙ ap counts_told game;
      text = it.text ∙ again_text was mid whole still game text calm;
      packing = it.packing ∙ again_packing was mid whole still game text calm;
      goal = it.goal ∙ again_goal was mid whole still game text calm;
      kept = λ honest. it.kept (still_honest still.goes_on honest) ∙ same_kept honest;
      capacity = it.capacity;
      is_open = it.is_open;
      leaves = λ honest. since_either pages honest (it.leaves (still_honest still.goes_on honest));
    }

    pub since_not_grown : (pages : ℕ) → IsNotGrown (StoresTrees layout) pages (state_of mid) (state_of new)
        → IsNotGrown (StoresTrees layout) pages (state_of was) (state_of new)
    since_not_grown pages it = record {
      commits = it.commits ∙ ap commits_in still.root;
      counts = it.counts ∙ ap counts_told game;
      text = it.text ∙ again_text was mid whole still game text calm;
      packing = it.packing ∙ again_packing was mid whole still game text calm;
      goal = it.goal ∙ again_goal was mid whole still game text calm;
      kept = λ honest. it.kept (still_honest still.goes_on honest) ∙ same_kept honest;
      capacity = it.capacity ∙ still.same_pages;
      leaves = λ honest is_open. since_left honest (it.leaves (still_honest still.goes_on honest) is_open);
      either = λ honest is_open. since_either pages honest (it.either (still_honest still.goes_on honest) (others.closed ∙ is_open));
    }

-- what is so of a file at any moment, after the commit
pub grown_backed : {layout pages : ℕ} (commits : ℕ) (root : List ℕ) (was new : File) → IsCalm was.work.store → IsCalm new.work.store
    → length was.work.store.marks < pages → StoreGrows root pages was.work.store new.work.store
    → IsStoreGrown root pages was.work.store new.work.store → layout_in root ≡ layout → commits ≡ commits_in root → AreSized was.game
    → (IsTrue was.work.store.disk.honest → ∥ StandsFor was.game was.work.text was.work.store ∥₁) → new.work.text ≡ was.work.text
    → new.game ≡ was.game → IsBackedFile layout commits new
grown_backed {layout} {pages} commits root was new calm now more grows done of_layout counted sized stands text game = record {
  of_layout = ap layout_in done.is ∙ of_layout;
  counted = counted ∙ ap commits_in (sym done.is);
  sized = subst AreSized (sym game) sized;
  sealed = calm_sealed new.work.store now;
  stands = λ honest.
      let before = was_honest grows.goes_on honest in
      ∥∥₁_elim (stands before) ∥∥₁_prop (λ (s : StandsFor was.game was.work.text was.work.store).
      ∣ subst (λ (g : Option TreeSlot). StandsFor g new.work.text new.work.store) (sym game)
      (subst (λ (x : List ℕ). StandsFor was.game x new.work.store) (sym text)
      (grown_stands_for root pages was.work.store new.work.store calm more done was.game was.work.text before s)) ∣₁);
}
