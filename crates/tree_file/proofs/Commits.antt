-- What a command has come to is committed, or given up.
use Rattle.std.proofs.Common.{◌≢◌, ◌≡◌, ℕ, ◌≤◌, false, true, List, length, Option, None, Some, IsTrue, sym, ◌∙◌, ap, subst, arith}
use Rattle.std.proofs.lemmas.Option.{same_Some}
use Rattle.std.specs.Option.{is_some}
use Rattle.sector_disk.specs.Disk.{Disk, GoesOn, Grew, LeavesOnly, size}
use Rattle.page_store.specs.Causes.{StoreCommitCause}
use Rattle.page_store.specs.declared.fault.PageFault.{PageFault}
use Rattle.page_store.specs.declared.fault.PageFault.TheVariants as page
use Rattle.game_file.specs.Causes.{FileCommitCause}
use Rattle.game_file.specs.Faults.{of_pages}
use Rattle.game_file.specs.declared.fault.FileFault.{FileFault}
use Rattle.game_file.specs.declared.fault.FileFault.TheVariants.{OutOfMemory, TableFull}
use Rattle.btree.specs.lemmas.Unchanged.{grew_before}
use Rattle.sector_disk.specs.lemmas.Moments.{goes_on_trans}
use Rattle.page_store.specs.declared.marks.Mark.TheVariants.{Waiting}
use Rattle.page_store.specs.Marks.{mark, rests}
use Rattle.page_store.specs.Spelled.{IsCalm}
use Rattle.page_store.specs.lemmas.Works.{closes_same, closes_then}
use Rattle.page_store.specs.Store.{Store, IsSoundStore, StoreWorks, StoreCloses, IsRemarked, reads}
use Rattle.retrograde.specs.Stored.{Stored, IsTable}
use Rattle.game_file.specs.Fields.{commits_in, goal_numbered, layout_in, HasPlaceFor, SaysPages}
use Rattle.game_file.specs.lemmas.Goals.{goal_has_place}
use Rattle.game_file.specs.Calls.{IsPut, IsNotPut, IsNothingPut}
use Rattle.game_file.specs.Kept.{Kept, goal_kept, kept_as, packing_kept, text_kept}
use Rattle.game_file.specs.State.{GoesAhead, count_behind}
use Rattle.game_file.specs.Stops.{LeavesEither, LeavesTable}
use Rattle.tree_table.specs.declared.slot.TreeSlot.{TreeSlot}
use Rattle.tree_table.specs.Held.{StoresTrees}
use Rattle.tree_table.specs.KeptTrees.{IsKeptInTrees, IsSizedSlot, IsStill, IsWorkedOn, slot_or_bare}
use Rattle.tree_table.specs.Slot.{slot_in}
use Rattle.tree_table.specs.Spelled.{table_in}
use Rattle.tree_table.specs.WorkTable.{HoldsTable, HoldsWork, table_now}
use Rattle.tree_table.specs.lemmas.KeptPages.{kept_is_held}
use Rattle.tree_table.specs.lemmas.StandingTable.{still_then, was_honest, works_still}
use Rattle.tree_file.specs.Calls.{FileGoesOn}
use Rattle.tree_file.specs.File.{File, NamesSlot, IsWholeFile, kept_of, kept_with, counts_told, state_of}
use Rattle.tree_file.specs.lemmas.Whole.{again_goal, again_kept, again_packing, again_text, again_whole, kept_spells, works_leaves}

-- the disk of a later state is that of another
pub same_disk : (old : Disk) (mid new : Disk) (Such : List (List ℕ) → Type 0) → new ≡ mid → LeavesOnly old mid Such → LeavesOnly old new Such
same_disk old mid new Such same leaves = subst (λ (d : Disk). LeavesOnly old d Such) (sym same) leaves

-- the work since a file was whole is given up
module _ {layout : ℕ} (was mid new : File) (whole : IsWholeFile layout was) (works : StoreWorks was.work.store mid.work.store)
    (text : mid.work.text ≡ was.work.text)
    (game : mid.game ≡ was.game)
    (still : IsStill mid.work.store new.work.store) (others : IsRemarked mid.work.store new.work.store) (new_text : new.work.text ≡ mid.work.text)
    (new_game : new.game ≡ mid.game)
    (torn : new.work.torn ≡ false) (slot : new.work.slot ≡ slot_or_bare new.game) (calm : IsCalm new.work.store) (sound : IsSoundStore new.work.store) where
  all_still : IsStill was.work.store new.work.store
  all_still = still_then (works_still works) still

  pub given_up_whole : IsWholeFile layout new
  given_up_whole = again_whole was new whole all_still (new_game ∙ game) (new_text ∙ text) calm sound torn slot

  same : new.work.store.disk.failed_writes ≡ mid.work.store.disk.failed_writes
  same = ap (λ (d : Disk). d.failed_writes) others.disk

  pub given_up_ahead : GoesAhead (state_of was) (state_of new)
  given_up_ahead = record {
    goes_on = goes_on_trans works.goes_on still.goes_on;
    same_size = ap size others.disk ∙ works.same_size;
    failures = omega (arith, works.failures, others.failures);
    capacity = all_still.same_pages;
    closes = closes_then works.goes_on.failed_writes (omega (arith, same)) works.closes (closes_same others.closed same);
  }

  pub given_up_kept : IsNothingPut (StoresTrees layout) (state_of was) (state_of new)
  given_up_kept = record {
    ahead = given_up_ahead;
    commits = ap commits_in all_still.root;
    counts = ap counts_told (new_game ∙ game);
    text = again_text was new whole all_still (new_game ∙ game) (new_text ∙ text) calm;
    packing = again_packing was new whole all_still (new_game ∙ game) (new_text ∙ text) calm;
    goal = again_goal was new whole all_still (new_game ∙ game) (new_text ∙ text) calm;
    kept = again_kept was new whole all_still (new_game ∙ game) (new_text ∙ text) calm;
    leaves = λ honest is_open.
        same_disk was.work.store.disk mid.work.store.disk new.work.store.disk
        (λ image. StoresTrees layout (length was.work.store.marks) image (kept_of was)) others.disk
        (works_leaves was mid.work.store whole works honest is_open);
  }

-- what a whole file with a game keeps, in words of its table
module _ {layout : ℕ} (was : File) (kept : Kept) (whole : IsWholeFile layout was) (is : kept_of was ≡ Some kept) where
  pub kept_text_is : kept.text ≡ was.work.text
  kept_text_is = by_game was.game is
    where
      by_game : (game : Option TreeSlot) → kept_with game was.work.text (reads was.work.store) ≡ Some kept → kept.text ≡ was.work.text
      by_game None none = absurd (cc)
      by_game (Some s) some = ap (λ (k : Kept). k.text)
          (sym (same_Some (kept_as was.work.text s.packing (goal_numbered s.goal) (table_in s (reads was.work.store))) kept some))

  pub kept_packing_is : kept.packing ≡ was.work.slot.packing
  kept_packing_is = by_game was.game whole.slot is
    where
      by_game : (game : Option TreeSlot) → was.work.slot ≡ slot_or_bare game → kept_with game was.work.text (reads was.work.store) ≡ Some kept
          → kept.packing ≡ was.work.slot.packing
      by_game None slot none = absurd (cc)
      by_game (Some s) slot some =
          ap (λ (k : Kept). k.packing) (sym (same_Some (kept_as was.work.text s.packing (goal_numbered s.goal) (table_in s (reads was.work.store))) kept some))
          ∙ ap (λ (t : TreeSlot). t.packing) (sym slot)

  pub kept_goal_is : kept.goal ≡ goal_numbered was.work.slot.goal
  kept_goal_is = by_game was.game whole.slot is
    where
      by_game : (game : Option TreeSlot) → was.work.slot ≡ slot_or_bare game → kept_with game was.work.text (reads was.work.store) ≡ Some kept
          → kept.goal ≡ goal_numbered was.work.slot.goal
      by_game None slot none = absurd (cc)
      by_game (Some s) slot some =
          ap (λ (k : Kept). k.goal) (sym (same_Some (kept_as was.work.text s.packing (goal_numbered s.goal) (table_in s (reads was.work.store))) kept some))
          ∙ ap (λ (t : TreeSlot). goal_numbered t.goal) (sym slot)

  its_slot : was.work.slot ≡ slot_in was.work.store.root
  its_slot = by_game was.game whole.slot whole.names is
    where
      by_game : (game : Option TreeSlot) → was.work.slot ≡ slot_or_bare game → NamesSlot was.work.store.root game
          → kept_with game was.work.text (reads was.work.store) ≡ Some kept → was.work.slot ≡ slot_in was.work.store.root
      by_game None slot names none = absurd (cc)
      by_game (Some s) slot names some = slot ∙ names

  kept_now : IsTrue was.work.store.disk.honest → IsKeptInTrees was.work.store (Some kept)
  kept_now honest = subst (λ (k : Option Kept). IsKeptInTrees was.work.store k) is (whole.kept honest)

  table_is_kept : IsTrue was.work.store.disk.honest → table_now was.work ≡ kept.table
  table_is_kept honest = ap (λ (s : TreeSlot). table_in s (reads was.work.store)) its_slot ∙ kept_spells was.work.store kept whole.calm (kept_now honest)

  holds_work : IsTrue was.work.store.disk.honest → HoldsWork was.work
  holds_work honest =
      let h = kept_is_held was.work.store kept whole.calm (kept_now honest) in
      subst (λ (t : Stored (List ℕ)). HoldsTable was.work.slot was.work.text t was.work.store) (sym (table_is_kept honest))
      (subst (λ (s : TreeSlot). HoldsTable s was.work.text kept.table was.work.store) (sym its_slot)
      (subst (λ (x : List ℕ). HoldsTable (slot_in was.work.store.root) x kept.table was.work.store) kept_text_is h))

  -- the root has a place for the goal
  pub its_place : (mid : File) → FileGoesOn was mid → HasPlaceFor (layout_in was.work.store.root) mid.work.slot.goal
  its_place mid ahead =
      subst (λ (n : ℕ). HasPlaceFor (layout_in was.work.store.root) n) (ap (λ (s : TreeSlot). s.goal) (sym its_slot) ∙ sym ahead.work.goal)
      (goal_has_place was.work.store.root)

  -- the table that a command has come to can be committed
  module _ (mid : File) (ahead : FileGoesOn was mid) (sized : IsSizedSlot mid.work.slot) (fits : IsTrue was.work.store.disk.honest
      → IsTable (table_now mid.work)) where
    pub worked : IsTrue was.work.store.disk.honest → was.work.store.closed ≡ false
        → IsWorkedOn mid.work.slot was.work.store mid.work.store (kept_of was) (kept_as kept.text kept.packing kept.goal (table_now mid.work))
    worked honest is_open =
        let it = kept_now honest in
        let slot_text : length kept.text ≡ was.work.slot.sizes.text = it.keeps.text ∙ ap (λ (s : TreeSlot). s.sizes.text) (sym its_slot) in
        let limit : was.work.slot.sizes.text ≤ 65536 = subst (λ (s : TreeSlot). s.sizes.text ≤ 65536) (sym its_slot) it.keeps.slot.limits.text in
        let holds : HoldsWork mid.work = ahead.work.holds (record { disk = honest; whole = whole.whole }) (holds_work honest) in
        record {
          honest = honest;
          safe = whole.sound.safe honest is_open;
          kept = whole.kept honest;
          says = whole.says;
          enough = whole.room;
          works = ahead.work.works;
          holds = subst (λ (x : List ℕ). HoldsTable mid.work.slot x (table_now mid.work) mid.work.store) (ahead.work.text ∙ sym kept_text_is) holds;
          packing = kept_packing_is ∙ sym ahead.work.packing;
          goal = kept_goal_is ∙ ap goal_numbered (sym ahead.work.goal);
          place = its_place mid ahead;
          points = sized.points;
          text = slot_text ∙ sym ahead.work.long;
          table = fits honest;
          short = omega (arith, limit, ahead.work.long);
          packed = sized.short;
          some = sized.some;
          few = sized.few;
        }

-- a table is put: this text, packing and table are kept, by one commit more
module _ {layout : ℕ} (was new : File) (next : TreeSlot) (is : Kept) (of_layout : layout_in new.work.store.root ≡ layout)
    (says : SaysPages new.work.store.root (length new.work.store.marks)) (game : new.game ≡ Some next) (slot : new.work.slot ≡ next)
    (root : slot_in new.work.store.root ≡ next) (text : new.work.text ≡ is.text) (packing : next.packing ≡ is.packing)
    (goal : goal_numbered next.goal ≡ is.goal) (calm : IsCalm new.work.store) (goes_on : GoesOn was.work.store.disk new.work.store.disk)
    (done : IsTrue was.work.store.disk.honest → IsKeptInTrees new.work.store (Some is)) where
  pub put_kept : IsTrue was.work.store.disk.honest → kept_of new ≡ Some is
  put_kept honest =
      let table : table_in next (reads new.work.store) ≡ is.table =
      ap (λ (s : TreeSlot). table_in s (reads new.work.store)) (sym root) ∙ kept_spells new.work.store is calm (done honest) in
      (λ i. kept_with (game i) (text i) (reads new.work.store)) ∙ (λ i. Some (kept_as is.text (packing i) (goal i) (table i)))

  pub put_text : text_kept (kept_of new) ≡ Some is.text
  put_text = ap text_kept (λ i. kept_with (game i) (text i) (reads new.work.store))

  pub put_packing : packing_kept (kept_of new) ≡ Some is.packing
  put_packing = ap packing_kept (λ i. kept_with (game i) (text i) (reads new.work.store)) ∙ ap Some packing

  pub put_goal : goal_kept (kept_of new) ≡ is.goal
  put_goal = ap goal_kept (λ i. kept_with (game i) (text i) (reads new.work.store)) ∙ goal

  pub put_whole : IsSoundStore new.work.store → 16 ≤ length new.work.store.marks → new.work.torn ≡ false → IsWholeFile layout new
  put_whole sound room torn = record {
    sound = sound;
    of_layout = of_layout;
    says = says;
    room = room;
    whole = torn;
    slot = slot ∙ ap slot_or_bare (sym game);
    names = subst (λ (g : Option TreeSlot). NamesSlot new.work.store.root g) (sym game) (sym root);
    calm = calm;
    free = λ none. absurd (no_game new.game game none);
    kept = λ honest.
        let before = was_honest goes_on honest in
        subst (λ (k : Option Kept). IsKeptInTrees new.work.store k) (sym (put_kept before)) (done before);
  }
    where
      no_game : (g : Option TreeSlot) → g ≡ Some next → g ≡ None → ⊥
      no_game g some none = cc

  pub put_now : commits_in new.work.store.root ≡ count_behind (commits_in was.work.store.root) → new.work.store.closed ≡ false
      → (IsTrue was.work.store.disk.honest → LeavesEither
      (StoresTrees layout (length was.work.store.marks)) was.work.store.disk new.work.store.disk (kept_of was) (Some is))
      → IsPut (StoresTrees layout) is (state_of was) (state_of new)
  put_now commits is_open leaves =
      record { commits = commits; text = put_text; packing = put_packing; goal = put_goal; kept = put_kept; is_open = is_open; leaves = leaves }

-- a table is not put: what was kept still is
module _ {layout : ℕ} (was new : File) (is : Kept) (whole : IsWholeFile layout was) (still : IsStill was.work.store new.work.store)
    (text : new.work.text ≡ was.work.text)
    (game : new.game ≡ was.game)
    (calm : IsCalm new.work.store) where
  pub not_put : (IsTrue was.work.store.disk.honest → new.work.store.closed ≡ false
      → LeavesTable (StoresTrees layout (length was.work.store.marks)) was.work.store.disk new.work.store.disk (kept_of was))
      → (IsTrue was.work.store.disk.honest → was.work.store.closed ≡ false
      → LeavesEither (StoresTrees layout (length was.work.store.marks)) was.work.store.disk new.work.store.disk (kept_of was) (Some is))
      → IsNotPut (StoresTrees layout) is (state_of was) (state_of new)
  not_put leaves either = record {
    commits = ap commits_in still.root;
    counts = ap counts_told game;
    text = again_text was new whole still game text calm;
    packing = again_packing was new whole still game text calm;
    goal = again_goal was new whole still game text calm;
    kept = again_kept was new whole still game text calm;
    leaves = leaves;
    either = either;
  }

-- it goes back after a call that was refused: a later state of the same file
pub refused_ahead : (was : File) (left : Store) (new : File) → GoesOn was.work.store.disk left.disk → size left.disk ≡ size was.work.store.disk
    → was.work.store.failures ≤ left.failures → length left.marks ≡ length was.work.store.marks → StoreCloses was.work.store left
    → IsRemarked left new.work.store → IsStill left new.work.store → GoesAhead (state_of was) (state_of new)
refused_ahead was left new goes_on same_size failures same_pages closes others still =
    let same : new.work.store.disk.failed_writes ≡ left.disk.failed_writes = ap (λ (d : Disk). d.failed_writes) others.disk in
    record {
      goes_on = goes_on_trans goes_on still.goes_on;
      same_size = ap size others.disk ∙ same_size;
      failures = omega (arith, failures, others.failures);
      capacity = still.same_pages ∙ same_pages;
      closes = closes_then goes_on.failed_writes (omega (arith, same)) closes (closes_same others.closed same);
    }

-- where no game is loaded none was kept when the command began
pub none_kept_some : (was now : Option TreeSlot) (text : List ℕ) (bytes : ℕ → List ℕ) (kept : Kept) → now ≡ was → is_some now ≡ false
    → kept_with was text bytes ≡ Some kept → ⊥
none_kept_some None now text bytes kept same none is = absurd (cc)
none_kept_some (Some s) now text bytes kept same none is =
    let no : is_some (Some s) ≡ false = ap is_some (sym same) ∙ none in absurd (cc)

-- only marks change
pub again_ahead : (was new : File) → IsStill was.work.store new.work.store → IsRemarked was.work.store new.work.store
    → GoesAhead (state_of was) (state_of new)
again_ahead was new still others = record {
  goes_on = still.goes_on;
  same_size = ap size others.disk;
  failures = omega (arith, others.failures);
  capacity = still.same_pages;
  closes = closes_same others.closed (ap (λ (d : Disk). d.failed_writes) others.disk);
}

-- why it is not committed
pub why_not : (was mid new : File) (table now : Stored (List ℕ)) (left : Store) (fault : PageFault) → StoreWorks was.work.store mid.work.store
    → mid.work.store.closed ≡ was.work.store.closed → IsRemarked left new.work.store → StoreCommitCause mid.work.store left fault
    → FileCommitCause table now (state_of was) (state_of new) (of_pages fault)
why_not was mid new table now left page.Disk works still others cause =
    let grew = grew_before was.work.store.failures mid.work.store.failures left.failures works.failures cause.0 in
    subst (λ (n : ℕ). Grew was.work.store.failures n) (sym others.failures) grew
why_not was mid new table now left page.NotATable works still others cause = absurd cause
why_not was mid new table now left page.Damaged works still others cause = absurd cause
why_not was mid new table now left page.TableFull works still others cause = absurd cause
why_not was mid new table now left page.OutOfMemory works still others cause = absurd cause
why_not was mid new table now left page.Closed works still others cause = sym still ∙ cause

-- no page waits where nothing is going on
pub calm_sealed : (store : Store) → IsCalm store → (p : ℕ) → mark store.marks p ≡ Waiting → ⊥
calm_sealed store calm p waits = let never : false ≡ true = sym (ap rests waits) ∙ calm.each p in cc

-- neither memory nor a page is wanted
pub no_want : (mid left : Store) (fault : PageFault) (told : FileFault) → told ≡ of_pages fault → StoreCommitCause mid left fault
    → (told ≢ OutOfMemory) × (told ≢ TableFull)
no_want mid left page.Disk told is cause = (λ e. cc, λ e. cc)
no_want mid left page.NotATable told is cause = absurd cause
no_want mid left page.Damaged told is cause = absurd cause
no_want mid left page.TableFull told is cause = absurd cause
no_want mid left page.OutOfMemory told is cause = absurd cause
no_want mid left page.Closed told is cause = (λ e. cc, λ e. cc)
