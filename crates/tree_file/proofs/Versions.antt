-- A version is kept in a file, and given back.
use Rattle.std.proofs.Common.{◌≡◌, ◌≢◌, ℕ, true, false, List, Option, None, Some, Result, Ok, Err, IsTrue, refl, sym, ◌∙◌, ap, subst}
use Rattle.page_store.specs.declared.marks.Mark.{Mark}
use Rattle.page_store.specs.declared.holds.HoldPlace.{HoldPlace}
use Rattle.page_store.specs.declared.holds.Hold.{Hold}
use Rattle.page_store.specs.Holds.{needed_by, with_need}
use Rattle.page_store.specs.declared.holds.HoldPlace.TheVariants.{First, Second, Third, Fourth}
use Rattle.page_store.specs.declared.holds.Holders.{Holders}
use Rattle.page_store.specs.lemmas.Works.{works_refl}
use Rattle.page_store.specs.Marks.{mark, rests}
use Rattle.page_store.specs.Store.{Store, IsSoundStore, IsHoldTaken, IsLetGo}
use Rattle.page_store.specs.lemmas.Carried.{let_go_calm}
use Rattle.page_store.specs.Spelled.{IsCalm}
use Rattle.retrograde.specs.Stored.{Stored}
use Rattle.game_file.specs.Fields.{commits_in}
use Rattle.game_file.specs.Kept.{Kept as KeptTable, goal_kept, packing_kept, text_kept}
use Rattle.tree_table.specs.declared.slot.TreeSlot.{TreeSlot}
use Rattle.tree_table.specs.KeptTrees.{IsKeptInTrees, IsStill, StandsInTrees, slot_or_bare}
use Rattle.tree_table.specs.Slot.{slot_in}
use Rattle.tree_table.specs.WorkTable.{Work}
use Rattle.tree_table.specs.Versions.{StandsInVersion}
use Rattle.std.specs.Option.{IfSome, IfNone}
use Rattle.std.specs.Result.{IfErr}
use Rattle.table.specs.declared.fault.TableFault.{TableFault}
use Rattle.table.specs.declared.fault.TableFault.TheVariants.{Disk as DiskFailed, Damaged, TableFull, OutOfMemory, Closed}
use Rattle.tree_table.specs.Causes.{IsNoTable, ReadCause}
use Rattle.tree_table.specs.lemmas.StandingTable.{taken_still, let_go_still, works_still}
use Rattle.tree_table.specs.lemmas.Versions.{version_taken}
use Rattle.tree_file.specs.File.{File, IsWholeFile, NamesSlot, kept_of, counts_told, state_of}
use Rattle.game_file.specs.Causes.{FileReadFault, FileVersionCause}
use Rattle.tree_file.specs.lemmas.Whole.{again_goal, again_kept, again_packing, again_text, again_whole}
use Rattle.tree_file.proofs.Commits.{calm_sealed}

-- a file beside which a hold was taken or let go
module _ {layout : ℕ} (was new : File) (whole : IsWholeFile layout was) (still : IsStill was.work.store new.work.store) (calm : IsCalm new.work.store)
    (sound : IsSoundStore new.work.store) (slot : new.work.slot ≡ was.work.slot) (text : new.work.text ≡ was.work.text)
    (torn : new.work.torn ≡ was.work.torn) (game : new.game ≡ was.game) where
  pub beside_whole : IsWholeFile layout new
  beside_whole = again_whole was new whole still game text calm sound (torn ∙ whole.whole)
      (slot ∙ whole.slot ∙ ap slot_or_bare (sym game))

  pub beside_text : text_kept (kept_of new) ≡ text_kept (kept_of was)
  beside_text = again_text was new whole still game text calm

  pub beside_packing : packing_kept (kept_of new) ≡ packing_kept (kept_of was)
  beside_packing = again_packing was new whole still game text calm

  pub beside_goal : goal_kept (kept_of new) ≡ goal_kept (kept_of was)
  beside_goal = again_goal was new whole still game text calm

  pub beside_state : IsTrue was.work.store.disk.honest → new.work.store.disk ≡ was.work.store.disk
      → new.work.store.failures ≡ was.work.store.failures → new.work.store.closed ≡ was.work.store.closed → state_of new ≡ state_of was
  beside_state honest disk failures closed =
      let kept : kept_of new ≡ kept_of was = again_kept was new whole still game text calm honest in
      λ i. record {
        disk = disk i;
        failures = failures i;
        capacity = still.same_pages i;
        closed = closed i;
        commits = commits_in (still.root i);
        counts = counts_told (game i);
        kept = kept i;
      }

taken_calm : (place : HoldPlace) (old new : Store) → IsHoldTaken place old new → IsCalm old → IsCalm new
taken_calm place old new taken calm = record {
  each = λ p. subst (λ (ms : List Mark). IsTrue (rests (mark ms p))) (sym taken.marks) (calm.each p);
}

-- a hold is taken
module _ {layout : ℕ} (place : HoldPlace) (was new : File) (whole : IsWholeFile layout was) (taken : IsHoldTaken place was.work.store new.work.store)
    (sound : IsSoundStore new.work.store) (slot : new.work.slot ≡ was.work.slot) (text : new.work.text ≡ was.work.text)
    (torn : new.work.torn ≡ was.work.torn) (game : new.game ≡ was.game) where
  still : IsStill was.work.store new.work.store
  still = taken_still place was.work.store new.work.store taken

  calm : IsCalm new.work.store
  calm = taken_calm place was.work.store new.work.store taken whole.calm

  pub taken_whole : IsWholeFile layout new
  taken_whole = beside_whole was new whole still calm sound slot text torn game

  pub taken_text : text_kept (kept_of new) ≡ text_kept (kept_of was)
  taken_text = beside_text was new whole still calm sound slot text torn game

  pub taken_packing : packing_kept (kept_of new) ≡ packing_kept (kept_of was)
  taken_packing = beside_packing was new whole still calm sound slot text torn game

  pub taken_goal : goal_kept (kept_of new) ≡ goal_kept (kept_of was)
  taken_goal = beside_goal was new whole still calm sound slot text torn game

  pub taken_state : IsTrue was.work.store.disk.honest → state_of new ≡ state_of was
  taken_state honest = beside_state was new whole still calm sound slot text torn game honest taken.disk taken.failures taken.closed

  -- the pages of the last commit hold its table
  stands : (its : TreeSlot) (kept : KeptTable) → its ≡ slot_in was.work.store.root → IsKeptInTrees was.work.store (Some kept)
      → (it : StandsInTrees its kept.text was.work.store) × (it.table ≡ kept.table)
  stands its kept is it =
      subst (λ (s : TreeSlot). (st : StandsInTrees s kept.text was.work.store) × (st.table ≡ kept.table)) (sym is) (
        record {
          table = kept.table;
          text_pages = it.text_pages;
          pages = it.pages;
          entries = it.keeps.entries;
          forest = it.keeps.forest;
          spelled = it.keeps.spelled;
          counts = it.keeps.counts;
          needed = it.needed;
        },
        refl,
      )

  named : (its : TreeSlot) (g : Option TreeSlot) → g ≡ Some its → NamesSlot was.work.store.root g → its ≡ slot_in was.work.store.root
  named its g is names = subst (λ (h : Option TreeSlot). NamesSlot was.work.store.root h) is names

  pub taken_version : (its : TreeSlot) (kept : KeptTable) → IsTrue was.work.store.disk.honest → was.game ≡ Some its → kept_of was ≡ Some kept
      → StandsInVersion place its kept.table new.work.store
  taken_version its kept honest is keeps =
      let it : IsKeptInTrees was.work.store (Some kept) = subst (λ (k : Option KeptTable). IsKeptInTrees was.work.store k) keeps (whole.kept honest) in
      let (st, same) = stands its kept (named its was.game is whole.names) it in
      subst (λ (t : Stored (List ℕ)). StandsInVersion place its t new.work.store) same
      (version_taken place its kept.text was.work.store new.work.store (calm_sealed was.work.store whole.calm) taken st)

-- a hold is let go
module _ {layout : ℕ} (place : HoldPlace) (was new : File) (whole : IsWholeFile layout was) (gone : IsLetGo place was.work.store new.work.store)
    (sound : IsSoundStore new.work.store) (slot : new.work.slot ≡ was.work.slot) (text : new.work.text ≡ was.work.text)
    (torn : new.work.torn ≡ was.work.torn) (game : new.game ≡ was.game) where
  pub let_go_whole : IsWholeFile layout new
  let_go_whole = beside_whole was new whole (let_go_still place was.work.store new.work.store gone)
      (let_go_calm place was.work.store new.work.store gone whole.calm) sound slot text torn game

  pub let_go_text : text_kept (kept_of new) ≡ text_kept (kept_of was)
  let_go_text = beside_text was new whole (let_go_still place was.work.store new.work.store gone)
      (let_go_calm place was.work.store new.work.store gone whole.calm) sound slot text torn game

  pub let_go_packing : packing_kept (kept_of new) ≡ packing_kept (kept_of was)
  let_go_packing = beside_packing was new whole (let_go_still place was.work.store new.work.store gone)
      (let_go_calm place was.work.store new.work.store gone whole.calm) sound slot text torn game

  pub let_go_goal : goal_kept (kept_of new) ≡ goal_kept (kept_of was)
  let_go_goal = beside_goal was new whole (let_go_still place was.work.store new.work.store gone)
      (let_go_calm place was.work.store new.work.store gone whole.calm) sound slot text torn game

  pub let_go_state : IsTrue was.work.store.disk.honest → state_of new ≡ state_of was
  let_go_state honest = beside_state was new whole (let_go_still place was.work.store new.work.store gone)
      (let_go_calm place was.work.store new.work.store gone whole.calm) sound slot text torn game honest gone.disk gone.failures gone.closed

-- a hold was taken, or was not
pub hold_still : (old new : Work) (r : Option Hold) → IfSome r (λ hold. IsHoldTaken hold.place old.store new.store)
    → IfNone r ((new ≡ old) × ((place : HoldPlace) → needed_by old.store.holds.taken place ≡ true)) → IsStill old.store new.store
hold_still old new (Some hold) taken none = taken_still hold.place old.store new.store taken
hold_still old new None taken none =
    subst (λ (s : Store). IsStill old.store s) (sym (ap (λ (w : Work). w.store) none.0)) (works_still (works_refl old.store))

-- a version that is there is of another place than a hold that is taken
pub place_apart : (place other : HoldPlace) (slot : TreeSlot) (table : Stored (List ℕ)) (old new : Store) → IsHoldTaken place old new
    → StandsInVersion other slot table old → other ≢ place
place_apart place other slot table old new taken it same =
    let free : needed_by old.holds.taken other ≡ false = subst (λ (p : HoldPlace). needed_by old.holds.taken p ≡ false) (sym same) taken.was_free in
    let no : true ≡ false = sym it.taken ∙ free in cc

-- why a record of a version is not read
pub not_read : (place : HoldPlace) (slot : TreeSlot) (table : Stored (List ℕ)) (old new : File) → StandsInVersion place slot table old.work.store
    → (fault : TableFault) → ReadCause IsNoTable slot old.work.store new.work.store fault → FileVersionCause (state_of old) (state_of new) fault
not_read place slot table old new it DiskFailed cause = cause
not_read place slot table old new it Damaged none = λ honest. none honest it.text table (record {
  entries = it.entries;
  forest = record { text_pages = it.text_pages; pages = it.pages; forest = it.forest };
  spelled = it.spelled;
  counts = it.counts;
})
not_read place slot table old new it TableFull cause = cause
not_read place slot table old new it OutOfMemory cause = cause
not_read place slot table old new it Closed cause = cause

pub read_not : {X : Type 0} (place : HoldPlace) (slot : TreeSlot) (table : Stored (List ℕ)) (old new : File) → StandsInVersion place slot table old.work.store
    → (r : Result X TableFault) → IfErr r (ReadCause IsNoTable slot old.work.store new.work.store) → IfErr r (FileVersionCause (state_of old) (state_of new))
read_not place slot table old new it (Ok x) cause = tt
read_not place slot table old new it (Err fault) cause = not_read place slot table old new it fault cause

-- whichever version it is
read_fault : (slot : TreeSlot) (old new : File) (fault : TableFault) → ReadCause IsNoTable slot old.work.store new.work.store fault
    → FileReadFault (state_of old) (state_of new) fault
read_fault slot old new DiskFailed cause = cause
read_fault slot old new Damaged cause = tt
read_fault slot old new TableFull cause = cause
read_fault slot old new OutOfMemory cause = cause
read_fault slot old new Closed cause = cause

pub read_faulted : {X : Type 0} (slot : TreeSlot) (old new : File) (r : Result X TableFault)
    → IfErr r (ReadCause IsNoTable slot old.work.store new.work.store) → IfErr r (FileReadFault (state_of old) (state_of new))
read_faulted slot old new (Ok x) cause = tt
read_faulted slot old new (Err fault) cause = read_fault slot old new fault cause

-- where a hold was taken not all were taken before
pub some_free : (place : HoldPlace) (old new : Store) → IsHoldTaken place old new → ((other : HoldPlace) → needed_by old.holds.taken other ≡ true) → ⊥
some_free place old new taken full = let no : true ≡ false = sym (full place) ∙ taken.was_free in cc

-- a hold that was let go is taken no more
without : (place : HoldPlace) (holders : Holders) → needed_by (with_need holders place false) place ≡ false
without First holders = refl
without Second holders = refl
without Third holders = refl
without Fourth holders = refl

-- so no table is kept by it
pub none_kept : (place : HoldPlace) (slot : TreeSlot) (table : Stored (List ℕ)) (old new : Store) → IsLetGo place old new
    → StandsInVersion place slot table new → ⊥
none_kept place slot table old new gone it =
    let free : needed_by new.holds.taken place ≡ false = ap (λ (h : Holders). needed_by h place) gone.taken ∙ without place old.holds.taken in
    let no : true ≡ false = sym it.taken ∙ free in cc
