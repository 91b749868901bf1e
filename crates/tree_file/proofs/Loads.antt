-- A game is loaded into a file without one.
use Rattle.std.proofs.Common.{◌≡◌, ◌⊎◌, ◌≤◌, inl, inr, ℕ, false, true, List, Option, None, Some, Result, Ok, Err, IsTrue, refl, sym, ap, subst, arith}
use Rattle.std.specs.Prelude.{OnErr}
use Rattle.std.specs.Option.{is_some}
use Rattle.rbg_game.specs.Goals.{points_of}
use Rattle.rbg_game.specs.declared.goal.Goal.{Goal}
use Rattle.game_file.specs.Fields.{number_of_goal, HasPlaceFor}
use Rattle.sector_disk.specs.Disk.{Grew}
use Rattle.sector_disk.specs.lemmas.Moments.{leaves_more, leaves_now}
use Rattle.page_store.specs.Store.{Store, IsRemarked, reads}
use Rattle.page_store.specs.lemmas.Works.{works_refl}
use Rattle.table.specs.declared.fault.TableFault.{TableFault}
use Rattle.table.specs.declared.fault.TableFault.TheVariants as table
use Rattle.game_file.specs.Calls.{IsNotPut}
use Rattle.game_file.specs.Causes.{FileLoadCause}
use Rattle.game_file.specs.Faults.{of_table}
use Rattle.game_file.specs.Kept.{Kept}
use Rattle.tree_table.specs.declared.slot.TreeSlot.{TreeSlot}
use Rattle.tree_table.specs.Causes.{StartCause}
use Rattle.tree_table.specs.Held.{StoresTrees}
use Rattle.tree_table.specs.KeptTrees.{IsKeptInTrees, IsVacant}
use Rattle.tree_table.specs.lemmas.StandingTable.{works_still}
use Rattle.tree_file.specs.File.{File, IsWholeFile, kept_of, kept_with, state_of}
use Rattle.tree_file.specs.lemmas.Whole.{no_game_is_free, whole_leaves}
use Rattle.tree_file.proofs.Commits.{not_put}

-- nothing is done
pub nothing_put : {layout : ℕ} (was : File) (is : Kept) → IsWholeFile layout was → IsNotPut (StoresTrees layout) is (state_of was) (state_of was)
nothing_put {layout} was is whole =
    not_put was was is whole (works_still (works_refl was.work.store)) refl refl whole.calm
    (λ honest is_open. leaves_now was.work.store.disk (whole_leaves layout was whole honest is_open))
    (λ honest is_open. leaves_more (λ image stored. inl stored) (leaves_now was.work.store.disk (whole_leaves layout was whole honest is_open)))

pub so_refused : {X E P : Type 0} (r : Result X E) → P → OnErr r P
so_refused (Ok x) so = tt
so_refused (Err f) so = so

-- no game is loaded
pub no_game : (game : Option TreeSlot) → is_some game ≡ false → game ≡ None
no_game None is = refl
no_game (Some s) is = absurd (cc)

pub none_kept : (was : File) → was.game ≡ None → kept_of was ≡ None
none_kept was none = ap (λ (g : Option TreeSlot). kept_with g was.work.text (reads was.work.store)) none

pub some_kept : (was : File) → is_some was.game ≡ true → kept_of was ≡ None → ⊥
some_kept was is none = by_game was.game is none
  where
    by_game : (game : Option TreeSlot) → is_some game ≡ true → kept_with game was.work.text (reads was.work.store) ≡ None → ⊥
    by_game None is none = absurd (cc)
    by_game (Some s) is none = absurd (cc)

pub vacant : {layout : ℕ} (was : File) → IsWholeFile layout was → was.game ≡ None → IsTrue was.work.store.disk.honest
    → was.work.store.closed ≡ false → IsVacant was.work.store
vacant was whole none honest is_open = record {
  honest = honest;
  safe = whole.sound.safe honest is_open;
  kept = subst (λ (k : Option Kept). IsKeptInTrees was.work.store k) (none_kept was none) (whole.kept honest);
  says = whole.says;
  enough = whole.room;
}

-- a layout that has a place for goals, or is asked for none, has a place for this
pub has_place : (layout : ℕ) (goal : Option Goal) → (3 ≤ layout) ⊎ (goal ≡ None) → HasPlaceFor layout (number_of_goal (points_of goal))
has_place layout goal (inl late) = inl late
has_place layout goal (inr none) = inr (ap (λ (g : Option Goal). number_of_goal (points_of g)) none)

-- why none is loaded: 24 pages are never too few, since all but the system page are free
pub why_not_loaded : {layout : ℕ} (start : List ℕ) (long : ℕ) (was new : File) (left : Store) (fault : TableFault) → IsWholeFile layout was → was.game ≡ None
    → long ≤ 65536 → IsRemarked left new.work.store → StartCause long was.work.store left fault
    → FileLoadCause start (state_of was) (state_of new) (of_table fault)
why_not_loaded start long was new left table.Disk whole none short others cause = subst (λ (n : ℕ). Grew was.work.store.failures n) (sym others.failures) cause
why_not_loaded start long was new left table.Damaged whole none short others cause = cause
why_not_loaded start long was new left table.TableFull whole none short others cause = omega (arith, cause, short, no_game_is_free was whole none)
why_not_loaded start long was new left table.OutOfMemory whole none short others cause = tt
why_not_loaded start long was new left table.Closed whole none short others cause = cause
