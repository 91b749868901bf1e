-- What is found in a file as it is opened, and why it is not opened.
use Rattle.std.specs.Prelude.{◌≡◌, ℕ, ◌≤◌, ◌<◌, List, [], length, Option, None, IsTrue}
use Rattle.page_store.specs.declared.marks.Mark.TheVariants.{Free}
use Rattle.page_store.specs.Marks.{mark}
use Rattle.page_store.specs.Pages.{AllWait}
use Rattle.page_store.specs.Spelled.{IsCalm}
use Rattle.page_store.specs.Store.{Store, IsShortened, reads}
use Rattle.game_file.specs.Fields.{commits_in, layout_in, SaysPages}
use Rattle.game_file.specs.declared.fault.FileFault.{FileFault}
use Rattle.game_file.specs.declared.fault.FileFault.TheVariants.{Damaged, OldLayout}
use Rattle.game_file.specs.Kept.{Kept}
use Rattle.tree_table.specs.declared.slot.Slot.{Slot}
use Rattle.tree_table.specs.declared.slot.TreeSlot.{TreeSlot}
use Rattle.tree_table.specs.Slot.{SaysTrees}
use Rattle.tree_table.specs.Held.{KeepsTrees}
use Rattle.tree_table.specs.KeptTrees.{IsKeptInTrees, IsOneOf, AreSized}
use Rattle.tree_file.specs.File.{NamesSlot, kept_with}
use Rattle.tree_file.specs.Older.{IsOlderRoot}
use Rattle.page_store.specs.declared.limits.TheConstants.{MIN_PAGES}

-- the committed root tells this count of commits and this slot, and the pages that it names are in use and no others; on an honest
-- disk they keep this text and the table that they spell
pub record IsFoundInFile (commits : ℕ) (game : Option TreeSlot) (content : List ℕ) (store : Store) : Type 0 where
  pub room : MIN_PAGES ≤ length store.marks
  pub counted : commits ≡ commits_in store.root
  pub names : NamesSlot store.root game
  pub sized : AreSized game
  pub calm : IsCalm store
  pub free : game ≡ None → (p : ℕ) → 1 ≤ p → p < length store.marks → mark store.marks p ≡ Free
  pub text : game ≡ None → content ≡ []
  pub kept : IsTrue store.disk.honest → IsKeptInTrees store (kept_with game content (reads store))
  pub alone : (honest : IsTrue store.disk.honest) (p : ℕ) → 1 ≤ p → p < length store.marks
      → ¬ IsOneOf (kept honest).text_pages (kept honest).pages p → mark store.marks p ≡ Free

-- the root of a store that was just opened is of this layout and says this; the store has as many pages as the root says, or as there is room
-- for where its layout does not say so, and else is as it was
pub record IsRootRead (layout : ℕ) (slot : Slot) (old new : Store) : Type 0 where
  pub of_layout : layout_in new.root ≡ layout
  pub game : SaysTrees new.root slot.game
  pub commits : slot.commits ≡ commits_in new.root
  pub says : SaysPages new.root (length new.marks)
  pub enough : MIN_PAGES ≤ length new.marks
  pub fewer : length new.marks ≤ length old.marks
  pub all : layout < 3 → length new.marks ≡ length old.marks
  pub waits : AllWait new
  pub cut : IsShortened (length new.marks) old new

-- the root names an earlier layout; or it names none before this one, and no count of pages that is 16 or more, and for which there is room,
-- makes it the root of a table of this layout
abbrev pub RootCause : ℕ → Store → FileFault → Type 0
RootCause layout old OldLayout = IsOlderRoot layout old.root
RootCause layout old Damaged =
    (¬ IsOlderRoot layout old.root) × ((pages : ℕ) (kept : Option Kept) (bytes : ℕ → List ℕ) → layout_in old.root ≡ layout
    → SaysPages old.root pages → MIN_PAGES ≤ pages → pages ≤ length old.marks → ¬ KeepsTrees old.root pages kept bytes)
RootCause layout old _ = ⊥
