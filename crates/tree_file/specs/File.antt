-- What is stated of a table's file on trees.
use Rattle.std.specs.Prelude.{◌≡◌, ℕ, ◌≤◌, ◌<◌, false, List, length, Option, None, Some, IsTrue}
use Rattle.page_store.specs.declared.marks.Mark.TheVariants.{Free}
use Rattle.page_store.specs.Marks.{mark}
use Rattle.page_store.specs.Spelled.{IsCalm}
use Rattle.page_store.specs.Store.{IsSoundStore, reads}
use Rattle.game_file.specs.Fields.{commits_in, goal_numbered, layout_in, SaysPages}
use Rattle.retrograde.specs.declared.records.Counts.{Counts}
use Rattle.game_file.specs.Kept.{Kept, kept_as}
use Rattle.game_file.specs.State.{State}
use Rattle.tree_table.specs.declared.slot.TreeSlot.{TreeSlot}
use Rattle.tree_table.specs.KeptTrees.{IsKeptInTrees, IsOneOf, slot_or_bare}
use Rattle.tree_table.specs.Slot.{slot_in, IsEmptyTreeSlot}
use Rattle.tree_table.specs.Spelled.{table_in}
use Rattle.tree_table.specs.WorkTable.{Work}
use Rattle.page_store.specs.declared.limits.TheConstants.{MIN_PAGES}

-- a file: the table that a command has come to, and the slot of the committed root, if a game is loaded
pub record File : Type 0 where
  pub work : Work
  pub game : Option TreeSlot

-- the file of these
abbrev pub file_of : Work → Option TreeSlot → File
file_of w g = record { work = w; game = g }

-- this text, the packing and the goal that this slot names, and the table that it and these pages spell, if a game is loaded
abbrev pub kept_with : Option TreeSlot → List ℕ → (ℕ → List ℕ) → Option Kept
kept_with None text bytes = None
kept_with (Some slot) text bytes = Some (kept_as text slot.packing (goal_numbered slot.goal) (table_in slot bytes))

-- the text, the packing, the goal and the table of the last commit, if a game is loaded
abbrev pub kept_of : File → Option Kept
kept_of file = kept_with file.game file.work.text (reads file.work.store)

-- the counts that a slot tells, if a game is loaded
abbrev pub counts_told : Option TreeSlot → Option Counts
counts_told None = None
counts_told (Some slot) = Some slot.sizes.counts

-- what is stated of it as of a table's file of any layout
abbrev pub state_of : File → State
state_of file = record {
  disk = file.work.store.disk;
  failures = file.work.store.failures;
  capacity = length file.work.store.marks;
  closed = file.work.store.closed;
  commits = commits_in file.work.store.root;
  counts = counts_told file.game;
  kept = kept_of file;
}

-- the root is that of the empty table, or this is its slot
abbrev pub NamesSlot : List ℕ → Option TreeSlot → Type 0
NamesSlot root None = IsEmptyTreeSlot root
NamesSlot root (Some slot) = slot ≡ slot_in root

-- between commands: the committed root is of this layout, and says how many pages there are if the layout says so at all; the table at work
-- is that of the last commit, nothing is handed out or released, a file without a game uses no page, and the committed root and its pages
-- spell what is kept
pub record IsWholeFile (layout : ℕ) (file : File) : Type 0 where
  pub sound : IsSoundStore file.work.store
  pub of_layout : layout_in file.work.store.root ≡ layout
  pub says : SaysPages file.work.store.root (length file.work.store.marks)
  pub room : MIN_PAGES ≤ length file.work.store.marks
  pub whole : file.work.torn ≡ false
  pub slot : file.work.slot ≡ slot_or_bare file.game
  pub names : NamesSlot file.work.store.root file.game
  pub calm : IsCalm file.work.store
  pub free : file.game ≡ None → (p : ℕ) → 1 ≤ p → p < length file.work.store.marks → mark file.work.store.marks p ≡ Free
  pub kept : IsTrue file.work.store.disk.honest → IsKeptInTrees file.work.store (kept_of file)

-- on an honest disk the committed root and its pages spell what is kept, and each other page is free
pub record UsesNoOther (file : File) : Type 0 where
  pub kept : IsTrue file.work.store.disk.honest → IsKeptInTrees file.work.store (kept_of file)
  pub alone : (honest : IsTrue file.work.store.disk.honest) (p : ℕ) → 1 ≤ p → p < length file.work.store.marks
      → ¬ IsOneOf (kept honest).text_pages (kept honest).pages p → mark file.work.store.marks p ≡ Free
