-- How many pages of a whole file are free.
use Rattle.std.specs.Prelude.{◌≡◌, ℕ, ◌+◌, ◌≤◌, ◌<◌, List, length, Option, None, Some}
use Rattle.std.proofs.Common.{refl, arith}
use Rattle.page_store.specs.Marks.{free_count}
use Rattle.page_store.specs.Store.{reads}
use Rattle.game_file.specs.lemmas.Free.{first_is_used}
use Rattle.page_store.specs.declared.limits.TheConstants.{MIN_PAGES}
use Rattle.tree_table.specs.declared.slot.TreeSlot.{TreeSlot}
use Rattle.tree_file.specs.File.{File, IsWholeFile, kept_of, kept_with}
use Rattle.tree_file.specs.lemmas.Whole.{no_game_is_free}

-- a table has 16 pages or more, so one at least
some_page : (n : ℕ) → MIN_PAGES ≤ n → 1 ≤ n
some_page n enough = let least : MIN_PAGES ≡ 16 = refl in omega (arith, enough, least)

-- the page of the root is not free
pub whole_free : (layout : ℕ) (file : File) → IsWholeFile layout file
    → free_count file.work.store.marks < length file.work.store.marks
whole_free layout file whole = first_is_used file.work.store.marks (some_page (length file.work.store.marks) whole.room) whole.sound.system

-- what keeps nothing has no game
nothing_kept : (game : Option TreeSlot) (text : List ℕ) (bytes : ℕ → List ℕ) → kept_with game text bytes ≡ None → game ≡ None
nothing_kept None text bytes none = refl
nothing_kept (Some slot) text bytes none = absurd (cc)

-- and where no game is loaded each other page is
pub empty_free : (layout : ℕ) (file : File) → IsWholeFile layout file → kept_of file ≡ None
    → length file.work.store.marks ≡ free_count file.work.store.marks + 1
empty_free layout file whole none =
    omega (
      arith,
      whole_free layout file whole,
      no_game_is_free file whole (nothing_kept file.game file.work.text (reads file.work.store) none),
    )
