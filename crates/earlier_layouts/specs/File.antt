-- What is stated of a file of layout 1.
use Rattle.std.specs.Prelude.{◌≡◌, ℕ, ◌≤◌, ◌<◌, ◌^◌, false, List, [], length, Option, None, Some, Contains, IsTrue}
use Rattle.page_store.specs.declared.marks.Mark.TheVariants.{Free}
use Rattle.page_store.specs.Marks.{mark}
use Rattle.page_store.specs.Spelled.{Stands, IsCalm}
use Rattle.page_store.specs.Store.{Store, IsSoundStore}
use Rattle.table.specs.InMemory.{stored_in}
use Rattle.table.specs.Fit.{FitsTogether}
use Rattle.earlier_layouts.specs.declared.game.Game.{Game}
use Rattle.earlier_layouts.specs.Held.{KeepsTable}
use Rattle.game_file.specs.Kept.{Kept}
use Rattle.position_pack.specs.declared.limits.TheConstants.{MAX_PACKED}
use Rattle.rbg_game.specs.declared.limits.TheConstants.{MAX_TEXT_BYTES}
use Rattle.page_store.specs.declared.limits.TheConstants.{MIN_PAGES}

-- a file of layout 1 that is open: its pages, and in memory the game that they hold, if one is loaded
pub record FlatFile : Type 0 where
  pub store : Store
  pub game : Option Game

-- the text, the packing and the table that are in memory, and no goal
abbrev pub kept_in : Game → Kept
kept_in game = record { text = game.text.items; packing = game.packing; goal = None; table = stored_in game.table }

-- the text, the packing and the table, if a game is loaded
abbrev pub kept_of : Option Game → Option Kept
kept_of None = None
kept_of (Some game) = Some (kept_in game)

-- the pages that hold them
abbrev pub pages_of : Option Game → List ℕ
pages_of None = []
pages_of (Some game) = game.pages.items

-- the parts of a table in memory fit together, and its numbers are within the limits
pub record IsGame (game : Game) : Type 0 where
  pub fits : FitsTogether game.packed (stored_in game.table)
  pub known : length (stored_in game.table).positions ≤ 2 ^ 24
  pub text : length game.text.items ≤ MAX_TEXT_BYTES
  pub packed : game.packed ≤ MAX_PACKED

abbrev pub AreGames : Option Game → Type 0
AreGames None = Unit {0}
AreGames (Some game) = IsGame game

-- the pages of the committed root spell what is kept, nothing is handed out or released, and an empty table takes no page
pub record IsBacked (store : Store) (pages : List ℕ) (kept : Option Kept) : Type 0 where
  pub room : MIN_PAGES ≤ length store.marks
  pub there : (p : ℕ) → Contains pages p → (1 ≤ p) × (p < length store.marks)
  pub calm : store.closed ≡ false → IsCalm store
  pub free : store.closed ≡ false → kept ≡ None → (p : ℕ) → 1 ≤ p → p < length store.marks → mark store.marks p ≡ Free
  pub stands : IsTrue store.disk.honest → store.closed ≡ false
      → Stands (λ p. Contains pages p) (KeepsTable store.root (length store.marks) kept) store

-- the file as it is opened
pub record IsFile (file : FlatFile) : Type 0 where
  pub sound : IsSoundStore file.store
  pub games : AreGames file.game
  pub backed : IsBacked file.store (pages_of file.game) (kept_of file.game)
