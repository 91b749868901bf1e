-- What the 512 bytes of a root slot say. All numbers have their highest byte first.
use Rattle.std.specs.Prelude.{◌≡◌, ℕ, ◌≤◌, ◌^◌, List, Option, None, Some}
use Rattle.position_pack.specs.declared.kind.PackingKind.{PackingKind}
use Rattle.game_file.specs.Numbers.{AreWithinLimits}
use Rattle.earlier_layouts.specs.declared.slot.GameSlot.{GameSlot}
pub use Rattle.game_file.specs.Fields.{word_at, long_at, layout_in, packing_in, number_of_packing, commits_in, first_in, sizes_in, AreZero}

-- no game: the packing is 0, and so is each field of the layout
pub record IsEmptySlot (root : List ℕ) : Type 0 where
  pub layout : layout_in root ≡ 1
  pub packing : packing_in root ≡ 0
  pub fields : AreZero 16 44 root
  pub edges : AreZero 60 68 root

-- the slot says this of a table with a game
pub record SaysGame (root : List ℕ) (game : GameSlot) : Type 0 where
  pub layout : layout_in root ≡ 1
  pub packing : packing_in root ≡ number_of_packing game.packing
  pub first : game.first ≡ first_in root
  pub sizes : game.sizes ≡ sizes_in root
  pub limits : AreWithinLimits (sizes_in root)
  pub edges : (sizes_in root).edges ≤ 2 ^ 32

-- the slot says this of a table
abbrev pub Says : List ℕ → Option GameSlot → Type 0
Says root None = IsEmptySlot root
Says root (Some game) = SaysGame root game

-- the slot is neither that of an empty table nor that of a table with a game
pub record IsNoSlot (root : List ℕ) : Type 0 where
  pub not_empty : ¬ IsEmptySlot root
  pub no_game : layout_in root ≡ 1 → (kind : PackingKind) → packing_in root ≡ number_of_packing kind → AreWithinLimits (sizes_in root)
      → (sizes_in root).edges ≤ 2 ^ 32 → ⊥
