-- Blocks of 256 pages, and which of them are noted: what goes on with a page goes on in one of those.
use Rattle.std.specs.Prelude.{◌≡◌, ℕ, ◌*◌, ◌/◌, ◌≤◌, ◌<◌, Bool, false, List, length, slice_index_or, IsTrue}
use Rattle.page_store.specs.declared.marks.Mark.{Mark}
use Rattle.page_store.specs.Marks.{mark, rests}

-- whether a block is noted; after the last there is none
abbrev pub noted_at : List Bool → ℕ → Bool
noted_at noted k = slice_index_or noted k false

-- there is a block for each page, and no more of them than a table can have; nothing is going on with a page whose block is not noted
pub record AreBlocksNoted (marks : List Mark) (noted : List Bool) : Type 0 where
  pub room : length marks ≤ 256 * length noted
  pub few : length noted ≤ 4096
  pub rest : (p : ℕ) → noted_at noted (p / 256) ≡ false → IsTrue (rests (mark marks p))

-- the pages from one up to another get these marks, and no other does; if it does not go on, nothing is going on with any of them
pub record ArePartTurned (turn : ℕ → Mark → Mark) (from upto : ℕ) (goes_on : Bool) (old new : List Mark) : Type 0 where
  pub same_length : length new ≡ length old
  pub here : (p : ℕ) → from ≤ p → p < upto → mark new p ≡ turn p (mark old p)
  pub below : (p : ℕ) → p < from → mark new p ≡ mark old p
  pub behind : (p : ℕ) → upto ≤ p → mark new p ≡ mark old p
  pub rest : goes_on ≡ false → (p : ℕ) → from ≤ p → p < upto → IsTrue (rests (mark new p))

-- the blocks up to one are gone through: their pages have these marks and their notes say what goes on, and the others are as at the start
pub record AreBlocksTurned (turn : ℕ → Mark → Mark) (block : ℕ) (start : List Mark) (first : List Bool) (marks : List Mark) (noted : List Bool) : Type 0 where
  pub same_length : length marks ≡ length start
  pub done : (p : ℕ) → p < 256 * block → mark marks p ≡ turn p (mark start p)
  pub ahead : (p : ℕ) → 256 * block ≤ p → mark marks p ≡ mark start p
  pub same_blocks : length noted ≡ length first
  pub unseen : (k : ℕ) → block ≤ k → noted_at noted k ≡ noted_at first k
  pub rest : (p : ℕ) → p < 256 * block → noted_at noted (p / 256) ≡ false → IsTrue (rests (mark marks p))
