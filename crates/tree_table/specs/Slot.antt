-- What a root slot says of a table on trees. A slot of layout 3 also says how many pages there are, and may name a goal.
use Rattle.std.specs.Prelude.{◌≡◌, ◌+◌, ◌≤◌, ◌<◌, List, ℕ, Option, None, Some, slice_index}
use Rattle.position_pack.specs.declared.kind.PackingKind.{PackingKind}
use Rattle.rbg_game.specs.declared.limits.TheConstants.{MAX_POINTS}
use Rattle.game_file.specs.Fields.{word_at, layout_in, commits_in, capacity_in, packing_in, number_of_packing, kind_in}
use Rattle.game_file.specs.Fields.{first_in, sizes_in, goal_number_in, goal_numbered, AreZero, HasPlaceFor, SaysPages}
use Rattle.game_file.specs.declared.sizes.Sizes.{Sizes}
use Rattle.game_file.specs.Numbers.{AreWithinLimits}
use Rattle.tree_table.specs.declared.slot.TreeSlot.{TreeSlot}
use Rattle.tree_table.specs.declared.tree.Roots.{Roots}

-- the root page of each tree
abbrev pub roots_in : List ℕ → Roots
roots_in root = record { positions = word_at root 44; records = word_at root 48; edges = word_at root 52; order = word_at root 56 }

-- the packing, the goal and the pages that it names, and how much there is of each
abbrev pub slot_in : List ℕ → TreeSlot
slot_in root = record {
  packing = kind_in root;
  goal = goal_number_in root;
  first = first_in root;
  sizes = sizes_in root;
  roots = roots_in root;
}

-- no game: the packing is 0, and so are each field that stands before the capacity, and the goal
pub record IsEmptyTreeSlot (root : List ℕ) : Type 0 where
  pub packing : packing_in root ≡ 0
  pub fields : AreZero 16 68 root
  pub goal : goal_number_in root ≡ 0

-- a game of this packing and goal: the slot has their numbers, and the other numbers are in order and within their limits
pub record IsGameTreeSlot (root : List ℕ) (kind : PackingKind) (named : Option ℕ) : Type 0 where
  pub packing : packing_in root ≡ number_of_packing kind
  pub goal : goal_numbered (goal_number_in root) ≡ named
  pub points : goal_number_in root ≤ MAX_POINTS
  pub limits : AreWithinLimits (sizes_in root)
  pub some : 1 ≤ (sizes_in root).packed

-- the slot says this of a table with a game, or that none is loaded
abbrev pub SaysTrees : List ℕ → Option TreeSlot → Type 0
SaysTrees root None = IsEmptyTreeSlot root
SaysTrees root (Some slot) = IsGameTreeSlot root slot.packing (goal_numbered slot.goal) × (slot ≡ slot_in root)

-- the slot is neither that of an empty table nor that of a table with a game
pub record IsNoTreeSlot (root : List ℕ) : Type 0 where
  pub not_empty : ¬ IsEmptyTreeSlot root
  pub no_game : (kind : PackingKind) (goal : Option ℕ) → ¬ IsGameTreeSlot root kind goal

-- the slot of a table without a game, of this layout and this many pages, after no commit: all bytes without a field are zero
pub record IsEmptySlotOf (number many : ℕ) (root : List ℕ) : Type 0 where
  pub layout : layout_in root ≡ number
  pub pages : SaysPages root many
  pub empty : IsEmptyTreeSlot root
  pub commits : commits_in root ≡ 0
  pub fields : AreZero 4 68 root
  pub behind : AreZero 72 512 root
  pub unsaid : number < 3 → capacity_in root ≡ 0

-- the slot of a table with this game, of this layout and this many pages, after this many commits
pub record IsGameSlotOf (number many count : ℕ) (game : TreeSlot) (root : List ℕ) : Type 0 where
  pub layout : layout_in root ≡ number
  pub pages : SaysPages root many
  pub packing : packing_in root ≡ number_of_packing game.packing
  pub commits : commits_in root ≡ count
  pub slot : HasPlaceFor number game.goal → slot_in root ≡ game
  pub behind : AreZero 76 512 root
  pub unsaid : number < 3 → capacity_in root ≡ 0

-- a slot with these sizes but for the edges, and else as it was
pub record HasSizes (sizes : Sizes) (old new : List ℕ) : Type 0 where
  pub text : word_at new 20 ≡ sizes.text
  pub packed : word_at new 24 ≡ sizes.packed
  pub known : word_at new 28 ≡ sizes.counts.known
  pub expanded : word_at new 32 ≡ sizes.counts.expanded
  pub settled : word_at new 36 ≡ sizes.counts.settled
  pub processed : word_at new 40 ≡ sizes.counts.processed
  pub before : (k : ℕ) → k + 4 ≤ 20 → word_at new k ≡ word_at old k
  pub ahead : (k : ℕ) → k < 20 → slice_index new k ≡ slice_index old k
  pub behind : (k : ℕ) → 44 ≤ k → slice_index new k ≡ slice_index old k
