-- What a file keeps of a game, and which images of a disk store it.
use Rattle.std.specs.Prelude.{ℕ, List, Option, None, Some}
use Rattle.sector_disk.specs.Disk.{Image}
use Rattle.retrograde.specs.Changes.{counts_of}
use Rattle.retrograde.specs.Stored.{Stored}
use Rattle.retrograde.specs.declared.records.Counts.{Counts}
use Rattle.position_pack.specs.declared.kind.PackingKind.{PackingKind}

-- what is kept of a game: its text, how its positions are packed, its goal, if it has one, and its table
pub record Kept : Type 0 where
  pub text : List ℕ
  pub packing : PackingKind
  pub goal : Option ℕ
  pub table : Stored (List ℕ)

-- a text, a packing, a goal and a table
abbrev pub kept_as : List ℕ → PackingKind → Option ℕ → Stored (List ℕ) → Kept
kept_as t p g s = record { text = t; packing = p; goal = g; table = s }

-- the text of what is kept, if a game is loaded
abbrev pub text_kept : Option Kept → Option (List ℕ)
text_kept None = None
text_kept (Some kept) = Some kept.text

-- how the positions of what is kept are packed, if a game is loaded
abbrev pub packing_kept : Option Kept → Option PackingKind
packing_kept None = None
packing_kept (Some kept) = Some kept.packing

-- the goal of what is kept, if a game is loaded and has one
abbrev pub goal_kept : Option Kept → Option ℕ
goal_kept None = None
goal_kept (Some kept) = kept.goal

-- the counts of the table of what is kept, if a game is loaded
abbrev pub counts_kept : Option Kept → Option Counts
counts_kept None = None
counts_kept (Some kept) = Some (counts_of kept.table)

-- which table an image of a disk stores, or that it stores the empty one; each layout says so in its own way
abbrev pub Layout : Type 1
Layout = Image → Option Kept → Type 0

-- the image stores this in some number of pages
abbrev pub in_any : (ℕ → Layout) → Layout
in_any Stores image kept = (pages : ℕ) × Stores pages image kept

-- which image of a disk holds a table of an earlier layout: each layout of a file says it in its own way
abbrev pub Older : Type 1
Older = Image → Type 0
