-- What the 512 bytes of a root slot say in every layout. All numbers have their highest byte first.
use Rattle.std.specs.Prelude.{◌≡◌, ◌==◌, if◌then◌else◌, ℕ, ◌⊎◌, ◌/◌, ◌≤◌, ◌<◌, min, nat_lt, List, length, drop, slice_index, Option, None, Some}
use Rattle.byteorder.specs.Endian.{big_number}
use Rattle.sector_disk.specs.Disk.{Image}
use Rattle.position_pack.specs.declared.kind.PackingKind.{PackingKind}
use Rattle.position_pack.specs.declared.kind.PackingKind.TheVariants.{Bytes, Bits}
use Rattle.game_file.specs.declared.sizes.Sizes.{Sizes}
use Rattle.page_store.specs.declared.limits.TheConstants.{MAX_PAGES}

-- the number in the four bytes from there on
abbrev pub word_at : List ℕ → ℕ → ℕ
word_at root at = big_number 4 (drop at root)

-- the number in the eight bytes from there on
abbrev pub long_at : List ℕ → ℕ → ℕ
long_at root at = big_number 8 (drop at root)

-- the layout of the file
abbrev pub layout_in : List ℕ → ℕ
layout_in root = word_at root 0

-- the number of how positions are packed, 0 where no game is loaded
abbrev pub packing_in : List ℕ → ℕ
packing_in root = word_at root 4

-- the number of each packing
abbrev pub number_of_packing : PackingKind → ℕ
number_of_packing Bytes = 1
number_of_packing Bits = 2

-- the packing that the slot names; of a number that is none's it is some packing, of which nothing is said
abbrev pub kind_in : List ℕ → PackingKind
kind_in root = if packing_in root == 2 then Bits else Bytes

-- how many commits there were since the file was made; 0 follows the greatest number
abbrev pub commits_in : List ℕ → ℕ
commits_in root = long_at root 8

-- the first page of the chain
abbrev pub first_in : List ℕ → ℕ
first_in root = word_at root 16

-- how much of each there is in the table
abbrev pub sizes_in : List ℕ → Sizes
sizes_in root = record {
  text = word_at root 20;
  packed = word_at root 24;
  counts = record { known = word_at root 28; expanded = word_at root 32; settled = word_at root 36; processed = word_at root 40 };
  edges = long_at root 60;
}

-- the bytes from one place up to another are zero
abbrev pub AreZero : ℕ → ℕ → List ℕ → Type 0
AreZero from to root = (k : ℕ) → from ≤ k → k < to → slice_index root k ≡ 0

-- how many pages there are, in the layouts that say so
abbrev pub capacity_in : List ℕ → ℕ
capacity_in root = word_at root 68

-- a slot of layout 3 says that there are this many pages; one of an earlier layout says nothing of it
abbrev pub SaysPages : List ℕ → ℕ → Type 0
SaysPages root pages = 3 ≤ layout_in root → capacity_in root ≡ pages

-- the number of a goal: its points, 0 for none
abbrev pub number_of_goal : Option ℕ → ℕ
number_of_goal None = 0
number_of_goal (Some points) = points

-- the goal with this number
abbrev pub goal_numbered : ℕ → Option ℕ
goal_numbered number = if number == 0 then None else Some number

-- the number of the table's goal; tables of layouts before 3 have none, whatever stands there
abbrev pub goal_number_in : List ℕ → ℕ
goal_number_in root = if nat_lt (layout_in root) 3 then 0 else word_at root 72

-- a slot of this layout has a place for the goal of this number: layout 3 for each, earlier ones for none
abbrev pub HasPlaceFor : ℕ → ℕ → Type 0
HasPlaceFor layout number = (3 ≤ layout) ⊎ (number ≡ 0)

-- this many pages are used of an image: those that it has room for, 1,048,576 at most
abbrev pub capacity_of : Image → ℕ
capacity_of image = min (length image / 8) MAX_PAGES
