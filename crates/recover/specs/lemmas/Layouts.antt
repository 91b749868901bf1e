-- The layouts of this program and of those before it.
use Rattle.std.specs.Prelude.{◌≡◌, ℕ, ◌<◌, List, Option, None, Some}
use Rattle.std.proofs.Common.{arith}
use Rattle.sector_disk.specs.Disk.{Image}
use Rattle.game_file.specs.Fields.{layout_in}
use Rattle.game_file.specs.Kept.{Kept}
use Rattle.earlier_layouts.specs.Held.{KeepsTable, Stores, IsOlder}
use Rattle.tree_table.specs.Held.{StoresTrees}
use Rattle.tree_file.specs.Older.{IsOlderTable}
use Rattle.recover.specs.Migrations.{AreLayouts}

-- a slot of layout 1 says so
pub says_first : (root : List ℕ) (pages : ℕ) (kept : Option Kept) (bytes : ℕ → List ℕ)
    → KeepsTable root pages kept bytes → layout_in root ≡ 1
says_first root pages None bytes keeps = keeps.layout
says_first root pages (Some kept) bytes keeps = keeps.layout

-- a table of layout 1 is one before each later layout
first_older : (layout : ℕ) → 1 < layout → (pages : ℕ) (image : Image) (kept : Option Kept) → Stores pages image kept
    → IsOlderTable layout image
first_older layout later pages image kept it =
    let is = says_first it.root pages kept _ it.keeps in
    record { root = it.root; holds = it.holds; older = (omega (arith, is), omega (arith, is, later)) }

-- layout 1, 2 and 3
pub our_layouts : AreLayouts Stores (StoresTrees 2) IsOlder (IsOlderTable 2) (IsOlderTable 3) ⊥
our_layouts = record {
  first_is_first = λ image older. older;
  first_before = λ pages image kept it. (
    first_older 2 (omega arith) pages image kept it,
    first_older 3 (omega arith) pages image kept it,
  );
  second_before = λ pages image kept it. record {
    root = it.root;
    holds = it.holds;
    older = (omega (arith, it.same_layout), omega (arith, it.same_layout));
  };
  by_root = λ no. no;
}
