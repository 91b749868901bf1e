-- Whether the entries of four trees spell a table whose parts fit together.
use Rattle.std.specs.Prelude.{◌≡◌, ℕ, List}
use Rattle.retrograde.specs.Stored.{Stored, IsTable}
use Rattle.retrograde.specs.Changes.{counts_of}
use Rattle.game_file.specs.declared.sizes.Sizes.{Sizes}
use Rattle.btree.specs.Page.{Item}
use Rattle.tree_table.specs.declared.tree.Tree.{Tree}
use Rattle.tree_table.specs.Entries.{AreEntriesOf}

-- the entries are those of this table, whose parts fit together and are as many as these sizes tell
pub record SpellTable (sizes : Sizes) (entries : Tree → List Item) (table : Stored (List ℕ)) : Type 0 where
  pub spelled : AreEntriesOf sizes entries table
  pub fits : IsTable table
  pub counts : counts_of table ≡ sizes.counts
