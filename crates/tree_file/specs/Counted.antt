-- How much there is in the four trees of a table.
use Rattle.std.specs.Prelude.{◌≡◌, ◌<◌, ℕ, List, length, All}
use Rattle.game_file.specs.declared.sizes.Sizes.{Sizes}
use Rattle.btree.specs.Page.{Item}
use Rattle.tree_table.specs.declared.tree.Tree.{Tree}
use Rattle.tree_table.specs.declared.tree.Tree.TheVariants.{Positions, Records, Edges, Order}
use Rattle.tree_table.specs.Entries.{edge_key}

-- the key is that of an edge between two numbers below this one
pub record IsEdgeBelow (known : ℕ) (item : Item) : Type 0 where
  pub to : ℕ
  pub from : ℕ
  pub is : item.0 ≡ edge_key to from
  pub to_known : to < known
  pub from_known : from < known

-- each tree has as many entries as these sizes tell, and each edge is between known numbers
pub record AreAsMany (sizes : Sizes) (entries : Tree → List Item) : Type 0 where
  pub positions : length (entries Positions) ≡ sizes.counts.known
  pub records : length (entries Records) ≡ sizes.counts.known
  pub edges : length (entries Edges) ≡ sizes.edges
  pub order : length (entries Order) ≡ sizes.counts.settled
  pub between : All (IsEdgeBelow sizes.counts.known) (entries Edges)
