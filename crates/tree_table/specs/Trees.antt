-- The four trees of a table: how long keys and values are, and where each tree begins.
use Rattle.std.specs.Prelude.{ℕ, ◌+◌}
use Rattle.tree_table.specs.declared.tree.Tree.{Tree}
use Rattle.tree_table.specs.declared.tree.Tree.TheVariants.{Positions, Records, Edges, Order}
use Rattle.tree_table.specs.declared.tree.Roots.{Roots}

-- how many bytes a key of each tree has, given those of a position: a position, a number, an edge, a place
abbrev pub key_width : ℕ → Tree → ℕ
key_width packed Positions = packed
key_width packed Records = 4
key_width packed Edges = 8
key_width packed Order = 4

-- how many bytes stand after a key: a number; a position and a record; none; a number
abbrev pub value_width : ℕ → Tree → ℕ
value_width packed Positions = 4
value_width packed Records = packed + 16
value_width packed Edges = 0
value_width packed Order = 4

-- the root page of a tree, 0 where it is empty
abbrev pub root_of : Roots → Tree → ℕ
root_of roots Positions = roots.positions
root_of roots Records = roots.records
root_of roots Edges = roots.edges
root_of roots Order = roots.order

-- with this root page of this tree
abbrev pub with_root : Roots → Tree → ℕ → Roots
with_root roots Positions root = record roots { positions = root }
with_root roots Records root = record roots { records = root }
with_root roots Edges root = record roots { edges = root }
with_root roots Order root = record roots { order = root }

-- for this tree that, and for each other what it was
abbrev pub with_at : {A : Type 0} → (Tree → A) → Tree → A → Tree → A
with_at f Positions x Positions = x
with_at f Records x Records = x
with_at f Edges x Edges = x
with_at f Order x Order = x
with_at f t x u = f u
