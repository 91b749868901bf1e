-- The pages of a game's text and of the four trees of its table. `bytes` are what each page reads as.
use Rattle.std.specs.Prelude.{◌≡◌, ◌≢◌, ℕ, List, Contains}
use Rattle.page_chain.specs.Chain.{IsChain}
use Rattle.btree.specs.Page.{Item}
use Rattle.btree.specs.declared.page.widths.Widths.{Widths}
use Rattle.btree.specs.Tree.{IsMap}
use Rattle.tree_table.specs.declared.tree.Tree.{Tree}
use Rattle.tree_table.specs.declared.tree.Roots.{Roots}
use Rattle.tree_table.specs.Trees.{key_width, value_width, root_of}

-- below this root, on these pages, is this tree of a table whose positions have this many bytes, with these entries
pub record IsTreeOf (packed : ℕ) (tree : Tree) (capacity root : ℕ) (pages : List ℕ) (es : List Item) (bytes : ℕ → List ℕ) : Type 0 where
  pub widths : Widths
  pub keys : widths.key ≡ key_width packed tree
  pub values : widths.value ≡ value_width packed tree
  pub map : IsMap widths capacity root pages es bytes

-- no page is in both lists
abbrev pub AreApart : List ℕ → List ℕ → Type 0
AreApart pages others = (p : ℕ) → Contains pages p → Contains others p → ⊥

-- on these pages is this text as a chain, and the four trees with these entries, and no page is in two of them
pub record IsForest (packed capacity first : ℕ) (roots : Roots) (text text_pages : List ℕ) (pages : Tree → List ℕ)
    (entries : Tree → List Item) (bytes : ℕ → List ℕ) : Type 0 where
  pub chain : IsChain capacity first text_pages text bytes
  pub trees : (t : Tree) → IsTreeOf packed t capacity (root_of roots t) (pages t) (entries t) bytes
  pub text_apart : (t : Tree) → AreApart text_pages (pages t)
  pub apart : (t u : Tree) → t ≢ u → AreApart (pages t) (pages u)
