-- Widths are two lengths: a tree of a table is a map of each widths that have them.
use Rattle.std.proofs.Common.{◌≡◌, ℕ, ◌≤◌, List, sym, ◌∙◌, subst}
use Rattle.std.proofs.Math.Bridge.{le_prop}
use mathlib.Core.HLevel.{is_prop→PathP}
use Rattle.btree.specs.Page.{Item}
use Rattle.btree.specs.declared.page.widths.Widths.{Widths}
use Rattle.btree.specs.Tree.{IsMap}
use Rattle.tree_table.specs.declared.tree.Tree.{Tree}
use Rattle.tree_table.specs.Trees.{key_width, value_width}
use Rattle.tree_table.specs.Forest.{IsTreeOf}

-- widths with the same lengths are the same
pub same_widths : (v w : Widths) → v.key ≡ w.key → v.value ≡ w.value → v ≡ w
same_widths v w keys values = λ i. record {
  key = keys i;
  value = values i;
  some = is_prop→PathP (λ j. 1 ≤ keys j) (λ j. le_prop) v.some w.some i;
  key_fits = is_prop→PathP (λ j. keys j ≤ 256) (λ j. le_prop) v.key_fits w.key_fits i;
  value_fits = is_prop→PathP (λ j. values j ≤ 256) (λ j. le_prop) v.value_fits w.value_fits i;
}

-- the map that a tree of a table is
pub map_of : (packed : ℕ) (tree : Tree) (capacity root : ℕ) (pages : List ℕ) (es : List Item) (bytes : ℕ → List ℕ) (w : Widths)
    → w.key ≡ key_width packed tree → w.value ≡ value_width packed tree → IsTreeOf packed tree capacity root pages es bytes
    → IsMap w capacity root pages es bytes
map_of packed tree capacity root pages es bytes w keys values is =
    subst (λ (v : Widths). IsMap v capacity root pages es bytes) (same_widths is.widths w (is.keys ∙ sym keys) (is.values ∙ sym values)) is.map
