-- A root has one tree of a table.
use Rattle.std.proofs.Common.{◌≡◌, ℕ, ◌≤◌, List, sym, ◌∙◌, subst}
use Rattle.std.proofs.Math.Bridge.{le_prop}
use mathlib.Core.HLevel.{is_prop→PathP}
use Rattle.btree.specs.Page.{Item}
use Rattle.btree.specs.declared.page.widths.Widths.{Widths}
use Rattle.btree.specs.Tree.{IsMap}
use Rattle.btree.specs.lemmas.Laws.{a_root_has_one_map}
use Rattle.tree_table.specs.declared.tree.Tree.{Tree}
use Rattle.tree_table.specs.Forest.{IsTreeOf}
use Rattle.tree_table.specs.Trees.{key_width, value_width}

-- widths with the same lengths are the same
pub same_widths : (v w : Widths) → v.key ≡ w.key → v.value ≡ w.value → v ≡ w
same_widths v w keys values = λ i. record {
  key = keys i;
  value = values i;
  some = is_prop→PathP (λ j. 1 ≤ keys j) (λ j. le_prop) v.some w.some i;
  key_fits = is_prop→PathP (λ j. keys j ≤ 256) (λ j. le_prop) v.key_fits w.key_fits i;
  value_fits = is_prop→PathP (λ j. values j ≤ 256) (λ j. le_prop) v.value_fits w.value_fits i;
}

-- the map that a tree of a table is
pub map_of : (packed : ℕ) (tree : Tree) (capacity root : ℕ) (pages : List ℕ) (es : List Item) (bytes : ℕ → List ℕ) (w : Widths)
    → w.key ≡ key_width packed tree → w.value ≡ value_width packed tree → IsTreeOf packed tree capacity root pages es bytes
    → IsMap w capacity root pages es bytes
map_of packed tree capacity root pages es bytes w keys values is =
    subst (λ (v : Widths). IsMap v capacity root pages es bytes)
    (same_widths is.widths w (is.keys ∙ sym keys) (is.values ∙ sym values)) is.map

-- a root has one tree
pub one_tree : (packed : ℕ) (tree : Tree) (capacity root : ℕ) (pages others : List ℕ) (es fs : List Item) (bytes : ℕ → List ℕ)
    → IsTreeOf packed tree capacity root pages es bytes → IsTreeOf packed tree capacity root others fs bytes → (pages ≡ others) × (es ≡ fs)
one_tree packed tree capacity root pages others es fs bytes one two =
    a_root_has_one_map one.widths capacity root pages others es fs bytes one.map
    (map_of packed tree capacity root others fs bytes one.widths one.keys one.values two)
