-- An image of the disk stores one table at most, of one layout.
use Rattle.std.specs.Prelude.{◌≡◌, ℕ, ◌+◌, ◌≤◌, List, Option, None, Some}
use Rattle.std.proofs.Common.{refl, sym, ◌∙◌, ap, subst, arith}
use Rattle.sector_disk.specs.Disk.{Image}
use Rattle.page_store.specs.Page.{page}
use Rattle.page_chain.specs.lemmas.EveryChain.{a_chain_has_one_content}
use Rattle.game_file.specs.Fields.{layout_in, capacity_in, first_in}
use Rattle.game_file.specs.lemmas.Packings.{one_packing, some_number}
use Rattle.game_file.specs.Kept.{Kept}
use Rattle.tree_table.specs.Held.{KeepsTrees, StoresTrees}
use Rattle.tree_table.specs.Slot.{slot_in}
use Rattle.tree_table.specs.Spelled.{table_in}
use Rattle.tree_table.specs.lemmas.KeptPages.{keeps_in_more_trees}
use Rattle.tree_table.specs.lemmas.SpelledTable.{forest_spells}

-- slot and pages spell one table at most
pub a_root_keeps_one_tree_table : (root : List ℕ) (capacity : ℕ) (one other : Option Kept) (bytes : ℕ → List ℕ)
    → KeepsTrees root capacity one bytes
    → KeepsTrees root capacity other bytes → one ≡ other
a_root_keeps_one_tree_table root capacity None None bytes a b = refl
a_root_keeps_one_tree_table root capacity None (Some l) bytes a b =
    absurd (omega (arith, a.packing, b.keeps.slot.packing, some_number l.packing))
a_root_keeps_one_tree_table root capacity (Some k) None bytes a b =
    absurd (omega (arith, a.keeps.slot.packing, b.packing, some_number k.packing))
a_root_keeps_one_tree_table root capacity (Some k) (Some l) bytes a b =
    let texts =
    a_chain_has_one_content capacity (first_in root) a.text_pages b.text_pages k.text l.text bytes a.keeps.forest.chain b.keeps.forest.chain
    (a.keeps.text ∙ sym b.keeps.text) in
    let one : table_in (slot_in root) bytes ≡ k.table =
    forest_spells (slot_in root) capacity a.pages a.keeps.entries bytes k.table a.keeps.slot.limits.known a.keeps.forest.trees
    a.keeps.spelled in
    let other : table_in (slot_in root) bytes ≡ l.table =
    forest_spells (slot_in root) capacity b.pages b.keeps.entries bytes l.table b.keeps.slot.limits.known b.keeps.forest.trees
    b.keeps.spelled in
    let tables : k.table ≡ l.table = sym one ∙ other in
    let packings : k.packing ≡ l.packing = one_packing root k.packing l.packing a.keeps.slot.packing b.keeps.slot.packing in
    let goals : k.goal ≡ l.goal = sym a.keeps.slot.goal ∙ b.keeps.slot.goal in
    λ i. Some (record { text = texts.1 i; packing = packings i; goal = goals i; table = tables i })

-- an image has one root
one_root : {layout also m n : ℕ} {image : Image} {one other : Option Kept} (a : StoresTrees layout m image one)
    (b : StoresTrees also n image other) → b.root ≡ a.root
one_root a b = sym b.holds.is ∙ a.holds.is

-- an image of the disk stores one table at most, of one layout
pub an_image_stores_one_tree_table : (layout also m n : ℕ) (image : Image) (one other : Option Kept) → StoresTrees layout m image one
    → StoresTrees also n image other → (layout ≡ also) × (one ≡ other)
an_image_stores_one_tree_table layout also m n image one other a b =
    let same : b.root ≡ a.root = one_root a b in (
      sym a.same_layout ∙ ap layout_in (sym same) ∙ b.same_layout,
      a_root_keeps_one_tree_table a.root (m + n) one other (page image)
          (keeps_in_more_trees a.root m (m + n) one (page image) (omega arith) a.keeps)
          (keeps_in_more_trees a.root n (m + n) other (page image) (omega arith)
          (subst (λ (root : List ℕ). KeepsTrees root n other (page image)) same b.keeps)),
    )

-- from layout 3 on it stores the table in one number of pages
pub an_image_says_its_pages : (layout m n : ℕ) (image : Image) (one other : Option Kept) → 3 ≤ layout → StoresTrees layout m image one
    → StoresTrees layout n image other → m ≡ n
an_image_says_its_pages layout m n image one other late a b =
    sym (a.says (omega (arith, late, a.same_layout))) ∙ ap capacity_in (sym (one_root a b)) ∙ b.says (omega (arith, late, b.same_layout))
