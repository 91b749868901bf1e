-- What holds of all that a file keeps, for readers in src/laws.rt and for proofs here.
use Rattle.std.specs.Prelude.{◌≡◌, ℕ, List, Option, None, Some}
use Rattle.std.proofs.Common.{refl, sym, ◌∙◌, subst, arith}
use Rattle.sector_disk.specs.Disk.{Image}
use Rattle.page_store.specs.Page.{page}
use Rattle.page_chain.specs.lemmas.EveryChain.{a_chain_has_one_content}
use Rattle.earlier_layouts.specs.Spelled.{SpellsTable}
use Rattle.earlier_layouts.specs.lemmas.Laws.{tables_have_their_length, bytes_spell_one_table}
use Rattle.game_file.specs.lemmas.Packings.{one_packing, some_number}
use Rattle.earlier_layouts.specs.Slot.{first_in, sizes_in}
use Rattle.earlier_layouts.specs.Held.{KeepsTable, capacity_of, Stores}
use Rattle.earlier_layouts.specs.lemmas.StoredLaws.{keeps_in_more}
use Rattle.game_file.specs.Kept.{Kept}

-- slot and pages spell one table at most
pub a_root_keeps_one_table : (root : List ℕ) (capacity : ℕ) (one other : Option Kept) (bytes : ℕ → List ℕ)
    → KeepsTable root capacity one bytes
    → KeepsTable root capacity other bytes → one ≡ other
a_root_keeps_one_table root capacity None None bytes a b = refl
a_root_keeps_one_table root capacity None (Some l) bytes a b = absurd (omega (arith, a.packing, b.packing, some_number l.packing))
a_root_keeps_one_table root capacity (Some k) None bytes a b = absurd (omega (arith, a.packing, b.packing, some_number k.packing))
a_root_keeps_one_table root capacity (Some k) (Some l) bytes a b =
    let (pages, same) =
    a_chain_has_one_content capacity (first_in root) a.pages b.pages a.content b.content bytes a.chain b.chain
    (tables_have_their_length (sizes_in root) a.content k.text k.table a.spells
    ∙ sym (tables_have_their_length (sizes_in root) b.content l.text l.table b.spells)) in
    let (texts, tables) =
    bytes_spell_one_table (sizes_in root) b.content k.text l.text k.table l.table
    (subst (λ (content : List ℕ). SpellsTable (sizes_in root) content k.text k.table) same a.spells) b.spells in
    let packings = one_packing root k.packing l.packing a.packing b.packing in
    let goals : k.goal ≡ l.goal = a.no_goal ∙ sym b.no_goal in
    λ i. Some (record { text = texts i; packing = packings i; goal = goals i; table = tables i })

-- an image of the disk stores one table at most, in whatever number of pages
pub an_image_stores_one_table : (m n : ℕ) (image : Image) (one other : Option Kept) → Stores m image one → Stores n image other
    → one ≡ other
an_image_stores_one_table m n image one other a b =
    let same : b.root ≡ a.root = sym b.holds.is ∙ a.holds.is in
    a_root_keeps_one_table a.root (capacity_of image) one other (page image)
    (keeps_in_more a.root m (capacity_of image) one (page image) a.room a.keeps)
    (subst (λ (root : List ℕ). KeepsTable root (capacity_of image) other (page image)) same
    (keeps_in_more b.root n (capacity_of image) other (page image) b.room b.keeps))
