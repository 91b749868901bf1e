-- What holds of all that a file of layout 1 keeps.
use Rattle.std.specs.Prelude.{◌≡◌, ℕ, ◌*◌, ◌^◌, ◌≤◌, false, List, length, Option, None, Some, Contains, IsTrue}
use Rattle.std.proofs.Common.{arith}
use Rattle.std.proofs.Math.Nat.{le-min, le-div_iff_mul-le}
use Rattle.sector_disk.specs.Disk.{Image}
use Rattle.page_store.specs.lemmas.Carried.{stop_leaves}
use Rattle.page_store.specs.Spelled.{SpelledBy, Spells}
use Rattle.page_store.specs.Store.{StopLeaves}
use Rattle.page_chain.specs.lemmas.EveryChain.{a_chain_rests_on_its_pages, a_chain_fits_more, a_chain_is_not_longer}
use Rattle.earlier_layouts.specs.lemmas.Laws.{tables_have_their_length}
use Rattle.earlier_layouts.specs.Slot.{sizes_in}
use Rattle.earlier_layouts.specs.File.{FlatFile, IsFile, kept_of}
use Rattle.earlier_layouts.specs.Held.{KeepsGame, KeepsTable, capacity_of, Stores}
use Rattle.game_file.specs.Kept.{Kept}

-- what is kept of a game rests on the pages of its chain alone
pub game_rests_on_its_pages : (root : List ℕ) (capacity : ℕ) (kept : Kept) (bytes : ℕ → List ℕ) (it : KeepsGame root capacity kept bytes)
    → SpelledBy (λ p. Contains it.pages p) bytes (KeepsTable root capacity (Some kept))
game_rests_on_its_pages root capacity kept bytes it = record {
  anywhere = λ other same. record {
    layout = it.layout;
    packing = it.packing;
    no_goal = it.no_goal;
    limits = it.limits;
    pages = it.pages;
    content = it.content;
    chain = (a_chain_rests_on_its_pages capacity _ it.pages it.content bytes it.chain).anywhere other same;
    spells = it.spells;
    table = it.table;
    counts = it.counts;
  };
}

-- the pages have room for fewer edges than a slot may tell of
pub few_edges : (root : List ℕ) (capacity : ℕ) (kept : Kept) (bytes : ℕ → List ℕ) → capacity ≤ 1048576 → KeepsGame root capacity kept bytes
    → (sizes_in root).edges ≤ 2 ^ 32
few_edges root capacity kept bytes few it =
    omega (
      arith,
      few,
      a_chain_is_not_longer capacity _ it.pages it.content bytes it.chain,
      tables_have_their_length
          (sizes_in root) it.content kept.text kept.table it.spells,
    )

-- what is kept in fewer pages is kept in more
pub keeps_in_more : (root : List ℕ) (fewer more : ℕ) (kept : Option Kept) (bytes : ℕ → List ℕ) → fewer ≤ more
    → KeepsTable root fewer kept bytes
    → KeepsTable root more kept bytes
keeps_in_more root fewer more None bytes le it = it
keeps_in_more root fewer more (Some kept) bytes le it = record {
  layout = it.layout;
  packing = it.packing;
  no_goal = it.no_goal;
  limits = it.limits;
  pages = it.pages;
  content = it.content;
  chain = a_chain_fits_more fewer more _ it.pages it.content bytes le it.chain;
  spells = it.spells;
  table = it.table;
  counts = it.counts;
}

-- this many pages are within what an image with room for them has
within_capacity : (image : Image) (c : ℕ) → 8 * c ≤ length image → c ≤ 1048576 → c ≤ capacity_of image
within_capacity image c room few = le-min ((le-div_iff_mul-le (omega arith)).1 (omega (arith, room))) few

-- an image with this root whose pages spell this stores it in this many
pub spells_stores : (root : List ℕ) (c : ℕ) (kept : Option Kept) (image : Image) → 16 ≤ c → c ≤ 1048576
    → Spells root c (KeepsTable root c kept) image → Stores c image kept
spells_stores root c kept image enough few it =
    record { root = root; holds = it.holds; least = enough; room = within_capacity image c it.room few; keeps = it.spelt }

-- between commands a stop leaves what is kept
pub a_file_is_kept : (file : FlatFile) → IsFile file → IsTrue file.store.disk.honest → file.store.closed ≡ false
    → StopLeaves file.store (λ image. Stores (length file.store.marks) image (kept_of file.game))
a_file_is_kept file it honest is_open image left =
    spells_stores file.store.root (length file.store.marks) (kept_of file.game) image it.backed.room it.sound.few
    (stop_leaves file.store (it.backed.stands honest is_open) (it.sound.safe honest is_open) image left)
