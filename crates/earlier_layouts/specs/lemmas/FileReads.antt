-- What reading all of a file leaves of the marks of its pages.
use Rattle.std.specs.Prelude.{◌≡◌, ℕ, List, take, length, Option, None, Contains, IsTrue}
use Rattle.page_store.specs.declared.fault.PageFault.{PageFault}
use Rattle.page_store.specs.declared.fault.PageFault.TheVariants.{Damaged, OutOfMemory}
use Rattle.position_pack.specs.declared.kind.PackingKind.{PackingKind}
use Rattle.retrograde.specs.Stored.{Stored, IsTable}
use Rattle.retrograde.specs.Changes.{counts_of}
use Rattle.table.specs.Fit.{FitsTogether}
use Rattle.table.specs.InMemory.{stored_in}
use Rattle.game_file.specs.declared.sizes.Sizes.{Sizes}
use Rattle.earlier_layouts.specs.Spelled.{SpellsTable}
use Rattle.earlier_layouts.specs.declared.game.Game.{Game}
use Rattle.page_store.specs.declared.marks.Mark.TheVariants.{Committed, Waiting}
use Rattle.page_store.specs.Marks.{mark}
use Rattle.page_store.specs.Spelled.{SpelledBy}
use Rattle.page_store.specs.Store.{Store, reads}
use Rattle.earlier_layouts.specs.Held.{KeepsTable}
use Rattle.game_file.specs.Kept.{Kept}

-- the parts of the table fit together, and there is of each as much as the sizes say
pub record IsSizedTable (sizes : Sizes) (stored : Stored (List ℕ)) : Type 0 where
  pub fits : FitsTogether sizes.packed stored
  pub counts : counts_of stored ≡ sizes.counts

-- the bytes spell this table after the text, and it is whole
pub record IsTableOf (sizes : Sizes) (bytes : List ℕ) (stored : Stored (List ℕ)) : Type 0 where
  pub spelled : SpellsTable sizes bytes (take sizes.text bytes) stored
  pub whole : IsSizedTable sizes stored

-- the game has this packing, and is what a chain of these pages with this content spells
pub record IsGameIn (kind : PackingKind) (sizes : Sizes) (pages content : List ℕ) (game : Game) : Type 0 where
  pub text : game.text.items ≡ take sizes.text content
  pub packing : game.packing ≡ kind
  pub packed : game.packed ≡ sizes.packed
  pub on : game.pages.items ≡ pages
  pub table : IsTableOf sizes content (stored_in game.table)

-- bytes give no table: they spell none whose parts fit together and are counted right; or memory is short
abbrev pub SpellingCause : Sizes → List ℕ → PageFault → Type 0
SpellingCause sizes bytes Damaged = (text : List ℕ) (stored : Stored (List ℕ)) → IsTable stored → counts_of stored ≡ sizes.counts
    → ¬ SpellsTable sizes bytes text stored
SpellingCause sizes bytes OutOfMemory = Unit {0}
SpellingCause sizes bytes _ = ⊥

-- from pages that waited and are marked now this was read; none is marked where there is no table
pub record IsReadFromPages (pages : List ℕ) (kept : Option Kept) (old new : Store) : Type 0 where
  pub waited : (p : ℕ) → Contains pages p → mark old.marks p ≡ Waiting
  pub marked : (p : ℕ) → Contains pages p → mark new.marks p ≡ Committed
  pub none : kept ≡ None → new.marks ≡ old.marks
  pub held : IsTrue old.disk.honest → SpelledBy (λ p. Contains pages p) (reads old) (KeepsTable old.root (length old.marks) kept)
