-- Items as bytes.
use Rattle.std.specs.Prelude.{◌≡◌, ◌≤◌, ◌-◌, ◌*◌, ◌/◌, ℕ, List, length}
use Rattle.btree.specs.declared.page.kind.Kind.{Kind}
use Rattle.btree.specs.declared.page.kind.Kind.TheVariants.{Inner}
use Rattle.btree.specs.declared.page.widths.Widths.{Widths}
use Rattle.btree.specs.Page.{Item, behind_of, item_width, items_of, least_of}
use Rattle.btree.specs.declared.page.kind.TheConstants.{ROOM}

-- this many items, as bytes
abbrev pub listed : Widths → Kind → ℕ → List ℕ → List Item
listed w kind count bytes = items_of w.key (behind_of w kind) count bytes

-- there are as many bytes as this many items take
abbrev pub AreItemBytes : Widths → Kind → ℕ → List ℕ → Type 0
AreItemBytes w kind count bytes = length bytes ≡ count * item_width w kind

-- there is one item or there are two, and they lead to pages
pub record AreFewTops (w : Widths) (count : ℕ) (bytes : List ℕ) : Type 0 where
  pub some : 1 ≤ count
  pub few : count ≤ 2
  pub whole : AreItemBytes w Inner count bytes

-- where so many items are cut in two pages: where none of the old items is behind the new ones, as few stay for the second
-- as a page may have, and else half
pub record CutsAt (kind : Kind) (count behind cut : ℕ) : Type 0 where
  pub end : behind ≡ 0 → cut ≡ count - least_of kind
  pub half : 1 ≤ behind → cut ≡ count / 2

-- this many items are cut at this place into two parts, and each is enough for a page and fits on one
pub record IsCut (w : Widths) (kind : Kind) (count cut : ℕ) : Type 0 where
  pub front_enough : least_of kind ≤ cut
  pub back_enough : least_of kind ≤ count - cut
  pub front_fits : cut * item_width w kind ≤ ROOM
  pub back_fits : (count - cut) * item_width w kind ≤ ROOM
