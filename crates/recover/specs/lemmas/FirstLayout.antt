-- A game of a file of the first layout that was only looked at.
use Rattle.std.specs.Prelude.{◌≡◌}
use Rattle.earlier_layouts.specs.File.{kept_in}
use Rattle.earlier_layouts.specs.declared.game.Game.{Game}

-- the text, the packing, the table, the length of its positions and the pages are as they were
pub record IsSameGame (old new : Game) : Type 0 where
  pub kept : kept_in new ≡ kept_in old
  pub packed : new.packed ≡ old.packed
  pub pages : new.pages.items ≡ old.pages.items
