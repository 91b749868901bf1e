-- The next entry, in plain words.
use Rattle.std.specs.Prelude.{◌≡◌, ℕ, false, List, Contains}
use Rattle.std.specs.declared.cmp.Ordering.TheVariants.{Less}
use Rattle.std.specs.Ordering.{is_gt}
use Rattle.btree.specs.Page.{Item, key_cmp}

-- it is one of the entries, its key is greater, and no other greater key is less
pub record IsNextEntry (es : List Item) (key : List ℕ) (next : Item) : Type 0 where
  pub there : Contains es next
  pub greater : key_cmp key next.0 ≡ Less
  pub least : (e : Item) → Contains es e → key_cmp key e.0 ≡ Less → is_gt (key_cmp next.0 e.0) ≡ false
