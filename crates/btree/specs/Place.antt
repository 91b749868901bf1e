-- Where a key belongs among the items of a page.
use Rattle.std.specs.Prelude.{◌≡◌, ℕ, ◌≤◌, ◌<◌, false, List, slice_get, Some}
use Rattle.std.specs.declared.cmp.Ordering.TheVariants.{Less}
use Rattle.std.specs.Ordering.{is_gt}
use Rattle.btree.specs.Page.{Item, key_cmp}

-- this many items have a key up to this one, and all after them a greater one
pub record IsPlace (items : List Item) (key : List ℕ) (n : ℕ) : Type 0 where
  pub upto : (k : ℕ) (e : Item) → k < n → slice_get items k ≡ Some e → is_gt (key_cmp e.0 key) ≡ false
  pub past : (k : ℕ) (e : Item) → n ≤ k → slice_get items k ≡ Some e → key_cmp key e.0 ≡ Less
