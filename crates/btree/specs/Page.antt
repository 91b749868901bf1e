-- A page of a tree: its kind, how many items it holds, and the items one after another. What stands after them is ignored.
use Rattle.std.specs.Prelude.{◌≡◌, ℕ, zero, suc, ◌+◌, ◌*◌, ◌≤◌, List, [], ◌∷◌, length, take, drop, slice_index}
use Rattle.std.specs.declared.cmp.Ordering.{Ordering}
use Rattle.std.specs.Cmp.Lexicographic.{slice_cmp}
use Rattle.std.specs.Ordering.{nat_cmp}
use Rattle.byteorder.specs.Endian.{big_number}
use Rattle.btree.specs.declared.page.kind.Kind.{Kind}
use Rattle.btree.specs.declared.page.kind.Kind.TheVariants.{Leaf, Inner}
use Rattle.btree.specs.declared.page.widths.Widths.{Widths}
use Rattle.btree.specs.declared.page.kind.TheConstants.{ROOM}

-- a key, and what stands after it: in a leaf its value, in an inner page the page of a child
abbrev pub Item : Type 0
Item = List ℕ × List ℕ

-- the order of keys: that of their bytes
abbrev pub key_cmp : List ℕ → List ℕ → Ordering
key_cmp = slice_cmp nat_cmp

-- the first byte of a page
abbrev pub kind_byte : Kind → ℕ
kind_byte Leaf = 1
kind_byte Inner = 2

-- how many items a page has at least
abbrev pub least_of : Kind → ℕ
least_of Leaf = 1
least_of Inner = 2

-- how many bytes stand after a key
abbrev pub behind_of : Widths → Kind → ℕ
behind_of w Leaf = w.value
behind_of w Inner = 4

-- how many bytes an item takes
abbrev pub item_width : Widths → Kind → ℕ
item_width w kind = w.key + behind_of w kind

-- this many items, read one after another: each a key of this length, and this many bytes after it
abbrev pub items_of : ℕ → ℕ → ℕ → List ℕ → List Item
items_of key behind zero bytes = []
items_of key behind (suc n) bytes = (take key bytes, take behind (drop key bytes)) ∷ items_of key behind n (drop (key + behind) bytes)

-- how many items a page says that it has
abbrev pub count_in : List ℕ → ℕ
count_in bytes = 256 * slice_index bytes 2 + slice_index bytes 3

-- the items of a page
abbrev pub items_in : Widths → Kind → List ℕ → List Item
items_in w kind bytes = items_of w.key (behind_of w kind) (count_in bytes) (drop 4 bytes)

-- these bytes are a page of a tree: its kind, a zero, the number of items in two bytes, and room for as many
pub record IsPage (w : Widths) (kind : Kind) (bytes : List ℕ) : Type 0 where
  pub long : length bytes ≡ 4096
  pub first : slice_index bytes 0 ≡ kind_byte kind
  pub second : slice_index bytes 1 ≡ 0
  pub enough : least_of kind ≤ count_in bytes
  pub fits : count_in bytes * item_width w kind ≤ ROOM

-- the page that an item of an inner page leads to
abbrev pub child_of : Item → ℕ
child_of item = big_number 4 item.1
