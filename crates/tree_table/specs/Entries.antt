-- The entries of a table's four trees, in the words of the table.
use Rattle.std.specs.Prelude.{◌≡◌, ℕ, ◌<◌, ◌++◌, Bool, true, List, length, zip, slice_get, Some, IsSome}
use Rattle.byteorder.specs.Endian.{big_bytes}
use Rattle.retrograde.specs.Stored.{Stored}
use Rattle.game_file.specs.declared.sizes.Sizes.{Sizes}
use Rattle.game_file.specs.Bytes.{IsCell, IsNumber}
use Rattle.btree.specs.Page.{Item}
use Rattle.btree.specs.Entries.{find_entry}
use Rattle.tree_table.specs.declared.tree.Tree.{Tree}
use Rattle.tree_table.specs.declared.tree.Tree.TheVariants.{Positions, Records, Edges, Order}

-- the key of a number: its four bytes
abbrev pub number_key : ℕ → List ℕ
number_key n = big_bytes 4 n

-- the key of an edge: the number that a move leads to, then the one that it leads from
abbrev pub edge_key : ℕ → ℕ → List ℕ
edge_key i p = number_key i ++ number_key p

-- the keys are exactly the numbers of these things, from 0 on, and the value at each spells the thing with that number
pub record AreByNumber {A : Type 0} (IsOf : List ℕ → A → Type 0) (es : List Item) (things : List A) : Type 0 where
  pub each : (i : ℕ) (x : A) → slice_get things i ≡ Some x → (value : List ℕ) × (find_entry es (number_key i) ≡ Some value) × IsOf value x
  pub only : (key value : List ℕ) → find_entry es key ≡ Some value → (i : ℕ) × (key ≡ number_key i) × (i < length things)

-- the keys are exactly these positions, and at each is its number
pub record AreByPosition (es : List Item) (positions : List (List ℕ)) : Type 0 where
  pub each : (i : ℕ) (x : List ℕ) → slice_get positions i ≡ Some x → (value : List ℕ) × (find_entry es x ≡ Some value) × IsNumber value i
  pub only : (x value : List ℕ) → find_entry es x ≡ Some value → (i : ℕ) × (slice_get positions i ≡ Some x)

-- the keys are exactly these edges, each between numbers below this count of positions
pub record AreByEdge (es : List Item) (known : ℕ) (has_edge : ℕ → ℕ → Bool) : Type 0 where
  pub each : (i p : ℕ) → has_edge i p ≡ true → IsSome (find_entry es (edge_key i p))
  pub only : (key value : List ℕ) → find_entry es key ≡ Some value → (i p : ℕ) × (key ≡ edge_key i p) × (has_edge i p ≡ true)
  pub between : (i p : ℕ) → has_edge i p ≡ true → (i < known) × (p < known)

-- the trees with these entries are those of this table: the positions with their numbers, the numbers with their positions
-- and records, the edges, the settled order; and these sizes count each of them
pub record AreEntriesOf (sizes : Sizes) (entries : Tree → List Item) (table : Stored (List ℕ)) : Type 0 where
  pub known : length table.positions ≡ sizes.counts.known
  pub recorded : length table.records ≡ sizes.counts.known
  pub settled : length table.order ≡ sizes.counts.settled
  pub edge_count : length (entries Edges) ≡ sizes.edges
  pub positions : AreByPosition (entries Positions) table.positions
  pub records : AreByNumber (IsCell sizes.packed) (entries Records) (zip table.positions table.records)
  pub edges : AreByEdge (entries Edges) sizes.counts.known table.has_edge
  pub order : AreByNumber IsNumber (entries Order) table.order
