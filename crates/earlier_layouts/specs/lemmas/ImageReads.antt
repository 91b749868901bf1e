-- What reading one cell adds to a table, and which edge may come next.
use Rattle.std.specs.Prelude.{◌≡◌, ◌↔◌, ℕ, true, List, [], length, zip, Contains, Option, None, Some}
use Rattle.std.specs.List.Sorted.{IsStrictlySortedBy}
use Rattle.retrograde.specs.Stored.{Stored}
use Rattle.table.specs.Memory.{edge_cmp}
use Rattle.game_file.specs.Bytes.{IsCell, IsEdge, IsNumber}
use Rattle.earlier_layouts.specs.Spelled.{AreSpelled}
use Rattle.std.specs.declared.cmp.Ordering.TheVariants.{Less}
use Rattle.retrograde.specs.declared.records.Record.{Record}
use Rattle.retrograde.specs.Changes.{with_position, with_record}

-- these bytes spell the positions and their records
pub record AreCells (packed : ℕ) (bytes : List ℕ) (stored : Stored (List ℕ)) : Type 0 where
  pub paired : length stored.records ≡ length stored.positions
  pub spelled : AreSpelled (IsCell packed) bytes (zip stored.positions stored.records)

-- the edges and the settled order are as they were
pub record KeepsRest (old new : Stored (List ℕ)) : Type 0 where
  pub edges : new.has_edge ≡ old.has_edge
  pub order : new.order ≡ old.order

-- there is no edge, and nothing is settled
pub record HasNoRest (stored : Stored (List ℕ)) : Type 0 where
  pub edges : (i p : ℕ) → stored.has_edge i p ≡ true → ⊥
  pub order : stored.order ≡ []

-- the table of one position with its record, which these bytes spell
pub record IsFirstEntry (packed : ℕ) (bytes : List ℕ) (stored : Stored (List ℕ)) : Type 0 where
  pub cells : AreCells packed bytes stored
  pub rest : HasNoRest stored
  pub one : length stored.positions ≡ 1

-- these bytes spell the table's edges, ascending
pub record AreEdges (bytes : List ℕ) (count : ℕ) (stored : Stored (List ℕ)) : Type 0 where
  pub edges : List (ℕ × ℕ)
  pub spelled : AreSpelled IsEdge bytes edges
  pub counted : length edges ≡ count
  pub ascending : IsStrictlySortedBy edge_cmp edges
  pub exactly : (i p : ℕ) → Contains edges (i, p) ↔ (stored.has_edge i p ≡ true)

-- the positions, the records and the settled order are as they were
pub record ChangesEdges (old new : Stored (List ℕ)) : Type 0 where
  pub positions : new.positions ≡ old.positions
  pub records : new.records ≡ old.records
  pub order : new.order ≡ old.order

-- the settled order alone is another
pub record ChangesOrder (old new : Stored (List ℕ)) : Type 0 where
  pub positions : new.positions ≡ old.positions
  pub records : new.records ≡ old.records
  pub edges : new.has_edge ≡ old.has_edge

-- these bytes spell the settled order, of this many numbers, and nothing else is another
pub record AddsOrder (bytes : List ℕ) (count : ℕ) (old new : Stored (List ℕ)) : Type 0 where
  pub spelled : AreSpelled IsNumber bytes new.order
  pub counted : length new.order ≡ count
  pub others : ChangesOrder old new

-- one more position with its record, which these bytes spell
pub record AddsCell (packed : ℕ) (bytes : List ℕ) (old new : Stored (List ℕ)) : Type 0 where
  pub cell : List ℕ × Record
  pub is_cell : IsCell packed bytes cell
  pub added : new ≡ with_record (with_position old cell.0) (length old.positions) cell.1

-- an edge comes after the one before it, if there is one
abbrev pub IsPast : Option (ℕ × ℕ) → ℕ × ℕ → Type 0
IsPast None edge = Unit {0}
IsPast (Some before) edge = edge_cmp before edge ≡ Less
