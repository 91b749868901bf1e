-- How many entries of a table's trees the next unit of work writes at most.
use Rattle.std.specs.Prelude.{◌≡◌, ℕ, ◌+◌, ◌*◌, Some, List, length, slice_get}
use Rattle.retrograde.specs.Graph.{Graph}
use Rattle.retrograde.specs.Stored.{Stored, count_below, expanded_count, processed_count}
use Rattle.retrograde.specs.Successors.{packed_cmp, IsSuccessorList}

-- how many of the positions with a number below n lead to the one with number s
abbrev pub edges_below : {P : Type 0} → Stored P → ℕ → ℕ → ℕ
edges_below stored s n = count_below n (stored.has_edge s)

-- the next unit of work on this table writes at most this many entries. Where it expands x: of each position that a move leads to its number,
-- its record and its edge, and the record of x and its place in the order. Where all are expanded and it processes s: the record of s, and of each
-- position from which an edge leads to s its record and its place in the order
pub data WritesAtMost (graph : Graph (List ℕ)) (stored : Stored (List ℕ)) (entries : ℕ) : Type 0 where
  expands : {x : List ℕ} {ys : List (List ℕ)} → slice_get stored.positions (expanded_count stored) ≡ Some x
      → IsSuccessorList packed_cmp graph x ys → entries ≡ 3 * length ys + 2 → WritesAtMost graph stored entries
  processes : {s : ℕ} → slice_get stored.order (processed_count stored) ≡ Some s → expanded_count stored ≡ length stored.positions
      → entries ≡ 2 * edges_below stored s (length stored.positions) + 1 → WritesAtMost graph stored entries
