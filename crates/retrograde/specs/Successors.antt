-- The successors of a position as a list.
use Rattle.std.specs.Prelude.{◌↔◌, ℕ, List, Contains}
use Rattle.std.specs.Ordering.{nat_cmp}
use Rattle.std.specs.Cmp.Lexicographic.{slice_cmp}
use Rattle.std.specs.List.Sorted.{IsStrictlySortedBy}
use Rattle.std.specs.declared.cmp.Ordering.{Ordering}
use Rattle.retrograde.specs.Graph.{Graph}

-- packed order: the dictionary order of the bytes
abbrev pub packed_cmp : List ℕ → List ℕ → Ordering
packed_cmp = slice_cmp nat_cmp

-- these are the positions that a move from x leads to, each once, in order
pub record IsSuccessorList {P : Type 0} (cmp : P → P → Ordering) (graph : Graph P) (x : P) (ys : List P) : Type 0 where
  pub each : (y : P) → Contains ys y ↔ graph.Successor x y
  pub ascending : IsStrictlySortedBy cmp ys
