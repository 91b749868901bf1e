-- How many pages a unit of work takes, and where it is refused for want of one.
use Rattle.std.proofs.Common.{◌≡◌, subst, ℕ, ◌+◌, ◌*◌, ◌≤◌, List, Some, length, arith, slice_get}
use Rattle.std.proofs.lemmas.List.{length-map}
use Rattle.arrayvec.specs.ArrayVec.{ArrayVec}
use Rattle.legal_moves.specs.Listed.{ListsExactly}
use Rattle.retrograde.specs.Graph.{Graph}
use Rattle.retrograde.specs.Stored.{Stored, expanded_count}
use Rattle.table.specs.Memory.{bytes_of_each}
use Rattle.table.specs.declared.limits.TheConstants.{PAGES_PER_ENTRY}
use Rattle.frontier.specs.Entries.{WritesAtMost}
use Rattle.frontier.proofs.ExpandLemmas.{successor_list}

module _ (graph : Graph (List ℕ)) (stored : Stored (List ℕ)) (x : List ℕ) (found : List (ArrayVec ℕ)) (e : ℕ) (e_is : e ≡ expanded_count stored)
    (at : slice_get stored.positions e ≡ Some x) (lists : ListsExactly (graph.Successor x) (bytes_of_each found)) (n : ℕ) (n_is : n ≡ length found) where
  -- three entries for each position that was found, and two for x
  writes : WritesAtMost graph stored (3 * n + 2)
  writes =
      let same : length (bytes_of_each found) ≡ length found = length-map found (λ (p : ArrayVec ℕ). p.items) in
      WritesAtMost.expands (subst (λ (k : ℕ). slice_get stored.positions k ≡ Some x) e_is at) (successor_list graph x (bytes_of_each found) lists) (omega arith)

  -- what expanding x takes
  pub expanding_takes : (free left : ℕ) → free ≤ left + PAGES_PER_ENTRY * (3 * n) + PAGES_PER_ENTRY * 2
      → (entries : ℕ) × WritesAtMost graph stored entries × (free ≤ left + PAGES_PER_ENTRY * entries)
  expanding_takes free left takes = (3 * n + 2, writes, let few : free ≤ left + PAGES_PER_ENTRY * (3 * n + 2) = omega arith in few)

  -- and where no page is left, no more were free
  pub expanding_full : (free left : ℕ) → free ≤ left + PAGES_PER_ENTRY * (3 * n) + PAGES_PER_ENTRY * 2 → left ≡ 0
      → (entries : ℕ) × WritesAtMost graph stored entries × (free ≤ PAGES_PER_ENTRY * entries)
  expanding_full free left takes none = (3 * n + 2, writes, let few : free ≤ PAGES_PER_ENTRY * (3 * n + 2) = omega arith in few)
