-- What is shown of the configurations at which a search for moves ended.
use Rattle.std.specs.Prelude.{◌≡◌, ℕ, zero, suc, ◌≤◌, List, [], ◌∷◌, ◌++◌, map, Some, slice_get, option_map, unwrap_or}
use Rattle.std.specs.Prelude.{if◌then◌else◌}
use Rattle.arrayvec.specs.ArrayVec.{ArrayVec}
use Rattle.legal_moves.specs.Listed.{ShownMove}
use Rattle.legal_moves.specs.Configurations.{Configuration}
use Rattle.legal_moves.specs.declared.successor.Successor.{Successor}

-- the vertex that is current at an index
abbrev pub vertex_at : List Configuration → ℕ → ℕ
vertex_at cs i = unwrap_or (option_map (λ c. c.at.state.vertex) (slice_get cs i)) 0

-- the modifiers on the way to an index, each with the vertex that was current, at most n actions back
abbrev pub shown_to : List Configuration → ℕ → ℕ → List (ℕ × ℕ)
shown_to cs zero i = []
shown_to cs (suc n) zero = []
shown_to cs (suc n) (suc i) =
    unwrap_or (option_map (λ c. shown_to cs n c.parent ++ (if c.shows then (c.at.place, vertex_at cs c.parent) ∷ [] else []))
    (slice_get cs (suc i))) []

-- what is shown of a successor
abbrev pub shown_of : List Configuration → Successor → ShownMove
shown_of cs s = record { next = s.packed.items; shown = shown_to cs s.index s.index }

-- what is shown of the configurations at indices, with their bytes
abbrev pub moves_of : List Configuration → List (ArrayVec ℕ × ℕ) → List ShownMove
moves_of cs ps = map (λ p. shown_of cs (record { packed = p.0; index = p.1 })) ps

-- each is after the one that it comes from
abbrev pub ComeFromBefore : List Configuration → Type 0
ComeFromBefore cs = (i : ℕ) (c : Configuration) → slice_get cs (suc i) ≡ Some c → c.parent ≤ i
