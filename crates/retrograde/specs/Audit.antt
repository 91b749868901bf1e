-- What audit asks of each number of a stored table: seven conditions, A1 to A7. A number is expanded where it is below
-- the count of expanded ones.
use Rattle.std.specs.Prelude.{◌≡◌, ◌≢◌, ◌↔◌, ℕ, suc, ◌≤◌, ◌<◌, ◌⊎◌, true, not, Some, None, List, length, slice_get}
use Rattle.std.specs.Prelude.{count_by, All, AllPairs, Contains}
use Rattle.std.specs.List.{AllZip}
use Rattle.rbg_game.specs.declared.roles.Player.{Player}
use Rattle.rbg_game.specs.declared.roles.Role.{Role}
use Rattle.retrograde.specs.declared.records.Record.{Record}
use Rattle.retrograde.specs.Graph.{Graph, HasMove, IsEnded}
use Rattle.retrograde.specs.View.{View, HasNumber}
use Rattle.retrograde.specs.Stored.{Stored, HasRecord, view_of, expanded_count}
use Rattle.retrograde.specs.Local.{end_value, IsMoveValue}

-- A1: number 0 is the start, and an edge leads to any other from an expanded position with a smaller number
abbrev pub IsReached : {P : Type 0} → Graph P → Stored P → ℕ → P → Type 0
IsReached graph stored i x =
    ((i ≡ 0) × (x ≡ graph.start))
    ⊎ ((p : ℕ) × (p < i) × (p < expanded_count stored) × (stored.has_edge i p ≡ true))

-- ys are the successors of x, each once; all are known, and js are their numbers, in the same order
pub record AreSuccessors {P : Type 0} (graph : Graph P) (view : View P) (x : P) (ys : List P) (js : List ℕ) : Type 0 where
  pub each : (y : P) → Contains ys y ↔ graph.Successor x y
  pub once : AllPairs ◌≢◌ ys
  pub numbers : AllZip (λ y j. HasNumber view j y) ys js

-- ys with the numbers js are the successors of x, and each has its edge from i; the record of i has their count, and that of
-- those that are not processed; where the keeper has the turn there is one at most
pub record AreItsMoves {P : Type 0} (graph : Graph P) (stored : Stored P) (i : ℕ) (x : P) (ys : List P) (js : List ℕ) : Type 0 where
  pub are : AreSuccessors graph (view_of stored) x ys js
  pub edges : All (λ j. stored.has_edge j i ≡ true) js
  pub counted : (r : Record) → HasRecord stored i r → r.successors ≡ length ys
  pub left : (r : Record) → HasRecord stored i r → r.left ≡ count_by (λ j. not ((view_of stored).processed j)) js
  pub keeper : graph.mover x ≡ Role.Keeper → length ys ≤ 1

-- the moves from i have their edges, and are counted right
abbrev pub HasItsMoves : {P : Type 0} → Graph P → Stored P → ℕ → P → Type 0
HasItsMoves {P} graph stored i x = (ys : List P) × (js : List ℕ) × AreItsMoves graph stored i x ys js

-- each edge to i comes from an expanded position of which x is a successor
abbrev pub EdgesAreMoves : {P : Type 0} → Graph P → Stored P → ℕ → P → Type 0
EdgesAreMoves {P} graph stored i x =
    (p : ℕ) → stored.has_edge i p ≡ true
    → (z : P) × HasNumber (view_of stored) p z × (p < expanded_count stored) × graph.Successor z x

-- A2: if it is expanded, its moves have their edges and are counted right; each edge to it is a move
pub record HasItsEdges {P : Type 0} (graph : Graph P) (stored : Stored P) (i : ℕ) (x : P) : Type 0 where
  pub from_it : i < expanded_count stored → HasItsMoves graph stored i x
  pub to_it : EdgesAreMoves graph stored i x

-- A3: it isn't processed unless all known positions are expanded
abbrev pub IsProcessedLate : {P : Type 0} → Stored P → ℕ → Type 0
IsProcessedLate stored i = (view_of stored).processed i ≡ true → expanded_count stored ≡ length stored.positions

-- A4: its distance is not less than that of the one before it in the settled order
abbrev pub IsNoNearer : {P : Type 0} → Stored P → ℕ → Type 0
IsNoNearer stored i =
    (k j : ℕ) (v w : Player) (m n : ℕ) → slice_get stored.order k ≡ Some j → slice_get stored.order (suc k) ≡ Some i
    → (view_of stored).value j ≡ Some (v, m) → (view_of stored).value i ≡ Some (w, n) → m ≤ n

-- A5: if it is expanded and ended, it is settled for the player ahead at 0, or unsettled where nobody is ahead
abbrev pub IsSettledAtTheEnd : {P : Type 0} → Graph P → Stored P → ℕ → P → Type 0
IsSettledAtTheEnd graph stored i x =
    i < expanded_count stored → IsEnded graph x → (view_of stored).value i ≡ end_value (graph.ahead x)

-- A6: if it is expanded and not ended, its value is the one that its processed successors give it
abbrev pub IsSettledByItsMoves : {P : Type 0} → Graph P → Stored P → ℕ → P → Type 0
IsSettledByItsMoves graph stored i x =
    i < expanded_count stored → HasMove graph x → IsMoveValue graph (view_of stored) x ((view_of stored).value i)

-- A7: if it is not expanded, it is unsettled
abbrev pub IsUnsettledBefore : {P : Type 0} → Stored P → ℕ → Type 0
IsUnsettledBefore stored i = expanded_count stored ≤ i → (view_of stored).value i ≡ None
