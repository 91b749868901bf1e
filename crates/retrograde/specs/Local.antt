-- How the processed successors of a position settle it.
use Rattle.std.specs.Prelude.{◌≡◌, ℕ, suc, ◌≤◌, ◌<◌, true, Option, Some, None, option_map}
use Rattle.rbg_game.specs.declared.roles.Player.{Player}
use Rattle.retrograde.specs.Graph.{Graph, Moves, HasMove, IsEnded}
use Rattle.retrograde.specs.Values.{CanMoveTo}
use Rattle.retrograde.specs.View.{View, HasNumber, IsProcessed}

-- y is processed, and settled for w at n
abbrev pub IsProcessedFor : {P : Type 0} → View P → Player → ℕ → P → Type 0
IsProcessedFor view w n y = (i : ℕ) × HasNumber view i y × (view.processed i ≡ true) × (view.value i ≡ Some (w, n))

-- w has the turn and a move to a processed position of its own, the nearest of them at n
pub record HasOwnWin {P : Type 0} (graph : Graph P) (view : View P) (x : P) (w : Player) (n : ℕ) : Type 0 where
  pub turn : Moves graph w x
  pub nearest : (y : P) × graph.Successor x y × IsProcessedFor view w n y
  pub least : (y : P) (m : ℕ) → graph.Successor x y → IsProcessedFor view w m y → n ≤ m

-- nobody has the turn and a move to a processed position of its own
abbrev pub HasNoOwnWin : {P : Type 0} → Graph P → View P → P → Type 0
HasNoOwnWin graph view x = (w : Player) (n : ℕ) → CanMoveTo graph w (IsProcessedFor view w n) x → ⊥

-- each move leads to a processed position of w, and the farthest of them is at n
pub record AllLeadTo {P : Type 0} (graph : Graph P) (view : View P) (x : P) (w : Player) (n : ℕ) : Type 0 where
  pub each : (y : P) → graph.Successor x y → (m : ℕ) × (m ≤ n) × IsProcessedFor view w m y
  pub farthest : (y : P) × graph.Successor x y × IsProcessedFor view w n y

-- the value of an ended position
abbrev pub end_value : Option Player → Option (Player × ℕ)
end_value ahead = option_map (λ w. (w, 0)) ahead

-- the value of a position that has a move, by its processed successors
pub data IsMoveValue {P : Type 0} (graph : Graph P) (view : View P) (x : P) (value : Option (Player × ℕ)) : Type 0 where
  own_win : (w : Player) (n : ℕ) → HasOwnWin graph view x w n → value ≡ Some (w, suc n) → IsMoveValue graph view x value
  all_lead : (w : Player) (n : ℕ) → HasNoOwnWin graph view x → AllLeadTo graph view x w n → value ≡ Some (w, suc n)
      → IsMoveValue graph view x value
  still_open : HasNoOwnWin graph view x → (((y : P) → graph.Successor x y → IsProcessed view y) → ⊥) → value ≡ None
      → IsMoveValue graph view x value

-- The value of an expanded position follows from the processed ones that it leads to.
pub data IsLocalValue {P : Type 0} (graph : Graph P) (view : View P) (x : P) (value : Option (Player × ℕ)) : Type 0 where
  at_end : IsEnded graph x → value ≡ end_value (graph.ahead x) → IsLocalValue graph view x value
  by_moves : HasMove graph x → IsMoveValue graph view x value → IsLocalValue graph view x value

-- that each expanded position has such a value
abbrev pub HasLocalValues : {P : Type 0} → Graph P → View P → Type 0
HasLocalValues {P} graph view = (i : ℕ) (x : P) → HasNumber view i x → i < view.expanded → IsLocalValue graph view x (view.value i)
