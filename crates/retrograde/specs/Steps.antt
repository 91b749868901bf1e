-- The two units of work: a position is expanded, or a settled one is processed.
use Rattle.std.specs.Prelude.{◌≡◌, ◌↔◌, ℕ, suc, ◌≤◌, ◌⊎◌, true, false, Some, None, length}
use Rattle.rbg_game.specs.declared.roles.Player.{Player}
use Rattle.rbg_game.specs.declared.roles.Role.{Role}
use Rattle.retrograde.specs.Graph.{Graph, Moves, IsEnded, HasMove}
use Rattle.retrograde.specs.View.{View, HasNumber, IsKnown, IsProcessed}
use Rattle.retrograde.specs.Right.{IsCoherent, KnowsMoves, KeeperIsForced, ProcessesInOrder}
use Rattle.retrograde.specs.Local.{HasLocalValues, end_value}

-- what each unit of work keeps, and what makes a table right
pub record IsLocallyRight {P : Type 0} (graph : Graph P) (view : View P) : Type 0 where
  pub coherent : IsCoherent view
  pub moves : KnowsMoves graph view
  pub keeper : KeeperIsForced graph view
  pub order : ProcessesInOrder view
  pub local : HasLocalValues graph view

-- The next position is expanded: x, whose number is the count of those that are.
pub record ExpandsNext {P : Type 0} (graph : Graph P) (old : View P) (x : P) (new : View P) : Type 0 where
  pub number : HasNumber old old.expanded x
  pub expanded : new.expanded ≡ suc old.expanded
  -- what is known then: what was, and what a move from x leads to
  pub kept : (i : ℕ) (y : P) → HasNumber old i y → HasNumber new i y
  pub found : (i : ℕ) (y : P) → HasNumber new i y → HasNumber old i y ⊎ ((length old.known ≤ i) × graph.Successor x y)
  pub closed : (y : P) → graph.Successor x y → IsKnown new y
  pub distinct : (i j : ℕ) (y : P) → HasNumber new i y → HasNumber new j y → i ≡ j
  pub keeper : (y z : P) → graph.mover x ≡ Role.Keeper → graph.Successor x y → graph.Successor x z → y ≡ z
  -- nothing is processed, and x alone may be settled
  pub processed : (i : ℕ) → new.processed i ≡ old.processed i
  pub others : (i : ℕ) → (i ≡ old.expanded → ⊥) → new.value i ≡ old.value i
  pub ended : IsEnded graph x → new.value old.expanded ≡ end_value (graph.ahead x)
  pub moving : HasMove graph x → new.value old.expanded ≡ None
  pub either : IsEnded graph x ⊎ HasMove graph x

-- a move from x leads to s, which is processed for w, and w has the turn at x or all that x leads to is processed
abbrev pub IsDue : {P : Type 0} → Graph P → View P → ℕ → Player → P → Type 0
IsDue {P} graph view s w x =
    ((z : P) × HasNumber view s z × graph.Successor x z)
    × (Moves graph w x ⊎ ((y : P) → graph.Successor x y → IsProcessed view y))

-- A nearest of the settled numbers that wait is processed: s, which w wins in d.
pub record ProcessesNext {P : Type 0} (graph : Graph P) (old : View P) (s : ℕ) (w : Player) (d : ℕ) (new : View P) : Type 0 where
  pub all_expanded : old.expanded ≡ length old.known
  pub settled : old.value s ≡ Some (w, d)
  pub waits : old.processed s ≡ false
  pub nearest : (i : ℕ) (v : Player) (n : ℕ) → old.processed i ≡ false → old.value i ≡ Some (v, n) → d ≤ n
  pub known : new.known ≡ old.known
  pub expanded : new.expanded ≡ old.expanded
  pub processed : (i : ℕ) → (new.processed i ≡ true) ↔ ((old.processed i ≡ true) ⊎ (i ≡ s))
  -- what is settled stays so, and what is due is settled one farther than s
  pub kept : (i : ℕ) (value : Player × ℕ) → old.value i ≡ Some value → new.value i ≡ Some value
  pub due : (i : ℕ) (x : P) → HasNumber new i x → old.value i ≡ None
      → (IsDue graph new s w x × (new.value i ≡ Some (w, suc d))) ⊎ ((IsDue graph new s w x → ⊥) × (new.value i ≡ None))
  pub none_outside : (i : ℕ) → length new.known ≤ i → new.value i ≡ None
