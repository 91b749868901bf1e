-- When a table is right: what it knows, and what it says of it.
use Rattle.std.specs.Prelude.{◌≡◌, ℕ, suc, ◌≤◌, ◌<◌, ◌⊎◌, ◌↔◌, true, false, Some, IsSome, length}
use Rattle.rbg_game.specs.declared.roles.Player.{Player}
use Rattle.rbg_game.specs.declared.roles.Role.{Role}
use Rattle.retrograde.specs.Graph.{Graph, IsReachable}
use Rattle.retrograde.specs.Values.{CanMoveTo, MustMoveTo, WonIn}
use Rattle.retrograde.specs.View.{View, HasNumber, IsKnown, IsExpanded, IsProcessed, HasValue}

-- the numbers fit together: no position has two, and only settled positions are processed
pub record IsCoherent {P : Type 0} (view : View P) : Type 0 where
  pub distinct : (i j : ℕ) (x : P) → HasNumber view i x → HasNumber view j x → i ≡ j
  pub expanded : view.expanded ≤ length view.known
  pub settled : (i : ℕ) → IsSome (view.value i) → i < view.expanded
  pub processed : (i : ℕ) → view.processed i ≡ true → IsSome (view.value i)

-- the known positions are the start and what a move from an expanded one leads to
pub record KnowsMoves {P : Type 0} (graph : Graph P) (view : View P) : Type 0 where
  pub first : HasNumber view 0 graph.start
  pub later : (i : ℕ) (x : P) → HasNumber view (suc i) x → (y : P) × IsExpanded view y × graph.Successor y x
  pub closed : (x y : P) → IsExpanded view x → graph.Successor x y → IsKnown view y
  pub reached : (x : P) → IsKnown view x → IsReachable graph x

-- the keeper has no choice at an expanded position
abbrev pub KeeperIsForced : {P : Type 0} → Graph P → View P → Type 0
KeeperIsForced {P} graph view =
    (x y z : P) → IsExpanded view x → graph.mover x ≡ Role.Keeper → graph.Successor x y → graph.Successor x z → y ≡ z

-- positions are processed once all is expanded, and by rising distance
pub record ProcessesInOrder {P : Type 0} (view : View P) : Type 0 where
  pub after_expanding : (i : ℕ) → view.processed i ≡ true → view.expanded ≡ length view.known
  pub rising : (i j : ℕ) (v w : Player) (m n : ℕ)
      → view.processed i ≡ true → view.value i ≡ Some (v, m)
      → view.processed j ≡ false → view.value j ≡ Some (w, n) → m ≤ n

-- w wins x in n, and what is expanded and processed so far shows it
pub record IsShown {P : Type 0} (graph : Graph P) (view : View P) (x : P) (w : Player) (n : ℕ) : Type 0 where
  pub won : WonIn graph w n x
  pub by : ((n ≡ 0) × IsExpanded view x)
      ⊎ (CanMoveTo graph w (λ y. IsProcessed view y × ((m : ℕ) × (n ≡ suc m) × WonIn graph w m y)) x
      ⊎ MustMoveTo graph w (IsProcessed view) x)

-- A right table knows what it should, and settles exactly what it shows.
pub record IsRight {P : Type 0} (graph : Graph P) (view : View P) : Type 0 where
  pub coherent : IsCoherent view
  pub moves : KnowsMoves graph view
  pub keeper : KeeperIsForced graph view
  pub order : ProcessesInOrder view
  pub values : (x : P) (w : Player) (n : ℕ) → IsKnown view x → HasValue view x w n ↔ IsShown graph view x w n
