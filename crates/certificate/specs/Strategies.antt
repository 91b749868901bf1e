-- What shows who wins a position, and in how many moves, without a table: positions with ranks. `Ranks x n`: x has the rank n.
use Rattle.std.specs.Prelude.{◌≡◌, ℕ, zero, suc, ◌≤◌, ◌<◌, ◌⊎◌}
use Rattle.rbg_game.specs.declared.roles.Player.{Player}
use Rattle.retrograde.specs.Graph.{Graph, Moves, IsEnded}
use Rattle.retrograde.specs.Values.{EndsAhead, CanMoveTo, MustMoveTo}

-- y has a rank below n
abbrev pub RanksBelow : {P : Type 0} → (P → ℕ → Type 0) → ℕ → P → Type 0
RanksBelow Ranks n y = (m : ℕ) × Ranks y m × (m < n)

-- y has a rank of n or more, which is nothing to ask where n is 0
abbrev pub RanksFrom : {P : Type 0} → (P → ℕ → Type 0) → ℕ → P → Type 0
RanksFrom Ranks n y = (n ≡ 0) ⊎ ((m : ℕ) × Ranks y m × (n ≤ m))

-- play has ended with w ahead; or w has the turn and a move to a lower rank; or w has not, and each move, of which there are some, leads to one
abbrev pub GoesDown : {P : Type 0} → Graph P → Player → (P → ℕ → Type 0) → P → ℕ → Type 0
GoesDown graph w Ranks x n =
    EndsAhead graph w x ⊎ (CanMoveTo graph w (RanksBelow Ranks n) x ⊎ MustMoveTo graph w (RanksBelow Ranks n) x)

-- a strategy of w: the ranks go down with each move
abbrev pub IsStrategy : {P : Type 0} → Graph P → Player → (P → ℕ → Type 0) → Type 0
IsStrategy {P} graph w Ranks = (x : P) (n : ℕ) → Ranks x n → GoesDown graph w Ranks x n

-- play has not ended with w ahead, and w does not come away from what is good by itself: where w has the turn each move leads there, and
-- where not some move does, or there is none
pub record IsHeld {P : Type 0} (graph : Graph P) (w : Player) (Good : P → Type 0) (x : P) : Type 0 where
  pub not_won : ¬ EndsAhead graph w x
  pub own : Moves graph w x → (y : P) → graph.Successor x y → Good y
  pub other : ¬ Moves graph w x → IsEnded graph x ⊎ ((y : P) × graph.Successor x y × Good y)

-- w is held for n moves: where n is over 0, in what has a rank of n - 1 or more
abbrev pub IsHeldFor : {P : Type 0} → Graph P → Player → (P → ℕ → Type 0) → P → ℕ → Type 0
IsHeldFor graph w Ranks x zero = Unit {0}
IsHeldFor graph w Ranks x (suc n) = IsHeld graph w (RanksFrom Ranks n) x

-- a delay of w: at each position w is held for as many moves as its rank, so that ranks go down by one at most
abbrev pub IsDelay : {P : Type 0} → Graph P → Player → (P → ℕ → Type 0) → Type 0
IsDelay {P} graph w Ranks = (x : P) (n : ℕ) → Ranks x n → IsHeldFor graph w Ranks x n

-- a set that is safe from w: w is held in it
abbrev pub IsSafeSet : {P : Type 0} → Graph P → Player → (P → Type 0) → Type 0
IsSafeSet {P} graph w In = (x : P) → In x → IsHeld graph w In x
