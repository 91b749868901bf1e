-- Who wins a position, and in how many moves.
use Rattle.std.specs.Prelude.{◌≡◌, ℕ, zero, suc, ◌≤◌, ◌⊎◌, Some}
use Rattle.rbg_game.specs.declared.roles.Player.{Player}
use Rattle.retrograde.specs.Graph.{Graph, Moves, HasMove, IsEnded}

-- play has ended here with this player ahead
abbrev pub EndsAhead : {P : Type 0} → Graph P → Player → P → Type 0
EndsAhead graph w x = IsEnded graph x × (graph.ahead x ≡ Some w)

-- w has the turn and a move to such a position
abbrev pub CanMoveTo : {P : Type 0} → Graph P → Player → (P → Type 0) → P → Type 0
CanMoveTo {P} graph w Good x = Moves graph w x × ((y : P) × graph.Successor x y × Good y)

-- w doesn't have the turn, and each move, of which there are some, leads to such a position
abbrev pub MustMoveTo : {P : Type 0} → Graph P → Player → (P → Type 0) → P → Type 0
MustMoveTo {P} graph w Good x = (Moves graph w x → ⊥) × HasMove graph x × ((y : P) → graph.Successor x y → Good y)

-- w wins in at most n moves
abbrev pub WinsWithin : {P : Type 0} → Graph P → Player → ℕ → P → Type 0
WinsWithin graph w zero x = EndsAhead graph w x
WinsWithin graph w (suc n) x =
    EndsAhead graph w x ⊎ (CanMoveTo graph w (WinsWithin graph w n) x ⊎ MustMoveTo graph w (WinsWithin graph w n) x)

-- w wins in n moves, and in no fewer
pub record WonIn {P : Type 0} (graph : Graph P) (w : Player) (n : ℕ) (x : P) : Type 0 where
  pub within : WinsWithin graph w n x
  pub least : (m : ℕ) → WinsWithin graph w m x → n ≤ m

-- nobody wins
abbrev pub Drawn : {P : Type 0} → Graph P → P → Type 0
Drawn graph x = (w : Player) (n : ℕ) → WinsWithin graph w n x → ⊥
