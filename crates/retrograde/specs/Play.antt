-- A shortest win, move by move.
use Rattle.std.specs.Prelude.{ℕ, zero, suc, List, [], ◌∷◌}
use Rattle.rbg_game.specs.declared.roles.Player.{Player}
use Rattle.retrograde.specs.Graph.{Graph}
use Rattle.retrograde.specs.Values.{WonIn}

-- w wins the first position in n, each next one in one fewer, and the last in 0
abbrev pub IsPlay : {P : Type 0} → Graph P → Player → ℕ → List P → Type 0
IsPlay graph w zero (x ∷ []) = WonIn graph w 0 x
IsPlay graph w (suc n) (x ∷ y ∷ rest) = WonIn graph w (suc n) x × graph.Successor x y × IsPlay graph w n (y ∷ rest)
IsPlay graph w _ _ = ⊥
