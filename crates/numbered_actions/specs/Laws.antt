-- What the numbers of actions mean.
use Rattle.std.specs.Prelude.{◌≡◌, ℕ, ◌+◌, List, length, IfSome, slice_get, Some}
use Rattle.rbg_text.specs.Syntax.{Section}
use Rattle.rbg_game.specs.Games.{Game}
use Rattle.rbg_game.specs.Rules.{Regex, Action, count, action_at}
use Rattle.rbg_read.specs.Means.{Means, names_of}
use Rattle.numbered_actions.specs.Written.{spots_of, meaning}

-- of the game that sections mean, as many actions are listed as its rules have, and the k-th of them, from 0, means by itself the action that
-- has the number k + 1 in the rules
abbrev pub NumbersAreKept : Type 0
NumbersAreKept = (all : List Section) (game : Game) → Means all game → (length (spots_of all) ≡ count game.rules)
    × ((k : ℕ) → IfSome (slice_get (spots_of all) k) (λ spot. (a : Action) × (meaning (names_of all) spot.written ≡ Regex.one a)
    × (action_at game.rules 1 (k + 1) ≡ Some a)))
