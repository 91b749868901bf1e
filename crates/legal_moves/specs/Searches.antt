-- How far the search for the moves of a position goes.
use Rattle.std.specs.Prelude.{◌≡◌, ◌≢◌, ℕ, zero, suc, Bool, false, List, [], ◌∷◌, ◌++◌, length, Some, All, AllPairs}
use Rattle.rbg_game.specs.Rules.{Regex, action_at, is_switch, pattern}
use Rattle.rbg_game.specs.Games.{Game}
use Rattle.rbg_game.specs.declared.position.SemiState.{SemiState}
use Rattle.rbg_game.specs.declared.position.Position.{Position}
use Rattle.legal_moves.specs.Words.{CanFollow, HasNoSwitch}
use Rattle.legal_moves.specs.Effects.{EffectAt, Leads}
use Rattle.legal_moves.specs.Glushkov.{IsNextAt}

-- what valid actions along the expression reach from a place and S: a semi-state, and the last action's number
pub data Reaches (game : Game) (e : Regex) (place : ℕ) (S : SemiState) : SemiState × ℕ → Type 0 where
  opening : Reaches game e place S (S, 0)
  after : (w : List ℕ) (k : ℕ) (T : SemiState) → CanFollow e place (w ++ k ∷ []) → HasNoSwitch e w → Leads game e (w ++ k ∷ []) S T
      → Reaches game e place S (T, k)

-- the search of the expression from a place and S, or that of a pattern that it asks about, reaches too many
pub data IsWideFrom (game : Game) : Regex → ℕ → SemiState → Type 0 where
  many : (e : Regex) (place : ℕ) (S : SemiState) (reached : List (SemiState × ℕ)) → All (Reaches game e place S) reached
      → AllPairs ◌≢◌ reached → length reached ≡ 65537 → IsWideFrom game e place S
  within : (e : Regex) (place : ℕ) (S : SemiState) (w : List ℕ) (k : ℕ) (T : SemiState) (positive : Bool) (inner : Regex)
      → CanFollow e place (w ++ k ∷ []) → HasNoSwitch e w → Leads game e w S T → action_at e 1 k ≡ Some (pattern positive inner)
      → IsWideFrom game inner 0 T → IsWideFrom game e place S

abbrev pub IsWide : Game → Position → Type 0
IsWide game at = IsWideFrom game game.rules at.place at.state

-- where the occurrences next to a configuration are looked up: at the place of the start, or at the last action
abbrev pub place_at : ℕ → ℕ → ℕ
place_at place zero = place
place_at place (suc k) = suc k

-- The search as a graph: w leads from the opening configuration to the one of T and k, an occurrence at a time,
-- and never on from a switch.
pub data Searched (game : Game) (e : Regex) (place : ℕ) (S : SemiState) : List ℕ → SemiState → ℕ → Type 0 where
  begun : Searched game e place S [] S 0
  gone : (w : List ℕ) (T : SemiState) (k : ℕ) (U : SemiState) (l : ℕ) → Searched game e place S w T k → is_switch (action_at e 1 k) ≡ false
      → IsNextAt e (place_at place k) l → EffectAt game e 1 l T U → Searched game e place S (w ++ l ∷ []) U l
