-- What a search for the ends of moves has to find.
use Rattle.std.specs.Prelude.{◌≡◌, ℕ, ◌≤◌, true, List, length, Some, slice_get}
use Rattle.rbg_game.specs.Rules.{Regex, action_at, is_switch}
use Rattle.rbg_game.specs.Games.{Game}
use Rattle.rbg_game.specs.declared.position.SemiState.{SemiState}
use Rattle.legal_moves.specs.Searches.{Searched, IsWideFrom}
use Rattle.legal_moves.specs.Configurations.{Configuration}
use Rattle.legal_moves.specs.declared.limits.TheConstants.{WIDEST}

-- a word leads from S to T, and k is the number of its last action
abbrev pub IsMetBy : Game → Regex → ℕ → SemiState → SemiState → ℕ → Type 0
IsMetBy game e place S T k = (w : List ℕ) × Searched game e place S w T k

-- the configuration of U and k is among them
abbrev pub IsAmongFound : List Configuration → SemiState → ℕ → Type 0
IsAmongFound cs U k = (i : ℕ) × (c : Configuration) × (slice_get cs i ≡ Some c) × (c.at ≡ record { state = U; place = k })

-- different configurations, each of which a word leads to, with all at which a move ends; and no search is too wide
pub record AreReached (game : Game) (e : Regex) (place : ℕ) (S : SemiState) (cs : List Configuration) : Type 0 where
  pub met : (i : ℕ) (c : Configuration) → slice_get cs i ≡ Some c → IsMetBy game e place S c.at.state c.at.place
  pub ends_are : (i : ℕ) (c : Configuration) → slice_get cs i ≡ Some c → c.ends ≡ is_switch (action_at e 1 c.at.place)
  pub different : (i j : ℕ) (c d : Configuration) → slice_get cs i ≡ Some c → slice_get cs j ≡ Some d → c.at ≡ d.at → i ≡ j
  pub all : (w : List ℕ) (T : SemiState) (k : ℕ) → Searched game e place S w T k → is_switch (action_at e 1 k) ≡ true → IsAmongFound cs T k
  pub few : length cs ≤ WIDEST
  pub narrow : ¬ IsWideFrom game e place S
