-- A search that goes from one action other than a shift to the next.
use Rattle.std.specs.Prelude.{◌≡◌, ℕ, ◌+◌, ◌≤◌, ◌<◌, true, false, List, length, None, Some, Contains, slice_get}
use Rattle.rbg_game.specs.Rules.{Regex, action_at, is_switch}
use Rattle.rbg_game.specs.Games.{Game}
use Rattle.rbg_game.specs.Positions.{IsStateOf}
use Rattle.rbg_game.specs.declared.position.SemiState.{SemiState}
use Rattle.legal_moves.specs.Effects.{EffectAt}
use Rattle.legal_moves.specs.Glushkov.{IsNextAt}
use Rattle.legal_moves.specs.Searches.{place_at}
use Rattle.legal_moves.specs.Jumps.{label_in, Shifts}
use Rattle.legal_moves.specs.Configurations.{Configuration}
use Rattle.legal_moves.specs.lemmas.Configurations.{AsksTooMuch, opening}
use Rattle.legal_moves.specs.lemmas.Reached.{IsMetBy, IsAmongFound}
use Rattle.legal_moves.specs.lemmas.VertexSearch.{at_vertex}
use Rattle.legal_moves.specs.declared.limits.TheConstants.{WIDEST}

-- what the occurrence r leads to from T is among them, and it is no pattern whose search is too wide
pub record IsGoneOver (game : Game) (e : Regex) (cs : List Configuration) (T : SemiState) (r : ℕ) : Type 0 where
  pub met : (U : SemiState) → EffectAt game e 1 r T U → IsAmongFound cs U r
  pub narrow : ¬ AsksTooMuch game e r T

-- so it is with all but shifts that can stand next after shifts from the configuration, which ends no move
abbrev pub IsHopped : Game → Regex → ℕ → List Configuration → Configuration → Type 0
IsHopped game e place cs c =
    is_switch (action_at e 1 c.at.place) ≡ false → (q u r : ℕ) → Shifts game e (place_at place c.at.place) c.at.state.vertex q u
    → IsNextAt e q r → label_in (action_at e 1 r) ≡ None → IsGoneOver game e cs (at_vertex c.at.state u) r

-- a search that is going on: different configurations, each of which a word leads to, of which those before at are gone through
pub record IsHopping (game : Game) (e : Regex) (place : ℕ) (S : SemiState) (cs : List Configuration) (at : ℕ) : Type 0 where
  pub opening_is : slice_get cs 0 ≡ Some (opening S)
  pub met : (i : ℕ) (c : Configuration) → slice_get cs i ≡ Some c → IsMetBy game e place S c.at.state c.at.place
  pub ends_are : (i : ℕ) (c : Configuration) → slice_get cs i ≡ Some c → c.ends ≡ is_switch (action_at e 1 c.at.place)
  pub states_are : (i : ℕ) (c : Configuration) → slice_get cs i ≡ Some c → IsStateOf game c.at.state
  pub different : (i j : ℕ) (c d : Configuration) → slice_get cs i ≡ Some c → slice_get cs j ≡ Some d → c.at ≡ d.at → i ≡ j
  pub hopped : (j : ℕ) (c : Configuration) → j < at → slice_get cs j ≡ Some c → IsHopped game e place cs c
  pub few : length cs ≤ WIDEST
  pub within : at ≤ length cs

-- each configuration is where it was
abbrev pub AreStillThere : List Configuration → List Configuration → Type 0
AreStillThere old new = (i : ℕ) (c : Configuration) → slice_get old i ≡ Some c → slice_get new i ≡ Some c

-- all that shifts lead to from the configuration is listed; of one that ends a move, itself
pub record AreListedFrom (game : Game) (e : Regex) (place : ℕ) (listed : List (SemiState × ℕ)) (c : Configuration) : Type 0 where
  pub itself : is_switch (action_at e 1 c.at.place) ≡ true → Contains listed (c.at.state, c.at.place)
  pub shifted : is_switch (action_at e 1 c.at.place) ≡ false → (q u : ℕ) → Shifts game e (place_at place c.at.place) c.at.state.vertex q u
      → Contains listed (at_vertex c.at.state u, q)

-- that is no more than n
abbrev pub AreCounted : Game → Regex → ℕ → Configuration → ℕ → Type 0
AreCounted game e place c n = (listed : List (SemiState × ℕ)) × (length listed ≤ n) × AreListedFrom game e place listed c

-- the opening, and all that shifts lead to from those before at, is listed, and so many more may be
pub record AreListedUpto (game : Game) (e : Regex) (place : ℕ) (S : SemiState) (cs : List Configuration) (at left : ℕ) : Type 0 where
  pub listed : List (SemiState × ℕ)
  pub short : length listed + left ≤ WIDEST
  pub first : Contains listed (S, 0)
  pub each : (j : ℕ) (c : Configuration) → j < at → slice_get cs j ≡ Some c → AreListedFrom game e place listed c
