-- A search that is going on.
use Rattle.std.specs.Prelude.{◌≡◌, ℕ, ◌≤◌, ◌<◌, ◌⊎◌, List, [], ◌∷◌, ◌++◌, length, Some, slice_get, option_map, unwrap_or}
use Rattle.rbg_game.specs.Rules.{Regex}
use Rattle.rbg_game.specs.Games.{Game}
use Rattle.rbg_game.specs.declared.roles.Role.TheVariants.{Keeper}
use Rattle.rbg_game.specs.declared.position.SemiState.{SemiState}
use Rattle.legal_moves.specs.Effects.{EffectAt}
use Rattle.legal_moves.specs.lemmas.Configurations.{OccurrenceLeads, AreFound, IsFollowed}
use Rattle.legal_moves.specs.Configurations.{Configuration}
use Rattle.legal_moves.specs.declared.limits.TheConstants.{WIDEST}

-- the semi-state in which the search began
abbrev pub began : List Configuration → SemiState
began [] = record {
  mover = Keeper;
  pieces = record { items = [] };
  values = record { items = [] };
  vertex = 0;
}
began (c ∷ cs) = c.at.state

-- those before at are expanded, and none comes from one after it
pub record IsGoing (game : Game) (e : Regex) (place : ℕ) (S : SemiState) (cs : List Configuration) (at : ℕ) : Type 0 where
  pub found_are : AreFound game e place S cs
  pub parents_are : (i : ℕ) (c : Configuration) → slice_get cs i ≡ Some c → c.parent ≤ at
  pub expanded : (j n : ℕ) → j < at → IsFollowed game e place cs j n
  pub within : at ≤ length cs

-- the configuration was added, or one at the same position is there
abbrev pub IsTaken : List Configuration → Configuration → List Configuration → Type 0
IsTaken cs c cs' =
    ((cs' ≡ cs) × (i : ℕ) × (d : Configuration) × (slice_get cs i ≡ Some d) × (d.at ≡ c.at))
    ⊎ ((cs' ≡ cs ++ c ∷ []) × (length cs < WIDEST) × ((i : ℕ) (d : Configuration) → slice_get cs i ≡ Some d → ¬ (d.at ≡ c.at)))

-- the semi-state of the configuration at the index
abbrev pub state_at : List Configuration → ℕ → SemiState
state_at cs at = unwrap_or (option_map (λ c. c.at.state) (slice_get cs at)) (began [])

-- the occurrence k is not valid at S, or what it leads to is taken, as coming from the configuration at the index
abbrev pub IsTriedFrom : Game → Regex → ℕ → SemiState → ℕ → List Configuration → List Configuration → Type 0
IsTriedFrom game e k S at cs cs' =
    ((cs' ≡ cs) × ((U : SemiState) → ¬ EffectAt game e 1 k S U))
    ⊎ ((c : Configuration) × OccurrenceLeads game e k S c × (c.parent ≡ at) × IsTaken cs c cs')

-- the same where S is the semi-state of that configuration
abbrev pub IsTried : Game → Regex → ℕ → ℕ → List Configuration → List Configuration → Type 0
IsTried game e k at cs cs' = IsTriedFrom game e k (state_at cs at) at cs cs'

-- what the occurrence k leads to from S is new, and there are too many
abbrev pub IsFullFrom : Game → Regex → ℕ → SemiState → ℕ → List Configuration → Type 0
IsFullFrom game e k S at cs =
    (c : Configuration) × OccurrenceLeads game e k S c × (c.parent ≡ at) × (WIDEST ≤ length cs)
    × ((i : ℕ) (d : Configuration) → slice_get cs i ≡ Some d → ¬ (d.at ≡ c.at))

-- the same where S is the semi-state of the configuration at the index
abbrev pub IsFull : Game → Regex → ℕ → ℕ → List Configuration → Type 0
IsFull game e k at cs = IsFullFrom game e k (state_at cs at) at cs
