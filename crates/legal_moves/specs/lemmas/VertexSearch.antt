-- A search that only looks: from one configuration to the next the vertex alone changes.
use Rattle.std.specs.Prelude.{◌≡◌, ℕ, ◌+◌, ◌*◌, ◌<◌, ◌⊎◌, false, List, [], ◌∷◌, ◌++◌, map, length, Option, None, Some, slice_get}
use Rattle.rbg_game.specs.Rules.{Regex, Action, action_at, is_switch, is_modifier}
use Rattle.rbg_game.specs.Games.{Game}
use Rattle.rbg_game.specs.declared.position.SemiState.{SemiState}
use Rattle.legal_moves.specs.Effects.{Effect, EffectAt}
use Rattle.legal_moves.specs.lemmas.Marks.{IsMarkSet}
use Rattle.legal_moves.specs.lemmas.Narrow.{looks_alone}
use Rattle.legal_moves.specs.Tables.{is_pattern}
use Rattle.legal_moves.specs.Configurations.{Configuration}
use Rattle.legal_moves.specs.declared.effect.Glance.{Glance}
use Rattle.legal_moves.specs.declared.effect.Glance.TheVariants.{Fails, At, Writes}
use Rattle.legal_moves.specs.declared.search.looks.Look.{Look}
use Rattle.legal_moves.specs.declared.search.looks.Looks.{Looks}
use Rattle.legal_moves.specs.declared.limits.TheConstants.{WIDEST}

-- the semi-state with this vertex
abbrev pub at_vertex : SemiState → ℕ → SemiState
at_vertex S v = record S { vertex = v }

-- the action changes neither pieces nor values nor the turn, and no shown move names it
abbrev pub IsLook : Option Action → Type 0
IsLook a = (is_switch a ≡ false) × (is_modifier a ≡ false)

-- no pattern: a semi-state tells what it does
abbrev pub IsNoPattern : Option Action → Type 0
IsNoPattern None = ⊥
IsNoPattern (Some a) = is_pattern a ≡ false

-- what a glance at an action says of it
abbrev pub GlanceTells : Game → Action → SemiState → Glance → Type 0
GlanceTells game a S Fails = (T : SemiState) → ¬ Effect game a S T
GlanceTells game a S (At v) = Effect game a S (at_vertex S v) × IsLook (Some a)
GlanceTells game a S Writes = IsNoPattern (Some a) × (looks_alone a ≡ false)

-- the same of an occurrence
abbrev pub TellsAt : Game → Regex → ℕ → SemiState → Glance → Type 0
TellsAt game e k S Fails = (T : SemiState) → ¬ EffectAt game e 1 k S T
TellsAt game e k S (At v) = EffectAt game e 1 k S (at_vertex S v) × IsLook (action_at e 1 k)
TellsAt game e k S Writes = IsNoPattern (action_at e 1 k)

-- the configuration that a look stands for
abbrev pub looked : SemiState → Look → Configuration
looked S l = record { at = record { state = at_vertex S l.vertex; place = l.place }; parent = l.parent; shows = false; ends = false }

-- the configurations that were come to
abbrev pub seen_from : SemiState → List Look → List Configuration
seen_from S looks = map (looked S) looks

-- where a look has its mark
abbrev pub mark_of : ℕ → Look → ℕ
mark_of numbers l = l.vertex * numbers + l.place

-- what was come to is marked, and nothing else
pub record AreMarked (numbers : ℕ) (looks : Looks) : Type 0 where
  pub numbers_are : looks.numbers ≡ numbers
  pub within : (i : ℕ) (l : Look) → slice_get looks.looks.items i ≡ Some l → l.place < numbers
  pub all : (i : ℕ) (l : Look) → slice_get looks.looks.items i ≡ Some l → IsMarkSet looks.marks.items (mark_of numbers l)
  pub only : (j : ℕ) → IsMarkSet looks.marks.items j
      → (i : ℕ) × (l : Look) × (slice_get looks.looks.items i ≡ Some l) × (mark_of numbers l ≡ j)

-- no look is at the same vertex with the same number
abbrev pub IsNewLook : List Look → Look → Type 0
IsNewLook looks l = (i : ℕ) (k : Look) → slice_get looks i ≡ Some k → ¬ ((k.vertex ≡ l.vertex) × (k.place ≡ l.place))

-- the look was added, or one at the same vertex with the same number is there
abbrev pub IsLookAdded : List Look → Look → List Look → Type 0
IsLookAdded looks l looks' =
    ((looks' ≡ looks) × (i : ℕ) × (k : Look) × (slice_get looks i ≡ Some k) × (k.vertex ≡ l.vertex) × (k.place ≡ l.place))
    ⊎ ((looks' ≡ looks ++ l ∷ []) × (length looks < WIDEST) × IsNewLook looks l)
