-- What actions do to a semi-state, and where words lead.
use Rattle.std.specs.Prelude.{◌≡◌, ◌≢◌, ℕ, ◌+◌, ◌≤◌, ◌⊎◌, List, [], ◌∷◌, Some, Contains, MatchBool, ℤ, pos, ◌<ℤ◌, ◌≤ℤ◌, slice_index}
use Rattle.std.specs.Prelude.{slice_set}
use Rattle.rbg_game.specs.Expressions.{value_of}
use Rattle.rbg_game.specs.Rules.{Regex, one, empty, cat, alt, star, count, Action, shift, on, off, assignment, comparison, switch, pattern}
use Rattle.rbg_game.specs.Games.{Game, neighbour, bound_of}
use Rattle.rbg_game.specs.declared.rules.Comparison.{Comparison}
use Rattle.rbg_game.specs.declared.rules.Comparison.TheVariants.{Equal, NotEqual, Less, LessEqual, Greater, GreaterEqual}
use Rattle.rbg_game.specs.declared.position.SemiState.{SemiState}
use Rattle.legal_moves.specs.Words.{IsWord}

-- the comparison holds of the two numbers
abbrev pub Compares : Comparison → ℤ → ℤ → Type 0
Compares Equal x y = x ≡ y
Compares NotEqual x y = x ≢ y
Compares Less x y = x <ℤ y
Compares LessEqual x y = x ≤ℤ y
Compares Greater x y = y <ℤ x
Compares GreaterEqual x y = y ≤ℤ x

-- the steps with the numbers of w lead from S to T, in turn
abbrev pub Path : (ℕ → SemiState → SemiState → Type 0) → List ℕ → SemiState → SemiState → Type 0
Path Step [] S T = T ≡ S
Path Step (k ∷ w) S T = (U : SemiState) × Step k S U × Path Step w U T

module _ (game : Game) where
  abbrev mutual
    -- the action is valid at S and leads to T
    pub Effect : Action → SemiState → SemiState → Type 0
    Effect (shift label) S T =
        (v : ℕ) × (neighbour game S.vertex label ≡ Some v) × (T ≡ record S { vertex = v })
    Effect (on xs) S T = (T ≡ S) × Contains xs (slice_index S.pieces.items S.vertex)
    Effect (off x) S T =
        T ≡ record S { pieces = record { items = slice_set S.pieces.items S.vertex x } }
    Effect (assignment v r) S T =
        (n : ℕ) × (value_of S.values.items r ≡ pos n) × (n ≤ bound_of game v)
        × (T ≡ record S { values = record { items = slice_set S.values.items v n } })
    Effect (comparison a op b) S T =
        (T ≡ S) × Compares op (value_of S.values.items a) (value_of S.values.items b)
    Effect (switch role) S T = T ≡ record S { mover = role }
    Effect (pattern positive e) S T =
        let IsLegal = (w : List ℕ) × (U : SemiState) × IsWord e 1 w × Path (EffectAt e 1) w S U in
        (T ≡ S) × MatchBool positive IsLegal (¬ IsLegal)

    -- the effect of the occurrence with the number k, where the numbers begin with n
    pub EffectAt : Regex → ℕ → ℕ → SemiState → SemiState → Type 0
    EffectAt (one a) n k S T = (k ≡ n) × Effect a S T
    EffectAt empty n k S T = ⊥
    EffectAt (cat a b) n k S T = EffectAt a n k S T ⊎ EffectAt b (n + count a) k S T
    EffectAt (alt a b) n k S T = EffectAt a n k S T ⊎ EffectAt b (n + count a) k S T
    EffectAt (star a) n k S T = EffectAt a n k S T

  -- the actions of w are valid one after another, and lead from S to T
  abbrev pub Leads : Regex → List ℕ → SemiState → SemiState → Type 0
  Leads e w S T = Path (EffectAt e 1) w S T
