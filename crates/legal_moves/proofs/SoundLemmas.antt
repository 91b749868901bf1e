-- At a state of a game, an action of its rules that is no pattern is plain.
use Rattle.std.proofs.Common.{◌≡◌, ℕ, zero, suc, ◌≤◌, Bool, List, [], ◌∷◌, length, map, inl, inr, refl, sym, ap, ◌∙◌, subst, arith, ℤ, neg_ℤ, w64}
use Rattle.std.specs.Prelude.{slice_index, slice_get, unwrap_or, option_map}
use Rattle.std.proofs.lemmas.Bool.{cases_lt}
use Rattle.std.specs.Int.{int_wrap}
use Rattle.std.proofs.lemmas.Int.{int_wrap_fits}
use Rattle.std.proofs.Math.Nat.{mul-le-mul}
use Rattle.rbg_game.proofs.ValueLemmas.{value_fits}
use Rattle.legal_moves.specs.Machine.{wrapping_value_of}
use Rattle.rbg_game.specs.Expressions.{Expression, number, variable, negation, sum, product, value_of, size_of, HasSmallParts, NamesBelow}
use Rattle.rbg_game.specs.Rules.{Regex, Action, shift, on, off, assignment, comparison, switch, pattern}
use Rattle.rbg_game.specs.Games.{Game, Variable}
use Rattle.rbg_game.specs.Sound.{bounds, IsSoundExpression, IsSoundAction}
use Rattle.rbg_game.specs.declared.position.SemiState.{SemiState}
use Rattle.rbg_game.specs.Positions.{IsStateOf}
use Rattle.legal_moves.specs.Plain.{IsPlain}

-- ---- smaller values give smaller sizes

module _ (values bounds : List ℕ) (below : (v : ℕ) → slice_index values v ≤ slice_index bounds v) where
  size_below : (e : Expression) → size_of values e ≤ size_of bounds e
  size_below (number n) = omega arith
  size_below (variable v) = below v
  size_below (negation a) = size_below a
  size_below (sum a b) = omega (arith, size_below a, size_below b)
  size_below (product a b) = mul-le-mul (size_below a) (size_below b)

  pub small_below : (e : Expression) → HasSmallParts bounds e → HasSmallParts values e
  small_below (number n) h = h
  small_below (variable v) h = omega (arith, below v, h)
  small_below (negation a) h = small_below a h
  small_below (sum a b) h = (omega (arith, size_below a, size_below b, h.0), small_below a h.1, small_below b h.2)
  small_below (product a b) h = (omega (arith, size_below (product a b), h.0), small_below a h.1, small_below b h.2)

-- ---- the bounds of a game

index_past : (xs : List ℕ) (v : ℕ) → length xs ≤ v → slice_index xs v ≡ 0
index_past [] v h = refl
index_past (x ∷ xs) zero h = absurd (omega (arith, h))
index_past (x ∷ xs) (suc v) h = index_past xs v (omega (arith, h))

pub bound_at : (variables : List Variable) (v : ℕ) → unwrap_or (option_map (λ x. x.bound) (slice_get variables v)) 0 ≡ slice_index
    (map (λ x. x.bound) variables) v
bound_at [] v = refl
bound_at (x ∷ xs) zero = refl
bound_at (x ∷ xs) (suc v) = bound_at xs v

module _ (game : Game) (S : SemiState) (state : IsStateOf game S) where
  values_below : (v : ℕ) → slice_index S.values.items v ≤ slice_index (bounds game) v
  values_below v = elim (cases_lt v (length S.values.items)) [
    | inl inside ↦ omega (arith, state.values_are v inside, bound_at game.variables v)
    | inr past ↦ omega (arith, index_past S.values.items v past)
  ]

  pub sound_here : (e : Expression) → IsSoundExpression game e → NamesBelow (length S.values.items) e × HasSmallParts S.values.items e
  sound_here e h = (
    subst (λ n. NamesBelow n e) (sym state.values_fit) h.0,
    small_below S.values.items (bounds game) values_below e h.1,
  )

  pub plain : (a : Action) → ((positive : Bool) (e : Regex) → a ≡ pattern positive e → ⊥) → IsSoundAction game a → IsPlain S.values.items a
  plain (shift l) other h = tt
  plain (on xs) other h = tt
  plain (off x) other h = tt
  plain (assignment v r) other h = let p = sound_here r h.1 in (omega (arith, h.0, state.values_fit), p.0, p.1)
  plain (comparison a op b) other h = (sound_here a h.0, sound_here b h.1)
  plain (switch r) other h = tt
  plain (pattern positive e) other h = absurd (other positive e refl)

-- ---- no step of a small expression wraps around

fits_machine : (values : List ℕ) (e : Expression) (z : ℤ) → HasSmallParts values e → z ≡ value_of values e → int_wrap w64 z ≡ value_of values e
fits_machine values e z small same = ap (int_wrap w64) same ∙ int_wrap_fits w64 (value_of values e) (value_fits values e small)

pub machine_value : (values : List ℕ) (e : Expression) → HasSmallParts values e → wrapping_value_of values e ≡ value_of values e
machine_value values (number n) h = fits_machine values (number n) _ h refl
machine_value values (variable v) h = fits_machine values (variable v) _ h refl
machine_value values (negation a) h = fits_machine values (negation a) _ h (ap neg_ℤ (machine_value values a h))
machine_value values (sum a b) h =
    let first : wrapping_value_of values a ≡ value_of values a = machine_value values a h.1 in
    let second : wrapping_value_of values b ≡ value_of values b = machine_value values b h.2 in
    fits_machine values (sum a b) _ h (rw (first, second) refl)
machine_value values (product a b) h =
    let first : wrapping_value_of values a ≡ value_of values a = machine_value values a h.1 in
    let second : wrapping_value_of values b ≡ value_of values b = machine_value values b h.2 in
    fits_machine values (product a b) _ h (rw (first, second) refl)
