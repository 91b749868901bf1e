-- Sets of pieces as bits.
use Rattle.std.proofs.Common.{◌≡◌, ℕ, ◌+◌, ◌<◌, ◌≤◌, ◌⊎◌, inl, inr, Bool, ◌==◌, true, false, List, [], ◌∷◌, ◌++◌, length, Option, None, Some, is_some, slice_get, slice_index, refl, sym, ap, ◌∙◌, subst, arith, length-append}
use Rattle.std.specs.Int.{bit_at}
use Rattle.std.specs.Prelude.{Contains}
use Rattle.std.specs.Bool.{OnFalse}
use Rattle.std.proofs.lemmas.Bool.{cases_lt, eq-eqb}
use Rattle.std.proofs.lemmas.List.{get_or_default}
use Rattle.rbg_game.specs.Rules.{Action, shift, on, off, assignment, comparison, switch, pattern}
use Rattle.rbg_game.specs.Games.{Game}
use Rattle.rbg_game.specs.Meaning.{action_of}
use Rattle.rbg_game.specs.declared.rules.Action.{Action as ProgramAction}
use Rattle.rbg_game.specs.declared.position.SemiState.{SemiState}
use Rattle.legal_moves.specs.Effects.{Effect}
use Rattle.legal_moves.specs.lemmas.Sets.{set_in, step_set, AreBitsOf, IsSetOf, AreSets, Refuses}
use Rattle.legal_moves.specs.declared.automaton.table.Step.{Step}
use Rattle.legal_moves.specs.declared.automaton.table.Step.TheVariants.{Act, Ask}
use Rattle.legal_moves.proofs.GetLemmas.{slice_get-push, slice_get-within}

-- one step more, and its set
pub sets_more : (steps : List Step) (sets : List (Option ℕ)) (s : Step) (o : Option ℕ) → AreSets steps sets → IsSetOf s o
    → AreSets (steps ++ s ∷ []) (sets ++ o ∷ [])
sets_more steps sets s o are set = record {
  as_many = (let many = are.as_many in omega (arith, many, length-append steps (s ∷ []), length-append sets (o ∷ [])));
  each = λ k t p at there. of_each k t p (slice_get-push steps s k t at) (slice_get-push sets o k p there);
}
  where
    of_each : (k : ℕ) (t : Step) (p : Option ℕ) → (slice_get steps k ≡ Some t) ⊎ (k ≡ length steps) × (t ≡ s)
        → (slice_get sets k ≡ Some p) ⊎ (k ≡ length sets) × (p ≡ o) → IsSetOf t p
    of_each k t p (inl at) (inl there) = are.each k t p at there
    of_each k t p (inl at) (inr there) = absurd (omega (arith, are.as_many, there.0, slice_get-within steps k t at))
    of_each k t p (inr at) (inl there) = absurd (omega (arith, are.as_many, at.0, slice_get-within sets k p there))
    of_each k t p (inr at) (inr there) = subst (λ x. IsSetOf x p) (sym at.1) (subst (IsSetOf s) (sym there.1) set)

-- the bits of one piece more
pub bits_more : (xs : List ℕ) (i m n : ℕ) → ((k : ℕ) → k < i → slice_index xs k < 64 → bit_at m (slice_index xs k) ≡ 1)
    → ((b : ℕ) → bit_at m b ≡ 1 → bit_at n b ≡ 1) → (slice_index xs i < 64 → bit_at n (slice_index xs i) ≡ 1) → (k : ℕ) → k < i + 1
    → slice_index xs k < 64 → bit_at n (slice_index xs k) ≡ 1
bits_more xs i m n before kept here k less low = either (cases_lt k i)
  where
    either : (k < i) ⊎ (i ≤ k) → bit_at n (slice_index xs k) ≡ 1
    either (inl earlier) = kept (slice_index xs k) (before k earlier low)
    either (inr past) =
        let same : k ≡ i = omega (arith, less, past) in
        subst (λ j. bit_at n (slice_index xs j) ≡ 1) (sym same) (here (subst (λ j. slice_index xs j < 64) same low))

some_of : {A : Type 0} (o : Option A) → is_some o ≡ true → (x : A) × (o ≡ Some x)
some_of None h = absurd (cc)
some_of (Some x) h = (x, refl)

-- a piece below 64 whose bit is not set is none of the set
pub refused_by_bits : (s : Step) (n x : ℕ) → AreBitsOf s n → x < 64 → ¬ (bit_at n x ≡ 1) → Refuses s x
refused_by_bits s n x bits low none =
    let set = some_of (step_set s) bits.0 in (
      set.0,
      set.1,
      λ h.
          let same : slice_index set.0 h.0 ≡ x = get_or_default set.0 h.0 0 x h.1 ∙ h.2 in
          none (subst (λ b. bit_at n b ≡ 1) same (bits.1 set.0 set.1 h.0 h.1 (subst (λ b. b < 64) (sym same) low))),
    )

set_is : (a : Action) (xs : List ℕ) → set_in a ≡ Some xs → a ≡ on xs
set_is (shift l) xs h = absurd (cc)
set_is (on ys) xs h = let same : ys ≡ xs = cc in ap on same
set_is (off x) xs h = absurd (cc)
set_is (assignment v r) xs h = absurd (cc)
set_is (comparison a op b) xs h = absurd (cc)
set_is (switch r) xs h = absurd (cc)
set_is (pattern positive e) xs h = absurd (cc)

-- a step that is a set is that action
pub step_is : (s : Step) (xs : List ℕ) → step_set s ≡ Some xs → (x : ProgramAction) × (s ≡ Act x) × (action_of x ≡ on xs)
step_is (Act x) xs h = (x, refl, set_is (action_of x) xs h)
step_is (Ask positive i) xs h = absurd (cc)

-- a set is not valid where a piece stands that is none of it
pub never_on : (game : Game) (a : Action) (xs : List ℕ) (S : SemiState) → a ≡ on xs → ¬ Contains xs (slice_index S.pieces.items S.vertex)
    → (T : SemiState) → ¬ Effect game a S T
never_on game a xs S is none T h = none (subst (λ b. Effect game b S T) is h).1

-- what the test of a bit says
pub tested_bit : (steps : List Step) (sets : List (Option ℕ)) (k n x : ℕ) → AreSets steps sets → slice_get sets k ≡ Some (Some n) → x < 64
    → OnFalse (bit_at n x == 1) ((s : Step) → slice_get steps k ≡ Some s → Refuses s x)
tested_bit steps sets k n x are there low = by_test (bit_at n x == 1) refl
  where
    by_test : (b : Bool) → (bit_at n x == 1) ≡ b → OnFalse b ((s : Step) → slice_get steps k ≡ Some s → Refuses s x)
    by_test true e = tt
    by_test false e = λ s at. refused_by_bits s n x (are.each k s (Some n) at there n refl) low
        (λ one. let never : true ≡ false = sym (eq-eqb (bit_at n x) 1 one) ∙ e in absurd (cc))
