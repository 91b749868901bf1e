-- The start of the small game has exactly one successor.
use Rattle.std.proofs.Common.{◌≡◌, ℕ, inl, inr, Bool, true, List, [], ◌∷◌, ◌++◌, refl, ◌∙◌, subst, arith, lit≤}
use Rattle.rbg_game.specs.Rules.{is_switch, action_at}
use Rattle.rbg_game.specs.declared.position.Position.{Position}
use Rattle.rbg_game.specs.declared.position.SemiState.{SemiState}
use Rattle.legal_moves.specs.Words.{CanFollow, HasNoSwitch}
use Rattle.legal_moves.specs.Effects.{Leads, EffectAt}
use Rattle.legal_moves.specs.Moves.{IsMove, IsSuccessor, start_of}
use Rattle.legal_moves.specs.Glushkov.{IsFirst, IsNext, IsNextAt, IsWalk}
use Rattle.rbg_game.specs.Take.{take}
use Rattle.legal_moves.specs.Take.{after_first_move}
use Rattle.legal_moves.proofs.automata.Walks.{CanFollow-by_walk, walk-by_CanFollow, IsFirst-by_next, IsNext-by_next}
use Rattle.legal_moves.proofs.EffectLemmas.{EffectAt-functional, EffectAt-by_action}

-- the word 1 2 leads to `white 2 v e 0,0,3`
pub first_move : IsMove take (start_of take) (1 ∷ 2 ∷ []) after_first_move
first_move = record {
  follows = CanFollow-by_walk take.rules 0 1 (2 ∷ []) (inl (refl, inl refl), (inr (inr (inr (refl, inl (inl (inl (inl (inl (inl (inl refl))))))))), tt));
  ends = (1 ∷ [], refl, (refl, tt), refl);
  leads = (_, EffectAt-by_action take take.rules 1 1 _ _ _ refl (3, refl, lit≤ tt, refl), (_, EffectAt-by_action take take.rules 1 2 _ _ _ refl refl, refl));
}

first_is : (l : ℕ) → IsFirst take.rules 1 l → l ≡ 1
first_is l h = grind arith

next_is : (l : ℕ) → IsNext take.rules 1 1 l → l ≡ 2
next_is l h = grind arith

walk_of : (t : List ℕ) (k : ℕ) → CanFollow take.rules 0 (t ++ k ∷ []) → IsWalk take.rules 0 (t ++ k ∷ [])
walk_of [] k h = walk-by_CanFollow take.rules 0 k [] h
walk_of (x ∷ t) k h = walk-by_CanFollow take.rules 0 x (t ++ k ∷ []) h

-- the semi-state after the first action
abbrev after_1 : SemiState
after_1 = record (start_of take).state { values = record { items = 0 ∷ 0 ∷ 3 ∷ [] } }

step_1 : EffectAt take take.rules 1 1 (start_of take).state after_1
step_1 = EffectAt-by_action take take.rules 1 1 _ _ _ refl (3, refl, lit≤ tt, refl)

step_2 : EffectAt take take.rules 1 2 after_1 after_first_move.state
step_2 = EffectAt-by_action take take.rules 1 2 _ _ _ refl refl

two_steps : (k : ℕ) (T : SemiState) → k ≡ 2 → Leads take take.rules (1 ∷ k ∷ []) (start_of take).state T → T ≡ after_first_move.state
two_steps k T second h =
    let U = h.0 in
    let same = EffectAt-functional take take.rules 1 1 (start_of take).state U after_1 h.1 step_1 in
    let step : EffectAt take take.rules 1 2 after_1 h.2.0 = subst (λ V. EffectAt take take.rules 1 2 V h.2.0) same
    (subst (λ j. EffectAt take take.rules 1 j U h.2.0) second h.2.1) in
    h.2.2 ∙ EffectAt-functional take take.rules 1 2 after_1 h.2.0 after_first_move.state step step_2

only_word : (t : List ℕ) (k : ℕ) (T : SemiState) → IsWalk take.rules 0 (t ++ k ∷ []) → HasNoSwitch take.rules t
    → is_switch (action_at take.rules 1 k) ≡ true → Leads take take.rules (t ++ k ∷ []) (start_of take).state T → (k ≡ 2) × (T ≡ after_first_move.state)
only_word [] k T walk no_switch switch leads =
    let one : k ≡ 1 = first_is k (IsFirst-by_next take.rules k walk.0) in
    let false : is_switch (action_at take.rules 1 1) ≡ true = subst (λ j. is_switch (action_at take.rules 1 j) ≡ true) one switch in
    absurd (cc)
only_word (x ∷ []) k T walk no_switch switch leads =
    let one : x ≡ 1 = first_is x (IsFirst-by_next take.rules x walk.0) in
    let next : IsNextAt take.rules 1 k = subst (λ j. IsNextAt take.rules j k) one walk.1.0 in
    let two : k ≡ 2 = next_is k (IsNext-by_next take.rules 0 k next) in
    (two, two_steps k T two (subst (λ j. Leads take take.rules (j ∷ k ∷ []) (start_of take).state T) one leads))
only_word (x ∷ y ∷ t) k T walk no_switch switch leads =
    let one : x ≡ 1 = first_is x (IsFirst-by_next take.rules x walk.0) in
    let next : IsNextAt take.rules 1 y = subst (λ j. IsNextAt take.rules j y) one walk.1.0 in
    let two : y ≡ 2 = next_is y (IsNext-by_next take.rules 0 y next) in
    let false : is_switch (action_at take.rules 1 2) ≡ Bool.false = subst (λ j. is_switch (action_at take.rules 1 j) ≡ Bool.false) two no_switch.1.0 in
    absurd (cc)

-- there is no other successor
pub only_successor : (next : Position) → IsSuccessor take (start_of take) next → next ≡ after_first_move
only_successor next move =
    let m = move.1 in
    let t = m.ends.0 in
    let word = m.ends.1 in
    let follows = subst (λ w. CanFollow take.rules 0 w) word m.follows in
    let leads = subst (λ w. Leads take take.rules w (start_of take).state next.state) word m.leads in
    let both = only_word t next.place next.state (walk_of t next.place follows) m.ends.2 m.ends.3 leads in
    λ i. record { state = both.1 i; place = both.0 i }
