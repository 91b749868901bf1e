-- A search by jumps comes to what a search by steps comes to.
use Rattle.std.proofs.Common.{◌≡◌, ℕ, ◌++◌, false, List, [], ◌∷◌, Option, None, Some, refl, sym, ap, ◌∙◌, subst}
use Rattle.rbg_game.specs.Rules.{Regex, Action, shift, on, off, assignment, comparison, switch, pattern, action_at, is_switch}
use Rattle.rbg_game.specs.Games.{Game}
use Rattle.rbg_game.specs.declared.position.SemiState.{SemiState}
use Rattle.legal_moves.specs.Effects.{Effect, EffectAt}
use Rattle.legal_moves.specs.Glushkov.{IsNextAt}
use Rattle.legal_moves.specs.Searches.{Searched, begun, gone}
use Rattle.legal_moves.specs.Jumps.{label_in, IsShiftTo, Shifts, still, further}
use Rattle.legal_moves.specs.lemmas.VertexSearch.{at_vertex}
use Rattle.legal_moves.specs.lemmas.Leaps.{IsMetAt}
use Rattle.legal_moves.proofs.EffectLemmas.{EffectAt-by_action, action-by_EffectAt}
use Rattle.legal_moves.proofs.searches.LookLemmas.{place_zero}

-- an action with a label is a shift
pub label_shift : (o : Option Action) (l : ℕ) → label_in o ≡ Some l → o ≡ Some (shift l)
label_shift None l is = absurd (cc)
label_shift (Some (shift k)) l is = let same : k ≡ l = cc in ap (λ x. Some (shift x)) same
label_shift (Some (on xs)) l is = absurd (cc)
label_shift (Some (off x)) l is = absurd (cc)
label_shift (Some (assignment v r)) l is = absurd (cc)
label_shift (Some (comparison a op b)) l is = absurd (cc)
label_shift (Some (switch r)) l is = absurd (cc)
label_shift (Some (pattern positive e)) l is = absurd (cc)

module _ (game : Game) (e : Regex) (S : SemiState) (none : (k : ℕ) → is_switch (action_at e 1 k) ≡ false) where
  -- one occurrence on
  pub met_next : (k v l u : ℕ) → IsMetAt game e S k v → IsNextAt e k l → EffectAt game e 1 l (at_vertex S v) (at_vertex S u) → IsMetAt game e S l u
  met_next k v l u h next step =
      (h.0 ++ l ∷ [], gone h.0 (at_vertex S v) k (at_vertex S u) l h.1 (none k) (subst (λ p. IsNextAt e p l) (place_zero k) next) step)

  pub shift_leads : (r u w : ℕ) → IsShiftTo game e r u w → EffectAt game e 1 r (at_vertex S u) (at_vertex S w)
  shift_leads r u w s = EffectAt-by_action game e 1 r (shift s.0) (at_vertex S u) (at_vertex S w) (label_shift (action_at e 1 r) s.0 s.1) (w, s.2, refl)

  -- what shifts lead to is met
  pub met_by_shifts : (p v q u : ℕ) → Shifts game e p v q u → IsMetAt game e S p v → IsMetAt game e S q u
  met_by_shifts p v _ _ still h = h
  met_by_shifts p v _ _ (further q u r w shifts next s) h = met_next q u r w (met_by_shifts p v q u shifts h) next (shift_leads r u w s)

  -- what a search by jumps keeps: the opening, and what each jump from one that is kept leads to
  module _ (Kept : ℕ → ℕ → Type 0) (first : Kept 0 S.vertex)
      (closed : (p v q u r : ℕ) (T : SemiState) → Kept p v → Shifts game e p v q u → IsNextAt e q r → label_in (action_at e 1 r) ≡ None
      → EffectAt game e 1 r (at_vertex S u) T → (T ≡ at_vertex S T.vertex) × Kept r T.vertex) where
    -- shifts lead there from one that is kept
    pub record IsCovered (T : SemiState) (k : ℕ) : Type 0 where
      pub same : T ≡ at_vertex S T.vertex
      pub from : ℕ
      pub vertex : ℕ
      pub kept : Kept from vertex
      pub shifts : Shifts game e from vertex k T.vertex

    jumped : (T : SemiState) (k : ℕ) (U : SemiState) (l : ℕ) (a : Action) → IsCovered T k → IsNextAt e k l → action_at e 1 l ≡ Some a
        → label_in (Some a) ≡ None → Effect game a T U → IsCovered U l
    jumped T k U l a h next is other step =
        let effect = EffectAt-by_action game e 1 l a (at_vertex S T.vertex) U is (subst (λ X. Effect game a X U) h.same step) in
        let r = closed h.from h.vertex k T.vertex l U h.kept h.shifts next (ap label_in is ∙ other) effect in
        record { same = r.0; from = l; vertex = U.vertex; kept = r.1; shifts = still }

    covered_next : (T : SemiState) (k : ℕ) (U : SemiState) (l : ℕ) (a : Action) → IsCovered T k → IsNextAt e k l → action_at e 1 l ≡ Some a
        → Effect game a T U → IsCovered U l
    covered_next T k U l (shift label) h next is step =
        let here : U ≡ at_vertex T step.0 = step.2 in
        let to : U.vertex ≡ step.0 = ap (λ (X : SemiState). X.vertex) here in
        record {
          same = here ∙ ap (λ X. at_vertex X step.0) h.same ∙ ap (at_vertex S) (sym to);
          from = h.from;
          vertex = h.vertex;
          kept = h.kept;
          shifts = further k T.vertex l U.vertex h.shifts next (label, ap label_in is, step.1 ∙ ap Some (sym to));
        }
    covered_next T k U l (on xs) h next is step = jumped T k U l (on xs) h next is refl step
    covered_next T k U l (off x) h next is step = jumped T k U l (off x) h next is refl step
    covered_next T k U l (assignment v r) h next is step = jumped T k U l (assignment v r) h next is refl step
    covered_next T k U l (comparison a op b) h next is step = jumped T k U l (comparison a op b) h next is refl step
    covered_next T k U l (switch r) h next is step = jumped T k U l (switch r) h next is refl step
    covered_next T k U l (pattern positive i) h next is step = jumped T k U l (pattern positive i) h next is refl step

    -- all that a search by steps comes to is covered
    pub covered : (w : List ℕ) (T : SemiState) (k : ℕ) → Searched game e 0 S w T k → IsCovered T k
    covered _ _ _ begun = record { same = refl; from = 0; vertex = S.vertex; kept = first; shifts = still }
    covered _ _ _ (gone w T k U l searched plain next step) =
        let a = action-by_EffectAt game e 1 l T U step in
        covered_next T k U l a.0 (covered w T k searched) (subst (λ p. IsNextAt e p l) (sym (place_zero k)) next) a.1 a.2
