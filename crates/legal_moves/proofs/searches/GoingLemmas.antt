-- One more configuration in a search that is going on.
use Rattle.std.proofs.Common.{◌≡◌, ℕ, ◌<◌, ◌≤◌, ◌⊎◌, inl, inr, false, List, [], ◌∷◌, ◌++◌, length, Some, slice_get, refl, sym, ap, subst, arith, length-append}
use Rattle.rbg_game.specs.Rules.{Regex, action_at, is_switch}
use Rattle.rbg_game.specs.Games.{Game}
use Rattle.rbg_game.specs.Positions.{IsStateOf}
use Rattle.rbg_game.specs.declared.position.SemiState.{SemiState}
use Rattle.legal_moves.specs.Glushkov.{IsNextAt}
use Rattle.legal_moves.specs.Searches.{place_at, IsWideFrom}
use Rattle.legal_moves.specs.lemmas.Configurations.{OccurrenceLeads, IsLinked, AreFound, IsMet, IsFollowed}
use Rattle.legal_moves.specs.lemmas.Progress.{IsGoing, IsTaken}
use Rattle.legal_moves.specs.Configurations.{Configuration}
use Rattle.legal_moves.proofs.GetLemmas.{slice_get-append, slice_get-push, slice_get-end, slice_get-within}
use Rattle.legal_moves.proofs.searches.FoundLemmas.{AreFound-push, IsFollowed-push}
use Rattle.legal_moves.proofs.searches.WidthLemmas.{wide_by_one_more}

module _ (game : Game) (e : Regex) (place : ℕ) (S : SemiState) (cs : List Configuration) (at : ℕ) (b c : Configuration)
    (going : IsGoing game e place S cs at) (at_b : slice_get cs at ≡ Some b) (plain : is_switch (action_at e 1 b.at.place) ≡ false)
    (next : IsNextAt e (place_at place b.at.place) c.at.place) (leads : OccurrenceLeads game e c.at.place b.at.state c)
    (parent : c.parent ≡ at) (state : IsStateOf game c.at.state) where
  inside : at < length cs
  inside = slice_get-within cs at b at_b

  link : IsLinked game e place cs (length cs) c
  link = record {
    before = b;
    before_is = subst (λ j. slice_get cs j ≡ Some b) (sym parent) at_b;
    earlier = omega (arith, inside, parent);
    plain = plain;
    next = next;
    leads = leads;
  }

  -- what is known once it was added, or one like it was there
  pub record HasTaken (cs' : List Configuration) : Type 0 where
    pub goes : IsGoing game e place S cs' at
    pub kept : (n : ℕ) → IsFollowed game e place cs at n → IsFollowed game e place cs' at n
    pub met : IsMet cs' at c.at.state c.at.place
    pub b_at : slice_get cs' at ≡ Some b

  taken_same : (cs' : List Configuration) → cs' ≡ cs → (i : ℕ) (d : Configuration) → slice_get cs i ≡ Some d → d.at ≡ c.at → HasTaken cs'
  taken_same cs' same i d at_d alike = record {
    goes = record {
      found_are = subst (AreFound game e place S) (sym same) going.found_are;
      parents_are = subst (λ xs. (j : ℕ) (x : Configuration) → slice_get xs j ≡ Some x → x.parent ≤ at) (sym same) going.parents_are;
      expanded = subst (λ xs. (j n : ℕ) → j < at → IsFollowed game e place xs j n) (sym same) going.expanded;
      within = subst (λ xs. at ≤ length xs) (sym same) going.within;
    };
    kept = λ n h. subst (λ xs. IsFollowed game e place xs at n) (sym same) h;
    met = subst (λ xs. IsMet xs at c.at.state c.at.place) (sym same) (i, d, at_d, alike, going.parents_are i d at_d);
    b_at = subst (λ xs. slice_get xs at ≡ Some b) (sym same) at_b;
  }

  taken_new : (cs' : List Configuration) → cs' ≡ cs ++ c ∷ [] → length cs < 65536
      → ((i : ℕ) (d : Configuration) → slice_get cs i ≡ Some d → ¬ (d.at ≡ c.at)) → HasTaken cs'
  taken_new cs' same room new = record {
    goes = record {
      found_are = subst (AreFound game e place S) (sym same)
          (AreFound-push game e place S cs c going.found_are room (omega (arith, inside)) link state
          (λ i d at_d. let p = going.parents_are i d at_d in omega (arith, p, parent)) new);
      parents_are = subst (λ xs. (j : ℕ) (x : Configuration) → slice_get xs j ≡ Some x → x.parent ≤ at) (sym same)
          (λ j x at_x. parents j x (slice_get-push cs c j x at_x));
      expanded = subst (λ xs. (j n : ℕ) → j < at → IsFollowed game e place xs j n) (sym same)
          (λ j n less. IsFollowed-push game e place S cs c j n (omega (arith, inside, less)) (going.expanded j n less));
      within = subst (λ xs. at ≤ length xs) (sym same) (omega (arith, length-append cs (c ∷ []), going.within));
    };
    kept = λ n h. subst (λ xs. IsFollowed game e place xs at n) (sym same) (IsFollowed-push game e place S cs c at n inside h);
    met = subst (λ xs. IsMet xs at c.at.state c.at.place) (sym same) (length cs, c, slice_get-end cs c, refl, omega (arith, parent));
    b_at = subst (λ xs. slice_get xs at ≡ Some b) (sym same) (slice_get-append cs (c ∷ []) at b at_b);
  }
    where
      parents : (j : ℕ) (x : Configuration) → (slice_get cs j ≡ Some x) ⊎ (j ≡ length cs) × (x ≡ c) → x.parent ≤ at
      parents j x (inl at_x) = going.parents_are j x at_x
      parents j x (inr at_x) = let same' : x.parent ≡ c.parent = ap (λ z. z.parent) at_x.1 in omega (arith, parent)

  pub taken : (cs' : List Configuration) → IsTaken cs c cs' → HasTaken cs'
  taken cs' (inl g) = taken_same cs' g.0 g.1 g.2 g.3 g.4
  taken cs' (inr g) = taken_new cs' g.0 g.1 g.2

  pub too_wide : 65536 ≤ length cs → ((i : ℕ) (d : Configuration) → slice_get cs i ≡ Some d → ¬ (d.at ≡ c.at)) → IsWideFrom game e place S
  too_wide full new =
      wide_by_one_more game e place S cs b c at going.found_are at_b plain next leads.step new (omega (arith, full, going.found_are.few))
