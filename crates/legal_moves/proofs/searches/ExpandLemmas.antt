-- One turn of the loop over the numbers that can follow a configuration.
use Rattle.std.proofs.Common.{◌≡◌, ℕ, zero, suc, ◌+◌, ◌<◌, ◌≤◌, ◌⊎◌, inl, inr, false, List, length, Some, slice_get, refl, sym, ap, ◌∙◌, subst, arith}
use Rattle.std.proofs.lemmas.Bool.{cases_lt}
use Rattle.rbg_game.specs.Rules.{Regex, count, action_at, is_switch}
use Rattle.rbg_game.specs.Games.{Game}
use Rattle.rbg_game.specs.Positions.{IsStateOf}
use Rattle.rbg_game.specs.declared.position.SemiState.{SemiState}
use Rattle.legal_moves.specs.Effects.{EffectAt}
use Rattle.legal_moves.specs.Glushkov.{IsNextAt}
use Rattle.legal_moves.specs.NumberLists.{AreListed, list_at}
use Rattle.legal_moves.proofs.ListingLemmas.{past, none_between, none_past}
use Rattle.legal_moves.specs.Searches.{place_at, IsWideFrom}
use Rattle.legal_moves.specs.lemmas.Configurations.{expression_at, IsReady, AsksTooMuch, OccurrenceLeads, opening, AreFound, IsMet, IsFollowed}
use Rattle.legal_moves.specs.lemmas.Progress.{state_at, IsGoing, IsTaken, IsTried, IsFull}
use Rattle.legal_moves.specs.declared.automaton.table.Table.{Table}
use Rattle.legal_moves.specs.Configurations.{Configuration}
use Rattle.legal_moves.proofs.EffectLemmas.{EffectAt-functional}
use Rattle.legal_moves.proofs.searches.SearchLemmas.{next_in_range, no_switch_at_0}
use Rattle.legal_moves.proofs.automata.StepLemmas.{EffectAt-keeps}
use Rattle.legal_moves.proofs.searches.FoundLemmas.{same_at, count_whole, IsFollowed-more}
use Rattle.legal_moves.proofs.searches.WidthLemmas.{wide_by_pattern}
use Rattle.legal_moves.proofs.searches.GoingLemmas.{taken, too_wide}
use Rattle.legal_moves.proofs.searches.AttemptLemmas.{state_of}
use Rattle.legal_moves.proofs.automata.ReadyLemmas.{followers_listed}

-- the flag of a configuration says whether its last action is a switch
pub ends_at : (game : Game) (e : Regex) (place : ℕ) (S : SemiState) (cs : List Configuration) → AreFound game e place S cs
    → (i : ℕ) (c : Configuration) → slice_get cs i ≡ Some c → c.ends ≡ is_switch (action_at e 1 c.at.place)
ends_at game e place S cs h zero c at =
    let same = same_at cs 0 c (opening S) at h.opening_is in
    subst (λ x. x.ends ≡ is_switch (action_at e 1 x.at.place)) (sym same) (sym (no_switch_at_0 e))
ends_at game e place S cs h (suc i) c at = (h.linked (suc i) c at (omega arith)).leads.ends_is

-- where the numbers are looked up
pub place_first : (place last : ℕ) → last ≡ 0 → place ≡ place_at place last
place_first place zero h = refl
place_first place (suc last) h = absurd (omega (arith, h))

pub place_last : (place last : ℕ) → (last ≡ 0 → ⊥) → last ≡ place_at place last
place_last place zero h = absurd (h refl)
place_last place (suc last) h = refl

-- what a list says of the numbers that can follow
module _ (game : Game) (tables : List Table) (index : ℕ) (ready : IsReady game tables index) (table : Table)
    (table_at : slice_get tables index ≡ Some table) (ks : List ℕ) (from p : ℕ) (ks_is : ks ≡ list_at table.follows.items from) (from_is : from ≡ p) where
  listed : AreListed (IsNextAt (expression_at game index) p) ks
  listed = subst (AreListed (IsNextAt (expression_at game index) p)) (sym (ks_is ∙ ap (list_at table.follows.items) from_is))
      (followers_listed game tables index ready table table_at p)

  pub listed_next : (i k : ℕ) → slice_get ks i ≡ Some k → IsNextAt (expression_at game index) p k
  listed_next = listed.only

  pub skipped : (i k m : ℕ) → slice_get ks i ≡ Some k → past ks i ≤ m → m < k → ¬ IsNextAt (expression_at game index) p m
  skipped = none_between (IsNextAt (expression_at game index) p) ks listed

  pub past_not : (i m : ℕ) → i ≡ length ks → past ks i ≤ m → ¬ IsNextAt (expression_at game index) p m
  past_not i m end from_past = none_past (IsNextAt (expression_at game index) p) ks listed m (subst (λ j. past ks j ≤ m) end from_past)

-- a number that can follow is one of the occurrences
pub number_from : (e : Regex) (p k : ℕ) → IsNextAt e p k → 1 ≤ k
number_from e p k next = (next_in_range e p k next).0

pub number_upto : (e : Regex) (p k : ℕ) → IsNextAt e p k → k ≤ count e
number_upto e p k next = let r = next_in_range e p k next in omega (arith, r.1)

pub number_small : (game : Game) (tables : List Table) (index : ℕ) → IsReady game tables index → (p k : ℕ) → IsNextAt (expression_at game index) p k → k ≤ 4096
number_small game tables index ready p k next =
    let r = number_upto (expression_at game index) p k next in
    omega (arith, count_whole (expression_at game index), ready.small)

-- on to the next configuration
pub going_next : (game : Game) (e : Regex) (place : ℕ) (S : SemiState) (cs : List Configuration) (at : ℕ) → IsGoing game e place S cs at
    → at < length cs → ((n : ℕ) → IsFollowed game e place cs at n) → IsGoing game e place S cs (at + 1)
going_next game e place S cs at h inside here = record {
  found_are = h.found_are;
  parents_are = λ i c at_c. let p = h.parents_are i c at_c in omega arith;
  expanded = λ j n less. go j n (cases_lt j at) less;
  within = omega arith;
}
  where
    go : (j n : ℕ) → (j < at) ⊎ (at ≤ j) → j < at + 1 → IsFollowed game e place cs j n
    go j n (inl less) le = h.expanded j n less
    go j n (inr past) le =
        let same : j ≡ at = omega arith in
        subst (λ k. IsFollowed game e place cs k n) (sym same) (here n)

module _ (game : Game) (tables : List Table) (index : ℕ) (ready : IsReady game tables index) (place : ℕ) (S : SemiState)
    (cs : List Configuration) (at n : ℕ) (b : Configuration) (going : IsGoing game (expression_at game index) place S cs at)
    (here : IsFollowed game (expression_at game index) place cs at n) (at_b : slice_get cs at ≡ Some b)
    (plain : is_switch (action_at (expression_at game index) 1 b.at.place) ≡ false) where
  e : Regex
  e = expression_at game index

  pub more_invalid : ((U : SemiState) → ¬ EffectAt game (expression_at game index) 1 n b.at.state U)
      → ¬ AsksTooMuch game (expression_at game index) n b.at.state → IsFollowed game (expression_at game index) place cs at (n + 1)
  more_invalid none narrow = IsFollowed-more game (expression_at game index) place S cs at n b at_b here (λ U next step. absurd (none U step)) (λ next. narrow)

  pub asked : IsNextAt (expression_at game index) (place_at place b.at.place) n → AsksTooMuch game (expression_at game index) n b.at.state
      → IsWideFrom game (expression_at game index) place S
  asked next asks = wide_by_pattern game (expression_at game index) place S cs b at n going.found_are at_b plain next asks

  -- after the turn
  pub record HasTurned (cs' : List Configuration) : Type 0 where
    pub goes : IsGoing game (expression_at game index) place S cs' at
    pub expands : IsFollowed game (expression_at game index) place cs' at (n + 1)
    pub b_at : slice_get cs' at ≡ Some b

  module _ (c : Configuration) (next : IsNextAt (expression_at game index) (place_at place b.at.place) n)
      (leads : OccurrenceLeads game (expression_at game index) n b.at.state c) (parent : c.parent ≡ at) where
    next_c : IsNextAt (expression_at game index) (place_at place b.at.place) c.at.place
    next_c = subst (IsNextAt (expression_at game index) (place_at place b.at.place)) (sym leads.place_is) next

    leads_c : OccurrenceLeads game (expression_at game index) c.at.place b.at.state c
    leads_c = subst (λ k. OccurrenceLeads game (expression_at game index) k b.at.state c) (sym leads.place_is) leads

    state_c : IsStateOf game c.at.state
    state_c = EffectAt-keeps game (expression_at game index) n b.at.state c.at.state ready.sound ready.expression_is
        (going.found_are.states_are at b at_b) leads.step

    pub turned : (cs' : List Configuration) → ¬ AsksTooMuch game (expression_at game index) n b.at.state → IsTaken cs c cs' → HasTurned cs'
    turned cs' narrow taken_c =
        let t = taken game (expression_at game index) place S cs at b c going at_b plain next_c leads_c parent state_c cs' taken_c in
        record {
          goes = t.goes;
          expands = IsFollowed-more game (expression_at game index) place S cs' at n b t.b_at (t.kept n here)
              (λ U next step. met cs' U t.met step) (λ next. narrow);
          b_at = t.b_at;
        }
      where
        met : (cs' : List Configuration) (U : SemiState) → IsMet cs' at c.at.state c.at.place
            → EffectAt game (expression_at game index) 1 n b.at.state U → IsMet cs' at U n
        met cs' U m step =
            let same = EffectAt-functional game (expression_at game index) 1 n b.at.state c.at.state U leads.step step in
            subst (λ k. IsMet cs' at U k) leads.place_is (subst (λ V. IsMet cs' at V c.at.place) same m)

    pub full : 65536 ≤ length cs → ((i : ℕ) (d : Configuration) → slice_get cs i ≡ Some d → ¬ (d.at ≡ c.at))
        → IsWideFrom game (expression_at game index) place S
    full many new = too_wide game (expression_at game index) place S cs at b c going at_b plain next_c leads_c parent state_c many new

  -- the semi-state from which the occurrence was tried
  state_is : state_at cs at ≡ b.at.state
  state_is = state_of cs at b at_b

  pub tried : (cs' : List Configuration) → IsNextAt (expression_at game index) (place_at place b.at.place) n
      → ¬ AsksTooMuch game (expression_at game index) n (state_at cs at) → IsTried game (expression_at game index) n at cs cs' → HasTurned cs'
  tried cs' next narrow (inl t) =
      let never = subst (λ T. (U : SemiState) → ¬ EffectAt game (expression_at game index) 1 n T U) state_is t.1 in
      record {
        goes = subst (λ xs. IsGoing game (expression_at game index) place S xs at) (sym t.0) going;
        expands = subst (λ xs. IsFollowed game (expression_at game index) place xs at (n + 1)) (sym t.0)
            (more_invalid never (subst (λ T. ¬ AsksTooMuch game (expression_at game index) n T) state_is narrow));
        b_at = subst (λ xs. slice_get xs at ≡ Some b) (sym t.0) at_b;
      }
  tried cs' next narrow (inr t) =
      turned t.0 next (subst (λ T. OccurrenceLeads game (expression_at game index) n T t.0) state_is t.1) t.2 cs'
      (subst (λ T. ¬ AsksTooMuch game (expression_at game index) n T) state_is narrow) t.3

  pub tried_wide : IsNextAt (expression_at game index) (place_at place b.at.place) n
      → AsksTooMuch game (expression_at game index) n (state_at cs at) ⊎ IsFull game (expression_at game index) n at cs
      → IsWideFrom game (expression_at game index) place S
  tried_wide next (inl asks) = asked next (subst (AsksTooMuch game (expression_at game index) n) state_is asks)
  tried_wide next (inr f) = full f.0 next (subst (λ T. OccurrenceLeads game (expression_at game index) n T f.0) state_is f.1) f.2 f.3 f.4
