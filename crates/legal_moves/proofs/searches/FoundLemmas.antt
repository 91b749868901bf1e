-- How what a search has found grows.
use Rattle.std.proofs.Common.{◌≡◌, ℕ, zero, suc, ◌+◌, ◌<◌, ◌≤◌, ◌⊎◌, inl, inr, true, false, List, [], ◌∷◌, ◌++◌, length, Some, slice_get, refl, sym, ap, ◌∙◌, subst, arith, length-append}
use Rattle.std.proofs.lemmas.Bool.{cases_lt}
use Rattle.rbg_game.specs.Rules.{Regex, one, empty, cat, alt, star, count, action_at, is_switch}
use Rattle.rbg_game.specs.Games.{Game}
use Rattle.rbg_game.specs.Sound.{IsSoundGame, whole_count}
use Rattle.rbg_game.specs.Positions.{IsStateOf}
use Rattle.rbg_game.specs.declared.position.SemiState.{SemiState}
use Rattle.legal_moves.specs.Effects.{EffectAt}
use Rattle.legal_moves.specs.Glushkov.{IsNextAt}
use Rattle.legal_moves.specs.Searches.{place_at}
use Rattle.legal_moves.specs.lemmas.Configurations.{AsksTooMuch, IsLinked, opening, AreFound, IsMet, IsFollowed, HaveOwnBytes}
use Rattle.legal_moves.specs.lemmas.Progress.{began}
use Rattle.legal_moves.specs.Configurations.{Configuration}
use Rattle.legal_moves.proofs.GetLemmas.{slice_get-append, slice_get-push, slice_get-within}
use Rattle.legal_moves.proofs.searches.SearchLemmas.{next_in_range}
use Rattle.legal_moves.proofs.answers.PackLemmas.{bytes_tell}

-- ---- numbers are few

pub count_whole : (e : Regex) → count e ≤ whole_count e
count_whole (one a) = omega arith
count_whole empty = omega arith
count_whole (cat a b) = omega (arith, count_whole a, count_whole b)
count_whole (alt a b) = omega (arith, count_whole a, count_whole b)
count_whole (star a) = count_whole a

-- an element that is there at an index is the one
pub same_at : {A : Type 0} (xs : List A) (i : ℕ) (x y : A) → slice_get xs i ≡ Some x → slice_get xs i ≡ Some y → x ≡ y
same_at xs i x y h k = let both : Some x ≡ Some y = sym h ∙ k in cc

only_one : {A : Type 0} (x : A) (i : ℕ) (c : A) → slice_get (x ∷ []) i ≡ Some c → (i ≡ 0) × (c ≡ x)
only_one x zero c h = (refl, cc)
only_one x (suc i) c h = absurd (cc)

module _ (game : Game) (e : Regex) (place : ℕ) (S : SemiState) where
  pub AreFound-begun : IsStateOf game S → AreFound game e place S (opening S ∷ [])
  AreFound-begun state = record {
    opening_is = refl;
    linked = λ i c at later. let o = only_one (opening S) i c at in absurd (omega (arith, o.0));
    ascending = λ i j c d le at_c at_d. let o = only_one (opening S) i c at_c in let first : c.parent ≡ 0 = ap (λ x. x.parent) o.1 in omega arith;
    different = λ i j c d at_c at_d same. (only_one (opening S) i c at_c).0 ∙ sym (only_one (opening S) j d at_d).0;
    states_are = λ i c at. subst (λ x. IsStateOf game x.at.state) (sym (only_one (opening S) i c at).1) state;
    few = omega arith;
  }

  IsLinked-more : (cs more : List Configuration) (i : ℕ) (c : Configuration) → IsLinked game e place cs i c → IsLinked game e place (cs ++ more) i c
  IsLinked-more cs more i c h = record {
    before = h.before;
    before_is = slice_get-append cs more c.parent h.before h.before_is;
    earlier = h.earlier;
    plain = h.plain;
    next = h.next;
    leads = h.leads;
  }

  pub IsMet-more : (cs more : List Configuration) (j : ℕ) (U : SemiState) (k : ℕ) → IsMet cs j U k → IsMet (cs ++ more) j U k
  IsMet-more cs more j U k h = (h.0, h.1, slice_get-append cs more h.0 h.1 h.2, h.3, h.4)

  -- what is expanded stays so
  pub IsFollowed-push : (cs : List Configuration) (c : Configuration) (j n : ℕ) → j < length cs → IsFollowed game e place cs j n
      → IsFollowed game e place (cs ++ c ∷ []) j n
  IsFollowed-push cs c j n within h = record {
    met = λ d k U at plain less next step. IsMet-more cs (c ∷ []) j U k (h.met d k U (old d (slice_get-push cs c j d at)) plain less next step);
    narrow = λ d k at plain less next. h.narrow d k (old d (slice_get-push cs c j d at)) plain less next;
  }
    where
      old : (d : Configuration) → (slice_get cs j ≡ Some d) ⊎ (j ≡ length cs) × (d ≡ c) → slice_get cs j ≡ Some d
      old d (inl at) = at
      old d (inr at) = absurd (omega (arith, at.0))

  pub AreFound-push : (cs : List Configuration) (c : Configuration) → AreFound game e place S cs → length cs < 65536 → 0 < length cs
      → IsLinked game e place cs (length cs) c → IsStateOf game c.at.state
      → ((i : ℕ) (d : Configuration) → slice_get cs i ≡ Some d → d.parent ≤ c.parent)
      → ((i : ℕ) (d : Configuration) → slice_get cs i ≡ Some d → ¬ (d.at ≡ c.at)) → AreFound game e place S (cs ++ c ∷ [])
  AreFound-push cs c h room some link state parents new = record {
    opening_is = slice_get-append cs (c ∷ []) 0 (opening S) h.opening_is;
    linked = λ i d at later. linked i d later (slice_get-push cs c i d at);
    ascending = λ i j x y le at_x at_y. rising i j x y le (slice_get-push cs c i x at_x) (slice_get-push cs c j y at_y);
    different = λ i j x y at_x at_y same. apart i j x y same (slice_get-push cs c i x at_x) (slice_get-push cs c j y at_y);
    states_are = λ i d at. states i d (slice_get-push cs c i d at);
    few = omega (arith, length-append cs (c ∷ []));
  }
    where
      linked : (i : ℕ) (d : Configuration) → 0 < i → (slice_get cs i ≡ Some d) ⊎ (i ≡ length cs) × (d ≡ c) → IsLinked game e place (cs ++ c ∷ []) i d
      linked i d later (inl at) = IsLinked-more cs (c ∷ []) i d (h.linked i d at later)
      linked i d later (inr at) =
          IsLinked-more cs (c ∷ []) i d (subst (λ k. IsLinked game e place cs k d) (sym at.0)
          (subst (λ x. IsLinked game e place cs (length cs) x) (sym at.1) link))

      rising : (i j : ℕ) (x y : Configuration) → i ≤ j → (slice_get cs i ≡ Some x) ⊎ (i ≡ length cs) × (x ≡ c)
          → (slice_get cs j ≡ Some y) ⊎ (j ≡ length cs) × (y ≡ c) → x.parent ≤ y.parent
      rising i j x y le (inl at_x) (inl at_y) = h.ascending i j x y le at_x at_y
      rising i j x y le (inl at_x) (inr at_y) = subst (λ z. x.parent ≤ z.parent) (sym at_y.1) (parents i x at_x)
      rising i j x y le (inr at_x) (inl at_y) = let w = slice_get-within cs j y at_y in absurd (omega (arith, at_x.0))
      rising i j x y le (inr at_x) (inr at_y) = let same : x.parent ≡ y.parent = ap (λ z. z.parent) (at_x.1 ∙ sym at_y.1) in omega arith

      apart : (i j : ℕ) (x y : Configuration) → x.at ≡ y.at → (slice_get cs i ≡ Some x) ⊎ (i ≡ length cs) × (x ≡ c)
          → (slice_get cs j ≡ Some y) ⊎ (j ≡ length cs) × (y ≡ c) → i ≡ j
      apart i j x y same (inl at_x) (inl at_y) = h.different i j x y at_x at_y same
      apart i j x y same (inl at_x) (inr at_y) = absurd (new i x at_x (same ∙ ap (λ z. z.at) at_y.1))
      apart i j x y same (inr at_x) (inl at_y) = absurd (new j y at_y (sym same ∙ ap (λ z. z.at) at_x.1))
      apart i j x y same (inr at_x) (inr at_y) = at_x.0 ∙ sym at_y.0

      states : (i : ℕ) (d : Configuration) → (slice_get cs i ≡ Some d) ⊎ (i ≡ length cs) × (d ≡ c) → IsStateOf game d.at.state
      states i d (inl at) = h.states_are i d at
      states i d (inr at) = subst (λ z. IsStateOf game z.at.state) (sym at.1) state

  -- nothing below 0
  pub IsFollowed-none : (cs : List Configuration) (j : ℕ) → IsFollowed game e place cs j 0
  IsFollowed-none cs j = record {
    met = λ c k U at plain less next step. absurd (omega (arith, less));
    narrow = λ c k at plain less next. absurd (omega (arith, less));
  }

  -- an end is not expanded
  pub IsFollowed-end : (cs : List Configuration) (j n : ℕ) (b : Configuration) → slice_get cs j ≡ Some b
      → is_switch (action_at e 1 b.at.place) ≡ true → IsFollowed game e place cs j n
  IsFollowed-end cs j n b at_b ends = record {
    met = λ c k U at plain less next step. absurd (never c at plain);
    narrow = λ c k at plain less next. absurd (never c at plain);
  }
    where
      never : (c : Configuration) → slice_get cs j ≡ Some c → is_switch (action_at e 1 c.at.place) ≡ false → ⊥
      never c at plain =
          let same = same_at cs j c b at at_b in
          let here : is_switch (action_at e 1 b.at.place) ≡ false = subst (λ z. is_switch (action_at e 1 z.at.place) ≡ false) same plain in
          let both : true ≡ false = sym ends ∙ here in
          cc

  -- one number more
  pub IsFollowed-more : (cs : List Configuration) (j n : ℕ) (b : Configuration) → slice_get cs j ≡ Some b → IsFollowed game e place cs j n
      → ((U : SemiState) → IsNextAt e (place_at place b.at.place) n → EffectAt game e 1 n b.at.state U → IsMet cs j U n)
      → (IsNextAt e (place_at place b.at.place) n → ¬ AsksTooMuch game e n b.at.state) → IsFollowed game e place cs j (n + 1)
  IsFollowed-more cs j n b at_b h here narrow = record {
    met = λ c k U at plain less next step. go c k U at plain next step (cases_lt k n) less;
    narrow = λ c k at plain less next. ask c k at plain next (cases_lt k n) less;
  }
    where
      go : (c : Configuration) (k : ℕ) (U : SemiState) → slice_get cs j ≡ Some c → is_switch (action_at e 1 c.at.place) ≡ false
          → IsNextAt e (place_at place c.at.place) k → EffectAt game e 1 k c.at.state U → (k < n) ⊎ (n ≤ k) → k < n + 1 → IsMet cs j U k
      go c k U at plain next step (inl less) le = h.met c k U at plain less next step
      go c k U at plain next step (inr past) le =
          let same = same_at cs j c b at at_b in
          let is : k ≡ n = omega arith in
          subst (λ m. IsMet cs j U m) (sym is)
          (here U (subst (λ m. IsNextAt e (place_at place b.at.place) m) is
          (subst (λ z. IsNextAt e (place_at place z.at.place) k) same next))
          (subst (λ m. EffectAt game e 1 m b.at.state U) is (subst (λ z. EffectAt game e 1 k z.at.state U) same step)))

      ask : (c : Configuration) (k : ℕ) → slice_get cs j ≡ Some c → is_switch (action_at e 1 c.at.place) ≡ false
          → IsNextAt e (place_at place c.at.place) k → (k < n) ⊎ (n ≤ k) → k < n + 1 → ¬ AsksTooMuch game e k c.at.state
      ask c k at plain next (inl less) le = h.narrow c k at plain less next
      ask c k at plain next (inr past) le =
          let same = same_at cs j c b at at_b in
          let is : k ≡ n = omega arith in
          λ asks. narrow (subst (λ m. IsNextAt e (place_at place b.at.place) m) is
          (subst (λ z. IsNextAt e (place_at place z.at.place) k) same next))
          (subst (λ m. AsksTooMuch game e m b.at.state) is (subst (λ z. AsksTooMuch game e k z.at.state) same asks))

  -- up to m, where no number from n on can follow
  pub IsFollowed-upto : (cs : List Configuration) (j n m : ℕ) (b : Configuration) → slice_get cs j ≡ Some b → IsFollowed game e place cs j n
      → ((k : ℕ) → n ≤ k → k < m → ¬ IsNextAt e (place_at place b.at.place) k) → IsFollowed game e place cs j m
  IsFollowed-upto cs j n m b at_b h none = record {
    met = λ c k U at plain less next step. go c k U at plain less next step (cases_lt k n);
    narrow = λ c k at plain less next. ask c k at plain less next (cases_lt k n);
  }
    where
      never : (c : Configuration) (k : ℕ) → slice_get cs j ≡ Some c → IsNextAt e (place_at place c.at.place) k → n ≤ k → k < m → ⊥
      never c k at next past less = none k past less (subst (λ z. IsNextAt e (place_at place z.at.place) k) (same_at cs j c b at at_b) next)

      go : (c : Configuration) (k : ℕ) (U : SemiState) → slice_get cs j ≡ Some c → is_switch (action_at e 1 c.at.place) ≡ false → k < m
          → IsNextAt e (place_at place c.at.place) k → EffectAt game e 1 k c.at.state U → (k < n) ⊎ (n ≤ k) → IsMet cs j U k
      go c k U at plain less next step (inl before) = h.met c k U at plain before next step
      go c k U at plain less next step (inr past) = absurd (never c k at next past less)

      ask : (c : Configuration) (k : ℕ) → slice_get cs j ≡ Some c → is_switch (action_at e 1 c.at.place) ≡ false → k < m
          → IsNextAt e (place_at place c.at.place) k → (k < n) ⊎ (n ≤ k) → ¬ AsksTooMuch game e k c.at.state
      ask c k at plain less next (inl before) = h.narrow c k at plain before next
      ask c k at plain less next (inr past) = absurd (never c k at next past less)

  -- the semi-state in which the search began is that of the opening
  pub began_is : (cs : List Configuration) → slice_get cs 0 ≡ Some (opening S) → began cs ≡ S
  began_is [] h = absurd (cc)
  began_is (c ∷ cs) h = let same : c ≡ opening S = cc in ap (λ x. x.at.state) same

  -- the numbers of the last actions are few
  pub places_few : (cs : List Configuration) → AreFound game e place S cs → whole_count e ≤ 4096 → (i : ℕ) (c : Configuration)
      → slice_get cs i ≡ Some c → c.at.place ≤ 4096
  places_few cs h small zero c at =
      let same = same_at cs 0 c (opening S) at h.opening_is in
      let first : c.at.place ≡ 0 = ap (λ x. x.at.place) same in
      omega arith
  places_few cs h small (suc i) c at =
      let link = h.linked (suc i) c at (omega arith) in
      let r = next_in_range e (place_at place link.before.at.place) c.at.place link.next in
      omega (arith, count_whole e, r.1)

-- different configurations have different bytes
pub own_bytes : (game : Game) (e : Regex) (place : ℕ) (S : SemiState) (cs : List Configuration) → IsSoundGame game → whole_count e ≤ 4096
    → AreFound game e place S cs → HaveOwnBytes cs
own_bytes game e place S cs sound small h i j c d at_c at_d same =
    h.different i j c d at_c at_d (bytes_tell game c.at d.at sound (h.states_are i c at_c) (h.states_are j d at_d)
    (places_few game e place S cs h small i c at_c) (places_few game e place S cs h small j d at_d) same)
