-- A search that goes from one action other than a shift to the next, and is over: what it has come to.
use Rattle.std.proofs.Common.{◌≡◌, ℕ, zero, suc, ◌+◌, ◌<◌, ◌≤◌, ◌⊎◌, inl, inr, Bool, true, false, List, [], ◌∷◌, ◌++◌, length, get_or, Some, None, slice_get, Contains, refl, sym, ap, ◌∙◌, subst, arith, length-append}
use Rattle.std.proofs.lemmas.Bool.{cases_lt}
use Rattle.std.proofs.lemmas.List.Elements.{Contains-append_left, Contains-append_right}
use Rattle.rbg_game.specs.Rules.{Regex, Action, shift, on, off, assignment, comparison, switch, pattern, action_at, is_switch}
use Rattle.rbg_game.specs.Games.{Game}
use Rattle.rbg_game.specs.declared.position.SemiState.{SemiState}
use Rattle.legal_moves.specs.Effects.{Effect}
use Rattle.legal_moves.specs.Glushkov.{IsNextAt}
use Rattle.legal_moves.specs.Searches.{place_at, Searched, begun, gone, Reaches, IsWideFrom, many, within}
use Rattle.legal_moves.specs.Jumps.{label_in, IsShiftTo, Shifts, still, further}
use Rattle.legal_moves.specs.Configurations.{Configuration}
use Rattle.legal_moves.specs.lemmas.Configurations.{opening, IsSearch}
use Rattle.legal_moves.specs.lemmas.Hops.{IsHopping, AreStillThere, AreListedFrom, AreCounted, AreListedUpto}
use Rattle.legal_moves.specs.lemmas.Reached.{IsAmongFound, AreReached}
use Rattle.legal_moves.specs.lemmas.VertexSearch.{at_vertex}
use Rattle.legal_moves.proofs.Distinct.{distinct-le}
use Rattle.legal_moves.proofs.EffectLemmas.{EffectAt-by_action, action-by_EffectAt}
use Rattle.legal_moves.proofs.GetLemmas.{slice_get-within, slice_get-there}
use Rattle.legal_moves.proofs.searches.ExpandLemmas.{ends_at}
use Rattle.legal_moves.proofs.searches.FoundLemmas.{same_at}
use Rattle.legal_moves.proofs.searches.HopLemmas.{shift_plain, own_place, at_opening}
use Rattle.legal_moves.proofs.searches.LevelLemmas.{word_at, complete}
use Rattle.legal_moves.proofs.searches.SearchLemmas.{Searched-by_Reaches, StandsNext-by_path}
use Rattle.legal_moves.proofs.searches.WidthLemmas.{contains_by_get, narrow_by_search}

module _ (game : Game) (e : Regex) (place : ℕ) (S : SemiState) where
  -- ---- what is listed

  more_listed : (xs ys : List (SemiState × ℕ)) (c : Configuration) → ((p : SemiState × ℕ) → Contains xs p → Contains ys p)
      → AreListedFrom game e place xs c → AreListedFrom game e place ys c
  more_listed xs ys c more h = record {
    itself = λ switch. more (c.at.state, c.at.place) (h.itself switch);
    shifted = λ plain q u shifts. more (at_vertex c.at.state u, q) (h.shifted plain q u shifts);
  }

  pub listed_begun : (cs : List Configuration) → AreListedUpto game e place S cs 0 65535
  listed_begun cs = record {
    listed = (S, 0) ∷ [];
    short = omega arith;
    first = contains_by_get ((S, 0) ∷ []) 0 (S, 0) refl;
    each = λ j c less. absurd (omega (arith, less));
  }

  pub listed_next : (cs cs' : List Configuration) (at left left' n : ℕ) (b : Configuration) → AreListedUpto game e place S cs at left
      → AreStillThere cs cs' → slice_get cs at ≡ Some b → AreCounted game e place b n → left' + n ≡ left → AreListedUpto game e place S cs' (at + 1) left'
  listed_next cs cs' at left left' n b h more at_b counted less = record {
    listed = h.listed ++ counted.0;
    short = omega (arith, h.short, length-append h.listed counted.0, counted.1, less);
    first = Contains-append_left h.listed counted.0 (S, 0) h.first;
    each = λ j c low at_c. go j c (cases_lt j at) low at_c;
  }
    where
      go : (j : ℕ) (c : Configuration) → (j < at) ⊎ (at ≤ j) → j < at + 1 → slice_get cs' j ≡ Some c
          → AreListedFrom game e place (h.listed ++ counted.0) c
      go j c (inl low) upto at_c =
          let inside = slice_get-within cs at b at_b in
          let there = slice_get-there cs j (omega (arith, low, inside)) in
          let same = same_at cs' j there.0 c (more j there.0 there.1) at_c in
          subst (AreListedFrom game e place (h.listed ++ counted.0)) same
          (more_listed h.listed (h.listed ++ counted.0) there.0 (λ p is. Contains-append_left h.listed counted.0 p is) (h.each j there.0 low there.1))
      go j c (inr high) upto at_c =
          let here : j ≡ at = omega (arith, high, upto) in
          let same = same_at cs' at b c (more at b at_b) (subst (λ k. slice_get cs' k ≡ Some c) here at_c) in
          subst (AreListedFrom game e place (h.listed ++ counted.0)) same
          (more_listed counted.0 (h.listed ++ counted.0) b (λ p is. Contains-append_right h.listed counted.0 p is) counted.2)

  -- ---- what words lead to is there, or shifts lead to it

  -- shifts lead to T and k from the configuration, the last of them by the occurrence k
  abbrev IsShifted : Configuration → SemiState → ℕ → Type 0
  IsShifted c T k =
      (is_switch (action_at e 1 c.at.place) ≡ false) × (q u : ℕ) × Shifts game e (place_at place c.at.place) c.at.state.vertex q u
      × IsNextAt e q k × IsShiftTo game e k u T.vertex

  record IsCovered (cs : List Configuration) (T : SemiState) (k : ℕ) : Type 0 where
    pub index : ℕ
    pub anchor : Configuration
    pub is_at : slice_get cs index ≡ Some anchor
    pub same : T ≡ at_vertex anchor.at.state T.vertex
    pub way : (anchor.at ≡ record { state = T; place = k }) ⊎ IsShifted anchor T k

  -- where it can be gone on from
  from_anchor : (c : Configuration) (T : SemiState) (k : ℕ) → (c.at ≡ record { state = T; place = k }) ⊎ IsShifted c T k
      → is_switch (action_at e 1 k) ≡ false
      → (is_switch (action_at e 1 c.at.place) ≡ false) × Shifts game e (place_at place c.at.place) c.at.state.vertex (place_at place k) T.vertex
  from_anchor c T k (inl same) plain =
      let place_same : c.at.place ≡ k = ap (λ p. p.place) same in
      let vertex_same : c.at.state.vertex ≡ T.vertex = ap (λ p. p.state.vertex) same in (
        subst (λ j. is_switch (action_at e 1 j) ≡ false) (sym place_same) plain,
        subst (λ j. Shifts game e (place_at place c.at.place) c.at.state.vertex (place_at place j) T.vertex) place_same
            (subst (λ v. Shifts game e (place_at place c.at.place) c.at.state.vertex (place_at place c.at.place) v) vertex_same still),
      )
  from_anchor c T k (inr h) plain = (
    h.0,
    subst (λ j. Shifts game e (place_at place c.at.place) c.at.state.vertex j T.vertex) (sym (own_place e place h.1 k h.4))
        (further h.1 h.2 k T.vertex h.3 h.4 h.5),
  )

  module _ (cs : List Configuration) (at : ℕ) (going : IsHopping game e place S cs at) (ended : length cs ≤ at) where
    hopped : (T : SemiState) (k : ℕ) (U : SemiState) (l : ℕ) (a : Action) → IsCovered cs T k → is_switch (action_at e 1 k) ≡ false
        → IsNextAt e (place_at place k) l → action_at e 1 l ≡ Some a → label_in (Some a) ≡ None → Effect game a T U → IsCovered cs U l
    hopped T k U l a h plain next is other step =
        let from = from_anchor h.anchor T k h.way plain in
        let effect = EffectAt-by_action game e 1 l a (at_vertex h.anchor.at.state T.vertex) U is (subst (λ X. Effect game a X U) h.same step) in
        let over = going.hopped h.index h.anchor (omega (arith, ended, slice_get-within cs h.index h.anchor h.is_at)) h.is_at from.0
        (place_at place k) T.vertex l from.1 next (ap label_in is ∙ other) in
        let there = over.met U effect in
        let state_same : there.1.at.state ≡ U = ap (λ p. p.state) there.3 in
        record {
          index = there.0;
          anchor = there.1;
          is_at = there.2;
          same = sym (ap (λ (X : SemiState). at_vertex X U.vertex) state_same);
          way = inl there.3;
        }

    onward : (T : SemiState) (k : ℕ) (U : SemiState) (l : ℕ) (a : Action) → IsCovered cs T k → is_switch (action_at e 1 k) ≡ false
        → IsNextAt e (place_at place k) l → action_at e 1 l ≡ Some a → Effect game a T U → IsCovered cs U l
    onward T k U l (shift label) h plain next is step =
        let from = from_anchor h.anchor T k h.way plain in
        let here : U ≡ at_vertex T step.0 = step.2 in
        let to : U.vertex ≡ step.0 = ap (λ (X : SemiState). X.vertex) here in
        record {
          index = h.index;
          anchor = h.anchor;
          is_at = h.is_at;
          same = here ∙ ap (λ (X : SemiState). at_vertex X step.0) h.same ∙ ap (at_vertex h.anchor.at.state) (sym to);
          way = inr (from.0, place_at place k, T.vertex, from.1, next, (label, ap label_in is, step.1 ∙ ap Some (sym to)));
        }
    onward T k U l (on xs) h plain next is step = hopped T k U l (on xs) h plain next is refl step
    onward T k U l (off x) h plain next is step = hopped T k U l (off x) h plain next is refl step
    onward T k U l (assignment v r) h plain next is step = hopped T k U l (assignment v r) h plain next is refl step
    onward T k U l (comparison a op b) h plain next is step = hopped T k U l (comparison a op b) h plain next is refl step
    onward T k U l (switch r) h plain next is step = hopped T k U l (switch r) h plain next is refl step
    onward T k U l (pattern positive i) h plain next is step = hopped T k U l (pattern positive i) h plain next is refl step

    covered : (w : List ℕ) (T : SemiState) (k : ℕ) → Searched game e place S w T k → IsCovered cs T k
    covered _ _ _ begun = record { index = 0; anchor = opening S; is_at = going.opening_is; same = refl; way = inl refl }
    covered _ _ _ (gone w T k U l searched plain next step) =
        let a = action-by_EffectAt game e 1 l T U step in
        onward T k U l a.0 (covered w T k searched) plain next a.1 a.2

    -- one that ends a move is there itself
    end_there : (w : List ℕ) (T : SemiState) (k : ℕ) → Searched game e place S w T k → is_switch (action_at e 1 k) ≡ true → IsAmongFound cs T k
    end_there w T k searched ends = go (covered w T k searched)
      where
        pick : (i : ℕ) (c : Configuration) → slice_get cs i ≡ Some c → (c.at ≡ record { state = T; place = k }) ⊎ IsShifted c T k → IsAmongFound cs T k
        pick i c at_c (inl same) = (i, c, at_c, same)
        pick i c at_c (inr h) =
            let plain = shift_plain game e k h.2 T.vertex h.5 in
            let never : true ≡ false = sym ends ∙ plain in
            absurd (cc)

        go : IsCovered cs T k → IsAmongFound cs T k
        go h = pick h.index h.anchor h.is_at h.way

    -- ---- all of it is listed

    module _ (left : ℕ) (ways : AreListedUpto game e place S cs at left) where
      -- the configuration itself
      anchor_listed : (i : ℕ) (c : Configuration) → slice_get cs i ≡ Some c → Contains ways.listed (c.at.state, c.at.place)
      anchor_listed i c at_c =
          go (is_switch (action_at e 1 c.at.place)) refl c.at.place refl
        where
          here : AreListedFrom game e place ways.listed c
          here = ways.each i c (omega (arith, ended, slice_get-within cs i c at_c)) at_c

          go : (b : Bool) → is_switch (action_at e 1 c.at.place) ≡ b → (k : ℕ) → c.at.place ≡ k → Contains ways.listed (c.at.state, c.at.place)
          go true is k same = here.itself is
          go false is zero same =
              let m = going.met i c at_c in
              let first : c.at.state ≡ S = at_opening game e place S m.0 c.at.state c.at.place m.1 same in
              subst (λ j. Contains ways.listed (c.at.state, j)) (sym same) (subst (λ T. Contains ways.listed (T, 0)) (sym first) ways.first)
          go false is (suc k) same =
              let own : place_at place c.at.place ≡ c.at.place = ap (place_at place) same ∙ sym same in
              subst (λ j. Contains ways.listed (c.at.state, j)) own (here.shifted is (place_at place c.at.place) c.at.state.vertex still)

      all_listed : (p : SemiState × ℕ) → Reaches game e place S p → Contains ways.listed p
      all_listed p r =
          let w = Searched-by_Reaches game e place S p r in
          go (covered w.0 p.0 p.1 w.1)
        where
          pick : (i : ℕ) (c : Configuration) → slice_get cs i ≡ Some c → p.0 ≡ at_vertex c.at.state p.0.vertex
              → (c.at ≡ record { state = p.0; place = p.1 }) ⊎ IsShifted c p.0 p.1 → Contains ways.listed p
          pick i c at_c same (inl is) = subst (Contains ways.listed) (ap (λ x. (x.state, x.place)) is) (anchor_listed i c at_c)
          pick i c at_c same (inr h) =
              let here = ways.each i c (omega (arith, ended, slice_get-within cs i c at_c)) at_c in
              subst (λ (T : SemiState). Contains ways.listed (T, p.1)) (sym same)
              (here.shifted h.0 p.1 p.0.vertex (further h.1 h.2 p.1 p.0.vertex h.3 h.4 h.5))

          go : IsCovered cs p.0 p.1 → Contains ways.listed p
          go h = pick h.index h.anchor h.is_at h.same h.way

      not_wide : ¬ IsWideFrom game e place S
      not_wide (many _ _ _ reached all different count) =
          let few = distinct-le ways.listed reached different (λ k d inside. all_listed (get_or reached k d) (all k d inside)) in
          omega (arith, few, ways.short, count)
      not_wide (within _ _ _ w k T positive inner follows free leads is wide) =
          let n = StandsNext-by_path game e place S w k T follows free leads in
          let h = covered n.word T n.last n.found in
          let from = from_anchor h.anchor T n.last h.way n.plain in
          let over = going.hopped h.index h.anchor (omega (arith, ended, slice_get-within cs h.index h.anchor h.is_at)) h.is_at from.0
          (place_at place n.last) T.vertex k from.1 n.next (ap label_in is) in
          over.narrow (positive, inner, is, subst (λ V. IsWideFrom game inner 0 V) h.same wide)

      pub reached_by_hops : AreReached game e place S cs
      reached_by_hops = record {
        met = going.met;
        ends_are = going.ends_are;
        different = going.different;
        all = end_there;
        few = going.few;
        narrow = not_wide;
      }

  -- ---- a search by steps comes to all of it too

  pub reached_by_search : (cs : List Configuration) → IsSearch game e place S cs → AreReached game e place S cs
  reached_by_search cs search = record {
    met = λ i c at_c. let w = (word_at game e place S cs search.found i c at_c).1 in (w.word, w.searched);
    ends_are = ends_at game e place S cs search.found;
    different = search.found.different;
    all = λ w T k searched switch. let f = complete game e place S cs search.found search.expanded w T k searched in
        (f.index, f.configuration, f.is_at, f.same);
    few = search.found.few;
    narrow = narrow_by_search game e place S cs search;
  }
