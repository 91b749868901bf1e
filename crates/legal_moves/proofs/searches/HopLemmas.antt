-- A search that goes from one action other than a shift to the next: what it keeps as it goes on.
use Rattle.std.proofs.Common.{◌≡◌, ℕ, zero, suc, ◌+◌, ◌<◌, ◌≤◌, ◌⊎◌, inl, inr, true, false, List, [], ◌∷◌, ◌++◌, length, map, Some, slice_get, refl, sym, ap, ◌∙◌, subst, arith, length-append}
use Rattle.std.proofs.lemmas.Bool.{cases_lt}
use Rattle.std.proofs.lemmas.List.{length-map}
use Rattle.rbg_game.specs.Rules.{Regex, count, shift, action_at, is_switch}
use Rattle.rbg_game.specs.Games.{Game}
use Rattle.rbg_game.specs.Sound.{IsSoundGame, IsSoundRegex}
use Rattle.rbg_game.specs.Positions.{IsStateOf}
use Rattle.rbg_game.specs.declared.position.SemiState.{SemiState}
use Rattle.legal_moves.specs.Effects.{EffectAt}
use Rattle.legal_moves.specs.Glushkov.{IsNextAt}
use Rattle.legal_moves.specs.Searches.{place_at, Searched, begun, gone}
use Rattle.legal_moves.specs.Jumps.{IsShiftTo, Shifts, still, further, IsRow}
use Rattle.legal_moves.specs.Configurations.{Configuration}
use Rattle.legal_moves.specs.lemmas.Configurations.{AsksTooMuch, OccurrenceLeads, opening}
use Rattle.legal_moves.specs.lemmas.Hops.{IsGoneOver, IsHopped, IsHopping, AreStillThere, AreCounted}
use Rattle.legal_moves.specs.lemmas.Progress.{began, IsTaken, IsTriedFrom}
use Rattle.legal_moves.specs.lemmas.Reached.{IsMetBy, IsAmongFound}
use Rattle.legal_moves.specs.lemmas.VertexSearch.{at_vertex}
use Rattle.legal_moves.specs.declared.automaton.jumps.Jump.{Jump}
use Rattle.legal_moves.specs.declared.automaton.jumps.JumpRow.{JumpRow}
use Rattle.legal_moves.proofs.EffectLemmas.{EffectAt-by_action, EffectAt-functional}
use Rattle.legal_moves.proofs.GetLemmas.{slice_get-append, slice_get-push, slice_get-end, slice_get-within}
use Rattle.legal_moves.proofs.automata.RowLemmas.{shifts_inside}
use Rattle.legal_moves.proofs.automata.StepLemmas.{EffectAt-keeps}
use Rattle.legal_moves.proofs.searches.ExpandLemmas.{number_from, number_upto}
use Rattle.legal_moves.proofs.searches.FoundLemmas.{same_at}
use Rattle.legal_moves.proofs.searches.JumpLemmas.{label_shift}
use Rattle.legal_moves.proofs.searches.LeapLemmas.{at_inside}
use Rattle.legal_moves.proofs.searches.SearchLemmas.{no_switch_at_0}
use Rattle.legal_moves.proofs.searches.WidthLemmas.{contains_by_get, map_at}

-- a shift is no switch
pub shift_plain : (game : Game) (e : Regex) (r u w : ℕ) → IsShiftTo game e r u w → is_switch (action_at e 1 r) ≡ false
shift_plain game e r u w s = ap is_switch (label_shift (action_at e 1 r) s.0 s.1)

-- a number that can stand next is looked up as it is
pub own_place : (e : Regex) (place p l : ℕ) → IsNextAt e p l → place_at place l ≡ l
own_place e place p zero next = let low = number_from e p 0 next in absurd (omega (arith, low))
own_place e place p (suc l) next = refl

pub looked_up_within : (place last n : ℕ) → place ≤ n → last ≤ n → place_at place last ≤ n
looked_up_within place zero n h k = h
looked_up_within place (suc last) n h k = k

pub there_still : (cs cs' : List Configuration) → AreStillThere cs cs' → (U : SemiState) (k : ℕ) → IsAmongFound cs U k → IsAmongFound cs' U k
there_still cs cs' more U k h = (h.0, h.1, more h.0 h.1 h.2, h.3)

module _ (game : Game) (e : Regex) (place : ℕ) (S : SemiState) where
  -- ---- what words lead to

  pub place_within : (w : List ℕ) (T : SemiState) (k : ℕ) → Searched game e place S w T k → k ≤ count e
  place_within _ _ _ begun = omega arith
  place_within _ _ _ (gone w T k U l h plain next step) = number_upto e (place_at place k) l next

  -- only the opening has no action
  pub at_opening : (w : List ℕ) (T : SemiState) (k : ℕ) → Searched game e place S w T k → k ≡ 0 → T ≡ S
  at_opening _ _ _ begun none = refl
  at_opening _ _ _ (gone w T k U l h plain next step) none =
      let low = number_from e (place_at place k) l next in
      absurd (omega (arith, low, none))

  shift_leads : (T : SemiState) (r u w : ℕ) → IsShiftTo game e r u w → EffectAt game e 1 r (at_vertex T u) (at_vertex T w)
  shift_leads T r u w s = EffectAt-by_action game e 1 r (shift s.0) (at_vertex T u) (at_vertex T w) (label_shift (action_at e 1 r) s.0 s.1) (w, s.2, refl)

  -- a word leads to T without a switch at its end, and what can stand next is looked up at q
  pub record IsComeTo (T : SemiState) (q : ℕ) : Type 0 where
    pub word : List ℕ
    pub last : ℕ
    pub searched : Searched game e place S word T last
    pub plain : is_switch (action_at e 1 last) ≡ false
    pub looked_up : place_at place last ≡ q

  -- so it is with all that shifts lead to
  pub come_by_shifts : (T : SemiState) (k : ℕ) → IsMetBy game e place S T k → is_switch (action_at e 1 k) ≡ false → (q u : ℕ)
      → Shifts game e (place_at place k) T.vertex q u → IsComeTo (at_vertex T u) q
  come_by_shifts T k met plain _ _ still = record { word = met.0; last = k; searched = met.1; plain = plain; looked_up = refl }
  come_by_shifts T k met plain _ _ (further q u r w shifts next s) =
      let h = come_by_shifts T k met plain q u shifts in
      record {
        word = h.word ++ r ∷ [];
        last = r;
        searched = gone h.word (at_vertex T u) h.last (at_vertex T w) r h.searched h.plain
            (subst (λ p. IsNextAt e p r) (sym h.looked_up) next) (shift_leads T r u w s);
        plain = shift_plain game e r u w s;
        looked_up = own_place e place q r next;
      }

  met_by_next : (T U : SemiState) (q r : ℕ) → IsComeTo T q → IsNextAt e q r → EffectAt game e 1 r T U → IsMetBy game e place S U r
  met_by_next T U q r h next step =
      (h.word ++ r ∷ [], gone h.word T h.last U r h.searched h.plain (subst (λ p. IsNextAt e p r) (sym h.looked_up) next) step)

  -- the first is where the search began
  pub began_hopping : (cs : List Configuration) (at : ℕ) → IsHopping game e place S cs at → began cs ≡ S
  began_hopping [] at going = absurd (cc (going.opening_is))
  began_hopping (c ∷ cs) at going = let same : c ≡ opening S = same_at (c ∷ cs) 0 c (opening S) refl going.opening_is in ap (λ x. x.at.state) same

  -- ---- more is found

  pub over_still : (cs cs' : List Configuration) → AreStillThere cs cs' → (T : SemiState) (r : ℕ) → IsGoneOver game e cs T r → IsGoneOver game e cs' T r
  over_still cs cs' more T r h = record {
    met = λ U step. there_still cs cs' more U r (h.met U step);
    narrow = h.narrow;
  }

  pub hopped_still : (cs cs' : List Configuration) → AreStillThere cs cs' → (c : Configuration) → IsHopped game e place cs c → IsHopped game e place cs' c
  hopped_still cs cs' more c h plain q u r shifts next none = over_still cs cs' more (at_vertex c.at.state u) r (h plain q u r shifts next none)

  pub hopping_begun : IsStateOf game S → IsHopping game e place S (opening S ∷ []) 0
  hopping_begun state = record {
    opening_is = refl;
    met = λ i c at. subst (λ x. IsMetBy game e place S x.at.state x.at.place) (alone i c at).1 ([], begun);
    ends_are = λ i c at. subst (λ x. x.ends ≡ is_switch (action_at e 1 x.at.place)) (alone i c at).1 (sym (no_switch_at_0 e));
    states_are = λ i c at. subst (λ x. IsStateOf game x.at.state) (alone i c at).1 state;
    different = λ i j c d at_c at_d same. (alone i c at_c).0 ∙ sym (alone j d at_d).0;
    hopped = λ j c less. absurd (omega (arith, less));
    few = omega arith;
    within = omega arith;
  }
    where
      alone : (i : ℕ) (c : Configuration) → slice_get (opening S ∷ []) i ≡ Some c → (i ≡ 0) × (opening S ≡ c)
      alone zero c at = (refl, cc)
      alone (suc i) c at = absurd (cc)

  module _ (cs : List Configuration) (at : ℕ) (going : IsHopping game e place S cs at) (c : Configuration)
      (met : IsMetBy game e place S c.at.state c.at.place) (ends : c.ends ≡ is_switch (action_at e 1 c.at.place)) (state : IsStateOf game c.at.state) where
    pub hopping_pushed : length cs < 65536 → ((i : ℕ) (d : Configuration) → slice_get cs i ≡ Some d → ¬ (d.at ≡ c.at))
        → IsHopping game e place S (cs ++ c ∷ []) at
    hopping_pushed room new = record {
      opening_is = slice_get-append cs (c ∷ []) 0 (opening S) going.opening_is;
      met = λ i x at_x. each_met i x (slice_get-push cs c i x at_x);
      ends_are = λ i x at_x. each_end i x (slice_get-push cs c i x at_x);
      states_are = λ i x at_x. each_state i x (slice_get-push cs c i x at_x);
      different = λ i j x y at_x at_y same. apart i j x y same (slice_get-push cs c i x at_x) (slice_get-push cs c j y at_y);
      hopped = λ j x less at_x. before j x less (slice_get-push cs c j x at_x);
      few = omega (arith, room, length-append cs (c ∷ []));
      within = omega (arith, going.within, length-append cs (c ∷ []));
    }
      where
        each_met : (i : ℕ) (x : Configuration) → (slice_get cs i ≡ Some x) ⊎ (i ≡ length cs) × (x ≡ c) → IsMetBy game e place S x.at.state x.at.place
        each_met i x (inl h) = going.met i x h
        each_met i x (inr h) = subst (λ y. IsMetBy game e place S y.at.state y.at.place) (sym h.1) met

        each_end : (i : ℕ) (x : Configuration) → (slice_get cs i ≡ Some x) ⊎ (i ≡ length cs) × (x ≡ c) → x.ends ≡ is_switch (action_at e 1 x.at.place)
        each_end i x (inl h) = going.ends_are i x h
        each_end i x (inr h) = subst (λ y. y.ends ≡ is_switch (action_at e 1 y.at.place)) (sym h.1) ends

        each_state : (i : ℕ) (x : Configuration) → (slice_get cs i ≡ Some x) ⊎ (i ≡ length cs) × (x ≡ c) → IsStateOf game x.at.state
        each_state i x (inl h) = going.states_are i x h
        each_state i x (inr h) = subst (λ y. IsStateOf game y.at.state) (sym h.1) state

        apart : (i j : ℕ) (x y : Configuration) → x.at ≡ y.at → (slice_get cs i ≡ Some x) ⊎ (i ≡ length cs) × (x ≡ c)
            → (slice_get cs j ≡ Some y) ⊎ (j ≡ length cs) × (y ≡ c) → i ≡ j
        apart i j x y same (inl a) (inl b) = going.different i j x y a b same
        apart i j x y same (inl a) (inr b) = absurd (new i x a (same ∙ ap (λ z. z.at) b.1))
        apart i j x y same (inr a) (inl b) = absurd (new j y b (sym same ∙ ap (λ z. z.at) a.1))
        apart i j x y same (inr a) (inr b) = a.0 ∙ sym b.0

        before : (j : ℕ) (x : Configuration) → j < at → (slice_get cs j ≡ Some x) ⊎ (j ≡ length cs) × (x ≡ c) → IsHopped game e place (cs ++ c ∷ []) x
        before j x less (inl h) = hopped_still cs (cs ++ c ∷ []) (λ i y at_y. slice_get-append cs (c ∷ []) i y at_y) x (going.hopped j x less h)
        before j x less (inr h) = absurd (omega (arith, less, going.within, h.0))

  -- ---- one jump from the configuration at an index

  module _ (cs : List Configuration) (at : ℕ) (b : Configuration) (going : IsHopping game e place S cs at) (at_b : slice_get cs at ≡ Some b)
      (plain : is_switch (action_at e 1 b.at.place) ≡ false) (sound : IsSoundGame game) (good : IsSoundRegex game e)
      (q u : ℕ) (shifts : Shifts game e (place_at place b.at.place) b.at.state.vertex q u) where
    pub state_there : IsStateOf game (at_vertex b.at.state u)
    state_there =
        let state = going.states_are at b at_b in
        at_inside game b.at.state b.at.state.vertex u state
        (shifts_inside game e sound (place_at place b.at.place) b.at.state.vertex q u state.vertex_is shifts)

    module _ (r : ℕ) (next : IsNextAt e q r) where
      -- what is known once it was tried
      pub record HasHopped (cs' : List Configuration) : Type 0 where
        pub goes : IsHopping game e place S cs' at
        pub stays : AreStillThere cs cs'
        pub over : IsGoneOver game e cs' (at_vertex b.at.state u) r

      module _ (c : Configuration) (leads : OccurrenceLeads game e r (at_vertex b.at.state u) c)
          (narrow : ¬ AsksTooMuch game e r (at_vertex b.at.state u)) where
        over_by_there : (cs' : List Configuration) → IsAmongFound cs' c.at.state c.at.place → IsGoneOver game e cs' (at_vertex b.at.state u) r
        over_by_there cs' there = record {
          met = λ U step.
              let same = EffectAt-functional game e 1 r (at_vertex b.at.state u) c.at.state U leads.step step in
              subst (λ k. IsAmongFound cs' U k) leads.place_is (subst (λ V. IsAmongFound cs' V c.at.place) same there);
          narrow = narrow;
        }

        taken : (cs' : List Configuration) → IsTaken cs c cs' → HasHopped cs'
        taken cs' (inl g) = record {
          goes = subst (λ xs. IsHopping game e place S xs at) (sym g.0) going;
          stays = λ i x at_x. subst (λ xs. slice_get xs i ≡ Some x) (sym g.0) at_x;
          over = over_by_there cs' (g.1, g.2, subst (λ xs. slice_get xs g.1 ≡ Some g.2) (sym g.0) g.3, g.4);
        }
        taken cs' (inr g) =
            let came = come_by_shifts b.at.state b.at.place (going.met at b at_b) plain q u shifts in
            let met = subst (IsMetBy game e place S c.at.state) (sym leads.place_is)
            (met_by_next (at_vertex b.at.state u) c.at.state q r came next leads.step) in
            let ends = leads.ends_is ∙ ap (λ k. is_switch (action_at e 1 k)) (sym leads.place_is) in
            let state = EffectAt-keeps game e r (at_vertex b.at.state u) c.at.state sound good state_there leads.step in
            record {
              goes = subst (λ xs. IsHopping game e place S xs at) (sym g.0) (hopping_pushed cs at going c met ends state g.1 g.2);
              stays = λ i x at_x. subst (λ xs. slice_get xs i ≡ Some x) (sym g.0) (slice_get-append cs (c ∷ []) i x at_x);
              over = over_by_there cs' (length cs, c, subst (λ xs. slice_get xs (length cs) ≡ Some c) (sym g.0) (slice_get-end cs c), refl);
            }

      pub hop_tried : (cs' : List Configuration) → ¬ AsksTooMuch game e r (at_vertex b.at.state u)
          → IsTriedFrom game e r (at_vertex b.at.state u) at cs cs' → HasHopped cs'
      hop_tried cs' narrow (inl t) = record {
        goes = subst (λ xs. IsHopping game e place S xs at) (sym t.0) going;
        stays = λ i x at_x. subst (λ xs. slice_get xs i ≡ Some x) (sym t.0) at_x;
        over = record { met = λ U step. absurd (t.1 U step); narrow = narrow };
      }
      hop_tried cs' narrow (inr t) = taken t.0 t.1 narrow cs' t.3

  -- ---- on to the next configuration

  pub hopping_next : (cs : List Configuration) (at : ℕ) → IsHopping game e place S cs at → (b : Configuration) → slice_get cs at ≡ Some b
      → IsHopped game e place cs b → IsHopping game e place S cs (at + 1)
  hopping_next cs at going b at_b here = record {
    opening_is = going.opening_is;
    met = going.met;
    ends_are = going.ends_are;
    states_are = going.states_are;
    different = going.different;
    hopped = λ j c less at_c. go j c (cases_lt j at) less at_c;
    few = going.few;
    within = omega (arith, slice_get-within cs at b at_b);
  }
    where
      go : (j : ℕ) (c : Configuration) → (j < at) ⊎ (at ≤ j) → j < at + 1 → slice_get cs j ≡ Some c → IsHopped game e place cs c
      go j c (inl low) less at_c = going.hopped j c low at_c
      go j c (inr high) less at_c =
          let same : j ≡ at = omega (arith, high, less) in
          subst (IsHopped game e place cs) (same_at cs at b c at_b (subst (λ k. slice_get cs k ≡ Some c) same at_c)) here

  -- one that ends a move is not gone on from
  pub hopped_end : (cs : List Configuration) (b : Configuration) → is_switch (action_at e 1 b.at.place) ≡ true → IsHopped game e place cs b
  hopped_end cs b switch plain q u r shifts next none = let never : true ≡ false = sym switch ∙ plain in absurd (cc)

  pub hopped_by_row : (cs : List Configuration) (b : Configuration) (row : JumpRow) → IsRow game e (place_at place b.at.place) b.at.state.vertex row
      → ((i : ℕ) (j : Jump) → slice_get row.to.items i ≡ Some j → IsGoneOver game e cs (at_vertex b.at.state j.vertex) j.number) → IsHopped game e place cs b
  hopped_by_row cs b row is done plain q u r shifts next none =
      let m = is.all q u r shifts next none in
      subst (λ k. IsGoneOver game e cs (at_vertex b.at.state u) k) m.3
      (subst (λ v. IsGoneOver game e cs (at_vertex b.at.state v) m.1.number) m.4 (done m.0 m.1 m.2))

  -- ---- how many that are

  pub counted_end : (b : Configuration) → is_switch (action_at e 1 b.at.place) ≡ true → AreCounted game e place b 1
  counted_end b switch = (
    (b.at.state, b.at.place) ∷ [],
    omega arith,
    record {
      itself = λ _. contains_by_get ((b.at.state, b.at.place) ∷ []) 0 (b.at.state, b.at.place) refl;
      shifted = λ plain. absurd (let never : true ≡ false = sym switch ∙ plain in cc);
    },
  )

  pub counted_by_row : (b : Configuration) (row : JumpRow) → IsRow game e (place_at place b.at.place) b.at.state.vertex row
      → is_switch (action_at e 1 b.at.place) ≡ false → AreCounted game e place b row.met
  counted_by_row b row is plain =
      let js : List Jump = is.met_are.0 in
      let pair : Jump → SemiState × ℕ = λ (j : Jump). (at_vertex b.at.state j.vertex, j.number) in (
        map pair js,
        omega (arith, length-map js pair, is.met_are.1),
        record {
          itself = λ switch. absurd (let never : true ≡ false = sym switch ∙ plain in cc);
          shifted = λ _ q u shifts.
              let m = is.met_are.2 q u shifts in
              let same : pair m.1 ≡ (at_vertex b.at.state u, q) = ap (λ v. (at_vertex b.at.state v, m.1.number)) m.4
              ∙ ap (λ k. (at_vertex b.at.state u, k)) m.3 in
              contains_by_get (map pair js) m.0 (at_vertex b.at.state u, q) (map_at pair js m.0 m.1 m.2 ∙ ap Some same);
        },
      )
