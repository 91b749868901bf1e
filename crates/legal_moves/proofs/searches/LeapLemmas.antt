-- A search that goes from one set or comparison to the next: what it keeps, and what it answers.
use Rattle.std.proofs.Common.{◌≡◌, ℕ, zero, suc, ◌+◌, ◌*◌, ◌<◌, ◌≤◌, ◌⊎◌, inl, inr, true, false, List, [], ◌∷◌, ◌++◌, length, map, Some, None, slice_get, refl, sym, ap, ◌∙◌, subst, arith, length-append}
use Rattle.std.proofs.Math.Nat.{suc-mul}
use Rattle.std.proofs.lemmas.Bool.{cases_lt}
use Rattle.std.proofs.lemmas.List.{length-map}
use Rattle.rbg_game.specs.Rules.{Regex, count, Action, action_at, is_switch}
use Rattle.rbg_game.specs.Games.{Game}
use Rattle.rbg_game.specs.Positions.{IsStateOf}
use Rattle.rbg_game.specs.declared.position.SemiState.{SemiState}
use Rattle.legal_moves.specs.Effects.{EffectAt}
use Rattle.legal_moves.specs.Glushkov.{is_nullable, IsNextAt, IsLast}
use Rattle.legal_moves.specs.Searches.{begun, Reaches, IsWideFrom, many}
use Rattle.legal_moves.specs.Jumps.{label_in, Shifts, still, further, IsAmong, IsRow, AreJumpRows}
use Rattle.legal_moves.specs.lemmas.Searches.{IsLegal}
use Rattle.legal_moves.specs.lemmas.VertexSearch.{at_vertex, IsNewLook, IsLookAdded}
use Rattle.legal_moves.specs.lemmas.Leaps.{opened, IsMetAt, IsMetBefore, IsLookAt, AreStill, IsJumped, IsLeapt, IsLeaping}
use Rattle.legal_moves.specs.lemmas.Narrow.{looks_alone}
use Rattle.legal_moves.specs.declared.search.looks.Look.{Look}
use Rattle.legal_moves.specs.declared.automaton.jumps.Jump.{Jump}
use Rattle.legal_moves.specs.declared.automaton.jumps.JumpRow.{JumpRow}
use Rattle.legal_moves.specs.declared.automaton.jumps.Jumps.{Jumps}
use Rattle.legal_moves.proofs.EffectLemmas.{action-by_EffectAt}
use Rattle.legal_moves.proofs.GetLemmas.{slice_get-append, slice_get-push, slice_get-end, slice_get-within}
use Rattle.legal_moves.proofs.automata.GlushkovLemmas.{last_word}
use Rattle.legal_moves.proofs.WordLemmas.{in_range}
use Rattle.legal_moves.proofs.searches.JumpLemmas.{met_next, shift_leads, met_by_shifts, covered}
use Rattle.legal_moves.proofs.searches.NarrowLemmas.{moved}
use Rattle.legal_moves.proofs.searches.SearchLemmas.{HasEnd, HasEnd-by_legal, legal-by_HasEnd, Searched-by_Reaches, Reaches-by_Searched}
use Rattle.legal_moves.proofs.searches.WidthLemmas.{all_by_get, pairs_by_get, slice_get-map}

-- a place in rows of n
in_rows : (a m n v : ℕ) → a < m → v < n → a * n + v < m * n
in_rows a zero n v less low = absurd (omega (arith, less))
in_rows zero (suc m) n v less low = omega (arith, suc-mul m n, low)
in_rows (suc a) (suc m) n v less low = omega (arith, suc-mul a n, suc-mul m n, in_rows a m n v (omega (arith, less)) low)

-- the row of a number and a vertex is there
pub row_inside : (game : Game) (e : Regex) (js : Jumps) → AreJumpRows game e js → 0 < length js.rows.items → (number vertex : ℕ)
    → number < count e + 1 → vertex < length game.vertices → number * length game.vertices + vertex < length js.rows.items
row_inside game e js rows some number vertex less low =
    subst (λ k. number * length game.vertices + vertex < k) (sym (rows.whole some)) (in_rows number (count e + 1) (length game.vertices) vertex less low)

-- no word ends at the number 0
no_end_at_0 : (e : Regex) → ¬ IsLast e 1 0
no_end_at_0 e last =
    let w = last_word e 1 0 last in
    let r = in_range e 1 _ w.1 w.0 0 [] refl in
    absurd (omega arith)

-- at another vertex of the game
pub at_inside : (game : Game) (R : SemiState) (v u : ℕ) → IsStateOf game (at_vertex R v) → u < length game.vertices → IsStateOf game (at_vertex R u)
at_inside game R v u state inside = record {
  pieces_fit = state.pieces_fit;
  pieces_are = state.pieces_are;
  values_fit = state.values_fit;
  values_are = state.values_are;
  vertex_is = inside;
}

pub opened_is : (ls : List Look) (l : Look) → slice_get ls 0 ≡ Some l → opened ls ≡ l.vertex
opened_is [] l at = absurd (cc)
opened_is (k ∷ ls) l at = let same : k ≡ l = cc in ap (λ x. x.vertex) same

pub still_there : (ls ls' : List Look) (m : Look) → IsLookAdded ls m ls' → AreStill ls ls'
still_there ls ls' m (inl g) i l at = subst (λ xs. slice_get xs i ≡ Some l) (sym g.0) at
still_there ls ls' m (inr g) i l at = subst (λ xs. slice_get xs i ≡ Some l) (sym g.0) (slice_get-append ls (m ∷ []) i l at)

pub still_same : (ls : List Look) → AreStill ls ls
still_same ls i l at = at

-- a look that was added is there
pub added_there : (ls ls' : List Look) (m : Look) → IsLookAdded ls m ls' → IsLookAt ls' m.place m.vertex
added_there ls ls' m (inl g) = (g.1, g.2, subst (λ xs. slice_get xs g.1 ≡ Some g.2) (sym g.0) g.3, g.5, g.4)
added_there ls ls' m (inr g) = (length ls, m, subst (λ xs. slice_get xs (length ls) ≡ Some m) (sym g.0) (slice_get-end ls m), refl, refl)

pub look_still : (ls ls' : List Look) → AreStill ls ls' → (k v : ℕ) → IsLookAt ls k v → IsLookAt ls' k v
look_still ls ls' more k v h = (h.0, h.1, more h.0 h.1 h.2, h.3, h.4)

module _ (game : Game) (e : Regex) (S : SemiState) (none : (k : ℕ) → is_switch (action_at e 1 k) ≡ false) where
  -- a word that ends there
  pub legal_by_end : (k v : ℕ) → IsMetAt game e S k v → IsLast e 1 k → IsLegal game e S
  legal_by_end k v met last =
      legal-by_HasEnd game e S none (inr (at_vertex S v, k, Reaches-by_Searched game e 0 S met.0 (at_vertex S v) k met.1, last))

  -- a row at one of whose shifts a word ends
  pub legal_by_row : (p v : ℕ) (row : JumpRow) → IsRow game e p v row → row.ends ≡ true → IsMetAt game e S p v → IsLegal game e S
  legal_by_row p v row is ends met =
      let h = is.ends_only ends in
      let q = h.0 in
      let u = h.1 in
      let r = h.2 in
      let w = h.3 in
      let there = met_by_shifts game e S none p v q u h.4 met in
      legal_by_end r w (met_next game e S none q u r w there h.5 (shift_leads game e S none r u w h.6)) h.7

  -- what is listed in a row can stand next to something that is met
  pub before_by_row : (p v : ℕ) (row : JumpRow) → IsRow game e p v row → IsMetAt game e S p v → (r u : ℕ) → IsAmong row.to.items r u → IsMetBefore game e S r u
  before_by_row p v row is met r u among =
      let h = is.only r u among in
      (h.0, met_by_shifts game e S none p v h.0 u h.1 met, h.2)

  pub met_by_before : (r u w : ℕ) → IsMetBefore game e S r u → EffectAt game e 1 r (at_vertex S u) (at_vertex S w) → IsMetAt game e S r w
  met_by_before r u w h step = met_next game e S none h.0 u r w h.1 h.2 step

  -- ---- the search as it goes on

  pub leaping_begun : S.vertex < length game.vertices → IsLeaping game e S (record { vertex = S.vertex; place = 0; parent = 0 } ∷ []) 0
  leaping_begun inside = record {
    opening_is = refl;
    met = λ i l at. subst (λ x. IsMetAt game e S x.place x.vertex) (alone i l at).1 ([], begun);
    inside = λ i l at. subst (λ x. x.vertex < length game.vertices) (alone i l at).1 inside;
    different = λ i j k l at_k at_l v p. (alone i k at_k).0 ∙ sym (alone j l at_l).0;
    plain = λ i l at. subst (λ x. ¬ IsLast e 1 x.place) (alone i l at).1 (no_end_at_0 e);
    leapt = λ j l less. absurd (omega (arith, less));
    few = omega arith;
    within = omega arith;
  }
    where
      first : Look
      first = record { vertex = S.vertex; place = 0; parent = 0 }

      alone : (i : ℕ) (l : Look) → slice_get (record { vertex = S.vertex; place = 0; parent = 0 } ∷ []) i ≡ Some l → (i ≡ 0)
          × (record { vertex = S.vertex; place = 0; parent = 0 } ≡ l)
      alone zero l at = (refl, cc)
      alone (suc i) l at = absurd (cc)

  pub leapt_still : (ls ls' : List Look) (l : Look) → AreStill ls ls' → IsLeapt game e S ls l → IsLeapt game e S ls' l
  leapt_still ls ls' l more h = record {
    jumps = λ q u r shifts next other T step. look_still ls ls' more r T.vertex (h.jumps q u r shifts next other T step);
    ends = h.ends;
  }

  -- a look that was tried to be added
  module _ (ls : List Look) (at : ℕ) (going : IsLeaping game e S ls at) (m : Look) (met : IsMetAt game e S m.place m.vertex)
      (inside : m.vertex < length game.vertices) where
    pub leaping_added : (ls' : List Look) → ¬ IsLast e 1 m.place → IsLookAdded ls m ls' → IsLeaping game e S ls' at
    leaping_added ls' plain (inl g) = subst (λ xs. IsLeaping game e S xs at) (sym g.0) going
    leaping_added ls' plain (inr g) = subst (λ xs. IsLeaping game e S xs at) (sym g.0) (record {
      opening_is = slice_get-append ls (m ∷ []) 0 _ going.opening_is;
      met = λ i l h. each_met i l (slice_get-push ls m i l h);
      inside = λ i l h. each_inside i l (slice_get-push ls m i l h);
      different = λ i j k l at_k at_l v p. apart i j k l v p (slice_get-push ls m i k at_k) (slice_get-push ls m j l at_l);
      plain = λ i l h. each_plain i l (slice_get-push ls m i l h);
      leapt = λ j l less h. before j l less (slice_get-push ls m j l h);
      few = omega (arith, g.1, length-append ls (m ∷ []));
      within = omega (arith, going.within, length-append ls (m ∷ []));
    })
      where
        each_met : (i : ℕ) (l : Look) → (slice_get ls i ≡ Some l) ⊎ (i ≡ length ls) × (l ≡ m) → IsMetAt game e S l.place l.vertex
        each_met i l (inl h) = going.met i l h
        each_met i l (inr h) = subst (λ x. IsMetAt game e S x.place x.vertex) (sym h.1) met

        each_inside : (i : ℕ) (l : Look) → (slice_get ls i ≡ Some l) ⊎ (i ≡ length ls) × (l ≡ m) → l.vertex < length game.vertices
        each_inside i l (inl h) = going.inside i l h
        each_inside i l (inr h) = subst (λ x. x.vertex < length game.vertices) (sym h.1) inside

        each_plain : (i : ℕ) (l : Look) → (slice_get ls i ≡ Some l) ⊎ (i ≡ length ls) × (l ≡ m) → ¬ IsLast e 1 l.place
        each_plain i l (inl h) = going.plain i l h
        each_plain i l (inr h) = subst (λ x. ¬ IsLast e 1 x.place) (sym h.1) plain

        apart : (i j : ℕ) (k l : Look) → k.vertex ≡ l.vertex → k.place ≡ l.place → (slice_get ls i ≡ Some k) ⊎ (i ≡ length ls) × (k ≡ m)
            → (slice_get ls j ≡ Some l) ⊎ (j ≡ length ls) × (l ≡ m) → i ≡ j
        apart i j k l v p (inl a) (inl b) = going.different i j k l a b v p
        apart i j k l v p (inl a) (inr b) = absurd (g.2 i k a (v ∙ ap (λ x. x.vertex) b.1, p ∙ ap (λ x. x.place) b.1))
        apart i j k l v p (inr a) (inl b) = absurd (g.2 j l b (sym v ∙ ap (λ x. x.vertex) a.1, sym p ∙ ap (λ x. x.place) a.1))
        apart i j k l v p (inr a) (inr b) = a.0 ∙ sym b.0

        before : (j : ℕ) (l : Look) → j < at → (slice_get ls j ≡ Some l) ⊎ (j ≡ length ls) × (l ≡ m) → IsLeapt game e S (ls ++ m ∷ []) l
        before j l less (inl h) = leapt_still ls (ls ++ m ∷ []) l (λ i k at_k. slice_get-append ls (m ∷ []) i k at_k) (going.leapt j l less h)
        before j l less (inr h) = absurd (omega (arith, less, going.within, h.0))

    -- one more than there may be
    pub leaping_wide : 65536 ≤ length ls → IsNewLook ls m → IsWideFrom game e 0 S
    leaping_wide full new =
        many e 0 S (map pair (ls ++ m ∷ []))
        (all_by_get (Reaches game e 0 S) (map pair (ls ++ m ∷ []))
        (λ i y h. let x = slice_get-map pair (ls ++ m ∷ []) i y h in subst (Reaches game e 0 S) (sym x.2) (each i x.0 (slice_get-push ls m i x.0 x.1))))
        (pairs_by_get (map pair (ls ++ m ∷ []))
        (λ i k y z at_y at_z same. let x = slice_get-map pair (ls ++ m ∷ []) i y at_y in
        let x' = slice_get-map pair (ls ++ m ∷ []) k z at_z in
        apart i k x.0 x'.0 (sym x.2 ∙ same ∙ x'.2) (slice_get-push ls m i x.0 x.1) (slice_get-push ls m k x'.0 x'.1)))
        (length-map (ls ++ m ∷ []) pair ∙ total)
      where
        pair : Look → SemiState × ℕ
        pair l = (at_vertex S l.vertex, l.place)

        total : length (ls ++ m ∷ []) ≡ 65537
        total = omega (arith, length-append ls (m ∷ []), full, going.few)

        each : (i : ℕ) (x : Look) → (slice_get ls i ≡ Some x) ⊎ (i ≡ length ls) × (x ≡ m) → Reaches game e 0 S (pair x)
        each i x (inl h) = let w = going.met i x h in Reaches-by_Searched game e 0 S w.0 (at_vertex S x.vertex) x.place w.1
        each i x (inr h) = subst (λ z. Reaches game e 0 S (pair z)) (sym h.1) (Reaches-by_Searched game e 0 S met.0 (at_vertex S m.vertex) m.place met.1)

        apart : (i k : ℕ) (x y : Look) → pair x ≡ pair y → (slice_get ls i ≡ Some x) ⊎ (i ≡ length ls) × (x ≡ m)
            → (slice_get ls k ≡ Some y) ⊎ (k ≡ length ls) × (y ≡ m) → i ≡ k
        apart i k x y same (inl a) (inl b) = going.different i k x y a b (ap (λ p. p.0.vertex) same) (ap (λ p. p.1) same)
        apart i k x y same (inl a) (inr b) = absurd (new i x a (ap (λ p. p.0.vertex) same ∙ ap (λ z. z.vertex) b.1, ap (λ p. p.1) same ∙ ap (λ z. z.place) b.1))
        apart i k x y same (inr a) (inl b) = absurd
            (new k y b (sym (ap (λ p. p.0.vertex) same) ∙ ap (λ z. z.vertex) a.1, sym (ap (λ p. p.1) same) ∙ ap (λ z. z.place) a.1))
        apart i k x y same (inr a) (inr b) = a.0 ∙ sym b.0

  -- on to the next look
  pub leaping_next : (ls : List Look) (at : ℕ) → IsLeaping game e S ls at → (l : Look) → slice_get ls at ≡ Some l → IsLeapt game e S ls l
      → IsLeaping game e S ls (at + 1)
  leaping_next ls at going l at_l here = record {
    opening_is = going.opening_is;
    met = going.met;
    inside = going.inside;
    different = going.different;
    plain = going.plain;
    leapt = λ j k less at_k. go j k (cases_lt j at) less at_k;
    few = going.few;
    within = omega (arith, slice_get-within ls at l at_l);
  }
    where
      go : (j : ℕ) (k : Look) → (j < at) ⊎ (at ≤ j) → j < at + 1 → slice_get ls j ≡ Some k → IsLeapt game e S ls k
      go j k (inl low) less at_k = going.leapt j k low at_k
      go j k (inr high) less at_k =
          let same : at ≡ j = omega (arith, high, less) in
          let both : Some l ≡ Some k = sym at_l ∙ ap (slice_get ls) same ∙ at_k in
          let one : l ≡ k = cc in
          subst (IsLeapt game e S ls) one here

  -- all jumps of a row are tried, and no word ends on the way
  pub leapt_by_row : (ls : List Look) (l : Look) (row : JumpRow) → IsRow game e l.place l.vertex row → row.ends ≡ false
      → ((i : ℕ) (j : Jump) → slice_get row.to.items i ≡ Some j → IsJumped game e S ls j.number j.vertex) → IsLeapt game e S ls l
  leapt_by_row ls l row is ends tried = record {
    jumps = λ q u r shifts next other T step.
        let m = is.all q u r shifts next other in
        let there : EffectAt game e 1 m.1.number (at_vertex S m.1.vertex) T = subst (λ v. EffectAt game e 1 m.1.number (at_vertex S v) T)
        (sym m.4) (subst (λ k. EffectAt game e 1 k (at_vertex S u) T) (sym m.3) step) in
        subst (λ k. IsLookAt ls k T.vertex) m.3 (tried m.0 m.1 m.2 T there);
    ends = λ q u r w shifts next s last. let never : false ≡ true = sym ends ∙ is.ends_all q u r w shifts next s last in absurd (cc);
  }

  -- ---- a search that has ended without a yes

  module _ (alone : (k : ℕ) (a : Action) → action_at e 1 k ≡ Some a → looks_alone a ≡ true) (ls : List Look) (at : ℕ)
      (going : IsLeaping game e S ls at) (ended : length ls ≤ at) (some : is_nullable e ≡ false) where
    gone : (p v : ℕ) (h : IsLookAt ls p v) → IsLeapt game e S ls h.1
    gone p v h = going.leapt h.0 h.1 (omega (arith, ended, slice_get-within ls h.0 h.1 h.2)) h.2

    shifts_from : (p v q u : ℕ) (h : IsLookAt ls p v) → Shifts game e p v q u → Shifts game e h.1.place h.1.vertex q u
    shifts_from p v q u h shifts =
        subst (λ x. Shifts game e h.1.place x q u) (sym h.4) (subst (λ x. Shifts game e x v q u) (sym h.3) shifts)

    closed : (p v q u r : ℕ) (T : SemiState) → IsLookAt ls p v → Shifts game e p v q u → IsNextAt e q r → label_in (action_at e 1 r) ≡ None
        → EffectAt game e 1 r (at_vertex S u) T → (T ≡ at_vertex S T.vertex) × IsLookAt ls r T.vertex
    closed p v q u r T h shifts next other step =
        let a = action-by_EffectAt game e 1 r (at_vertex S u) T step in
        let same : T ≡ at_vertex S T.vertex = moved game a.0 (at_vertex S u) T (alone r a.0 a.1) a.2 in
        (same, (gone p v h).jumps q u r (shifts_from p v q u h shifts) next other T step)

    no_end : (p v k u : ℕ) → IsLookAt ls p v → Shifts game e p v k u → IsLast e 1 k → ⊥
    no_end p v _ _ h still last = going.plain h.0 h.1 h.2 (subst (λ x. IsLast e 1 x) (sym h.3) last)
    no_end p v _ _ h (further q u r w shifts next s) last = (gone p v h).ends q u r w (shifts_from p v q u h shifts) next s last

    pub not_legal : ¬ IsLegal game e S
    not_legal legal = go (HasEnd-by_legal game e S none legal)
      where
        go : HasEnd game e S none → ⊥
        go (inl n) = let never : true ≡ false = sym n ∙ some in cc
        go (inr h) =
            let w = Searched-by_Reaches game e 0 S (h.0, h.1) h.2 in
            let c = covered game e S none (IsLookAt ls)
            (0, record { vertex = S.vertex; place = 0; parent = 0 }, going.opening_is, refl, refl) closed w.0 h.0 h.1 w.1 in
            no_end c.from c.vertex h.1 h.0.vertex c.kept c.shifts h.3
