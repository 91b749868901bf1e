-- A search of shifts, sets and comparisons alone comes to few configurations, so that it is not too wide.
use Rattle.std.proofs.Common.{◌≡◌, ℕ, zero, suc, ◌+◌, ◌-◌, ◌*◌, ◌<◌, ◌≤◌, ◌⊎◌, inl, inr, true, false, List, [], ◌∷◌, ◌++◌, length, map, get_or, Some, slice_get, Contains, refl, sym, ap, ◌∙◌, subst, arith, length-append}
use Rattle.std.proofs.Math.Nat.{suc-mul}
use Rattle.std.proofs.lemmas.Bool.{cases_lt}
use Rattle.std.proofs.lemmas.List.{length-map}
use Rattle.std.proofs.lemmas.List.Elements.{Contains-append_left, Contains-append_right}
use Rattle.std.proofs.lemmas.Option.{slice_get-get_or}
use Rattle.rbg_game.specs.Rules.{Regex, count, Action, shift, on, off, assignment, comparison, switch, pattern, action_at}
use Rattle.rbg_game.specs.Games.{Game}
use Rattle.rbg_game.specs.Sound.{IsSoundGame, IsSoundRegex}
use Rattle.rbg_game.specs.Positions.{IsStateOf}
use Rattle.rbg_game.specs.declared.position.SemiState.{SemiState}
use Rattle.legal_moves.specs.Effects.{Effect}
use Rattle.legal_moves.specs.Searches.{place_at, Reaches, Searched, begun, gone, IsWideFrom, many, within}
use Rattle.legal_moves.specs.Tables.{IsStep}
use Rattle.legal_moves.specs.lemmas.Configurations.{expression_at, IsReady}
use Rattle.legal_moves.specs.lemmas.VertexSearch.{at_vertex}
use Rattle.legal_moves.specs.lemmas.Narrow.{looks_alone, step_looks, AreFewLooks}
use Rattle.legal_moves.specs.declared.automaton.table.Step.{Step}
use Rattle.legal_moves.specs.declared.automaton.table.Step.TheVariants.{Act, Ask}
use Rattle.legal_moves.specs.declared.automaton.table.Table.{Table}
use Rattle.legal_moves.proofs.Distinct.{distinct-le}
use Rattle.legal_moves.proofs.EffectLemmas.{action-by_EffectAt, action_at-in_range}
use Rattle.legal_moves.proofs.automata.ReadyLemmas.{count_steps, has_action}
use Rattle.legal_moves.proofs.searches.SearchLemmas.{Searched-by_Reaches, next_in_range}
use Rattle.legal_moves.proofs.automata.StepLemmas.{EffectAt-keeps}
use Rattle.legal_moves.proofs.searches.WidthLemmas.{contains_by_get, map_at}

-- ---- all pairs of a vertex and a number

pub le_mul : (a b m n : ℕ) → a ≤ m → b ≤ n → a * b ≤ m * n
le_mul zero b m n h k = omega arith
le_mul (suc a) b zero n h k = absurd (omega (arith, h))
le_mul (suc a) b (suc m) n h k = omega (arith, le_mul a b m n (omega (arith, h)) k, suc-mul a b, suc-mul m n, k)

below : ℕ → List ℕ
below zero = []
below (suc n) = n ∷ below n

length_below : (n : ℕ) → length (below n) ≡ n
unfolding below
length_below zero = refl
length_below (suc n) = ap suc (length_below n)

in_below : (n k : ℕ) → k < n → Contains (below n) k
unfolding below
in_below zero k less = absurd (omega (arith, less))
in_below (suc n) k less = go (cases_lt k n) (in_below n k)
  where
    go : (k < n) ⊎ (n ≤ k) → (k < n → Contains (below n) k) → Contains (n ∷ below n) k
    go (inl low) h = let r = h low in (suc r.0, omega (arith, r.1), r.2)
    go (inr high) h = (0, omega arith, omega (arith, high, less))

contains_map : {A B : Type 0} (f : A → B) (xs : List A) (x : A) → Contains xs x → Contains (map f xs) (f x)
contains_map f xs x h = contains_by_get (map f xs) h.0 (f x) (map_at f xs h.0 x (slice_get-get_or xs h.0 x h.1 ∙ ap Some h.2))

pairs : SemiState → ℕ → ℕ → List (SemiState × ℕ)
pairs S n zero = []
pairs S n (suc v) = map (λ k. (at_vertex S v, k)) (below n) ++ pairs S n v

length_pairs : (S : SemiState) (n v : ℕ) → length (pairs S n v) ≡ v * n
unfolding pairs
length_pairs S n zero = omega arith
length_pairs S n (suc v) =
    let row : List (SemiState × ℕ) = map (λ k. (at_vertex S v, k)) (below n) in
    let long : length row ≡ n = length-map (below n) (λ k. (at_vertex S v, k)) ∙ length_below n in
    omega (arith, length-append row (pairs S n v), long, length_pairs S n v, suc-mul v n)

in_pairs : (S : SemiState) (n v w k : ℕ) → w < v → k < n → Contains (pairs S n v) (at_vertex S w, k)
unfolding pairs
in_pairs S n zero w k less low = absurd (omega (arith, less))
in_pairs S n (suc v) w k less low = go (cases_lt w v) (in_pairs S n v w k)
  where
    row : List (SemiState × ℕ)
    row = map (λ j. (at_vertex S v, j)) (below n)

    go : (w < v) ⊎ (v ≤ w) → (w < v → k < n → Contains (pairs S n v) (at_vertex S w, k)) → Contains (row ++ pairs S n v) (at_vertex S w, k)
    go (inl before) h = Contains-append_right row (pairs S n v) (at_vertex S w, k) (h before low)
    go (inr past) h =
        let same : v ≡ w = omega (arith, past, less) in
        subst (λ u. Contains (row ++ pairs S n v) (at_vertex S u, k)) same
        (Contains-append_left row (pairs S n v) (at_vertex S v, k) (contains_map (λ j. (at_vertex S v, j)) (below n) k (in_below n k low)))

-- ---- actions that look alone change the vertex at most

pub moved : (game : Game) (a : Action) (T U : SemiState) → looks_alone a ≡ true → Effect game a T U → U ≡ at_vertex T U.vertex
moved game (shift l) T U is h = h.2 ∙ sym (ap (λ X. at_vertex T X.vertex) h.2)
moved game (on xs) T U is h = h.0 ∙ sym (ap (λ X. at_vertex T X.vertex) h.0)
moved game (comparison a op b) T U is h = h.0 ∙ sym (ap (λ X. at_vertex T X.vertex) h.0)
moved game (off x) T U is h = absurd (cc)
moved game (assignment v r) T U is h = absurd (cc)
moved game (switch r) T U is h = absurd (cc)
moved game (pattern positive e) T U is h = absurd (cc)

module _ (game : Game) (e : Regex) (S : SemiState) (sound : IsSoundGame game) (good : IsSoundRegex game e) (state : IsStateOf game S)
    (alone : (k : ℕ) (a : Action) → action_at e 1 k ≡ Some a → looks_alone a ≡ true) where
  record Stays (T : SemiState) (k : ℕ) : Type 0 where
    pub same : T ≡ at_vertex S T.vertex
    pub state_is : IsStateOf game T
    pub low : k ≤ count e

  stays : (w : List ℕ) (T : SemiState) (k : ℕ) → Searched game e 0 S w T k → Stays T k
  stays _ _ _ begun = record { same = refl; state_is = state; low = omega arith }
  stays _ _ _ (gone w T k U l searched plain next step) =
      let h = stays w T k searched in
      let a = action-by_EffectAt game e 1 l T U step in
      let here = moved game a.0 T U (alone l a.0 a.1) a.2 in
      let r = next_in_range e (place_at 0 k) l next in
      record {
        same = here ∙ ap (λ X. at_vertex X U.vertex) h.same;
        state_is = EffectAt-keeps game e l T U sound good h.state_is step;
        low = omega (arith, r.1);
      }

  all_pairs : List (SemiState × ℕ)
  all_pairs = pairs S (count e + 1) (length game.vertices)

  reached_there : (p : SemiState × ℕ) → Reaches game e 0 S p → Contains all_pairs p
  unfolding all_pairs
  reached_there p r =
      let w = Searched-by_Reaches game e 0 S p r in
      let s = stays w.0 p.0 p.1 w.1 in
      subst (Contains (pairs S (count e + 1) (length game.vertices))) (ap (λ (T : SemiState). (T, p.1)) (sym s.same))
      (in_pairs S (count e + 1) (length game.vertices) p.0.vertex p.1 s.state_is.vertex_is (omega (arith, s.low)))

  pub few_are_narrow : length game.vertices * (count e + 1) ≤ 65536 → ¬ IsWideFrom game e 0 S
  unfolding all_pairs
  few_are_narrow few (many _ _ _ reached all different total) =
      let most = distinct-le (pairs S (count e + 1) (length game.vertices)) reached different
      (λ k d inside. reached_there (get_or reached k d) (all k d inside)) in
      omega (arith, most, length_pairs S (count e + 1) (length game.vertices), few, total)
  few_are_narrow few (within _ _ _ w k T positive inner follows free leads is wide) =
      let never : false ≡ true = alone k (pattern positive inner) is in
      absurd (cc)

-- ---- of a table

step_alone : (es : List Regex) (s : Step) (a : Action) → IsStep es s a → step_looks s ≡ true → looks_alone a ≡ true
step_alone es (Act x) a h is = subst (λ b. looks_alone b ≡ true) h.0 is
step_alone es (Ask positive i) a h is = absurd (cc)

module _ (game : Game) (tables : List Table) (index : ℕ) (ready : IsReady game tables index) (table : Table)
    (table_at : slice_get tables index ≡ Some table) (few : AreFewLooks table.steps.items) where
  pub alone : (k : ℕ) (a : Action) → action_at (expression_at game index) 1 k ≡ Some a → looks_alone a ≡ true
  alone k a at =
      let range = action_at-in_range (expression_at game index) 1 k a at in
      let many_steps = count_steps game tables index ready table table_at in
      let none : Step = Ask true 0 in
      let inside : k - 1 < length table.steps.items = omega (arith, range.0, range.1, many_steps) in
      let s = get_or table.steps.items (k - 1) none in
      let step_at = slice_get-get_or table.steps.items (k - 1) none inside in
      let h = has_action game tables index ready table table_at k range.0 s step_at in
      let both : Some h.action ≡ Some a = sym h.action_is ∙ at in
      let same : h.action ≡ a = cc in
      subst (λ b. looks_alone b ≡ true) same (step_alone _ s h.action h.step_is (few.1 (k - 1) none inside))

  pub table_is_narrow : (S : SemiState) → IsStateOf game S → ¬ IsWideFrom game (expression_at game index) 0 S
  table_is_narrow S state =
      let e = expression_at game index in
      let many_steps = count_steps game tables index ready table table_at in
      let short : count e + 1 ≤ 512 = omega (arith, many_steps, few.0) in
      let board : length game.vertices ≤ 128 = ready.sound.few_vertices in
      few_are_narrow game e S ready.sound ready.expression_is state alone (le_mul (length game.vertices) (count e + 1) 128 512 board short)
