-- A pattern holds where its search says so.
use Rattle.std.proofs.Common.{◌≡◌, ℕ, zero, suc, ◌+◌, ◌==◌, ◌||◌, ◌⊎◌, inl, inr, Bool, true, false, List, [], ◌∷◌, Option, Some, None, slice_get, slice_index_or, Contains, refl, sym, ap, ◌∙◌, subst, arith}
use Rattle.std.specs.Bool.{MatchBool}
use Rattle.std.specs.List.{list_any}
use Rattle.std.proofs.lemmas.Bool.{eqb-true, eq-eqb}
use Rattle.rbg_game.specs.Rules.{Regex, one, empty, cat, alt, star, count, Action, shift, on, off, assignment, comparison, switch, pattern, action_at, is_switch}
use Rattle.rbg_game.specs.Games.{Game}
use Rattle.rbg_game.specs.Sound.{LacksSwitch, IsNoSwitch}
use Rattle.rbg_game.specs.declared.position.SemiState.{SemiState}
use Rattle.legal_moves.specs.Glushkov.{IsLast}
use Rattle.legal_moves.specs.lemmas.Searches.{IsLegal}
use Rattle.legal_moves.specs.lemmas.Configurations.{expression_at, IsReady, AreFound, IsSearch}
use Rattle.legal_moves.specs.declared.automaton.table.Table.{Table}
use Rattle.legal_moves.specs.Configurations.{Configuration}
use Rattle.legal_moves.proofs.EffectLemmas.{option_or-cases, action_at-one}
use Rattle.legal_moves.proofs.searches.SearchLemmas.{HasEnd, HasEnd-by_legal, legal-by_HasEnd, Searched-by_Reaches}
use Rattle.legal_moves.proofs.searches.LevelLemmas.{complete}
use Rattle.legal_moves.proofs.searches.WidthLemmas.{reached, contains_by_get}
use Rattle.legal_moves.proofs.automata.ReadyLemmas.{is_table, contains_ends}

-- ---- no switch inside

lacks_at : (e : Regex) (n k : ℕ) (a : Action) → LacksSwitch e → action_at e n k ≡ Some a → IsNoSwitch a
lacks_at (one b) n k a h is = subst IsNoSwitch (action_at-one b a n k is).1 h
lacks_at empty n k a h is = absurd (cc)
lacks_at (cat b c) n k a h is = go (option_or-cases (action_at b n k) (action_at c (n + count b) k) a is) (lacks_at b n k a h.0)
    (lacks_at c (n + count b) k a h.1)
  where
    go : (action_at b n k ≡ Some a) ⊎ (action_at c (n + count b) k ≡ Some a) → (action_at b n k ≡ Some a → IsNoSwitch a)
        → (action_at c (n + count b) k ≡ Some a → IsNoSwitch a) → IsNoSwitch a
    go (inl g) l r = l g
    go (inr g) l r = r g
lacks_at (alt b c) n k a h is = go (option_or-cases (action_at b n k) (action_at c (n + count b) k) a is) (lacks_at b n k a h.0)
    (lacks_at c (n + count b) k a h.1)
  where
    go : (action_at b n k ≡ Some a) ⊎ (action_at c (n + count b) k ≡ Some a) → (action_at b n k ≡ Some a → IsNoSwitch a)
        → (action_at c (n + count b) k ≡ Some a → IsNoSwitch a) → IsNoSwitch a
    go (inl g) l r = l g
    go (inr g) l r = r g
lacks_at (star b) n k a h is = lacks_at b n k a h is

no_switch : (a : Action) → IsNoSwitch a → is_switch (Some a) ≡ false
no_switch (shift l) h = refl
no_switch (on xs) h = refl
no_switch (off x) h = refl
no_switch (assignment v r) h = refl
no_switch (comparison a op b) h = refl
no_switch (switch role) h = absurd h
no_switch (pattern positive e) h = refl

pub none_switches : (e : Regex) → LacksSwitch e → (k : ℕ) → is_switch (action_at e 1 k) ≡ false
none_switches e h k = go (action_at e 1 k) refl
  where
    go : (o : Option Action) → action_at e 1 k ≡ o → is_switch o ≡ false
    go None is = refl
    go (Some a) is = no_switch a (lacks_at e 1 k a h is)

-- ---- an element that passes

pub list_any-found : {A : Type 0} (test : A → Bool) (xs : List A) → list_any test xs ≡ true → (i : ℕ) × (x : A) × (slice_get xs i ≡ Some x) × (test x ≡ true)
list_any-found test [] h = absurd (cc)
list_any-found test (x ∷ xs) h = go (test x) refl h (list_any-found test xs)
  where
    go : (t : Bool) → test x ≡ t → t || list_any test xs ≡ true
        → (list_any test xs ≡ true → (i : ℕ) × (y : _) × (slice_get xs i ≡ Some y) × (test y ≡ true)) → (i : ℕ) × (y : _)
        × (slice_get (x ∷ xs) i ≡ Some y) × (test y ≡ true)
    go true is e rest = (0, x, refl, is)
    go false is e rest = let r = rest e in (suc r.0, r.1, r.2, r.3)

pub list_any-by : {A : Type 0} (test : A → Bool) (xs : List A) (i : ℕ) (x : A) → slice_get xs i ≡ Some x → test x ≡ true → list_any test xs ≡ true
list_any-by test [] i x at is = absurd (cc)
list_any-by test (y ∷ xs) zero x at is = let same : y ≡ x = cc in ap (λ t. t || list_any test xs) (ap test same ∙ is)
list_any-by test (y ∷ xs) (suc i) x at is = or_true (test y) (list_any test xs) (list_any-by test xs i x at is)
  where
    or_true : (s t : Bool) → t ≡ true → s || t ≡ true
    or_true true t h = refl
    or_true false t h = h

-- a number is in the list
contains_any : (xs : List ℕ) (k : ℕ) → list_any (λ x. x == k) xs ≡ true → Contains xs k
contains_any xs k h =
    let r = list_any-found (λ x. x == k) xs h in
    let same : r.1 ≡ k = eqb-true r.1 k r.3 in
    contains_by_get xs r.0 k (r.2 ∙ ap Some same)

any_contains : (xs : List ℕ) (k : ℕ) → Contains xs k → list_any (λ x. x == k) xs ≡ true
any_contains [] k h = absurd (omega (arith, h.1))
any_contains (x ∷ xs) k (zero, less, same) = ap (λ t. t || list_any (λ y. y == k) xs) (eq-eqb x k same)
any_contains (x ∷ xs) k (suc i, less, same) = or_true (x == k) (list_any (λ y. y == k) xs) (any_contains xs k (i, omega (arith, less), same))
  where
    or_true : (s t : Bool) → t ≡ true → s || t ≡ true
    or_true true t h = refl
    or_true false t h = h

module _ (game : Game) (tables : List Table) (index : ℕ) (ready : IsReady game tables index) (table : Table)
    (table_at : slice_get tables index ≡ Some table) (lacks : LacksSwitch (expression_at game index)) (S : SemiState)
    (cs : List Configuration) (search : IsSearch game (expression_at game index) 0 S cs) where
  by_end : HasEnd game (expression_at game index) S (none_switches (expression_at game index) lacks) → IsLegal game (expression_at game index) S
  by_end = legal-by_HasEnd game (expression_at game index) S (none_switches (expression_at game index) lacks)

  pub legal_by_nullable : table.ends.nullable ≡ true → IsLegal game (expression_at game index) S
  legal_by_nullable h = by_end (inl (sym (is_table game tables index ready table table_at).nullable_is ∙ h))

  pub legal_by_any : (r : Bool) → r ≡ list_any (λ c. list_any (λ k. k == c.at.place) table.ends.last.items) cs → table.ends.nullable ≡ false
      → MatchBool r (IsLegal game (expression_at game index) S) (¬ IsLegal game (expression_at game index) S)
  legal_by_any true is null =
      let some = list_any-found (λ (c : Configuration). list_any (λ k. k == c.at.place) table.ends.last.items) cs (sym is) in
      let last = (contains_ends game tables index ready table table_at some.1.at.place).0 (contains_any table.ends.last.items some.1.at.place some.3) in
      by_end (inr (some.1.at.state, some.1.at.place, reached game (expression_at game index) 0 S cs search.found some.0 some.1 some.2, last))
  legal_by_any false is null =
      λ legal. go (HasEnd-by_legal game (expression_at game index) S (none_switches (expression_at game index) lacks) legal)
    where
      go : HasEnd game (expression_at game index) S (none_switches (expression_at game index) lacks) → ⊥
      go (inl n) = let never : true ≡ false = sym n ∙ sym (is_table game tables index ready table table_at).nullable_is ∙ null in cc
      go (inr h) =
          let w = Searched-by_Reaches game (expression_at game index) 0 S (h.0, h.1) h.2 in
          let f = complete game (expression_at game index) 0 S cs search.found search.expanded w.0 h.0 h.1 w.1 in
          let place : h.1 ≡ f.configuration.at.place = sym (ap (λ x. x.place) f.same) in
          let there = (contains_ends game tables index ready table table_at f.configuration.at.place).1
          (subst (λ k. IsLast (expression_at game index) 1 k) place h.3) in
          let any = list_any-by (λ (c : Configuration). list_any
          (λ k. k == c.at.place) table.ends.last.items) cs f.index f.configuration f.is_at
          (any_contains table.ends.last.items f.configuration.at.place there) in
          let never : false ≡ true = is ∙ any in
          cc

-- ---- a number is marked where a word can end there

module _ (game : Game) (tables : List Table) (index : ℕ) (ready : IsReady game tables index) (table : Table)
    (table_at : slice_get tables index ≡ Some table) where
  pub last_by_mark : (k : ℕ) → slice_index_or table.lasts.items k false ≡ true → IsLast (expression_at game index) 1 k
  last_by_mark k marked =
      (contains_ends game tables index ready table table_at k).0
      (contains_any table.ends.last.items k (sym ((is_table game tables index ready table table_at).lasts_are k) ∙ marked))

  pub mark_by_last : (k : ℕ) → IsLast (expression_at game index) 1 k → slice_index_or table.lasts.items k false ≡ true
  mark_by_last k last =
      (is_table game tables index ready table table_at).lasts_are k
      ∙ any_contains table.ends.last.items k ((contains_ends game tables index ready table table_at k).1 last)

-- ---- a word ends at a configuration that was found, whether the search has ended or not

module _ (game : Game) (tables : List Table) (index : ℕ) (ready : IsReady game tables index) (table : Table)
    (table_at : slice_get tables index ≡ Some table) (lacks : LacksSwitch (expression_at game index)) (S : SemiState)
    (cs : List Configuration) (found : AreFound game (expression_at game index) 0 S cs) where
  pub legal_by_last : (i : ℕ) (c : Configuration) → slice_get cs i ≡ Some c → list_any (λ k. k == c.at.place) table.ends.last.items ≡ true
      → IsLegal game (expression_at game index) S
  legal_by_last i c at any =
      let last = (contains_ends game tables index ready table table_at c.at.place).0 (contains_any table.ends.last.items c.at.place any) in
      legal-by_HasEnd game (expression_at game index) S (none_switches (expression_at game index) lacks)
      (inr (c.at.state, c.at.place, reached game (expression_at game index) 0 S cs found i c at, last))
