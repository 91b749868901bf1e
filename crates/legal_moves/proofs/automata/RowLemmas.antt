-- Rows of jumps: what is noted of one occurrence, and of all that shifts lead to.
use Rattle.std.proofs.Common.{◌≡◌, ℕ, zero, suc, ◌≤◌, ◌<◌, ◌==◌, ◌&&◌, ◌||◌, ◌⊎◌, inl, inr, Bool, true, false, List, [], ◌∷◌, ◌++◌, length, get_or, Some, None, Result, Ok, Err, OnOk, slice_get, refl, sym, ap, ◌∙◌, subst}
use Rattle.std.specs.List.{list_any}
use Rattle.std.proofs.lemmas.Bool.{eqb-true}
use Rattle.std.proofs.lemmas.Option.{slice_get-get_or}
use Rattle.rbg_game.specs.Rules.{Regex, action_at}
use Rattle.rbg_game.specs.Games.{Game, neighbour}
use Rattle.rbg_game.specs.Sound.{IsSoundGame}
use Rattle.legal_moves.specs.Glushkov.{IsNextAt, IsLast}
use Rattle.legal_moves.specs.Jumps.{label_in, IsShiftTo, Shifts, still, further, IsAmong, IsRow}
use Rattle.legal_moves.specs.lemmas.Walks.{KeepsClosure, IsLed, HasNoted, IsGoneOn, IsClosure, StaysOnBoard, IsMetWith}
use Rattle.legal_moves.specs.declared.automaton.jumps.Jump.{Jump}
use Rattle.legal_moves.specs.declared.automaton.jumps.JumpRow.{JumpRow}
use Rattle.legal_moves.specs.declared.automaton.jumps.ShiftClosure.{ShiftClosure}
use Rattle.legal_moves.proofs.GetLemmas.{slice_get-append, slice_get-push, slice_get-end, slice_get-within}
use Rattle.legal_moves.proofs.searches.HoldsLemmas.{list_any-found}
use Rattle.legal_moves.proofs.automata.StepLemmas.{neighbour_within}

pub on_ok_all : {T E : Type 0} (r : Result T E) {P Q R U : Type 0} → (P → Q → R → U) → OnOk r P → OnOk r Q → OnOk r R → OnOk r U
on_ok_all (Ok x) f p q s = f p q s
on_ok_all (Err e) f p q s = tt

-- ---- nothing is forgotten

pub kept_same : (walk : ShiftClosure) → KeepsClosure walk walk
kept_same walk = record { met = λ i j at. at; to = λ i j at. at; ends = λ is. is }

pub kept_then : (a b c : ShiftClosure) → KeepsClosure a b → KeepsClosure b c → KeepsClosure a c
kept_then a b c h k = record {
  met = λ i j at. k.met i j (h.met i j at);
  to = λ i j at. k.to i j (h.to i j at);
  ends = λ is. k.ends (h.ends is);
}

among_kept : (xs ys : List Jump) → ((i : ℕ) (j : Jump) → slice_get xs i ≡ Some j → slice_get ys i ≡ Some j) → (r u : ℕ) → IsAmong xs r u → IsAmong ys r u
among_kept xs ys more r u h = (h.0, h.1, more h.0 h.1 h.2, h.3, h.4)

among_end : (xs : List Jump) (r u : ℕ) → IsAmong (xs ++ record { number = r; vertex = u } ∷ []) r u
among_end xs r u = let j : Jump = record { number = r; vertex = u } in (length xs, j, slice_get-end xs j, refl, refl)

pub among_by_any : (js : List Jump) (r u : ℕ) → list_any (λ j. (j.number == r) && (j.vertex == u)) js ≡ true → IsAmong js r u
among_by_any js r u any =
    let h = list_any-found (λ (j : Jump). (j.number == r) && (j.vertex == u)) js any in
    let both = two (h.1.number == r) (h.1.vertex == u) h.3 in
    (h.0, h.1, h.2, eqb-true h.1.number r both.0, eqb-true h.1.vertex u both.1)
  where
    two : (a b : Bool) → (a && b) ≡ true → (a ≡ true) × (b ≡ true)
    two true b is = (refl, is)
    two false b is = absurd (cc)

module _ (game : Game) (e : Regex) where
  pub noted_kept : (old new : ShiftClosure) → KeepsClosure old new → (u r : ℕ) → HasNoted game e old u r → HasNoted game e new u r
  noted_kept old new k u r h = record {
    other = λ none. among_kept old.to.items new.to.items k.to r u (h.other none);
    met = λ w s. among_kept old.met.items new.met.items k.met r w (h.met w s);
    ends = λ w s last. k.ends (h.ends w s last);
  }

  pub gone_kept : (old new : ShiftClosure) → KeepsClosure old new → (at : ℕ) → at < length old.met.items → IsGoneOn game e old at → IsGoneOn game e new at
  gone_kept old new k at inside gone j r at_j next =
      let there = slice_get-get_or old.met.items at j inside in
      let here = k.met at (get_or old.met.items at j) there in
      let both : Some (get_or old.met.items at j) ≡ Some j = sym here ∙ at_j in
      let same : get_or old.met.items at j ≡ j = cc in
      noted_kept old new k j.vertex r
      (subst (λ x. HasNoted game e old x.vertex r) same (gone (get_or old.met.items at j) r there (subst (λ x. IsNextAt e x.number r) (sym same) next)))

  -- where a walk begins
  module _ (start : Jump) (walk : ShiftClosure) (met : walk.met.items ≡ start ∷ []) where
    pub first_begun : slice_get walk.met.items 0 ≡ Some start
    first_begun = ap (λ xs. slice_get xs 0) met

    pub led_begun : walk.to.items ≡ [] → walk.ends ≡ false → IsLed game e start.number start.vertex walk
    led_begun to ends = record {
      met = λ i j at. only i j (subst (λ xs. slice_get xs i ≡ Some j) met at);
      to = λ i j at. absurd (nothing i j (subst (λ xs. slice_get xs i ≡ Some j) to at));
      ends = λ is. absurd (let never : true ≡ false = sym is ∙ ends in cc);
    }
      where
        only : (i : ℕ) (j : Jump) → slice_get (start ∷ []) i ≡ Some j → Shifts game e start.number start.vertex j.number j.vertex
        only zero j at = let same : start ≡ j = cc in subst (λ x. Shifts game e start.number start.vertex x.number x.vertex) same still
        only (suc i) j at = absurd (cc)

        nothing : (i : ℕ) (j : Jump) → slice_get [] i ≡ Some j → ⊥
        nothing i j at = cc

  -- ---- an occurrence that is no shift

  no_shift : (r u w : ℕ) → label_in (action_at e 1 r) ≡ None → IsShiftTo game e r u w → ⊥
  no_shift r u w none s = let both : None ≡ Some s.0 = sym none ∙ s.1 in cc

  module _ (old new : ShiftClosure) (u r : ℕ) (more : new.to.items ≡ old.to.items ++ record { number = r; vertex = u } ∷ [])
      (met : new.met.items ≡ old.met.items) (ends : new.ends ≡ old.ends) where
    pub kept_other : KeepsClosure old new
    kept_other = record {
      met = λ i j at. subst (λ xs. slice_get xs i ≡ Some j) (sym met) at;
      to = λ i j at. subst (λ xs. slice_get xs i ≡ Some j) (sym more) (slice_get-append old.to.items _ i j at);
      ends = λ is. ends ∙ is;
    }

    pub noted_other : label_in (action_at e 1 r) ≡ None → HasNoted game e new u r
    noted_other none = record {
      other = λ _. subst (λ xs. IsAmong xs r u) (sym more) (among_end old.to.items r u);
      met = λ w s. absurd (no_shift r u w none s);
      ends = λ w s last. absurd (no_shift r u w none s);
    }

    pub led_other : (p v q : ℕ) → IsLed game e p v old → Shifts game e p v q u → IsNextAt e q r → IsLed game e p v new
    led_other p v q led shifts next = record {
      met = λ i j at. led.met i j (subst (λ xs. slice_get xs i ≡ Some j) met at);
      to = λ i j at. each i j (slice_get-push old.to.items _ i j (subst (λ xs. slice_get xs i ≡ Some j) more at));
      ends = λ is. led.ends (sym ends ∙ is);
    }
      where
        each : (i : ℕ) (j : Jump) → (slice_get old.to.items i ≡ Some j) ⊎ (i ≡ length old.to.items)
            × (j ≡ record { number = r; vertex = u }) → (k : ℕ) × Shifts game e p v k j.vertex × IsNextAt e k j.number
        each i j (inl at) = led.to i j at
        each i j (inr at) =
            (q, subst (λ x. Shifts game e p v q x.vertex) (sym at.1) shifts, subst (λ x. IsNextAt e q x.number) (sym at.1) next)

  -- ---- a shift that leads on

  shift_to_one : (r u w x : ℕ) → IsShiftTo game e r u w → IsShiftTo game e r u x → w ≡ x
  shift_to_one r u w x s t =
      let labels : Some s.0 ≡ Some t.0 = sym s.1 ∙ t.1 in
      let label : s.0 ≡ t.0 = cc in
      let both : Some w ≡ Some x = sym s.2 ∙ ap (neighbour game u) label ∙ t.2 in
      cc

  or_either : (a b : Bool) → (a || b) ≡ true → (a ≡ true) ⊎ (b ≡ true)
  or_either true b h = inl refl
  or_either false b h = inr h

  or_left : (a b : Bool) → a ≡ true → (a || b) ≡ true
  or_left true b h = refl
  or_left false b h = absurd (cc)

  or_right : (a b : Bool) → b ≡ true → (a || b) ≡ true
  or_right true b h = refl
  or_right false b h = h

  module _ (old new : ShiftClosure) (u r w : ℕ) (b : Bool) (met : IsMetWith old.met.items r w new.met.items) (to : new.to.items ≡ old.to.items)
      (ends : new.ends ≡ (old.ends || b)) where
    pub kept_shift : KeepsClosure old new
    kept_shift = record {
      met = λ i j at. go met i j at;
      to = λ i j at. subst (λ xs. slice_get xs i ≡ Some j) (sym to) at;
      ends = λ is. ends ∙ or_left old.ends b is;
    }
      where
        go : IsMetWith old.met.items r w new.met.items → (i : ℕ) (j : Jump) → slice_get old.met.items i ≡ Some j → slice_get new.met.items i ≡ Some j
        go (inl h) i j at = subst (λ xs. slice_get xs i ≡ Some j) (sym h.0) at
        go (inr h) i j at = subst (λ xs. slice_get xs i ≡ Some j) (sym h) (slice_get-append old.met.items _ i j at)

    met_now : IsAmong new.met.items r w
    met_now = go met
      where
        go : IsMetWith old.met.items r w new.met.items → IsAmong new.met.items r w
        go (inl h) = subst (λ xs. IsAmong xs r w) (sym h.0) h.1
        go (inr h) = subst (λ xs. IsAmong xs r w) (sym h) (among_end old.met.items r w)

    pub noted_shift : IsShiftTo game e r u w → (IsLast e 1 r → b ≡ true) → HasNoted game e new u r
    noted_shift s last = record {
      other = λ none. absurd (no_shift r u w none s);
      met = λ x t. subst (IsAmong new.met.items r) (shift_to_one r u w x s t) met_now;
      ends = λ x t is. ends ∙ or_right old.ends b (last is);
    }

    pub led_shift : IsShiftTo game e r u w → (b ≡ true → IsLast e 1 r) → (p v q : ℕ) → IsLed game e p v old → Shifts game e p v q u
        → IsNextAt e q r → IsLed game e p v new
    led_shift s last p v q led shifts next = record {
      met = λ i j at. go met i j at;
      to = λ i j at. led.to i j (subst (λ xs. slice_get xs i ≡ Some j) to at);
      ends = λ is. end (or_either old.ends b (sym ends ∙ is));
    }
      where
        new_one : (i : ℕ) (j : Jump) → (slice_get old.met.items i ≡ Some j) ⊎ (i ≡ length old.met.items)
            × (j ≡ record { number = r; vertex = w }) → Shifts game e p v j.number j.vertex
        new_one i j (inl at) = led.met i j at
        new_one i j (inr at) = subst (λ x. Shifts game e p v x.number x.vertex) (sym at.1) (further q u r w shifts next s)

        go : IsMetWith old.met.items r w new.met.items → (i : ℕ) (j : Jump) → slice_get new.met.items i ≡ Some j → Shifts game e p v j.number j.vertex
        go (inl h) i j at = led.met i j (subst (λ xs. slice_get xs i ≡ Some j) h.0 at)
        go (inr h) i j at = new_one i j (slice_get-push old.met.items _ i j (subst (λ xs. slice_get xs i ≡ Some j) h at))

        end : (old.ends ≡ true) ⊎ (b ≡ true) → (k x t y : ℕ) × Shifts game e p v k x × IsNextAt e k t × IsShiftTo game e t x y × IsLast e 1 t
        end (inl is) = led.ends is
        end (inr is) = (q, u, r, w, shifts, next, s, last is)

  -- a shift that leads nowhere
  pub noted_nowhere : (walk : ShiftClosure) (u r label : ℕ) → label_in (action_at e 1 r) ≡ Some label → neighbour game u label ≡ None → HasNoted game e walk u r
  noted_nowhere walk u r label is none = record {
    other = λ other. absurd (let both : None ≡ Some label = sym other ∙ is in cc);
    met = λ w s. absurd (never w s);
    ends = λ w s last. absurd (never w s);
  }
    where
      never : (w : ℕ) → IsShiftTo game e r u w → ⊥
      never w s =
          let labels : Some s.0 ≡ Some label = sym s.1 ∙ is in
          let same : s.0 ≡ label = cc in
          let both : Some w ≡ None = sym s.2 ∙ ap (neighbour game u) same ∙ none in
          cc

  -- ---- vertices

  pub shifts_inside : IsSoundGame game → (p v q u : ℕ) → v < length game.vertices → Shifts game e p v q u → u < length game.vertices
  shifts_inside sound p v _ _ inside still = inside
  shifts_inside sound p v _ _ inside (further q u r w shifts next s) = neighbour_within game u s.0 w sound s.2

  pub led_inside : IsSoundGame game → (p v : ℕ) → v < length game.vertices → (walk : ShiftClosure) → IsLed game e p v walk → StaysOnBoard game walk
  led_inside sound p v inside walk led i j at = shifts_inside sound p v j.number j.vertex inside (led.met i j at)

  -- ---- a whole walk is a row

  module _ (p v : ℕ) (walk : ShiftClosure) (whole : IsClosure game e p v walk) where
    noted_at : (q u r : ℕ) → IsAmong walk.met.items q u → IsNextAt e q r → HasNoted game e walk u r
    noted_at q u r m next =
        subst (λ x. HasNoted game e walk x r) m.4
        (whole.gone m.0 (slice_get-within walk.met.items m.0 m.1 m.2) m.1 r m.2 (subst (λ x. IsNextAt e x r) (sym m.3) next))

    reached : (q u : ℕ) → Shifts game e p v q u → IsAmong walk.met.items q u
    reached _ _ still = whole.first
    reached _ _ (further q u r w shifts next s) = (noted_at q u r (reached q u shifts) next).met w s

    pub row_by_walk : (row : JumpRow) → row.to.items ≡ walk.to.items → row.ends ≡ walk.ends → length walk.met.items ≤ row.met → IsRow game e p v row
    row_by_walk row to ends many = record {
      only = λ r u m. only r u (subst (λ xs. IsAmong xs r u) to m);
      all = λ q u r shifts next none. subst (λ xs. IsAmong xs r u) (sym to) ((noted_at q u r (reached q u shifts) next).other none);
      ends_only = λ is. whole.led.ends (sym ends ∙ is);
      ends_all = λ q u r w shifts next s last. ends ∙ (noted_at q u r (reached q u shifts) next).ends w s last;
      met_are = (walk.met.items, many, reached);
    }
      where
        only : (r u : ℕ) → IsAmong walk.to.items r u → (q : ℕ) × Shifts game e p v q u × IsNextAt e q r
        only r u m =
            let h = whole.led.to m.0 m.1 m.2 in
            (h.0, subst (Shifts game e p v h.0) m.4 h.1, subst (IsNextAt e h.0) m.3 h.2)
