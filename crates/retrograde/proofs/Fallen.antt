-- The record of each number and the order, once the predecessors of a processed position are seen to.
use Rattle.std.proofs.Common.{◌≡◌, ◌∙◌, sym, ap, subst, ℕ, zero, suc, ◌+◌, ◌≤◌, ◌<◌, ◌⊎◌, inl, inr, ⊎_elim, Bool, true, false, cond, Option, Some, None, List, [], ◌∷◌, ◌++◌, length, set, refl, arith, slice_get}
use Rattle.std.specs.Prelude.{count_by}
use Rattle.std.proofs.lemmas.Option.{same_Some, slice_get_within}
use Rattle.std.proofs.lemmas.Bool.{cases_lt, cases_eq}
use Rattle.std.proofs.lemmas.List.{length_push}
use Rattle.rbg_game.specs.declared.roles.Player.{Player}
use Rattle.rbg_game.specs.declared.roles.Role.{Role}
use Rattle.retrograde.specs.declared.records.Record.{Record}
use Rattle.retrograde.specs.Graph.{Graph}
use Rattle.retrograde.specs.Stored.{Stored, HasRecord}
use Rattle.retrograde.specs.Process.{is_due, lowered}
use Rattle.retrograde.specs.lemmas.ProcessSteps.{lower_with, lowered_below}
use Rattle.retrograde.proofs.Predecessors.{get_set_same, get_set_other, count_set, AreLowered, below_keeps}
use Rattle.retrograde.proofs.Additions.{push_before, push_at, push_cases}

module _ {P : Type 0} (graph : Graph P) (s : ℕ) (w : Player) (d : ℕ) (old : Stored P) where
  -- i leads to s and is settled by it
  pub record IsDueAt (i : ℕ) : Type 0 where
    pub edge : old.has_edge s i ≡ true
    pub position : P
    pub kept : Record
    pub at : slice_get old.positions i ≡ Some position
    pub has : HasRecord old i kept
    pub due : is_due (graph.mover position) w kept ≡ true

  -- the records, once the predecessors below n are seen to
  pub record Falls (n : ℕ) (new : Stored P) : Type 0 where
    pub lowers : (i : ℕ) (x : P) (q : Record) → i < n → slice_get old.positions i ≡ Some x → HasRecord old i q → old.has_edge s i ≡ true
        → HasRecord new i (lowered (graph.mover x) w d q)
    pub stays : (i : ℕ) (q : Record) → HasRecord old i q → old.has_edge s i ≡ false → HasRecord new i q
    pub count : (test : Record → Bool) → ((m : Role) (q : Record) → test (lowered m w d q) ≡ test q) → count_by test new.records ≡ count_by test old.records

  -- the order then
  pub record Orders (n : ℕ) (order : List ℕ) : Type 0 where
    pub longer : length old.order ≤ length order
    pub kept : (k i : ℕ) → slice_get old.order k ≡ Some i → slice_get order k ≡ Some i
    pub found : (k i : ℕ) → slice_get order k ≡ Some i → (slice_get old.order k ≡ Some i) ⊎ ((length old.order ≤ k) × (i < n) × IsDueAt i)
    pub made : (i : ℕ) → i < n → IsDueAt i → (k : ℕ) × (slice_get order k ≡ Some i)
    pub once : (j k i : ℕ) → slice_get order j ≡ Some i → slice_get order k ≡ Some i → j ≡ k

  falls_none : Falls 0 old
  falls_none = record {
    lowers = λ i x q lt at has edge. absurd (omega arith);
    stays = λ i q has none. has;
    count = λ test same. refl;
  }

  -- where nothing is done at n
  falls_past : (n : ℕ) (new : Stored P) →
      (old.has_edge s n ≡ true → (x : P) (q : Record) → slice_get old.positions n ≡ Some x → HasRecord old n q → ⊥) → Falls n new → Falls (suc n) new
  falls_past n new none was = record {
    lowers = λ i x q lt at has edge.
        ⊎_elim
        (λ below. was.lowers i x q below at has edge)
        (λ above.
        let same : i ≡ n = omega arith in
        absurd (none (subst (λ (k : ℕ). old.has_edge s k ≡ true) same edge) x q
        (subst (λ (k : ℕ). slice_get old.positions k ≡ Some x) same at) (subst (λ (k : ℕ). HasRecord old k q) same has)))
        (cases_lt i n);
    stays = was.stays;
    count = was.count;
  }

  falls_here : (n : ℕ) (now : Stored P) (x : P) (q : Record) → old.has_edge s n ≡ true → slice_get old.positions n ≡ Some x → HasRecord old n q
      → HasRecord now n q → Falls n now → (new : Stored P) → new.records ≡ set now.records n (lowered (graph.mover x) w d q) → Falls (suc n) new
  falls_here n now x q edge x_at q_has had was new is = record {
    lowers = λ i y r lt at has edge'.
        ⊎_elim
        (λ same.
        let y_is : x ≡ y = same_Some x y (sym x_at ∙ subst (λ (k : ℕ). slice_get old.positions k ≡ Some y) same at) in
        let r_is : q ≡ r = same_Some q r (sym q_has ∙ subst (λ (k : ℕ). HasRecord old k r) same has) in
        subst (λ (k : ℕ). HasRecord new k (lowered (graph.mover y) w d r)) (sym same)
        (here ∙ (ap (λ (u : P). Some (lowered (graph.mover u) w d q)) y_is ∙ ap (λ (o : Record). Some (lowered (graph.mover y) w d o)) r_is)))
        (λ other.
        let below : i < n = less i n lt other in
        elsewhere i other ∙ was.lowers i y r below at has edge')
        (cases_eq i n);
    stays = λ i r has none.
        ⊎_elim
        (λ same. let no_way : old.has_edge s n ≡ false = subst (λ (k : ℕ). old.has_edge s k ≡ false) same none in cc)
        (λ other. elsewhere i other ∙ was.stays i r has none)
        (cases_eq i n);
    count = λ test same. counted test same;
  }
    where
      less : (i n : ℕ) → i < suc n → (i ≡ n → ⊥) → i < n
      less i n lt other = ⊎_elim (λ is. is) (λ ge. let e : i ≡ n = omega arith in absurd (other e)) (cases_lt i n)

      here : HasRecord new n (lowered (graph.mover x) w d q)
      here = ap (λ (rs : List Record). slice_get rs n) is ∙ get_set_same now.records n (lowered (graph.mover x) w d q) (slice_get_within now.records n q had)

      elsewhere : (i : ℕ) → (i ≡ n → ⊥) → slice_get new.records i ≡ slice_get now.records i
      elsewhere i other =
          ap (λ (rs : List Record). slice_get rs i) is
          ∙ get_set_other now.records n i (lowered (graph.mover x) w d q) (λ e. other (sym e))

      counted : (test : Record → Bool) → ((m : Role) (r : Record) → test (lowered m w d r) ≡ test r) → count_by test new.records ≡ count_by test old.records
      counted test same =
          let total : count_by test (set now.records n (lowered (graph.mover x) w d q)) + cond
          (test q) 1 0 ≡ count_by test now.records + cond (test (lowered (graph.mover x) w d q)) 1 0
          = count_set test now.records n q (lowered (graph.mover x) w d q) had in
          let p : ◌≡◌ {A = ℕ} (cond (test (lowered (graph.mover x) w d q)) 1 0) (cond (test q) 1 0) = ap (λ (t : Bool). cond t 1 0) (same (graph.mover x) q) in
          let e : count_by test new.records ≡ count_by test (set now.records n (lowered (graph.mover x) w d q)) = ap
          (λ (rs : List Record). count_by test rs) is in
          let before : count_by test now.records ≡ count_by test old.records = was.count test same in
          omega arith

  module _ (was_once : (j k i : ℕ) → slice_get old.order j ≡ Some i → slice_get old.order k ≡ Some i → j ≡ k)
      (fresh : (k i : ℕ) → slice_get old.order k ≡ Some i → IsDueAt i → ⊥) where
    orders_none : Orders 0 old.order
    orders_none = record {
      longer = omega arith;
      kept = λ k i at. at;
      found = λ k i at. inl at;
      made = λ i lt due. absurd (omega arith);
      once = was_once;
    }

    orders_past : (n : ℕ) (order : List ℕ) → (IsDueAt n → ⊥) → Orders n order → Orders (suc n) order
    orders_past n order none was = record {
      longer = was.longer;
      kept = was.kept;
      found = λ k i at. ⊎_elim (λ before. inl before) (λ (le, lt, due). let lt' : i < suc n = omega arith in inr (le, lt', due)) (was.found k i at);
      made = λ i lt due.
          ⊎_elim
          (λ below. was.made i below due)
          (λ above. let same : i ≡ n = omega arith in absurd (none (subst (λ (k : ℕ). IsDueAt k) same due)))
          (cases_lt i n);
      once = was.once;
    }

    orders_here : (n : ℕ) (order : List ℕ) → IsDueAt n → Orders n order → Orders (suc n) (order ++ n ∷ [])
    orders_here n order due was = record {
      longer = let more : length (order ++ n ∷ []) ≡ length order + 1 = length_push order n in
          let le : length old.order ≤ length order = was.longer in omega arith;
      kept = λ k i at. push_before order n k i (was.kept k i at);
      found = λ k i at.
          ⊎_elim
          (λ before. ⊎_elim (λ first. inl first) (λ (le, lt, due'). let lt' : i < suc n = omega arith in inr (le, lt', due')) (was.found k i before))
          (λ (end, is).
          let le : length old.order ≤ length order = was.longer in
          let le' : length old.order ≤ k = omega arith in
          let lt : i < suc n = let e : n ≡ i = is in omega arith in
          inr (le', lt, subst (λ (k : ℕ). IsDueAt k) is due))
          (push_cases order n k i at);
      made = λ i lt due'.
          ⊎_elim
          (λ below. let (k, at) = was.made i below due' in (k, push_before order n k i at))
          (λ above. let same : n ≡ i = omega arith in (length order, push_at order n ∙ ap (λ (k : ℕ). Some k) same))
          (cases_lt i n);
      once = λ j k i here there.
          ⊎_elim
          (λ j_in.
          ⊎_elim
          (λ k_in. was.once j k i j_in k_in)
          (λ (_, is). absurd (not_in j (j_in ∙ ap (λ (l : ℕ). Some l) (sym is))))
          (push_cases order n k i there))
          (λ (j_end, is).
          ⊎_elim
          (λ k_in. absurd (not_in k (k_in ∙ ap (λ (l : ℕ). Some l) (sym is))))
          (λ (k_end, _). j_end ∙ sym k_end)
          (push_cases order n k i there))
          (push_cases order n j i here);
    }
      where
        not_in : (k : ℕ) → slice_get order k ≡ Some n → ⊥
        not_in k at = ⊎_elim (λ before. fresh k n before due) (λ (_, lt, _). absurd (omega arith)) (was.found k n at)

    step : (n : ℕ) (now : Stored P) → now.positions ≡ old.positions → slice_get now.records n ≡ slice_get old.records n → Falls n now → Orders n now.order
        → (b : Bool) → old.has_edge s n ≡ b → (o : Option P) → slice_get now.positions n ≡ o → (r : Option Record) → slice_get now.records n ≡ r
        → Falls (suc n) (cond b (lower_with graph w d n now o r) now) × Orders (suc n) (cond b (lower_with graph w d n now o r) now).order
    step n now same_p same_r falls orders false none o o_is r r_is = (
      falls_past n now (λ is. cc) falls,
      orders_past n now.order (λ due. let is : old.has_edge s n ≡ true = due.edge in cc) orders,
    )
    step n now same_p same_r falls orders true edge None o_is r r_is =
        let none : slice_get old.positions n ≡ None = ap (λ (xs : List P). slice_get xs n) (sym same_p) ∙ o_is in (
          falls_past n now (λ _ x q at has. cc) falls,
          orders_past n now.order (λ due. let is : slice_get old.positions n ≡ Some due.position = due.at in cc) orders,
        )
    step n now same_p same_r falls orders true edge (Some x) o_is None r_is =
        let none : slice_get old.records n ≡ None = sym same_r ∙ r_is in (
          falls_past n now (λ _ y q at has. cc) falls,
          orders_past n now.order (λ due. let is : slice_get old.records n ≡ Some due.kept = due.has in cc) orders,
        )
    step n now same_p same_r falls orders true edge (Some x) o_is (Some q) r_is = (
      falls_here n now x q edge x_at q_has r_is falls (lower_with graph w d n now (Some x) (Some q)) refl,
      go (is_due (graph.mover x) w q) refl,
    )
      where
        x_at : slice_get old.positions n ≡ Some x
        x_at = ap (λ (xs : List P). slice_get xs n) (sym same_p) ∙ o_is

        q_has : HasRecord old n q
        q_has = sym same_r ∙ r_is

        go : (b : Bool) → is_due (graph.mover x) w q ≡ b → Orders (suc n) (cond b (now.order ++ n ∷ []) now.order)
        go true is = orders_here n now.order (record { edge = edge; position = x; kept = q; at = x_at; has = q_has; due = is }) orders
        go false is =
            orders_past n now.order
            (λ due.
            let x_is : due.position ≡ x = same_Some due.position x (sym due.at ∙ x_at) in
            let q_is : due.kept ≡ q = same_Some due.kept q (sym due.has ∙ q_has) in
            let no_way : is_due (graph.mover x) w q ≡ true = subst (λ (o : Record). is_due (graph.mover x) w o ≡ true) q_is
            (subst (λ (u : P). is_due (graph.mover u) w due.kept ≡ true) x_is due.due) in
            cc)
            orders

    pub falls : (n : ℕ) → Falls n (lowered_below graph s w d n old) × Orders n (lowered_below graph s w d n old).order
    falls zero = (falls_none, orders_none)
    falls (suc n) =
        let before : AreLowered graph w d n old (lowered_below graph s w d n old) = below_keeps graph w d s n old in
        let le : n ≤ n = omega arith in
        let (records, order) = falls n in
        step n (lowered_below graph s w d n old) before.positions (before.later n le) records order
        (old.has_edge s n) refl
        (slice_get (lowered_below graph s w d n old).positions n) refl
        (slice_get (lowered_below graph s w d n old).records n) refl
