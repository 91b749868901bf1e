-- To expand the next position keeps a stored table sound.
use Rattle.std.proofs.Common.{◌≡◌, ◌∙◌, sym, ap, subst, ℕ, zero, suc, ◌+◌, ◌-◌, ◌≤◌, ◌<◌, ◌⊎◌, inl, inr, ⊎_elim, Bool, true, false, not, eqb, ◌&&◌, cond, Option, Some, None, IsSome, option_and_then, List, [], ◌∷◌, ◌++◌, length, set, refl, arith, slice_get}
use Rattle.std.specs.Prelude.{count_by, Contains}
use Rattle.std.specs.declared.cmp.Ordering.{Ordering}
use Rattle.std.specs.Cmp.{IsTotalOrder}
use Rattle.std.proofs.lemmas.Option.{same_Some, slice_get_within, slice_get_past}
use Rattle.std.proofs.lemmas.Bool.{cases_lt, cases_eq}
use Rattle.std.proofs.lemmas.Bool.Decides.{eqb_tells}
use Rattle.std.proofs.lemmas.List.{length_push, length-set}
use Rattle.std.proofs.lemmas.List.Sums.{sum_by-cons}
use Rattle.rbg_game.specs.declared.roles.Player.{Player}
use Rattle.rbg_game.specs.declared.roles.Role.{Role}
use Rattle.retrograde.specs.declared.records.State.{State}
use Rattle.retrograde.specs.declared.records.State.TheVariants.{Known, Expanded, Settled, Processed}
use Rattle.retrograde.specs.declared.records.Record.{Record}
use Rattle.retrograde.specs.Graph.{Graph, HasMove, IsEnded}
use Rattle.retrograde.specs.View.{HasNumber}
use Rattle.retrograde.specs.Local.{end_value, IsMoveValue, IsLocalValue, at_end, by_moves, own_win, all_lead, still_open}
use Rattle.retrograde.specs.Stored.{Stored, HasRecord, FitsState, IsTable, is_expanded, is_processed, is_settled, processed_in, value_of, view_of, expanded_count, processed_count, settled_count, count_below}
use Rattle.retrograde.specs.Audit.{IsReached, EdgesAreMoves}
use Rattle.retrograde.specs.Sound.{IsLocallySound}
use Rattle.retrograde.specs.ByEdges.{CountsItsEdges, IsSoundByEdgesAt}
use Rattle.retrograde.specs.Successors.{IsSuccessorList}
use Rattle.retrograde.specs.Changes.{fresh_record, with_record}
use Rattle.retrograde.specs.Expands.{expanded_record, won_record}
use Rattle.retrograde.specs.lemmas.Expansion.{AreNoted, with_ended, with_expanded}
use Rattle.retrograde.proofs.Finished.{none_or_some, is_some_at, element}
use Rattle.retrograde.proofs.Local.{end_value_some}
use Rattle.retrograde.proofs.ByEdges.{by_edges, sound_from_edges}
use Rattle.retrograde.proofs.CountLemmas.{true_or_false}
use Rattle.retrograde.proofs.Predecessors.{get_set_same, get_set_other, count_set}
use Rattle.retrograde.proofs.Sound.{local, order}
use Rattle.retrograde.proofs.Tables.{record_of, valued_within, valued_expanded, processed_few}
use Rattle.retrograde.proofs.AdditionFrame.{are_noted_grew, unsettled}
use Rattle.retrograde.proofs.Additions.{push_before, push_at, push_cases, count_same, count_past, is_first, Adds, adds_all, apart_all, edges_from, count_all}

-- how the record of e is written in the end, where e has n successors
pub record Closes {P : Type 0} (e n : ℕ) (ahead : Option Player) (old new : Stored P) : Type 0 where
  pub written : Record
  pub positions : new.positions ≡ old.positions
  pub has_edge : new.has_edge ≡ old.has_edge
  pub records : new.records ≡ set old.records e written
  pub fits : FitsState written.state written
  pub expanded : is_expanded written.state ≡ true
  pub waits : is_processed written.state ≡ false
  pub successors : written.successors ≡ n
  pub left : written.left ≡ n
  pub ended : n ≡ 0 → value_of written ≡ end_value ahead
  pub moving : (n ≡ 0 → ⊥) → value_of written ≡ None
  pub near : (w : Player) (m : ℕ) → value_of written ≡ Some (w, m) → m ≡ 0
  pub order : ((is_settled written.state ≡ false) × (value_of written ≡ None) × (new.order ≡ old.order))
      ⊎ ((is_settled written.state ≡ true) × IsSome (value_of written) × (new.order ≡ old.order ++ e ∷ []))

closes_moving : {P : Type 0} (e n : ℕ) (ahead : Option Player) (old : Stored P)
    → Closes e (suc n) ahead old (with_record old e (expanded_record (suc n)))
closes_moving e n ahead old = record {
  written = expanded_record (suc n);
  positions = refl;
  has_edge = refl;
  records = refl;
  fits = (refl, refl);
  expanded = refl;
  waits = refl;
  successors = refl;
  left = refl;
  ended = λ is. absurd (omega arith);
  moving = λ some. refl;
  near = λ w m is. cc;
  order = inl (refl, refl, refl);
}

pub closes : {P : Type 0} (e n : ℕ) (ahead : Option Player) (old : Stored P) → Closes e n ahead old (with_expanded e n ahead old)
closes e zero None old = record {
  written = expanded_record 0;
  positions = refl;
  has_edge = refl;
  records = refl;
  fits = (refl, refl);
  expanded = refl;
  waits = refl;
  successors = refl;
  left = refl;
  ended = λ is. refl;
  moving = λ some. refl;
  near = λ w m is. cc;
  order = inl (refl, refl, refl);
}
closes e zero (Some w) old = record {
  written = won_record w;
  positions = refl;
  has_edge = refl;
  records = refl;
  fits = refl;
  expanded = refl;
  waits = refl;
  successors = refl;
  left = refl;
  ended = λ is. refl;
  moving = λ some. absurd (some refl);
  near = λ v m is. sym (ap (λ (q : Player × ℕ). q.1) (same_Some (w, 0) (v, m) is));
  order = inr (refl, refl, refl);
}
closes {P = P} e (suc n) ahead old = subst (λ (t : Stored P). Closes e (suc n) ahead old t) (sym is) (closes_moving e n ahead old)
  where
    some : eqb (suc n) 0 ≡ false
    some = ⊎_elim (λ (_, same). absurd (omega arith)) (λ (fails, _). fails) (eqb_tells (suc n) 0)

    is : with_expanded e (suc n) ahead old ≡ with_record old e (expanded_record (suc n))
    is = ap (λ (b : Bool). cond b (with_ended e ahead old) (with_record old e (expanded_record (suc n)))) some

and_waits : (b p : Bool) → p ≡ false → (b && not p) ≡ b
and_waits true true is = cc
and_waits true false is = refl
and_waits false p is = refl

pub none_counted : {A : Type 0} (test : A → Bool) (xs : List A) → ((i : ℕ) (x : A) → slice_get xs i ≡ Some x → test x ≡ false) → count_by test xs ≡ 0
none_counted test [] none = refl
none_counted test (x ∷ xs) none =
    let here : ◌≡◌ {A = ℕ} (cond (test x) 1 0) 0 = ap (λ (b : Bool). cond b 1 0) (none 0 x refl) in
    let below : count_by test xs ≡ 0 = none_counted test xs (λ i y at. none (suc i) y at) in
    let total : count_by test (x ∷ xs) ≡ cond (test x) 1 0 + count_by test xs = sum_by-cons (λ z. cond (test z) 1 0) x xs in
    omega arith

module _ {P : Type 0} (graph : Graph P) (stored : Stored P) (table : IsTable stored)
    (x : P) (number : HasNumber (view_of stored) (expanded_count stored) x) (ys : List P)
    (next : Stored P) (noted : AreNoted (expanded_count stored) ys stored next)
    (new : Stored P) (closing : Closes (expanded_count stored) (length ys) (graph.ahead x) next new) where
  abbrev e : ℕ
  e = expanded_count stored

  abbrev written : Record
  written = closing.written

  pub adds : Adds e ys stored next
  adds = adds_all e ys stored next noted

  e_known : e < length stored.positions
  e_known = slice_get_within stored.positions e x number

  same_records : length stored.records ≡ length stored.positions
  same_records = table.records

  lengths : length new.positions ≡ length next.positions
  lengths = ap (λ (xs : List P). length xs) closing.positions

  longer : length stored.positions ≤ length new.positions
  longer = let p : length stored.positions ≤ length next.positions = adds.longer in
      let q : length new.positions ≡ length next.positions = lengths in omega arith

  -- numbers
  pub to_new : (i : ℕ) (y : P) → slice_get next.positions i ≡ Some y → slice_get new.positions i ≡ Some y
  to_new i y at = ap (λ (xs : List P). slice_get xs i) closing.positions ∙ at

  to_next : (i : ℕ) (y : P) → slice_get new.positions i ≡ Some y → slice_get next.positions i ≡ Some y
  to_next i y at = ap (λ (xs : List P). slice_get xs i) (sym closing.positions) ∙ at

  pub still : (i : ℕ) (y : P) → slice_get stored.positions i ≡ Some y → slice_get new.positions i ≡ Some y
  still i y at = to_new i y (adds.kept i y at)

  number_before : (i : ℕ) (y : P) → slice_get new.positions i ≡ Some y → i < length stored.positions → slice_get stored.positions i ≡ Some y
  number_before i y at within = ⊎_elim (λ before. before) (λ (le, _). absurd (omega arith)) (adds.found i y (to_next i y at))

  is_x : (y : P) → slice_get new.positions e ≡ Some y → y ≡ x
  is_x y at = same_Some y x (sym at ∙ still e x number)

  pub apart : (i j : ℕ) (y : P) → slice_get new.positions i ≡ Some y → slice_get new.positions j ≡ Some y → i ≡ j
  apart i j y here there = apart_all e ys stored next noted table.distinct i j y (to_next i y here) (to_next j y there)

  -- edges
  pub edge_is : (i p : ℕ) → new.has_edge i p ≡ next.has_edge i p
  edge_is i p = ap (λ (h : ℕ → ℕ → Bool). h i p) closing.has_edge

  pub edge_kept : (i p : ℕ) → stored.has_edge i p ≡ true → new.has_edge i p ≡ true
  edge_kept i p is = edge_is i p ∙ adds.edges i p is

  pub edge_cases : (i p : ℕ) → new.has_edge i p ≡ true
      → (stored.has_edge i p ≡ true) ⊎ ((p ≡ e) × ((y : P) × Contains ys y × (slice_get new.positions i ≡ Some y)))
  edge_cases i p is =
      ⊎_elim (λ before. inl before) (λ (from, (y, here, at)). inr (from, (y, here, to_new i y at)))
      (adds.edged i p (sym (edge_is i p) ∙ is))

  -- records
  there : (r : Record) × HasRecord stored e r
  there = record_of stored table e e_known

  abbrev was : Record
  was = there.0

  had : HasRecord stored e was
  had = there.1

  had_next : HasRecord next e was
  had_next = adds.records e was had

  not_before : is_expanded was.state ≡ false
  not_before =
      ⊎_elim
      (λ is. let lt : e < e = (table.expanded e was had).0 is in absurd (omega arith))
      (λ is. is)
      (true_or_false (is_expanded was.state))

  unsettled_before : is_settled was.state ≡ false
  unsettled_before = unsettled was.state (λ is. let no_way : true ≡ false = sym is ∙ not_before in cc)

  at_e : HasRecord new e written
  at_e =
      ap (λ (rs : List Record). slice_get rs e) closing.records
      ∙ get_set_same next.records e written (slice_get_within next.records e was had_next)

  pub elsewhere : (i : ℕ) → (i ≡ e → ⊥) → slice_get new.records i ≡ slice_get next.records i
  elsewhere i other =
      ap (λ (rs : List Record). slice_get rs i) closing.records
      ∙ get_set_other next.records e i written (λ same. other (sym same))

  is_written : (r : Record) → HasRecord new e r → written ≡ r
  is_written r has = same_Some written r (sym at_e ∙ has)

  record_before : (i : ℕ) (r : Record) → (i ≡ e → ⊥) → HasRecord new i r
      → HasRecord stored i r ⊎ ((length stored.records ≤ i) × (fresh_record ≡ r))
  record_before i r other has = adds.recorded i r (sym (elsewhere i other) ∙ has)

  record_cases : (i : ℕ) (r : Record) → HasRecord new i r
      → ((i ≡ e) × (written ≡ r)) ⊎ ((i ≡ e → ⊥) × (HasRecord stored i r ⊎ ((length stored.records ≤ i) × (fresh_record ≡ r))))
  record_cases i r has =
      ⊎_elim
      (λ same. inl (same, is_written r (subst (λ (k : ℕ). HasRecord new k r) same has)))
      (λ other. inr (other, record_before i r other has))
      (cases_eq i e)

  -- counts
  count_change : (test : Record → Bool) (b : Bool) → test fresh_record ≡ false → test was ≡ false → test written ≡ b
      → count_by test new.records ≡ count_by test stored.records + cond b 1 0
  count_change test b fresh before after =
      let total : count_by test (set next.records e written) + cond (test was) 1 0 ≡ count_by test next.records + cond (test written) 1 0
      = count_set test next.records e was written had_next in
      let p : ◌≡◌ {A = ℕ} (cond (test was) 1 0) 0 = ap (λ (t : Bool). cond t 1 0) before in
      let q : ◌≡◌ {A = ℕ} (cond (test written) 1 0) (cond b 1 0) = ap (λ (t : Bool). cond t 1 0) after in
      let is : count_by test new.records ≡ count_by test (set next.records e written) = ap (λ (rs : List Record). count_by test rs) closing.records in
      let same : count_by test next.records ≡ count_by test stored.records = adds.count test fresh in
      omega arith

  pub expanded_new : expanded_count new ≡ suc e
  expanded_new =
      let p : count_by (λ (r : Record). is_expanded r.state) new.records ≡ count_by (λ (r : Record). is_expanded r.state) stored.records + 1
      = count_change (λ (r : Record). is_expanded r.state) true refl not_before closing.expanded in
      omega arith

  unprocessed_before : is_processed was.state ≡ false
  unprocessed_before = ⊎_elim (λ is. absurd (unexpanded was.state not_before is)) (λ is. is) (true_or_false (is_processed was.state))
    where
      unexpanded : (st : State) → is_expanded st ≡ false → is_processed st ≡ true → ⊥
      unexpanded Known none is = cc
      unexpanded Expanded none is = cc
      unexpanded Settled none is = cc
      unexpanded Processed none is = cc

  processed_same : processed_count new ≡ processed_count stored
  processed_same =
      let p : count_by (λ (r : Record). is_processed r.state) new.records ≡ count_by (λ (r : Record). is_processed r.state) stored.records + 0
      = count_change (λ (r : Record). is_processed r.state) false refl unprocessed_before closing.waits in
      omega arith

  waits_e : (view_of new).processed e ≡ false
  waits_e = ap (λ (o : Option Record). processed_in o) at_e ∙ closing.waits

  -- values
  value_at_e : (view_of new).value e ≡ value_of written
  value_at_e = ap (λ (o : Option Record). option_and_then value_of o) at_e

  value_next : (i : ℕ) → option_and_then value_of (slice_get next.records i) ≡ (view_of stored).value i
  value_next i =
      ⊎_elim
      (λ within.
      let (r, has) = element stored.records i within in
      ap (λ (o : Option Record). option_and_then value_of o) (adds.records i r has ∙ sym has))
      (λ past.
      let none : slice_get stored.records i ≡ None = slice_get_past stored.records i past in
      go none (none_or_some (slice_get next.records i)))
      (cases_lt i (length stored.records))
    where
      go : slice_get stored.records i ≡ None → (slice_get next.records i ≡ None) ⊎ ((r : Record) × (slice_get next.records i ≡ Some r))
          → option_and_then value_of (slice_get next.records i) ≡ (view_of stored).value i
      go none (inl empty) = ap (λ (o : Option Record). option_and_then value_of o) (empty ∙ sym none)
      go none (inr (r, has)) =
          ⊎_elim
          (λ before. cc)
          (λ (_, is).
          ap (λ (o : Option Record). option_and_then value_of o) (has ∙ ap (λ (q : Record). Some q) (sym is))
          ∙ sym (ap (λ (o : Option Record). option_and_then value_of o) none))
          (adds.recorded i r has)

  value_elsewhere : (i : ℕ) → (i ≡ e → ⊥) → (view_of new).value i ≡ (view_of stored).value i
  value_elsewhere i other = ap (λ (o : Option Record). option_and_then value_of o) (elsewhere i other) ∙ value_next i

  processed_elsewhere : (i : ℕ) → (i ≡ e → ⊥) → IsSome ((view_of stored).value i) → (view_of new).processed i ≡ (view_of stored).processed i
  processed_elsewhere i other some =
      let (r, has) = record_of stored table i (valued_within stored table i some) in
      ap (λ (o : Option Record). processed_in o) (elsewhere i other ∙ (adds.records i r has ∙ sym has))

  settled_below : (i : ℕ) → IsSome ((view_of stored).value i) → i < e
  settled_below i some = valued_expanded stored table i some

  settled_other : (i : ℕ) → IsSome ((view_of stored).value i) → i ≡ e → ⊥
  settled_other i some same = let lt : i < e = settled_below i some in omega arith

  some_still : (i : ℕ) → IsSome ((view_of stored).value i) → IsSome ((view_of new).value i)
  some_still i some = subst (λ (o : Option (Player × ℕ)). IsSome o) (sym (value_elsewhere i (settled_other i some))) some

  -- the order
  order_kept : (k i : ℕ) → slice_get stored.order k ≡ Some i → slice_get new.order k ≡ Some i
  order_kept k i at =
      let at' : slice_get next.order k ≡ Some i = ap (λ (l : List ℕ). slice_get l k) adds.order ∙ at in
      ⊎_elim
      (λ (_, _, same). ap (λ (l : List ℕ). slice_get l k) same ∙ at')
      (λ (_, _, more). ap (λ (l : List ℕ). slice_get l k) more ∙ push_before next.order e k i at')
      closing.order

  order_cases : (k i : ℕ) → slice_get new.order k ≡ Some i
      → (slice_get stored.order k ≡ Some i) ⊎ ((k ≡ length stored.order) × (i ≡ e) × IsSome (value_of written))
  order_cases k i at =
      ⊎_elim
      (λ (_, _, same). inl (ap (λ (l : List ℕ). slice_get l k) (sym (same ∙ adds.order)) ∙ at))
      (λ (_, some, more).
      ⊎_elim
      (λ before. inl (ap (λ (l : List ℕ). slice_get l k) (sym adds.order) ∙ before))
      (λ (end, is). inr (end ∙ ap (λ (l : List ℕ). length l) adds.order, sym is, some))
      (push_cases next.order e k i (ap (λ (l : List ℕ). slice_get l k) (sym more) ∙ at)))
      closing.order

  not_ordered : (k : ℕ) → slice_get stored.order k ≡ Some e → ⊥
  not_ordered k at = settled_other e (table.settled k e at) refl

  -- the parts fit together then
  pub closed_fits : IsTable new
  closed_fits = record {
    started = let lt : e < length stored.positions = e_known in let le : length stored.positions ≤ length new.positions = longer in omega arith;
    records =
        let even : length next.records ≡ length next.positions = (are_noted_grew e ys stored next noted).even same_records in
        let p : length new.records ≡ length next.records
        = ap (λ (rs : List Record). length rs) closing.records ∙ length-set next.records e written in
        let q : length new.positions ≡ length next.positions = lengths in
        omega arith;
    distinct = apart;
    states = λ i r has.
        ⊎_elim
        (λ (_, is). subst (λ (q : Record). FitsState q.state q) is closing.fits)
        (λ (_, either).
        ⊎_elim
        (λ before. table.states i r before)
        (λ (_, is). subst (λ (q : Record). FitsState q.state q) is (refl, refl, refl, refl))
        either)
        (record_cases i r has);
    expanded = λ i r has.
        let more : expanded_count new ≡ suc e = expanded_new in
        ⊎_elim
        (λ (same, is). (
          (λ _. omega arith),
          (λ _. subst (λ (q : Record). is_expanded q.state ≡ true) is closing.expanded),
        ))
        (λ (other, either).
        ⊎_elim
        (λ before. (
          (λ is. let lt : i < e = (table.expanded i r before).0 is in omega arith),
          (λ lt. let lt' : i < e = below i other lt in (table.expanded i r before).1 lt'),
        ))
        (λ (le, is). (
          (λ is'. let no_way : false ≡ true = subst (λ (q : Record). is_expanded q.state ≡ true) (sym is) is' in cc),
          (λ lt. let known : e < length stored.positions = e_known in
              let same : length stored.records ≡ length stored.positions = same_records in absurd (omega arith)),
        ))
        either)
        (record_cases i r has);
    listed = λ i some.
        ⊎_elim
        (λ same. listed_e i same some)
        (λ other.
        let (k, at) = table.listed i (subst (λ (o : Option (Player × ℕ)). IsSome o) (value_elsewhere i other) some) in
        (k, order_kept k i at))
        (cases_eq i e);
    settled = λ k i at.
        ⊎_elim
        (λ before. some_still i (table.settled k i before))
        (λ (_, same, some).
        subst (λ (l : ℕ). IsSome ((view_of new).value l)) (sym same)
        (subst (λ (o : Option (Player × ℕ)). IsSome o) (sym value_at_e) some))
        (order_cases k i at);
    counted = counted;
    once = λ j k i here there'.
        ⊎_elim
        (λ before.
        ⊎_elim
        (λ before'. table.once j k i before before')
        (λ (_, same, _). absurd (not_ordered j (before ∙ ap (λ (l : ℕ). Some l) same)))
        (order_cases k i there'))
        (λ (end, same, _).
        ⊎_elim
        (λ before'. absurd (not_ordered k (before' ∙ ap (λ (l : ℕ). Some l) same)))
        (λ (end', _, _). end ∙ sym end')
        (order_cases k i there'))
        (order_cases j i here);
    processed = λ k i at.
        let same : processed_count new ≡ processed_count stored = processed_same in
        ⊎_elim
        (λ before.
        let is_same : (view_of new).processed i ≡ (view_of stored).processed i = processed_elsewhere i
        (settled_other i (table.settled k i before)) (table.settled k i before) in (
          (λ is. let lt : k < processed_count stored = (table.processed k i before).0 (sym is_same ∙ is) in omega arith),
          (λ lt. let lt' : k < processed_count stored = omega arith in is_same ∙ (table.processed k i before).1 lt'),
        ))
        (λ (end, at_end', _). (
          (λ is.
              let none : (view_of new).processed i ≡ false = subst (λ (l : ℕ). (view_of new).processed l ≡ false) (sym at_end') waits_e in
              cc),
          (λ lt. let few : processed_count stored ≤ length stored.order = processed_few stored table in absurd (omega arith)),
        ))
        (order_cases k i at);
    edges = λ i j is.
        let le : length stored.positions ≤ length new.positions = longer in
        let lt : e < length stored.positions = e_known in
        ⊎_elim
        (λ before.
        let p : i < length stored.positions = (table.edges i j before).0 in
        let q : j < length stored.positions = (table.edges i j before).1 in
        let p' : i < length new.positions = omega arith in
        let q' : j < length new.positions = omega arith in
        (p', q'))
        (λ (from, (y, here, at)).
        let q' : j < length new.positions = omega arith in
        (slice_get_within new.positions i y at, q'))
        (edge_cases i j is);
  }
    where
      below : (i : ℕ) → (i ≡ e → ⊥) → i < expanded_count new → i < e
      below i other lt =
          let more : expanded_count new ≡ suc e = expanded_new in
          ⊎_elim (λ is. is) (λ ge. let same : i ≡ e = omega arith in absurd (other same)) (cases_lt i e)

      listed_e : (i : ℕ) → i ≡ e → IsSome ((view_of new).value i) → (k : ℕ) × (slice_get new.order k ≡ Some i)
      listed_e i same some =
          let some' : IsSome (value_of written) = subst (λ (o : Option (Player × ℕ)). IsSome o)
          (ap (λ (l : ℕ). (view_of new).value l) same ∙ value_at_e) some in
          ⊎_elim
          (λ (_, none, _). let wrong : IsSome {T = Player × ℕ} None = subst (λ (o : Option (Player × ℕ)). IsSome o) none some' in cc)
          (λ (_, _, more).
          (length next.order, ap (λ (l : List ℕ). slice_get l (length next.order)) more ∙ (push_at next.order e ∙ ap (λ (l : ℕ). Some l) (sym same))))
          closing.order

      counted : length new.order ≡ settled_count new
      counted =
          let before : length stored.order ≡ count_by (λ (r : Record). is_settled r.state) stored.records = table.counted in
          let same : length next.order ≡ length stored.order = ap (λ (l : List ℕ). length l) adds.order in
          ⊎_elim
          (λ (none, _, is).
          let p : count_by (λ (r : Record). is_settled r.state) new.records ≡ count_by (λ (r : Record). is_settled r.state) stored.records + 0
          = count_change (λ (r : Record). is_settled r.state) false refl unsettled_before none in
          let q : length new.order ≡ length next.order = ap (λ (l : List ℕ). length l) is in
          omega arith)
          (λ (some, _, is).
          let p : count_by (λ (r : Record). is_settled r.state) new.records ≡ count_by (λ (r : Record). is_settled r.state) stored.records + 1
          = count_change (λ (r : Record). is_settled r.state) true refl unsettled_before some in
          let q : length new.order ≡ length next.order + 1 = ap (λ (l : List ℕ). length l) is ∙ length_push next.order e in
          omega arith)
          closing.order

  module _ (cmp : P → P → Ordering) (laws : IsTotalOrder cmp) (IsWide : P → Type 0) (sound : IsLocallySound graph IsWide stored)
      (list : IsSuccessorList cmp graph x ys) (forced : graph.mover x ≡ Role.Keeper → length ys ≤ 1) where
    no_edge_from : (j : ℕ) → stored.has_edge j e ≡ false
    no_edge_from j =
        ⊎_elim
        (λ is.
        let (y, at) = element stored.positions j ((table.edges j e is).0) in
        let (z, _, within, _) = (by_edges graph IsWide stored sound j y at).edges_are_moves e is in
        absurd (omega arith))
        (λ is. is)
        (true_or_false (stored.has_edge j e))

    from_next : (i : ℕ) → edges_from i new ≡ edges_from i next
    from_next i =
        ap (λ (n : ℕ). count_below n (λ j. new.has_edge j i)) lengths
        ∙ ap (λ (h : ℕ → ℕ → Bool). count_below (length next.positions) (λ j. h j i)) closing.has_edge

    from_e : edges_from e new ≡ length ys
    from_e =
        let none : edges_from e stored ≡ 0 =
        ap (λ (n : ℕ). count_below n (λ j. stored.has_edge j e)) (let z : length stored.positions ≡ 0 + length stored.positions = omega arith in z)
        ∙ count_past 0 (length stored.positions) (λ j. stored.has_edge j e) (λ j le. no_edge_from j) in
        let more : edges_from e next ≡ edges_from e stored + length ys =
        count_all e cmp laws ys stored next list.ascending noted (λ i p is. (table.edges i p is).0) (λ y j here at. no_edge_from j) in
        let same : edges_from e new ≡ edges_from e next = from_next e in
        omega arith

    from_other : (i : ℕ) → (i ≡ e → ⊥) → edges_from i new ≡ edges_from i stored
    from_other i other =
        let le : length stored.positions ≤ length next.positions = adds.longer in
        let more : length next.positions ≡ length stored.positions + (length next.positions - length stored.positions) = omega arith in
        from_next i
        ∙ (count_same (length next.positions) (λ j. next.has_edge j i) (λ j. stored.has_edge j i) (λ j lt. adds.others j i other)
        ∙ (ap (λ (n : ℕ). count_below n (λ j. stored.has_edge j i)) more
        ∙ count_past (length stored.positions) (length next.positions - length stored.positions) (λ j. stored.has_edge j i)
        (λ j past.
        ⊎_elim
        (λ is. let within : j < length stored.positions = (table.edges j i is).0 in absurd (omega arith))
        (λ is. is)
        (true_or_false (stored.has_edge j i)))))

    -- nothing is processed
    pub idle : (i : ℕ) → (view_of stored).processed i ≡ true → ⊥
    idle i is =
        let all : expanded_count stored ≡ length stored.positions = (order graph IsWide stored sound).after_expanding i is in
        let lt : e < length stored.positions = e_known in
        omega arith

    idle_record : (i : ℕ) (r : Record) → HasRecord stored i r → is_processed r.state ≡ false
    idle_record i r has =
        ⊎_elim (λ is. absurd (idle i (ap (λ (o : Option Record). processed_in o) has ∙ is))) (λ is. is) (true_or_false (is_processed r.state))

    not_processed : (i : ℕ) (r : Record) → HasRecord new i r → is_processed r.state ≡ false
    not_processed i r has =
        ⊎_elim
        (λ (_, is). subst (λ (q : Record). is_processed q.state ≡ false) is closing.waits)
        (λ (_, either).
        ⊎_elim
        (λ before. idle_record i r before)
        (λ (_, is). subst (λ (q : Record). is_processed q.state ≡ false) is refl)
        either)
        (record_cases i r has)

    idle_now : (i : ℕ) → (view_of new).processed i ≡ false
    idle_now i =
        ⊎_elim
        (λ none. ap (λ (o : Option Record). processed_in o) none)
        (λ (r, has). ap (λ (o : Option Record). processed_in o) has ∙ not_processed i r has)
        (none_or_some (slice_get new.records i))

    pub idle_new : (i : ℕ) → (view_of new).processed i ≡ true → ⊥
    idle_new i is = let none : (view_of new).processed i ≡ false = idle_now i in let no_way : true ≡ false = sym is ∙ none in cc

    idle_old : (i : ℕ) → (view_of stored).processed i ≡ false
    idle_old i = ⊎_elim (λ is. absurd (idle i is)) (λ is. is) (true_or_false ((view_of stored).processed i))

    -- with nothing processed, what is settled has ended
    near_before : (i : ℕ) (w : Player) (n : ℕ) → (view_of stored).value i ≡ Some (w, n) → n ≡ 0
    near_before i w n is = go (local graph IsWide stored sound i y at within)
      where
        within : i < e
        within = settled_below i (is_some_at ((view_of stored).value i) (w, n) is)

        within_known : i < length stored.positions
        within_known = let lt : e < length stored.positions = e_known in let below : i < e = within in omega arith

        y : P
        y = (element stored.positions i within_known).0

        at : HasNumber (view_of stored) i y
        at = (element stored.positions i within_known).1

        go : IsLocalValue graph (view_of stored) y ((view_of stored).value i) → n ≡ 0
        go (at_end ended value) = (end_value_some (graph.ahead y) w n (sym value ∙ is)).1
        go (by_moves has (own_win v m win value)) = let (z, move, (k, _, done, _)) = win.nearest in absurd (idle k done)
        go (by_moves has (all_lead v m none_own all value)) = let (z, move, (k, _, done, _)) = all.farthest in absurd (idle k done)
        go (by_moves has (still_open none_own some_left value)) = cc

    near_now : (i : ℕ) (w : Player) (n : ℕ) → (view_of new).value i ≡ Some (w, n) → n ≡ 0
    near_now i w n is =
        ⊎_elim
        (λ same. closing.near w n (sym value_at_e ∙ subst (λ (k : ℕ). (view_of new).value k ≡ Some (w, n)) same is))
        (λ other. near_before i w n (sym (value_elsewhere i other) ∙ is))
        (cases_eq i e)

    -- with nothing processed, what has a move is open
    is_open : (y : P) (value : Option (Player × ℕ)) → HasMove graph y → value ≡ None → IsMoveValue graph (view_of new) y value
    is_open y value has none =
        still_open
        (λ v n (turn, (z, move, (k, at, done, _))). idle_new k done)
        (λ all. let (k, at, done) = all has.0 has.1 in idle_new k done)
        none

    open_before : (y : P) (value : Option (Player × ℕ)) → IsMoveValue graph (view_of stored) y value → value ≡ None
    open_before y value (own_win v m win is) = let (z, move, (k, _, done, _)) = win.nearest in absurd (idle k done)
    open_before y value (all_lead v m none_own all is) = let (z, move, (k, _, done, _)) = all.farthest in absurd (idle k done)
    open_before y value (still_open none_own some_left is) = is

    reached : (i : ℕ) (y : P) → HasNumber (view_of new) i y → IsReached graph new i y
    reached i y at =
        let more : expanded_count new ≡ suc e = expanded_new in
        ⊎_elim
        (λ before. go (by_edges graph IsWide stored sound i y before).reached)
        (λ (le, here).
        let (j, at', edge) = adds.all y here in
        let same : j ≡ i = apart j i y (to_new j y at') at in
        let known : e < length stored.positions = e_known in
        let p : e < i = omega arith in
        let q : e < expanded_count new = omega arith in
        inr (e, p, q, subst (λ (k : ℕ). new.has_edge k e ≡ true) same (edge_is j e ∙ edge)))
        (adds.found i y (to_next i y at))
      where
        go : IsReached graph stored i y → IsReached graph new i y
        go (inl start) = inl start
        go (inr (p, lt, within, edge)) =
            let more : expanded_count new ≡ suc e = expanded_new in
            let within' : p < expanded_count new = omega arith in
            inr (p, lt, within', edge_kept i p edge)

    edges_are_moves : (i : ℕ) (y : P) → HasNumber (view_of new) i y → EdgesAreMoves graph new i y
    edges_are_moves i y at p is =
        let more : expanded_count new ≡ suc e = expanded_new in
        ⊎_elim
        (λ before.
        let (z, z_at, within, move) = (by_edges graph IsWide stored sound i y (number_before i y at ((table.edges i p before).0))).edges_are_moves p before in
        let within' : p < expanded_count new = omega arith in
        (z, still p z z_at, within', move))
        (λ (from, (z, here, z_at)).
        let same : z ≡ y = same_Some z y (sym z_at ∙ at) in
        let within' : p < expanded_count new = omega arith in (
          x,
          subst (λ (k : ℕ). slice_get new.positions k ≡ Some x) (sym from) (still e x number),
          within',
          subst (λ (u : P). graph.Successor x u) same ((list.each z).0 here),
        ))
        (edge_cases i p is)

    open_left : (i : ℕ) → count_below (length new.positions) (λ j. new.has_edge j i && not ((view_of new).processed j)) ≡ edges_from i new
    open_left i =
        count_same (length new.positions) (λ j. new.has_edge j i && not ((view_of new).processed j)) (λ j. new.has_edge j i)
        (λ j lt. and_waits (new.has_edge j i) ((view_of new).processed j) (idle_now j))

    left_before : (i : ℕ) → count_below (length stored.positions) (λ j. stored.has_edge j i && not ((view_of stored).processed j)) ≡ edges_from i stored
    left_before i =
        count_same (length stored.positions) (λ j. stored.has_edge j i && not ((view_of stored).processed j)) (λ j. stored.has_edge j i)
        (λ j lt. and_waits (stored.has_edge j i) ((view_of stored).processed j) (idle_old j))

    edges_at_e : CountsItsEdges graph new e x
    edges_at_e = record {
      each = λ y move. let (j, at, edge) = adds.all y ((list.each y).1 move) in (j, to_new j y at, edge_is j e ∙ edge);
      successors = λ r has. sym (ap (λ (q : Record). q.successors) (is_written r has)) ∙ (closing.successors ∙ sym from_e);
      left = λ r has. sym (ap (λ (q : Record). q.left) (is_written r has)) ∙ (closing.left ∙ (sym from_e ∙ sym (open_left e)));
      keeper = λ r has is.
          let le : length ys ≤ 1 = forced is in
          let same : r.successors ≡ length ys = sym (ap (λ (q : Record). q.successors) (is_written r has)) ∙ closing.successors in
          omega arith;
    }

    edges_below : (i : ℕ) (y : P) → i < e → HasNumber (view_of stored) i y → CountsItsEdges graph new i y
    edges_below i y lt at = record {
      each = λ z move. let (j, z_at, edge) = edges.each z move in (j, still j z z_at, edge_kept j i edge);
      successors = λ r has. edges.successors r (before r has) ∙ sym (from_other i other);
      left = λ r has. edges.left r (before r has) ∙ (left_before i ∙ (sym (from_other i other) ∙ sym (open_left i)));
      keeper = λ r has is. edges.keeper r (before r has) is;
    }
      where
        other : i ≡ e → ⊥
        other same = omega arith

        edges : CountsItsEdges graph stored i y
        edges = (by_edges graph IsWide stored sound i y at).moves_are_edges lt

        before : (r : Record) → HasRecord new i r → HasRecord stored i r
        before r has =
            ⊎_elim
            (λ is. is)
            (λ (le, _).
            let known : e < length stored.positions = e_known in
            let same : length stored.records ≡ length stored.positions = same_records in
            absurd (omega arith))
            (record_before i r other has)

    -- a number that is expanded now was so, or it is that of x
    expanded_before : (i : ℕ) (y : P) → HasNumber (view_of new) i y → i < expanded_count new
        → ((i < e) × HasNumber (view_of stored) i y) ⊎ ((i ≡ e) × (y ≡ x))
    expanded_before i y at within =
        ⊎_elim
        (λ lt. let known : e < length stored.positions = e_known in let below : i < length stored.positions = omega arith in
        inl (lt, number_before i y at below))
        (λ ge.
        let more : expanded_count new ≡ suc e = expanded_new in
        let same : i ≡ e = omega arith in
        inr (same, is_x y (subst (λ (k : ℕ). slice_get new.positions k ≡ Some y) same at)))
        (cases_lt i e)

    at_e_of : (Q : ℕ → P → Type 0) → Q e x → (i : ℕ) (y : P) → i ≡ e → y ≡ x → Q i y
    at_e_of Q here i y i_is y_is = subst (λ (k : ℕ). Q k y) (sym i_is) (subst (λ (u : P). Q e u) (sym y_is) here)

    below_other : (i : ℕ) → i < e → i ≡ e → ⊥
    below_other i lt same = omega arith

    ended_x : IsEnded graph x → (view_of new).value e ≡ end_value (graph.ahead x)
    ended_x ended = value_at_e ∙ closing.ended (none ys (λ y here. ended y ((list.each y).0 here)))
      where
        none : (zs : List P) → ((y : P) → Contains zs y → ⊥) → length zs ≡ 0
        none [] empty = refl
        none (z ∷ zs) empty = absurd (empty z (is_first z zs))

    moving_x : HasMove graph x → (view_of new).value e ≡ None
    moving_x (y, move) =
        let (k, within, _) = (list.each y).1 move in
        value_at_e ∙ closing.moving (λ none. omega arith)

    each : (i : ℕ) (y : P) → HasNumber (view_of new) i y → IsSoundByEdgesAt graph new i y
    each i y at = record {
      reached = reached i y at;
      edges_are_moves = edges_are_moves i y at;
      moves_are_edges = λ within.
          ⊎_elim
          (λ (lt, before). edges_below i y lt before)
          (λ (i_is, y_is). at_e_of (λ k u. CountsItsEdges graph new k u) edges_at_e i y i_is y_is)
          (expanded_before i y at within);
      late = λ is. absurd (idle_new i is);
      no_nearer = λ k j v w m n here there' a b. let zero_is : m ≡ 0 = near_now j v m a in omega arith;
      ended = λ within ended.
          ⊎_elim
          (λ (lt, before). value_elsewhere i (below_other i lt) ∙ (by_edges graph IsWide stored sound i y before).ended lt ended)
          (λ (i_is, y_is).
          at_e_of (λ k u. (view_of new).value k ≡ end_value (graph.ahead u))
          (ended_x (subst (λ (u : P). IsEnded graph u) y_is ended)) i y i_is y_is)
          (expanded_before i y at within);
      moving = λ within has.
          ⊎_elim
          (λ (lt, before).
          is_open y ((view_of new).value i) has
          (value_elsewhere i (below_other i lt) ∙ open_before y ((view_of stored).value i) ((by_edges graph IsWide stored sound i y before).moving lt has)))
          (λ (i_is, y_is).
          is_open y ((view_of new).value i) has
          (ap (λ (k : ℕ). (view_of new).value k) i_is ∙ moving_x (subst (λ (u : P). HasMove graph u) y_is has)))
          (expanded_before i y at within);
      waiting = λ le.
          let more : expanded_count new ≡ suc e = expanded_new in
          let other : i ≡ e → ⊥ = λ same. omega arith in
          value_elsewhere i other ∙ unvalued i (none_or_some ((view_of stored).value i)) (let ge : e ≤ i = omega arith in ge);
    }
      where
        unvalued : (i : ℕ) → ((view_of stored).value i ≡ None) ⊎ ((v : Player × ℕ) × ((view_of stored).value i ≡ Some v)) → e ≤ i
            → (view_of stored).value i ≡ None
        unvalued i (inl none) le = none
        unvalued i (inr (v, is)) le = let lt : i < e = settled_below i (is_some_at ((view_of stored).value i) v is) in absurd (omega arith)

    pub closed_sound : (IsWide x → ⊥) → IsLocallySound graph IsWide new
    closed_sound narrow = record {
      table = closed_fits;
      each = sound_from_edges graph new closed_fits each;
      narrow = λ i y at within.
          ⊎_elim
          (λ (lt, before). sound.narrow i y before lt)
          (λ (_, y_is) wide. narrow (subst (λ (u : P). IsWide u) y_is wide))
          (expanded_before i y at within);
    }

-- To expand the next position keeps a stored table sound.
pub expanded_sound : {P : Type 0} (cmp : P → P → Ordering) → IsTotalOrder cmp → (graph : Graph P) (IsWide : P → Type 0) (stored : Stored P)
    → IsLocallySound graph IsWide stored
    → (x : P) → HasNumber (view_of stored) (expanded_count stored) x → (ys : List P) → IsSuccessorList cmp graph x ys
    → (graph.mover x ≡ Role.Keeper → length ys ≤ 1)
    → (next : Stored P) → AreNoted (expanded_count stored) ys stored next → (IsWide x → ⊥)
    → IsLocallySound graph IsWide (with_expanded (expanded_count stored) (length ys) (graph.ahead x) next)
expanded_sound cmp laws graph IsWide stored sound x number ys list forced next noted narrow =
    closed_sound graph stored sound.table x number ys next noted
    (with_expanded (expanded_count stored) (length ys) (graph.ahead x) next)
    (closes (expanded_count stored) (length ys) (graph.ahead x) next) cmp laws IsWide sound list forced narrow

-- To expand the next position keeps the parts of a table together, sound or not.
pub an_expanded_table_fits : {P : Type 0} (graph : Graph P) (stored : Stored P) → IsTable stored → (x : P)
    → HasNumber (view_of stored) (expanded_count stored) x
    → (ys : List P) (next : Stored P) → AreNoted (expanded_count stored) ys stored next
    → IsTable (with_expanded (expanded_count stored) (length ys) (graph.ahead x) next)
an_expanded_table_fits graph stored table x number ys next noted =
    closed_fits graph stored table x number ys next noted
    (with_expanded (expanded_count stored) (length ys) (graph.ahead x) next)
    (closes (expanded_count stored) (length ys) (graph.ahead x) next)
