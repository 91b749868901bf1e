-- To process the next settled number keeps a stored table sound.
use Rattle.std.proofs.Common.{◌≡◌, ◌∙◌, ◌↔◌, sym, ap, subst, ℕ, suc, ◌+◌, ◌-◌, ◌≤◌, ◌<◌, ◌⊎◌, inl, inr, ⊎_elim, Bool, true, false, not, eqb, ◌&&◌, ◌||◌, cond, Option, Some, None, IsSome, option_map, option_and_then, List, length, set, refl, arith, slice_get}
use Rattle.std.specs.Prelude.{count_by}
use Rattle.std.proofs.lemmas.Option.{same_Some, slice_get_within, slice_get_past}
use Rattle.std.proofs.lemmas.Bool.{cases_lt, cases_eq, eqb-true, eq-eqb}
use Rattle.rbg_game.specs.declared.roles.Player.{Player}
use Rattle.rbg_game.specs.declared.roles.Player.TheVariants.{First, Second}
use Rattle.rbg_game.specs.declared.roles.Role.{Role}
use Rattle.rbg_game.specs.declared.roles.Role.TheVariants.{Keeper}
use Rattle.retrograde.specs.declared.records.State.{State}
use Rattle.retrograde.specs.declared.records.State.TheVariants.{Known, Expanded, Settled, Processed}
use Rattle.retrograde.specs.declared.records.Record.{Record}
use Rattle.retrograde.specs.Graph.{Graph, Moves, HasMove, IsEnded}
use Rattle.retrograde.specs.View.{HasNumber, IsProcessed}
use Rattle.retrograde.specs.Local.{end_value, IsMoveValue, IsLocalValue, at_end, by_moves, own_win, all_lead, still_open}
use Rattle.retrograde.specs.Stored.{Stored, HasRecord, FitsState, IsTable, is_expanded, is_processed, is_settled, processed_in, value_of, view_of, expanded_count, processed_count, count_below}
use Rattle.retrograde.specs.Audit.{IsReached}
use Rattle.retrograde.specs.Sound.{IsLocallySound}
use Rattle.retrograde.specs.ByEdges.{CountsItsEdges, IsSoundByEdgesAt}
use Rattle.retrograde.specs.Steps.{IsLocallyRight, IsDue, ProcessesNext}
use Rattle.retrograde.specs.Process.{has_turn, is_open, is_due, lowered, processed_record, with_processed_alone, IsNextSettled}
use Rattle.retrograde.specs.lemmas.ProcessSteps.{with_processed}
use Rattle.retrograde.proofs.Finished.{none_or_some, is_some_at, element}
use Rattle.retrograde.proofs.Local.{full_from_some, end_value_some}
use Rattle.retrograde.proofs.ByEdges.{by_edges, sound_from_edges}
use Rattle.retrograde.proofs.CountLemmas.{true_or_false, only_one}
use Rattle.retrograde.proofs.Predecessors.{get_set_same, get_set_other, count_set, AreLowered, below_keeps}
use Rattle.retrograde.proofs.Tables.{record_of, valued_within, processed_valued}
use Rattle.retrograde.proofs.Sound.{coherent, knows, forced, order, local, known_record, valued_known, risen, map_some}
use Rattle.retrograde.proofs.ProcessSteps.{IsCounted, won_settled, both, s_in, s_known, base_records, base_counted, s_waits, value_is, counted_below}
use Rattle.retrograde.proofs.Process.{processing}
use Rattle.retrograde.proofs.Additions.{count_same, count_past, count_one_more}
use Rattle.retrograde.proofs.Fallen.{IsDueAt, Falls, Orders, falls}

open_expanded : (st : State) → is_open st ≡ true → (true ≡ is_expanded st) × (false ≡ is_processed st)
open_expanded Known is = cc
open_expanded Expanded is = (refl, refl)
open_expanded Settled is = cc
open_expanded Processed is = cc

settled_expanded : (st : State) → is_settled st ≡ true → is_expanded st ≡ true
settled_expanded Known is = cc
settled_expanded Expanded is = cc
settled_expanded Settled is = refl
settled_expanded Processed is = refl

open_no_winner : (st : State) (q : Record) → FitsState st q → is_open st ≡ true → q.winner ≡ None
open_no_winner Known q fits is = cc
open_no_winner Expanded q fits is = fits.0
open_no_winner Settled q fits is = cc
open_no_winner Processed q fits is = cc

winner_value : (q : Record) → IsSome q.winner → value_of q ≡ None → ⊥
winner_value q some none =
    let value : IsSome (value_of q) = map_some q.winner q.distance some in
    let wrong : IsSome {T = Player × ℕ} None = subst (λ (o : Option (Player × ℕ)). IsSome o) none value in
    cc

unvalued_open : (st : State) (q : Record) → is_expanded st ≡ true → FitsState st q → value_of q ≡ None → is_open st ≡ true
unvalued_open Known q is fits none = cc
unvalued_open Expanded q is fits none = refl
unvalued_open Settled q is fits none = absurd (winner_value q fits none)
unvalued_open Processed q is fits none = absurd (winner_value q fits none)

fits_lower : (st : State) (q : Record) → FitsState st q → FitsState st (record q { left = q.left - 1 })
fits_lower Known q fits = let z : q.left ≡ 0 = fits.2 in (fits.0, fits.1, omega arith, fits.3)
fits_lower Expanded q fits = fits
fits_lower Settled q fits = fits
fits_lower Processed q fits = fits

turn_moves : (w : Player) (m : Role) → has_turn w m ≡ true → m ≡ Role.Player w
turn_moves w Keeper is = cc
turn_moves First (Role.Player First) is = refl
turn_moves First (Role.Player Second) is = cc
turn_moves Second (Role.Player First) is = cc
turn_moves Second (Role.Player Second) is = refl

own_turn : (w : Player) → has_turn w (Role.Player w) ≡ true
own_turn First = refl
own_turn Second = refl

either_true : (a b : Bool) → (a || b) ≡ true → (a ≡ true) ⊎ (b ≡ true)
either_true true b is = inl refl
either_true false b is = inr is

second_true : (a b : Bool) → (a && b) ≡ true → b ≡ true
second_true true b is = is
second_true false b is = cc

or_second : (a b : Bool) → b ≡ true → (a || b) ≡ true
or_second true b is = refl
or_second false b is = is

passes : (a b : Bool) → a ≡ true → b ≡ false → (a && not b) ≡ true
passes a b is none = rw (is, none) refl

passed : (a b : Bool) → (a && not b) ≡ true → (a ≡ true) × (b ≡ false)
passed true true is = cc
passed true false is = (refl, refl)
passed false b is = cc

fails_done : (a b : Bool) → b ≡ true → (a && not b) ≡ false
fails_done true b is = rw is refl
fails_done false b is = refl

none_below : (n : ℕ) → count_below n (λ k. false) ≡ 0
none_below n = let e : n ≡ 0 + n = omega arith in ap (λ (m : ℕ). count_below m (λ k. false)) e ∙ count_past 0 n (λ k. false) (λ j le. refl)

-- one number alone passes
count_single : (n s : ℕ) (test : ℕ → Bool) → s < n → test s ≡ true → ((j : ℕ) → (j ≡ s → ⊥) → test j ≡ false) → count_below n test ≡ 1
count_single n s test lt is others =
    let more : count_below n test ≡ suc (count_below n (λ k. false)) = count_one_more n s (λ k. false) test lt refl is others in
    let none : count_below n (λ k. false) ≡ 0 = none_below n in
    omega arith

module _ (w : Player) (d : ℕ) where
  -- what becomes of a record
  record Fell (m : Role) (q now : Record) : Type 0 where
    pub successors : now.successors ≡ q.successors
    pub left : now.left ≡ q.left - 1
    pub expanded : is_expanded now.state ≡ is_expanded q.state
    pub processed : is_processed now.state ≡ is_processed q.state
    pub due : is_due m w q ≡ true → value_of now ≡ Some (w, suc d)
    pub same : is_due m w q ≡ false → value_of now ≡ value_of q
    pub fits : FitsState q.state q → FitsState now.state now

  fell : (m : Role) (q : Record) → Fell m q (lowered m w d q)
  fell m q = go (is_due m w q) refl
    where
      go : (b : Bool) → is_due m w q ≡ b
          → Fell m q (cond b (record { state = Settled; winner = Some w; distance = d + 1; left = q.left - 1; successors = q.successors })
          (record q { left = q.left - 1 }))
      go true is =
          let opened : is_open q.state ≡ true = both (is_open q.state) (has_turn w m || eqb q.left 1) is in
          record {
            successors = refl;
            left = refl;
            expanded = (open_expanded q.state opened).0;
            processed = (open_expanded q.state opened).1;
            due = λ _. let e : d + 1 ≡ suc d = omega arith in ap (λ (n : ℕ). Some (w, n)) e;
            same = λ none. cc;
            fits = λ _. refl;
          }
      go false is = record {
        successors = refl;
        left = refl;
        expanded = refl;
        processed = refl;
        due = λ due. cc;
        same = λ _. refl;
        fits = λ fits. fits_lower q.state q fits;
      }

module _ {P : Type 0} (graph : Graph P) (stored : Stored P) (table : IsTable stored) (full : expanded_count stored ≡ length stored.positions)
    (s : ℕ) (r : Record) (w : Player) (next : IsNextSettled stored s r w) where
  abbrev d : ℕ
  d = r.distance

  abbrev size : ℕ
  size = length stored.positions

  abbrev base : Stored P
  base = with_processed_alone s r stored

  s_within : s < size
  s_within = s_known stored table s r w next r.distance refl

  waits : (view_of stored).processed s ≡ false
  waits = s_waits stored table s r w next r.distance refl

  s_value : (view_of stored).value s ≡ Some (w, r.distance)
  s_value = value_is stored table s r w next r.distance refl

  r_settled : is_settled r.state ≡ true
  r_settled = won_settled r.state r w (table.states s r next.has) next.won

  base_s : HasRecord base s (processed_record r)
  base_s = get_set_same stored.records s (processed_record r) (s_in stored table s r w next r.distance refl)

  base_other : (i : ℕ) → (i ≡ s → ⊥) → slice_get base.records i ≡ slice_get stored.records i
  base_other i other = get_set_other stored.records s i (processed_record r) (λ e. other (sym e))

  value_old : (i : ℕ) (q : Record) → HasRecord stored i q → (view_of stored).value i ≡ value_of q
  value_old i q has = ap (λ (o : Option Record). option_and_then value_of o) has

  -- what is due was open
  due_open : (m : Role) (q : Record) → is_due m w q ≡ true → is_open q.state ≡ true
  due_open m q due = both (is_open q.state) (has_turn w m || eqb q.left 1) due

  due_none : (i : ℕ) (m : Role) (q : Record) → HasRecord stored i q → is_due m w q ≡ true → (view_of stored).value i ≡ None
  due_none i m q has due =
      value_old i q has
      ∙ ap (λ (o : Option Player). option_map (λ (v : Player). (v, q.distance)) o) (open_no_winner q.state q (table.states i q has) (due_open m q due))

  due_other : (i : ℕ) (m : Role) (q : Record) → HasRecord stored i q → is_due m w q ≡ true → i ≡ s → ⊥
  due_other i m q has due same =
      let none : (view_of stored).value i ≡ None = due_none i m q has due in
      let some : (view_of stored).value i ≡ Some (w, r.distance) = subst (λ (k : ℕ). (view_of stored).value k ≡ Some (w, r.distance)) (sym same) s_value in
      cc

  -- what is due by the table as it was
  due_before : (i : ℕ) → IsDueAt graph s w d base i → (x : P) × (q : Record) × HasNumber (view_of stored) i x × HasRecord stored i q
      × (is_due (graph.mover x) w q ≡ true)
  due_before i due =
      ⊎_elim
      (λ same.
      let q_is : processed_record r ≡ due.kept = same_Some (processed_record r) due.kept
      (sym base_s ∙ subst (λ (k : ℕ). HasRecord base k due.kept) same due.has) in
      let wrong : is_due (graph.mover due.position) w (processed_record r) ≡ true = subst
      (λ (q : Record). is_due (graph.mover due.position) w q ≡ true) (sym q_is) due.due in
      cc)
      (λ other. (due.position, due.kept, due.at, sym (base_other i other) ∙ due.has, due.due))
      (cases_eq i s)

  due_now : (i : ℕ) (x : P) (q : Record) → HasNumber (view_of stored) i x → HasRecord stored i q → stored.has_edge s i ≡ true
      → is_due (graph.mover x) w q ≡ true → IsDueAt graph s w d base i
  due_now i x q at has edge due = record {
    edge = edge;
    position = x;
    kept = q;
    at = at;
    has = base_other i (due_other i (graph.mover x) q has due) ∙ has;
    due = due;
  }

  pub fresh : (k i : ℕ) → slice_get stored.order k ≡ Some i → IsDueAt graph s w d base i → ⊥
  fresh k i at due =
      let (x, q, _, has, is) = due_before i due in
      let some : IsSome ((view_of stored).value i) = table.settled k i at in
      let wrong : IsSome {T = Player × ℕ} None = subst (λ (o : Option (Player × ℕ)). IsSome o) (due_none i (graph.mover x) q has is) some in
      cc

  module _ (new : Stored P) (leaves : AreLowered graph w d size base new) (fall : Falls graph s w d base size new)
      (orders : Orders graph s w d base size new.order) (counts : IsCounted new) where
    -- the record of i, which has position x, then
    record Now (i : ℕ) (x : P) (q : Record) : Type 0 where
      pub now : Record
      pub has : HasRecord new i now
      pub successors : now.successors ≡ q.successors
      pub left_less : stored.has_edge s i ≡ true → now.left ≡ q.left - 1
      pub left_same : stored.has_edge s i ≡ false → now.left ≡ q.left
      pub expanded : is_expanded now.state ≡ is_expanded q.state
      pub processed_s : i ≡ s → is_processed now.state ≡ true
      pub processed_other : (i ≡ s → ⊥) → is_processed now.state ≡ is_processed q.state
      pub due : stored.has_edge s i ≡ true → is_due (graph.mover x) w q ≡ true → value_of now ≡ Some (w, suc d)
      pub same : (stored.has_edge s i ≡ true → is_due (graph.mover x) w q ≡ true → ⊥) → value_of now ≡ value_of q
      pub fits : FitsState now.state now

    now_s : (x : P) → HasNumber (view_of stored) s x → (b : Bool) → stored.has_edge s s ≡ b → Now s x r
    now_s x at true edge =
        let it : Fell w d (graph.mover x) (processed_record r) (lowered (graph.mover x) w d (processed_record r)) = fell w d (graph.mover x)
        (processed_record r) in
        record {
          now = lowered (graph.mover x) w d (processed_record r);
          has = fall.lowers s x (processed_record r) s_within at base_s edge;
          successors = it.successors;
          left_less = λ _. it.left;
          left_same = λ none. cc;
          expanded = it.expanded ∙ sym (settled_expanded r.state r_settled);
          processed_s = λ _. it.processed;
          processed_other = λ other. absurd (other refl);
          due = λ _ is. absurd (due_other s (graph.mover x) r next.has is refl);
          same = λ _. it.same refl;
          fits = it.fits (is_some_at r.winner w next.won);
        }
    now_s x at false edge = record {
      now = processed_record r;
      has = fall.stays s (processed_record r) base_s edge;
      successors = refl;
      left_less = λ is. cc;
      left_same = λ _. refl;
      expanded = sym (settled_expanded r.state r_settled);
      processed_s = λ _. refl;
      processed_other = λ other. absurd (other refl);
      due = λ _ is. absurd (due_other s (graph.mover x) r next.has is refl);
      same = λ _. refl;
      fits = is_some_at r.winner w next.won;
    }

    now_other : (i : ℕ) (x : P) (q : Record) → i < size → (i ≡ s → ⊥) → HasNumber (view_of stored) i x → HasRecord stored i q → (b : Bool)
        → stored.has_edge s i ≡ b → Now i x q
    now_other i x q lt other at has true edge =
        let it : Fell w d (graph.mover x) q (lowered (graph.mover x) w d q) = fell w d (graph.mover x) q in
        record {
          now = lowered (graph.mover x) w d q;
          has = fall.lowers i x q lt at (base_other i other ∙ has) edge;
          successors = it.successors;
          left_less = λ _. it.left;
          left_same = λ none. cc;
          expanded = it.expanded;
          processed_s = λ same. absurd (other same);
          processed_other = λ _. it.processed;
          due = λ _ is. it.due is;
          same = λ none. ⊎_elim (λ is. absurd (none edge is)) (λ is. it.same is) (true_or_false (is_due (graph.mover x) w q));
          fits = it.fits (table.states i q has);
        }
    now_other i x q lt other at has false edge = record {
      now = q;
      has = fall.stays i q (base_other i other ∙ has) edge;
      successors = refl;
      left_less = λ is. cc;
      left_same = λ _. refl;
      expanded = refl;
      processed_s = λ same. absurd (other same);
      processed_other = λ _. refl;
      due = λ is _. cc;
      same = λ _. refl;
      fits = table.states i q has;
    }

    now_at : (i : ℕ) (x : P) (q : Record) → HasNumber (view_of stored) i x → HasRecord stored i q → Now i x q
    now_at i x q at has =
        ⊎_elim
        (λ same.
        let at' : HasNumber (view_of stored) s x = subst (λ (k : ℕ). HasNumber (view_of stored) k x) same at in
        let q_is : r ≡ q = same_Some r q (sym next.has ∙ subst (λ (k : ℕ). HasRecord stored k q) same has) in
        subst (λ (k : ℕ). Now k x q) (sym same) (subst (λ (o : Record). Now s x o) q_is (now_s x at' (stored.has_edge s s) refl)))
        (λ other. now_other i x q (slice_get_within stored.positions i x at) other at has (stored.has_edge s i) refl)
        (cases_eq i s)

    look : (i : ℕ) → i < size → (x : P) × (q : Record) × HasNumber (view_of stored) i x × HasRecord stored i q × Now i x q
    look i lt =
        let (x, at) = element stored.positions i lt in
        let (q, has) = record_of stored table i lt in
        (x, q, at, has, now_at i x q at has)

    -- sizes and edges
    record_count : length new.records ≡ size
    record_count = leaves.lengths ∙ base_records stored table s r w next r.distance refl

    position_count : length new.positions ≡ size
    position_count = ap (λ (xs : List P). length xs) leaves.positions

    number_after : (i : ℕ) (x : P) → HasNumber (view_of stored) i x → HasNumber (view_of new) i x
    number_after i x at = ap (λ (xs : List P). slice_get xs i) leaves.positions ∙ at

    number_before : (i : ℕ) (x : P) → HasNumber (view_of new) i x → HasNumber (view_of stored) i x
    number_before i x at = ap (λ (xs : List P). slice_get xs i) (sym leaves.positions) ∙ at

    edge_is : (i p : ℕ) → new.has_edge i p ≡ stored.has_edge i p
    edge_is i p = ap (λ (h : ℕ → ℕ → Bool). h i p) leaves.has_edge

    value_new : (i : ℕ) (x : P) (q : Record) → (it : Now i x q) → (view_of new).value i ≡ value_of it.now
    value_new i x q it = ap (λ (o : Option Record). option_and_then value_of o) it.has

    past : (i : ℕ) → size ≤ i → slice_get new.records i ≡ None
    past i le = let same : length new.records ≡ size = record_count in slice_get_past new.records i (omega arith)

    -- counts
    expanded_same : expanded_count new ≡ expanded_count stored
    expanded_same =
        let fallen : count_by (λ (q : Record). is_expanded q.state) new.records ≡ count_by (λ (q : Record). is_expanded q.state)
        (set stored.records s (processed_record r))
        = fall.count (λ (q : Record). is_expanded q.state) (λ m q. (fell w d m q).expanded) in
        let total : count_by (λ (q : Record). is_expanded q.state) (set stored.records s (processed_record r)) + cond (is_expanded r.state) 1 0
        ≡ count_by (λ (q : Record). is_expanded q.state) stored.records + 1 = count_set
        (λ (q : Record). is_expanded q.state) stored.records s r (processed_record r) next.has in
        let one : ◌≡◌ {A = ℕ} (cond (is_expanded r.state) 1 0) 1 = ap (λ (b : Bool). cond b 1 0) (settled_expanded r.state r_settled) in
        omega arith

    processed_more : processed_count new ≡ suc (processed_count stored)
    processed_more =
        let fallen : count_by (λ (q : Record). is_processed q.state) new.records ≡ count_by (λ (q : Record). is_processed q.state)
        (set stored.records s (processed_record r))
        = fall.count (λ (q : Record). is_processed q.state) (λ m q. (fell w d m q).processed) in
        let total : count_by (λ (q : Record). is_processed q.state) (set stored.records s (processed_record r)) + cond (is_processed r.state) 1 0
        ≡ count_by (λ (q : Record). is_processed q.state) stored.records + 1 = count_set
        (λ (q : Record). is_processed q.state) stored.records s r (processed_record r) next.has in
        let waiting : is_processed r.state ≡ false = ap (λ (o : Option Record). processed_in o) (sym next.has) ∙ waits in
        let none : ◌≡◌ {A = ℕ} (cond (is_processed r.state) 1 0) 0 = ap (λ (b : Bool). cond b 1 0) waiting in
        omega arith

    full_new : expanded_count new ≡ size
    full_new = expanded_same ∙ full

    -- processed
    processed_old : (i : ℕ) (q : Record) → HasRecord stored i q → (view_of stored).processed i ≡ is_processed q.state
    processed_old i q has = ap (λ (o : Option Record). processed_in o) has

    s_done : (view_of new).processed s ≡ true
    s_done = let (x, q, at, has, it) = look s s_within in ap (λ (o : Option Record). processed_in o) it.has ∙ it.processed_s refl

    others_same : (i : ℕ) → (i ≡ s → ⊥) → (view_of new).processed i ≡ (view_of stored).processed i
    others_same i other =
        ⊎_elim
        (λ lt.
        let (x, q, at, has, it) = look i lt in
        ap (λ (o : Option Record). processed_in o) it.has ∙ (it.processed_other other ∙ sym (processed_old i q has)))
        (λ le.
        let same : length stored.records ≡ length stored.positions = table.records in
        let le' : length stored.records ≤ i = omega arith in
        ap (λ (o : Option Record). processed_in o) (past i le) ∙ sym (ap (λ (o : Option Record). processed_in o) (slice_get_past stored.records i le')))
        (cases_lt i size)

    processed_iff : (i : ℕ) → ((view_of new).processed i ≡ true) ↔ (((view_of stored).processed i ≡ true) ⊎ (i ≡ s))
    processed_iff i = (
      (λ is. ⊎_elim (λ same. inr same) (λ other. inl (sym (others_same i other) ∙ is)) (cases_eq i s)),
      (λ either.
          ⊎_elim
          (λ is.
          let other : i ≡ s → ⊥ = λ same. let no_way : (view_of stored).processed s ≡ true = subst
          (λ (k : ℕ). (view_of stored).processed k ≡ true) same is in let none : (view_of stored).processed s ≡ false = waits in cc in
          others_same i other ∙ is)
          (λ same. subst (λ (k : ℕ). (view_of new).processed k ≡ true) (sym same) s_done)
          either),
    )

    -- what is settled stays so
    value_kept : (i : ℕ) (value : Player × ℕ) → (view_of stored).value i ≡ Some value → (view_of new).value i ≡ Some value
    value_kept i value is =
        let (x, q, at, has, it) = look i (valued_within stored table i (is_some_at ((view_of stored).value i) value is)) in
        value_new i x q it
        ∙ (it.same (λ edge due. let none : (view_of stored).value i ≡ None = due_none i (graph.mover x) q has due in cc)
        ∙ (sym (value_old i q has) ∙ is))

    due_value : (i : ℕ) → IsDueAt graph s w d base i → (view_of new).value i ≡ Some (w, suc d)
    due_value i due =
        let (x, q, at, has, is) = due_before i due in
        let it : Now i x q = now_at i x q at has in
        value_new i x q it ∙ it.due due.edge is

    place_within : processed_count stored < length stored.order
    place_within = slice_get_within stored.order (processed_count stored) s next.place

    due_waits : (i : ℕ) → IsDueAt graph s w d base i → (view_of new).processed i ≡ true → ⊥
    due_waits i due is =
        let (x, q, at, has, is_due') = due_before i due in
        ⊎_elim
        (λ was.
        let wrong : IsSome {T = Player × ℕ} None = subst (λ (o : Option (Player × ℕ)). IsSome o) (due_none i (graph.mover x) q has is_due')
        (processed_valued stored table i was) in
        cc)
        (λ same. due_other i (graph.mover x) q has is_due' same)
        ((processed_iff i).0 is)

    -- the parts fit together then
    pub lowered_fits : IsTable new
    lowered_fits = record {
      started = let same : length new.positions ≡ size = position_count in let lt : s < size = s_within in omega arith;
      records = record_count ∙ sym position_count;
      distinct = λ i j x here there. table.distinct i j x (number_before i x here) (number_before j x there);
      states = λ i q has.
          let (_, _, _, _, it) = look i (within_of i q has) in
          subst (λ (o : Record). FitsState o.state o) (same_Some it.now q (sym it.has ∙ has)) it.fits;
      expanded = λ i q has.
          let all : expanded_count new ≡ size = full_new in
          let lt : i < size = within_of i q has in
          let (x, q', at, had, it) = look i lt in
          let full' : expanded_count stored ≡ size = full in
          let was : is_expanded q'.state ≡ true = (table.expanded i q' had).1 (omega arith) in
          ((λ _. omega arith), (λ _. subst (λ (o : Record). is_expanded o.state ≡ true) (same_Some it.now q (sym it.has ∙ has)) (it.expanded ∙ was)));
      listed = λ i some. listed i some (none_or_some ((view_of stored).value i));
      settled = λ k i at.
          ⊎_elim
          (λ before. let (value, had) = full_from_some ((view_of stored).value i) (table.settled k i before) in
          is_some_at ((view_of new).value i) value (value_kept i value had))
          (λ (_, _, due). is_some_at ((view_of new).value i) (w, suc d) (due_value i due))
          (orders.found k i at);
      counted = counts;
      once = orders.once;
      processed = λ k i at.
          let more : processed_count new ≡ suc (processed_count stored) = processed_more in
          ⊎_elim
          (λ before. (
            (λ is.
                ⊎_elim
                (λ was. let lt : k < processed_count stored = (table.processed k i before).0 was in omega arith)
                (λ same.
                let place : k ≡ processed_count stored = table.once k (processed_count stored) s (before ∙ ap (λ (l : ℕ). Some l) same) next.place in
                omega arith)
                ((processed_iff i).0 is)),
            (λ lt.
                ⊎_elim
                (λ below. (processed_iff i).1 (inl ((table.processed k i before).1 below)))
                (λ above.
                let place : processed_count stored ≡ k = omega arith in
                let at_k : slice_get stored.order k ≡ Some s = subst (λ (l : ℕ). slice_get stored.order l ≡ Some s) place next.place in
                (processed_iff i).1 (inr (same_Some i s (sym before ∙ at_k))))
                (cases_lt k (processed_count stored))),
          ))
          (λ (le, _, due). (
            (λ is. absurd (due_waits i due is)),
            (λ lt. let within : processed_count stored < length stored.order = place_within in absurd (omega arith)),
          ))
          (orders.found k i at);
      edges = λ i j is.
          let same : length new.positions ≡ size = position_count in
          let (p, q) = table.edges i j (sym (edge_is i j) ∙ is) in
          let p' : i < length new.positions = omega arith in
          let q' : j < length new.positions = omega arith in
          (p', q');
    }
      where
        within_of : (i : ℕ) (q : Record) → HasRecord new i q → i < size
        within_of i q has =
            let lt : i < length new.records = slice_get_within new.records i q has in
            let same : length new.records ≡ size = record_count in
            omega arith

        listed : (i : ℕ) → IsSome ((view_of new).value i) → ((view_of stored).value i ≡ None) ⊎
            ((value : Player × ℕ) × ((view_of stored).value i ≡ Some value)) → (k : ℕ) × (slice_get new.order k ≡ Some i)
        listed i some (inr (value, had)) =
            let (k, at) = table.listed i (is_some_at ((view_of stored).value i) value had) in
            (k, orders.kept k i at)
        listed i some (inl none) =
            let (x, q, at, has, it) = look i lt in
            orders.made i lt (due_of x q at has it (stored.has_edge s i) refl (is_due (graph.mover x) w q) refl)
          where
            lt : i < size
            lt =
                ⊎_elim
                (λ is. is)
                (λ le.
                let empty : (view_of new).value i ≡ None = ap (λ (o : Option Record). option_and_then value_of o) (past i le) in
                let wrong : IsSome {T = Player × ℕ} None = subst (λ (o : Option (Player × ℕ)). IsSome o) empty some in
                cc)
                (cases_lt i size)

            no_value : (x : P) (q : Record) → HasRecord stored i q → (it : Now i x q) → (stored.has_edge s i ≡ true → is_due (graph.mover x) w q ≡ true → ⊥) → ⊥
            no_value x q has it off =
                let empty : (view_of new).value i ≡ None = value_new i x q it ∙ (it.same off ∙ (sym (value_old i q has) ∙ none)) in
                let wrong : IsSome {T = Player × ℕ} None = subst (λ (o : Option (Player × ℕ)). IsSome o) empty some in
                cc

            due_of : (x : P) (q : Record) → HasNumber (view_of stored) i x → HasRecord stored i q → Now i x q
                → (a : Bool) → stored.has_edge s i ≡ a → (b : Bool) → is_due (graph.mover x) w q ≡ b → IsDueAt graph s w d base i
            due_of x q at has it true edge true due = due_now i x q at has edge due
            due_of x q at has it true edge false off = absurd (no_value x q has it (λ _ due. cc))
            due_of x q at has it false off b any = absurd (no_value x q has it (λ edge _. cc))

    module _ (IsWide : P → Type 0) (sound : IsLocallySound graph IsWide stored) where
      -- the edges from i that are left
      abbrev left_old : ℕ → ℕ → Bool
      left_old i j = stored.has_edge j i && not ((view_of stored).processed j)

      abbrev left_now : ℕ → ℕ → Bool
      left_now i j = stored.has_edge j i && not ((view_of new).processed j)

      edges_of : (i : ℕ) (x : P) → HasNumber (view_of stored) i x → CountsItsEdges graph stored i x
      edges_of i x at = (by_edges graph IsWide stored sound i x at).moves_are_edges
          (let lt : i < size = slice_get_within stored.positions i x at in let all : expanded_count stored ≡ size = full in omega arith)

      left_counts : (i : ℕ) → count_below (length new.positions) (λ j. new.has_edge j i && not ((view_of new).processed j)) ≡ count_below size (left_now i)
      left_counts i =
          ap (λ (n : ℕ). count_below n (λ j. new.has_edge j i && not ((view_of new).processed j))) position_count
          ∙ ap (λ (h : ℕ → ℕ → Bool). count_below size (λ j. h j i && not ((view_of new).processed j))) leaves.has_edge

      edge_counts : (i : ℕ) → count_below (length new.positions) (λ j. new.has_edge j i) ≡ count_below size (λ j. stored.has_edge j i)
      edge_counts i =
          ap (λ (n : ℕ). count_below n (λ j. new.has_edge j i)) position_count
          ∙ ap (λ (h : ℕ → ℕ → Bool). count_below size (λ j. h j i)) leaves.has_edge

      one_less : (i : ℕ) → stored.has_edge s i ≡ true → count_below size (left_old i) ≡ suc (count_below size (left_now i))
      one_less i edge =
          count_one_more size s (left_now i) (left_old i) s_within
          (fails_done (stored.has_edge s i) ((view_of new).processed s) s_done)
          (passes (stored.has_edge s i) ((view_of stored).processed s) edge waits)
          (λ k other. ap (λ (b : Bool). stored.has_edge k i && not b) (sym (others_same k other)))

      no_less : (i : ℕ) → stored.has_edge s i ≡ false → count_below size (left_now i) ≡ count_below size (left_old i)
      no_less i none =
          count_same size (left_now i) (left_old i)
          (λ j lt.
          ⊎_elim
          (λ same.
          let off : stored.has_edge j i ≡ false = subst (λ (k : ℕ). stored.has_edge k i ≡ false) (sym same) none in
          ap (λ (b : Bool). b && not ((view_of new).processed j)) off ∙ sym (ap (λ (b : Bool). b && not ((view_of stored).processed j)) off))
          (λ other. ap (λ (b : Bool). stored.has_edge j i && not b) (others_same j other))
          (cases_eq j s))

      -- where one edge is left, all that i leads to is processed
      all_done : (i : ℕ) (x : P) (q : Record) (at : HasNumber (view_of stored) i x) → HasRecord stored i q → stored.has_edge s i ≡ true → q.left ≡ 1
          → (y : P) → graph.Successor x y → IsProcessed (view_of new) y
      all_done i x q at has edge one y move =
          let (j, j_at, j_edge) = (edges_of i x at).each y move in
          (j, number_after j y j_at, go j j_edge (slice_get_within stored.positions j y j_at) (true_or_false ((view_of stored).processed j)))
        where
          go : (j : ℕ) → stored.has_edge j i ≡ true → j < size
              → ((view_of stored).processed j ≡ true) ⊎ ((view_of stored).processed j ≡ false) → (view_of new).processed j ≡ true
          go j j_edge j_in (inl is) = (processed_iff j).1 (inl is)
          go j j_edge j_in (inr none) =
              let total : q.left ≡ count_below size (left_old i) = (edges_of i x at).left q has in
              let most : count_below size (left_old i) ≤ 1 = omega arith in
              let same : j ≡ s = only_one (left_old i) size j s most j_in s_within
              (passes (stored.has_edge j i) ((view_of stored).processed j) j_edge none)
              (passes (stored.has_edge s i) ((view_of stored).processed s) edge waits) in
              (processed_iff j).1 (inr same)

      -- and the other way round
      one_left : (i : ℕ) (x : P) (q : Record) (at : HasNumber (view_of stored) i x) → HasRecord stored i q → stored.has_edge s i ≡ true
          → ((y : P) → graph.Successor x y → IsProcessed (view_of new) y) → q.left ≡ 1
      one_left i x q at has edge all =
          (edges_of i x at).left q has
          ∙ count_single size s (left_old i) s_within (passes (stored.has_edge s i) ((view_of stored).processed s) edge waits)
          (λ j other. ⊎_elim (λ is. absurd (other (only_s j is))) (λ none. none) (true_or_false (left_old i j)))
        where
          only_s : (j : ℕ) → left_old i j ≡ true → j ≡ s
          only_s j is =
              let (j_edge, none) = passed (stored.has_edge j i) ((view_of stored).processed j) is in
              let (y, j_at) = element stored.positions j ((table.edges j i j_edge).0) in
              let (z, z_at, _, move) = (by_edges graph IsWide stored sound j y j_at).edges_are_moves i j_edge in
              let z_is : z ≡ x = same_Some z x (sym z_at ∙ at) in
              let (k, k_at, done) = all y (subst (λ (u : P). graph.Successor u y) z_is move) in
              let same : k ≡ j = table.distinct k j y (number_before k y k_at) j_at in
              let done' : (view_of new).processed j ≡ true = subst (λ (l : ℕ). (view_of new).processed l ≡ true) same done in
              ⊎_elim (λ was. cc) (λ e. e) ((processed_iff j).0 done')

      -- an unsettled number is due or is not
      abbrev IsEither : ℕ → P → Type 0
      IsEither i x = (IsDue graph (view_of new) s w x × ((view_of new).value i ≡ Some (w, suc d))) ⊎
          ((IsDue graph (view_of new) s w x → ⊥) × ((view_of new).value i ≡ None))

      due_or_not : (i : ℕ) (x : P) → HasNumber (view_of stored) i x → (q : Record) → HasRecord stored i q → Now i x q
          → (view_of stored).value i ≡ None → IsEither i x
      due_or_not i x at q has it none = by_edge (stored.has_edge s i) refl
        where
          none_q : value_of q ≡ None
          none_q = sym (value_old i q has) ∙ none

          opened : is_open q.state ≡ true
          opened =
              unvalued_open q.state q
              ((table.expanded i q has).1 (let lt : i < size = slice_get_within stored.positions i x at in
              let all : expanded_count stored ≡ size = full in omega arith))
              (table.states i q has) none_q

          -- only by an edge can it be due
          needs_edge : IsDue graph (view_of new) s w x → stored.has_edge s i ≡ true
          needs_edge ((z, z_at, move), why) =
              let (j, j_at, edge) = (edges_of i x at).each z move in
              let same : j ≡ s = table.distinct j s z j_at (number_before s z z_at) in
              subst (λ (k : ℕ). stored.has_edge k i ≡ true) same edge

          leads : stored.has_edge s i ≡ true → (z : P) × HasNumber (view_of new) s z × graph.Successor x z
          leads edge =
              let (z, z_at) = element stored.positions s s_within in
              let (u, u_at, _, move) = (by_edges graph IsWide stored sound s z z_at).edges_are_moves i edge in
              let same : u ≡ x = same_Some u x (sym u_at ∙ at) in
              (z, number_after s z z_at, subst (λ (v : P). graph.Successor v z) same move)

          why : stored.has_edge s i ≡ true → is_due (graph.mover x) w q ≡ true → Moves graph w x ⊎ ((y : P) → graph.Successor x y → IsProcessed (view_of new) y)
          why edge due =
              ⊎_elim
              (λ turn. inl (turn_moves w (graph.mover x) turn))
              (λ one. inr (all_done i x q at has edge (eqb-true q.left 1 one)))
              (either_true (has_turn w (graph.mover x)) (eqb q.left 1) (second_true (is_open q.state) (has_turn w (graph.mover x) || eqb q.left 1) due))

          not_due : stored.has_edge s i ≡ true → is_due (graph.mover x) w q ≡ false → IsDue graph (view_of new) s w x → ⊥
          not_due edge off (_, inl turn) =
              let its : has_turn w (graph.mover x) ≡ true = ap (λ (m : Role). has_turn w m) turn ∙ own_turn w in
              let due : is_due (graph.mover x) w q ≡ true = rw (opened, its) refl in
              cc
          not_due edge off (_, inr all) =
              let one : eqb q.left 1 ≡ true = eq-eqb q.left 1 (one_left i x q at has edge all) in
              let due : is_due (graph.mover x) w q ≡ true = rw opened (or_second (has_turn w (graph.mover x)) (eqb q.left 1) one) in
              cc

          by_due : stored.has_edge s i ≡ true → (b : Bool) → is_due (graph.mover x) w q ≡ b → IsEither i x
          by_due edge true due = inl ((leads edge, why edge due), value_new i x q it ∙ it.due edge due)
          by_due edge false off = inr (not_due edge off, value_new i x q it ∙ (it.same (λ _ due. cc) ∙ none_q))

          by_edge : (b : Bool) → stored.has_edge s i ≡ b → IsEither i x
          by_edge true edge = by_due edge (is_due (graph.mover x) w q) refl
          by_edge false off = inr (
            (λ due. let edge : stored.has_edge s i ≡ true = needs_edge due in cc),
            value_new i x q it ∙ (it.same (λ edge _. cc) ∙ none_q),
          )

      was_right : IsLocallyRight graph (view_of stored)
      was_right = record {
        coherent = coherent graph IsWide stored sound;
        moves = knows graph IsWide stored sound;
        keeper = forced graph IsWide stored sound;
        order = order graph IsWide stored sound;
        local = local graph IsWide stored sound;
      }

      nearest : (i : ℕ) (v : Player) (n : ℕ) → (view_of stored).processed i ≡ false → (view_of stored).value i ≡ Some (v, n) → d ≤ n
      nearest i v n waiting is =
          let (k, at) = table.listed i (is_some_at ((view_of stored).value i) (v, n) is) in
          ⊎_elim
          (λ lt. let done : (view_of stored).processed i ≡ true = (table.processed k i at).1 lt in cc)
          (λ le.
          let apart : k ≡ processed_count stored + (k - processed_count stored) = omega arith in
          let at' : slice_get stored.order (processed_count stored + (k - processed_count stored)) ≡ Some i = subst
          (λ (l : ℕ). slice_get stored.order l ≡ Some i) apart at in
          risen graph IsWide stored sound (k - processed_count stored) (processed_count stored) s i w v d n next.place at' s_value is)
          (cases_lt k (processed_count stored))

      pub processes : ProcessesNext graph (view_of stored) s w d (view_of new)
      processes = record {
        all_expanded = full;
        settled = s_value;
        waits = waits;
        nearest = nearest;
        known = leaves.positions;
        expanded = expanded_same;
        processed = processed_iff;
        kept = value_kept;
        due = λ i x at none.
            let (q, has) = known_record graph IsWide stored sound i (slice_get_within stored.positions i x (number_before i x at)) in
            due_or_not i x (number_before i x at) q has (now_at i x q (number_before i x at) has) none;
        none_outside = λ i le.
            let same : length new.positions ≡ size = position_count in
            ap (λ (o : Option Record). option_and_then value_of o) (past i (omega arith));
      }

      now_right : IsLocallyRight graph (view_of new)
      now_right = processing graph (view_of stored) (view_of new) s w d was_right processes

      -- what is settled is at most one farther than s
      not_far : (i : ℕ) (v : Player) (m : ℕ) → (view_of stored).value i ≡ Some (v, m) → m ≤ suc d
      not_far i v m is = go (local graph IsWide stored sound i x at below)
        where
          some : IsSome ((view_of stored).value i)
          some = is_some_at ((view_of stored).value i) (v, m) is

          below : i < expanded_count stored
          below = (coherent graph IsWide stored sound).settled i some

          x : P
          x = (element stored.positions i (valued_known graph IsWide stored sound i some)).0

          at : HasNumber (view_of stored) i x
          at = (element stored.positions i (valued_known graph IsWide stored sound i some)).1

          done_within : (k : ℕ) (u : Player) (n : ℕ) → (view_of stored).processed k ≡ true → (view_of stored).value k ≡ Some (u, n) → n ≤ d
          done_within k u n done value = (order graph IsWide stored sound).rising k s u w n d done value waits s_value

          next_is : (u : Player) (n : ℕ) → (view_of stored).value i ≡ Some (u, suc n) → m ≡ suc n
          next_is u n value = ap (λ (q : Player × ℕ). q.1) (same_Some (v, m) (u, suc n) (sym is ∙ value))

          go : IsLocalValue graph (view_of stored) x ((view_of stored).value i) → m ≤ suc d
          go (at_end ended value) = let e : m ≡ 0 = (end_value_some (graph.ahead x) v m (sym value ∙ is)).1 in omega arith
          go (by_moves has (own_win u n win value)) =
              let (y, move, (k, k_at, done, there)) = win.nearest in
              let le : n ≤ d = done_within k u n done there in
              let e : m ≡ suc n = next_is u n value in
              omega arith
          go (by_moves has (all_lead u n none_own all value)) =
              let (y, move, (k, k_at, done, there)) = all.farthest in
              let le : n ≤ d = done_within k u n done there in
              let e : m ≡ suc n = next_is u n value in
              omega arith
          go (by_moves has (still_open none_own some_left value)) = cc

      old_value : (k i : ℕ) (v : Player) (m : ℕ) → slice_get stored.order k ≡ Some i → (view_of new).value i ≡ Some (v, m)
          → (view_of stored).value i ≡ Some (v, m)
      old_value k i v m at is =
          let (value, had) = full_from_some ((view_of stored).value i) (table.settled k i at) in
          had ∙ (sym (value_kept i value had) ∙ is)

      due_far : (i : ℕ) (v : Player) (m : ℕ) → IsDueAt graph s w d base i → (view_of new).value i ≡ Some (v, m) → m ≡ suc d
      due_far i v m due is = ap (λ (q : Player × ℕ). q.1) (same_Some (v, m) (w, suc d) (sym is ∙ due_value i due))

      reached : (i : ℕ) (x : P) → IsReached graph stored i x → IsReached graph new i x
      reached i x (inl start) = inl start
      reached i x (inr (p, lt, within, edge)) =
          let same : expanded_count new ≡ expanded_count stored = expanded_same in
          let within' : p < expanded_count new = omega arith in
          inr (p, lt, within', edge_is i p ∙ edge)

      moves_are_edges : (i : ℕ) (x : P) → HasNumber (view_of stored) i x → CountsItsEdges graph new i x
      moves_are_edges i x at = record {
        each = λ y move. let (j, j_at, edge) = edges.each y move in (j, number_after j y j_at, edge_is j i ∙ edge);
        successors = λ o o_has. sym (ap (λ (u : Record). u.successors) (is_now o o_has)) ∙ (it.successors ∙ (edges.successors q has ∙ sym (edge_counts i)));
        left = λ o o_has. sym (ap (λ (u : Record). u.left) (is_now o o_has)) ∙ (left (stored.has_edge s i) refl ∙ sym (left_counts i));
        keeper = λ o o_has is.
            let le : q.successors ≤ 1 = edges.keeper q has is in
            let same : o.successors ≡ q.successors = sym (ap (λ (u : Record). u.successors) (is_now o o_has)) ∙ it.successors in
            omega arith;
      }
        where
          edges : CountsItsEdges graph stored i x
          edges = edges_of i x at

          q : Record
          q = (known_record graph IsWide stored sound i (slice_get_within stored.positions i x at)).0

          has : HasRecord stored i q
          has = (known_record graph IsWide stored sound i (slice_get_within stored.positions i x at)).1

          it : Now i x q
          it = now_at i x q at has

          is_now : (o : Record) → HasRecord new i o → it.now ≡ o
          is_now o o_has = same_Some it.now o (sym it.has ∙ o_has)

          left : (b : Bool) → stored.has_edge s i ≡ b → it.now.left ≡ count_below size (left_now i)
          left true edge =
              let total : q.left ≡ count_below size (left_old i) = edges.left q has in
              let less : count_below size (left_old i) ≡ suc (count_below size (left_now i)) = one_less i edge in
              let now : it.now.left ≡ q.left - 1 = it.left_less edge in
              omega arith
          left false off = it.left_same off ∙ (edges.left q has ∙ sym (no_less i off))

      each : (i : ℕ) (x : P) → HasNumber (view_of new) i x → IsSoundByEdgesAt graph new i x
      each i x number = record {
        reached = reached i x was.reached;
        edges_are_moves = λ p edge.
            let (z, z_at, within, move) = was.edges_are_moves p (sym (edge_is i p) ∙ edge) in
            let same : expanded_count new ≡ expanded_count stored = expanded_same in
            let within' : p < expanded_count new = omega arith in
            (z, number_after p z z_at, within', move);
        moves_are_edges = λ _. moves_are_edges i x at;
        late = λ _. full_new ∙ sym position_count;
        no_nearer = λ k j v u m n here there a b.
            ⊎_elim
            (λ j_old.
            ⊎_elim
            (λ i_old. was.no_nearer k j v u m n j_old i_old (old_value k j v m j_old a) (old_value (suc k) i u n i_old b))
            (λ (_, _, due).
            let le : m ≤ suc d = not_far j v m (old_value k j v m j_old a) in
            let e : n ≡ suc d = due_far i u n due b in
            omega arith)
            (orders.found (suc k) i there))
            (λ (le, _, j_due).
            ⊎_elim
            (λ i_old. let lt : suc k < length stored.order = slice_get_within stored.order (suc k) i i_old in absurd (omega arith))
            (λ (_, _, due).
            let e : m ≡ suc d = due_far j v m j_due a in
            let f : n ≡ suc d = due_far i u n due b in
            omega arith)
            (orders.found (suc k) i there))
            (orders.found k j here);
        ended = λ within ended. at_its_end ended (now_right.local i x number within);
        moving = λ within has. by_its_moves has (now_right.local i x number within);
        waiting = λ le.
            let all : expanded_count new ≡ size = full_new in
            let lt : i < size = slice_get_within stored.positions i x at in
            absurd (omega arith);
      }
        where
          at : HasNumber (view_of stored) i x
          at = number_before i x number

          was : IsSoundByEdgesAt graph stored i x
          was = by_edges graph IsWide stored sound i x at

          at_its_end : IsEnded graph x → IsLocalValue graph (view_of new) x ((view_of new).value i) → (view_of new).value i ≡ end_value (graph.ahead x)
          at_its_end ended (at_end _ value) = value
          at_its_end ended (by_moves has _) = absurd (ended has.0 has.1)

          by_its_moves : HasMove graph x → IsLocalValue graph (view_of new) x ((view_of new).value i)
              → IsMoveValue graph (view_of new) x ((view_of new).value i)
          by_its_moves has (at_end ended _) = absurd (ended has.0 has.1)
          by_its_moves has (by_moves _ value) = value

      pub lowered_sound : IsLocallySound graph IsWide new
      lowered_sound = record {
        table = lowered_fits;
        each = sound_from_edges graph new lowered_fits each;
        narrow = λ i x at lt. let same : expanded_count new ≡ expanded_count stored = expanded_same in sound.narrow i x (number_before i x at) (omega arith);
      }

  leaves_all : AreLowered graph w d size base (with_processed graph s r w stored)
  leaves_all = below_keeps graph w d s size base

  pub falls_all : Falls graph s w d base size (with_processed graph s r w stored) × Orders graph s w d base size (with_processed graph s r w stored).order
  falls_all = falls graph s w d base table.once fresh size

  counts_all : IsCounted (with_processed graph s r w stored)
  counts_all = counted_below graph w d s size base (base_counted stored table s r w next r.distance refl)

  -- Processing the next settled position of an expanded table keeps its parts together, sound or not.
  pub a_processed_table_fits : IsTable (with_processed graph s r w stored)
  a_processed_table_fits = lowered_fits (with_processed graph s r w stored) leaves_all falls_all.0 falls_all.1 counts_all

module _ {P : Type 0} (graph : Graph P) (IsWide : P → Type 0) (stored : Stored P) (sound : IsLocallySound graph IsWide stored)
    (full : expanded_count stored ≡ length stored.positions)
    (s : ℕ) (r : Record) (w : Player) (next : IsNextSettled stored s r w) where
  abbrev processed : Stored P
  processed = with_processed graph s r w stored

  falls_then : Falls graph s w r.distance (with_processed_alone s r stored) (length stored.positions) processed
      × Orders graph s w r.distance (with_processed_alone s r stored) (length stored.positions) processed.order
  falls_then = falls_all graph stored sound.table full s r w next

  -- To process the next settled number keeps a stored table sound,
  pub processed_sound : IsLocallySound graph IsWide processed
  processed_sound =
      lowered_sound graph stored sound.table full s r w next processed (leaves_all graph stored sound.table full s r w next)
      falls_then.0 falls_then.1 (counts_all graph stored sound.table full s r w next) IsWide sound

  -- and it is the unit of work on views.
  pub processed_next : ProcessesNext graph (view_of stored) s w r.distance (view_of processed)
  processed_next =
      processes graph stored sound.table full s r w next processed (leaves_all graph stored sound.table full s r w next)
      falls_then.0 falls_then.1 (counts_all graph stored sound.table full s r w next) IsWide sound
