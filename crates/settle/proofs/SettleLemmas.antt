-- What is so once a settled position is processed, and why a sound table never stops that.
use Rattle.std.proofs.Common.{◌≡◌, ◌∙◌, sym, ap, subst, ℕ, ◌+◌, ◌^◌, ◌≤◌, ◌<◌, ⊎_elim, true, not, ◌&&◌, Some, List, length, refl, arith, slice_get}
use Rattle.std.specs.Prelude.{count_by}
use Rattle.std.proofs.lemmas.Bool.{cases_eq}
use Rattle.std.proofs.lemmas.Option.{same_Some, slice_get_within}
use Rattle.std.proofs.lemmas.List.{length-append}
use Rattle.std.proofs.lemmas.List.Sums.{count_by-le-length}
use Rattle.rbg_game.specs.declared.roles.Player.{Player}
use Rattle.retrograde.specs.declared.records.Record.{Record}
use Rattle.retrograde.specs.Graph.{Graph}
use Rattle.retrograde.specs.Stored.{Stored, HasRecord, IsTable, view_of, is_processed, is_settled, expanded_count, processed_count, count_below}
use Rattle.retrograde.specs.Sound.{IsLocallySound}
use Rattle.retrograde.specs.Successors.{packed_cmp}
use Rattle.retrograde.specs.Process.{is_open, processed_record, with_processed_alone, IsNextSettled}
use Rattle.retrograde.specs.lemmas.ProcessSteps.{lowered_below, with_processed}
use Rattle.retrograde.specs.Settles.{Settles}
use Rattle.retrograde.specs.Units.{UnitsOfWork}
use Rattle.retrograde.proofs.ByEdges.{by_edges}
use Rattle.retrograde.proofs.CountLemmas.{counted}
use Rattle.retrograde.proofs.SoundProcess.{processed_sound, a_processed_table_fits}
use Rattle.retrograde.proofs.Finished.{element}
use Rattle.retrograde.proofs.Predecessors.{get_set_same, get_set_other}
use Rattle.retrograde.proofs.Settles.{settles}
use Rattle.retrograde.proofs.ProcessSteps.{count_less, open_unsettled, counted_below, s_in, s_known, base_records, base_counted, s_waits, value_is}
use Rattle.retrograde.proofs.Sound.{distance_within_place, value_needs_record}
use Rattle.retrograde.proofs.UnitSteps.{processed_works}
use Rattle.frontier.specs.Done.{IsUnitDone}
use Rattle.frontier.proofs.DoneLemmas.{unit_done}
use Rattle.settle.specs.lemmas.Stuck.{IsStuckAt}
use Rattle.settle.proofs.Bounds.{keeps}

-- a settled number is known, and has a winner
pub settled_known : (stored : Stored (List ℕ)) → IsTable stored → (k s : ℕ) → slice_get stored.order k ≡ Some s → s < length stored.positions
settled_known stored table k s at =
    let (r, has) = value_needs_record (slice_get stored.records s) (table.settled k s at) in
    let within : s < length stored.records = slice_get_within stored.records s r has in
    let same : length stored.records ≡ length stored.positions = table.records in
    omega arith

-- the parts of a table of which s is processed fit together, sound or not: what the code has at hand is the table once s
-- is marked, and once its predecessors are seen to
pub fits_from : (graph : Graph (List ℕ)) (old : Stored (List ℕ)) → IsTable old → expanded_count old ≡ length old.positions
    → (s : ℕ) (r : Record) (w : Player) → IsNextSettled old s r w → (marked new : Stored (List ℕ)) → marked ≡ with_processed_alone s r old
    → new ≡ lowered_below graph s w r.distance (length marked.positions) marked → IsTable new
fits_from graph old table full s r w next marked new is made =
    let made' : new ≡ with_processed graph s r w old = subst
    (λ (t : Stored (List ℕ)). new ≡ lowered_below graph s w r.distance (length t.positions) t) is made in
    subst (λ (t : Stored (List ℕ)). IsTable t) (sym made') (a_processed_table_fits graph old table full s r w next)

module _ (graph : Graph (List ℕ)) (IsWide : List ℕ → Type 0) (old : Stored (List ℕ)) (agrees : IsLocallySound graph IsWide old) where
  module _ (s : ℕ) (r : Record) (w : Player) (next : IsNextSettled old s r w) where
    abbrev base : Stored (List ℕ)
    base = with_processed_alone s r old

    abbrev now : ℕ → Stored (List ℕ)
    now b = lowered_below graph s w r.distance b base

    lengths : (b : ℕ) → length (now b).records ≡ length (now b).positions
    lengths b =
        (keeps graph s w r.distance base b).lengths
        ∙ (base_records old agrees.table s r w next r.distance refl
        ∙ ap (λ (xs : List (List ℕ)). length xs) (sym (keeps graph s w r.distance base b).positions))

    room : (b p : ℕ) (q : Record) → HasRecord (now b) p q → is_open q.state ≡ true → length (now b).order < length (now b).positions
    room b p q has is =
        let counts : length (now b).order ≡ count_by (λ (o : Record). is_settled o.state)
        (now b).records = counted_below graph w r.distance s b base (base_counted old agrees.table s r w next r.distance refl) in
        let less : count_by (λ (o : Record). is_settled o.state) (now b).records < length (now b).records = count_less
        (λ (o : Record). is_settled o.state) (now b).records p q has (open_unsettled q.state is) in
        let same : length (now b).records ≡ length (now b).positions = lengths b in
        omega arith

    record_before : (p : ℕ) (q : Record) → HasRecord (now p) p q → (o : Record) × HasRecord old p o × (o.left ≡ q.left)
    record_before p q has =
        let had : HasRecord base p q = sym ((keeps graph s w r.distance base p).later p (omega arith)) ∙ has in
        ⊎_elim
        (λ same.
        let here : slice_get base.records s ≡ Some (processed_record r) = get_set_same old.records s (processed_record r)
        (s_in old agrees.table s r w next r.distance refl) in
        let had' : slice_get base.records s ≡ Some q = subst (λ (k : ℕ). slice_get base.records k ≡ Some q) (sym same) had in
        let is : processed_record r ≡ q = same_Some (processed_record r) q (sym here ∙ had') in
        (r, subst (λ (k : ℕ). HasRecord old k r) same next.has, ap (λ (o : Record). o.left) is))
        (λ other. (q, sym (get_set_other old.records s p (processed_record r) other) ∙ had, refl))
        (cases_eq s p)

    left : (p : ℕ) (q : Record) → old.has_edge s p ≡ true → HasRecord (now p) p q → 0 < q.left
    left p q there has =
        let within' = s_known old agrees.table s r w next r.distance refl in
        let (o, had, same) = record_before p q has in
        let (x, number) = element old.positions s within' in
        let (z, z_at, within, move) = (agrees.each s x number).edges.to_it p there in
        let count : o.left ≡ count_below (length old.positions) (λ j. old.has_edge j p && not ((view_of old).processed j)) =
        ((by_edges graph IsWide old agrees p z z_at).moves_are_edges within).left o had in
        let passes : (old.has_edge s p && not ((view_of old).processed s)) ≡ true = rw (there, s_waits old agrees.table s r w next r.distance refl) refl in
        let some : 0 < count_below (length old.positions) (λ j. old.has_edge j p && not ((view_of old).processed j)) = counted
        (λ j. old.has_edge j p && not ((view_of old).processed j)) (length old.positions) s within' passes in
        omega arith

    near : length old.positions ≤ 2 ^ 24 → r.distance + 1 < 2 ^ 32
    near limit =
        let le : r.distance ≤ processed_count old = distance_within_place graph IsWide old agrees r.distance s
        (processed_count old) w next.place (value_is old agrees.table s r w next r.distance refl) in
        let few : processed_count old ≤ length old.records = count_by-le-length (λ (q : Record). is_processed q.state) old.records in
        let same : length old.records ≡ length old.positions = agrees.table.records in
        omega arith

    -- no predecessor stops the work
    pub never_stuck : length old.positions ≤ 2 ^ 24 → (p : ℕ) → IsStuckAt graph s w r.distance base p → ⊥
    never_stuck limit p it =
        ⊎_elim
        (λ none. let some : 0 < it.kept.left = left p it.kept it.edge it.has in omega arith)
        (λ (opened, why).
        ⊎_elim
        (λ far. let close : r.distance + 1 < 2 ^ 32 = near limit in omega arith)
        (λ none. let fits : length (now p).order < length (now p).positions = room p p it.kept it.has opened in omega arith)
        why)
        it.stuck

    -- what the unit has done, and what is so then
    pub record IsDone (new : Stored (List ℕ)) : Type 0 where
      pub settles : Settles graph old new s r w
      pub unit : IsUnitDone graph IsWide old new
      pub longer : length old.order ≤ length new.order

    pub done : expanded_count old ≡ length old.positions → length old.positions ≤ 2 ^ 24 → (new : Stored (List ℕ))
        → new ≡ with_processed graph s r w old → IsDone new
    done full limit new is =
        let made : Settles graph old new s r w = subst (λ (t : Stored (List ℕ)). Settles graph old t s r w) (sym is)
        (settles graph IsWide old agrees full s r w next) in
        let now_sound : IsLocallySound graph IsWide new = subst (λ (t : Stored (List ℕ)). IsLocallySound graph IsWide t) (sym is)
        (processed_sound graph IsWide old agrees full s r w next) in
        record {
          settles = made;
          unit = unit_done graph IsWide old new now_sound
              (subst (λ (t : Stored (List ℕ)). UnitsOfWork packed_cmp graph IsWide (2 ^ 24) (view_of old) 1 (view_of t)) (sym is)
              (processed_works packed_cmp graph IsWide (2 ^ 24) old agrees full s r w next limit));
          longer =
              let more : length new.order ≡ length old.order + length made.newly = ap (λ (ks : List ℕ). length ks) made.order
              ∙ length-append old.order made.newly in
              omega arith;
        }

    -- the same of what the code has at hand: the table once s is marked, and once its predecessors are seen to
    pub done_from : expanded_count old ≡ length old.positions → length old.positions ≤ 2 ^ 24 → (marked new : Stored (List ℕ)) → marked ≡ base
        → new ≡ lowered_below graph s w r.distance (length marked.positions) marked → IsDone new
    done_from full limit marked new is made =
        done full limit new (subst (λ (t : Stored (List ℕ)). new ≡ lowered_below graph s w r.distance (length t.positions) t) is made)

    pub never_stuck_from : length old.positions ≤ 2 ^ 24 → (marked : Stored (List ℕ)) → marked ≡ base → (p : ℕ) → IsStuckAt graph s w r.distance marked p → ⊥
    never_stuck_from limit marked is p stuck = never_stuck limit p (subst (λ (t : Stored (List ℕ)). IsStuckAt graph s w r.distance t p) is stuck)
