-- What is so once a position is expanded.
use Rattle.std.proofs.Common.{◌≡◌, ◌∙◌, sym, ap, subst, ℕ, suc, ◌^◌, ◌≤◌, ◌<◌, ⊎_elim, IsSome, None, false, List, [], ◌∷◌, length, arith, slice_get, Option}
use Rattle.std.specs.Prelude.{AllPairs}
use Rattle.std.specs.declared.cmp.Ordering.{Ordering}
use Rattle.std.specs.declared.cmp.Ordering.TheVariants.{Less}
use Rattle.std.specs.List.Sorted.{IsStrictlySortedBy}
use Rattle.std.proofs.lemmas.Cmp.{nat_list_cmp_total}
use Rattle.std.proofs.lemmas.List.Elements.{All-contains}
use Rattle.rbg_game.specs.declared.roles.Player.{Player}
use Rattle.rbg_game.specs.declared.roles.Role.{Role}
use Rattle.retrograde.specs.Graph.{Graph, IsReachable}
use Rattle.retrograde.specs.Values.{Drawn}
use Rattle.retrograde.specs.View.{IsFinished}
use Rattle.retrograde.specs.Right.{IsRight}
use Rattle.retrograde.specs.declared.records.Record.{Record}
use Rattle.retrograde.specs.Stored.{Stored, IsTable, view_of, is_settled, expanded_count, settled_count}
use Rattle.retrograde.specs.Sound.{IsLocallySound}
use Rattle.retrograde.specs.Successors.{packed_cmp, IsSuccessorList}
use Rattle.retrograde.specs.lemmas.Expansion.{AreNoted, with_expanded}
use Rattle.retrograde.specs.Expands.{Expands}
use Rattle.retrograde.specs.Units.{UnitsOfWork}
use Rattle.legal_moves.specs.Listed.{ListsExactly}
use Rattle.retrograde.proofs.SoundExpansion.{expanded_sound, an_expanded_table_fits}
use Rattle.retrograde.proofs.Expands.{expands}
use Rattle.retrograde.proofs.ExpansionUnit.{sorted_of, sorted_none, expanded_works}
use Rattle.retrograde.proofs.Finished.{draws, reach_is_known, element, none_or_some, is_some_at}
use Rattle.retrograde.proofs.AdditionFrame.{Grew, are_noted_grew, unsettled}
use Rattle.retrograde.proofs.ProcessSteps.{count_less}
use Rattle.retrograde.proofs.Sound.{sound_right}
use Rattle.frontier.specs.Done.{IsUnitDone}
use Rattle.frontier.proofs.DoneLemmas.{unit_done}

-- the table with the number e expanded is that with the next number expanded, as the lemmas say it
as_expanded : (graph : Graph (List ℕ)) (old new next : Stored (List ℕ)) (x : List ℕ) (ys : List (List ℕ)) (e n : ℕ) (ahead : Option Player)
    → e ≡ expanded_count old
    → n ≡ length ys → ahead ≡ graph.ahead x → new ≡ with_expanded e n ahead next → new ≡ with_expanded (expanded_count old) (length ys) (graph.ahead x) next
as_expanded graph old new next x ys e n ahead e_is n_is ahead_is is =
    is
    ∙ (ap (λ (k : ℕ). with_expanded k n ahead next) e_is
    ∙ (ap (λ (k : ℕ). with_expanded (expanded_count old) k ahead next) n_is
    ∙ ap (λ (o : Option Player). with_expanded (expanded_count old) (length ys) o next) ahead_is))

-- the parts of a table that is expanded fit together, sound or not
pub fits : (graph : Graph (List ℕ)) (old new next : Stored (List ℕ)) → IsTable old → (x : List ℕ) (ys : List (List ℕ)) (e n : ℕ) (ahead : Option Player)
    → e ≡ expanded_count old → slice_get old.positions e ≡ Option.Some x → AreNoted e ys old next
    → n ≡ length ys → ahead ≡ graph.ahead x → new ≡ with_expanded e n ahead next → IsTable new
fits graph old new next table x ys e n ahead e_is number noted n_is ahead_is is =
    subst (λ (t : Stored (List ℕ)). IsTable t) (sym (as_expanded graph old new next x ys e n ahead e_is n_is ahead_is is))
    (an_expanded_table_fits graph old table x (subst (λ (k : ℕ). slice_get old.positions k ≡ Option.Some x) e_is number) ys next
    (subst (λ (k : ℕ). AreNoted k ys old next) e_is noted))

sorted_pairs : {P : Type 0} (cmp : P → P → Ordering) (xs : List P) → AllPairs (λ x y. cmp x y ≡ Less) xs → IsStrictlySortedBy cmp xs
sorted_pairs cmp [] pairs = sorted_none cmp
sorted_pairs cmp (x ∷ xs) pairs =
    sorted_of cmp x xs
    (λ u (k, within, is). subst (λ z. cmp x z ≡ Less) is (pairs 0 (suc k) u (omega arith) (omega (arith, within))))
    (sorted_pairs cmp xs (λ i j d before within. pairs (suc i) (suc j) d (omega (arith, before)) (omega (arith, within))))

-- the list of a source of moves
pub successor_list : (graph : Graph (List ℕ)) (x : List ℕ) (ys : List (List ℕ)) → ListsExactly (graph.Successor x) ys → IsSuccessorList packed_cmp graph x ys
successor_list graph x ys lists = record {
  each = λ y. (All-contains (graph.Successor x) ys y lists.only, lists.all y);
  ascending = sorted_pairs packed_cmp ys lists.ascending;
}

module _ (graph : Graph (List ℕ)) (IsWide : List ℕ → Type 0) (old new : Stored (List ℕ)) where
  -- what the unit has done, and what is so then
  pub record IsDone : Type 0 where
    pub expands : (x : List ℕ) × (ys : List (List ℕ)) × Expands packed_cmp graph old new x ys
    pub done : IsUnitDone graph IsWide old new
    pub last : expanded_count new ≡ length new.positions → new.order ≡ [] → IsFinished (view_of new) × ((x : List ℕ) → IsReachable graph x → Drawn graph x)

  -- where nothing is in the order, nothing is settled
  none_settled : IsLocallySound graph IsWide new → new.order ≡ [] → (i : ℕ) → IsSome ((view_of new).value i) → ⊥
  none_settled sound none i some =
      let (k, at) = sound.table.listed i some in
      nothing k i (ap (λ (ks : List ℕ). slice_get ks k) (sym none) ∙ at)
    where
      nothing : (k i : ℕ) → slice_get [] k ≡ Option.Some i → ⊥
      nothing k i at = cc

  -- and where all is expanded too, there is no more to do, and nobody wins
  ends : IsLocallySound graph IsWide new → expanded_count new ≡ length new.positions → new.order ≡ []
      → IsFinished (view_of new) × ((x : List ℕ) → IsReachable graph x → Drawn graph x)
  ends sound all none = (
    finished,
    λ x reach.
        let (i, number) = reach_is_known graph (view_of new) right finished x reach in
        let unsettled' : (view_of new).value i ≡ None =
        ⊎_elim (λ is. is) (λ (value, is). absurd (none_settled sound none i (is_some_at ((view_of new).value i) value is)))
        (none_or_some ((view_of new).value i)) in
        (draws graph (view_of new) right finished i x number).0 unsettled',
  )
    where
      finished : IsFinished (view_of new)
      finished = record { all_expanded = all; all_processed = λ i some. absurd (none_settled sound none i some) }

      right : IsRight graph (view_of new)
      right = sound_right graph IsWide new sound

  pub done : IsLocallySound graph IsWide old → (x : List ℕ) (ys : List (List ℕ)) (next : Stored (List ℕ)) (e n : ℕ) (ahead : Option Player)
      → e ≡ expanded_count old → slice_get old.positions e ≡ Option.Some x → IsSuccessorList packed_cmp graph x ys
      → (graph.mover x ≡ Role.Keeper → length ys ≤ 1)
      → (IsWide x → ⊥) → AreNoted e ys old next → n ≡ length ys → ahead ≡ graph.ahead x → new ≡ with_expanded e n ahead next → length new.positions ≤ 2 ^ 24
      → IsDone
  done sound x ys next e n ahead e_is number list forced narrow noted n_is ahead_is is room =
      let number' = subst (λ (k : ℕ). slice_get old.positions k ≡ Option.Some x) e_is number in
      let noted' = subst (λ (k : ℕ). AreNoted k ys old next) e_is noted in
      let is' : new ≡ with_expanded (expanded_count old) (length ys)
      (graph.ahead x) next = as_expanded graph old new next x ys e n ahead e_is n_is ahead_is is in
      let back = sym is' in
      let now_sound : IsLocallySound graph IsWide new =
      subst (λ (t : Stored (List ℕ)). IsLocallySound graph IsWide t) back
      (expanded_sound packed_cmp nat_list_cmp_total graph IsWide old sound x number' ys list forced next noted' narrow) in
      record {
        expands = (
          x,
          ys,
          subst (λ (t : Stored (List ℕ)). Expands packed_cmp graph old t x ys) back
              (expands packed_cmp nat_list_cmp_total graph IsWide old sound x number' ys list forced next noted' narrow),
        );
        done = unit_done graph IsWide old new now_sound
            (subst (λ (t : Stored (List ℕ)). UnitsOfWork packed_cmp graph IsWide (2 ^ 24) (view_of old) 1 (view_of t)) back
            (expanded_works packed_cmp nat_list_cmp_total graph IsWide (2 ^ 24) old sound x number' ys list forced next noted' narrow
            (subst (λ (t : Stored (List ℕ)). length t.positions ≤ 2 ^ 24) is' room)));
        last = ends now_sound;
      }

-- while a position waits, the settled order has room
pub room : (graph : Graph (List ℕ)) (IsWide : List ℕ → Type 0) (stored : Stored (List ℕ)) → IsLocallySound graph IsWide stored
    → (ys : List (List ℕ)) (next : Stored (List ℕ)) (e : ℕ)
    → AreNoted e ys stored next → expanded_count stored < length stored.positions → length next.order < length next.positions
room graph IsWide stored sound ys next e noted waiting =
    let same : length stored.records ≡ length stored.positions = sound.table.records in
    let within : expanded_count stored < length stored.records = omega arith in
    let (r, has) = element stored.records (expanded_count stored) within in
    let fresh : is_settled r.state ≡ false =
    unsettled r.state (λ is. let lt : expanded_count stored < expanded_count stored =
    (sound.table.expanded (expanded_count stored) r has).0 is in omega arith) in
    let less : settled_count stored < length stored.records = count_less (λ (q : Record). is_settled q.state) stored.records
    (expanded_count stored) r has fresh in
    let counted : length stored.order ≡ settled_count stored = sound.table.counted in
    let grew : Grew e stored next = are_noted_grew e ys stored next noted in
    let kept : length next.order ≡ length stored.order = ap (λ (xs : List ℕ). length xs) grew.order in
    let longer : length stored.positions ≤ length next.positions = grew.longer in
    omega arith
