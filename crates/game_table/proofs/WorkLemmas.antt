-- Units of work, one after another.
use Rattle.std.proofs.Common.{◌≡◌, refl, ◌^◌, ◌<◌, ◌≤◌, ◌+◌, ℕ, suc, ap, subst, List, length, arith}
use Rattle.std.specs.Prelude.{Result, Ok, Err, OnErr}
use Rattle.std.proofs.lemmas.Option.{slice_get_within}
use Rattle.retrograde.specs.declared.records.Counts.{Counts}
use Rattle.retrograde.specs.Changes.{counts_of}
use Rattle.retrograde.specs.Graph.{Graph}
use Rattle.retrograde.specs.Stored.{Stored, IsTable, view_of, expanded_count, processed_count}
use Rattle.retrograde.specs.View.{IsFinished}
use Rattle.retrograde.specs.Sound.{IsLocallySound}
use Rattle.retrograde.specs.Successors.{packed_cmp}
use Rattle.retrograde.proofs.Finished.{element}
use Rattle.retrograde.proofs.Sound.{sound_right}
use Rattle.retrograde.proofs.Units.{works_alone, works_along}
use Rattle.frontier.specs.Entries.{WritesAtMost}
use Rattle.game_table.specs.Entries.{WriteAtMost}
use Rattle.game_table.specs.Units.{IsUnit, AreUnits}
use Rattle.game_table.specs.Work.{Works}

module _ (graph : Graph (List ℕ)) (IsWide : List ℕ → Type 0) where
  pub none_done : (stored : Stored (List ℕ)) → IsLocallySound graph IsWide stored → length stored.positions ≤ 2 ^ 24 → Works graph IsWide stored 0 stored
  none_done stored sound few = works_alone packed_cmp graph IsWide (2 ^ 24) (view_of stored) (sound_right graph IsWide stored sound) few

  pub one_more : (a b c : Stored (List ℕ)) (n : ℕ) → Works graph IsWide a n b → Works graph IsWide b 1 c → Works graph IsWide a (n + 1) c
  one_more a b c n first second = works_along packed_cmp graph IsWide (2 ^ 24) (view_of a) (view_of b) (view_of c) n 1 first second

pub one_unit_more : (graph : Graph (List ℕ)) (old mid new : Stored (List ℕ)) (n : ℕ) → AreUnits graph old n mid → IsTable mid → IsUnit graph mid new
    → AreUnits graph old (n + 1) new
one_unit_more graph old mid new n are table unit =
    let next : suc n ≡ n + 1 = omega arith in
    subst (λ (k : ℕ). AreUnits graph old k new) next (mid, are, table, unit)

-- and what these write is added up
pub one_write_more : (graph : Graph (List ℕ)) (IsWide : List ℕ → Type 0) (old mid new : Stored (List ℕ)) (n before last : ℕ)
    → WriteAtMost graph IsWide old n mid before → IsLocallySound graph IsWide mid → IsUnit graph mid new → WritesAtMost graph mid last
    → WriteAtMost graph IsWide old (n + 1) new (before + last)
one_write_more graph IsWide old mid new n before last write sound unit writes =
    let next : suc n ≡ n + 1 = omega arith in
    subst (λ (k : ℕ). WriteAtMost graph IsWide old k new (before + last)) next (mid, before, last, write, sound, unit, writes, refl)

-- ---- a table that is refused a unit is not finished

-- what is so is so of any answer
pub on_refusal : {T E : Type 0} (result : Result T E) (So : Type 0) → So → OnErr result So
on_refusal (Ok value) So so = tt
on_refusal (Err fault) So so = so

module _ (stored : Stored (List ℕ)) (counts : Counts) (are : counts ≡ counts_of stored) where
  expanded_are : counts.expanded ≡ expanded_count stored
  expanded_are = ap (λ (k : Counts). k.expanded) are

  known_are : counts.known ≡ length stored.positions
  known_are = ap (λ (k : Counts). k.known) are

  -- nothing is finished but where as many are expanded as are known
  pub unlike_is_unfinished : (counts.expanded ≡ counts.known → ⊥) → IsFinished (view_of stored) → ⊥
  unlike_is_unfinished unlike finished =
      let all : expanded_count stored ≡ length stored.positions = finished.all_expanded in
      unlike (omega (arith, all, expanded_are, known_are))

  -- nor where a settled one is not processed
  pub unprocessed_is_unfinished : IsTable stored → counts.processed < counts.settled → IsFinished (view_of stored) → ⊥
  unprocessed_is_unfinished table less finished =
      let processed : counts.processed ≡ processed_count stored = ap (λ (k : Counts). k.processed) are in
      let settled : counts.settled ≡ length stored.order = ap (λ (k : Counts). k.settled) are in
      let within : processed_count stored < length stored.order = omega (arith, less, processed, settled) in
      let (i, at) = element stored.order (processed_count stored) within in
      let below : processed_count stored < processed_count stored =
      (table.processed (processed_count stored) i at).0 (finished.all_processed i (table.settled (processed_count stored) i at)) in
      omega (arith, below)

  -- it is, where all that is known is expanded, and all that is settled is processed
  pub is_finished : IsTable stored → counts.known ≤ counts.expanded → counts.expanded ≤ counts.known → counts.settled ≤ counts.processed
      → IsFinished (view_of stored)
  is_finished table all no_more done =
      let processed : counts.processed ≡ processed_count stored = ap (λ (k : Counts). k.processed) are in
      let settled : counts.settled ≡ length stored.order = ap (λ (k : Counts). k.settled) are in
      record {
        all_expanded = omega (arith, all, no_more, expanded_are, known_are);
        all_processed = λ i some.
            let (k, at) = table.listed i some in
            let within : k < length stored.order = slice_get_within stored.order k i at in
            (table.processed k i at).1 (omega (arith, within, done, processed, settled));
      }
