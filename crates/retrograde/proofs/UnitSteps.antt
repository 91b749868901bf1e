-- Each step on what is stored is one unit of work.
use Rattle.std.proofs.Common.{◌≡◌, ◌∙◌, sym, ap, ℕ, suc, ◌≤◌, ◌<◌, inl, inr, ⊎_elim, true, List, length, refl, arith}
use Rattle.std.specs.declared.cmp.Ordering.{Ordering}
use Rattle.rbg_game.specs.declared.roles.Player.{Player}
use Rattle.retrograde.specs.declared.records.Record.{Record}
use Rattle.retrograde.specs.Graph.{Graph}
use Rattle.retrograde.specs.View.{View}
use Rattle.retrograde.specs.Right.{IsRight}
use Rattle.retrograde.specs.Stored.{Stored, view_of, expanded_count, count_below}
use Rattle.retrograde.specs.Sound.{IsLocallySound}
use Rattle.retrograde.specs.Steps.{ProcessesNext}
use Rattle.retrograde.specs.Process.{IsNextSettled}
use Rattle.retrograde.specs.lemmas.ProcessSteps.{with_processed}
use Rattle.retrograde.specs.Units.{UnitsOfWork, processed_in_view}
use Rattle.retrograde.proofs.CountLemmas.{true_or_false}
use Rattle.retrograde.proofs.Sound.{sound_right}
use Rattle.retrograde.proofs.ProcessSteps.{s_known}
use Rattle.retrograde.proofs.Additions.{count_one_more}
use Rattle.retrograde.proofs.SoundProcess.{processed_sound, processed_next}

module _ {P : Type 0} (cmp : P → P → Ordering) (graph : Graph P) (IsWide : P → Type 0) (limit : ℕ) where
  -- To process one is one unit.
  processing_works : (old new : View P) (s : ℕ) (w : Player) (d : ℕ) → ProcessesNext graph old s w d new → IsRight graph old
      → IsRight graph new → s < length old.known → length old.known ≤ limit
      → UnitsOfWork cmp graph IsWide limit old 1 new
  processing_works old new s w d step before right within room = record {
    before = before;
    right = right;
    room = let same : length new.known ≡ length old.known = ap (λ (ks : List P). length ks) step.known in omega arith;
    more = 0;
    expanded = let same : new.expanded ≡ old.expanded = step.expanded in omega arith;
    grows = step.known;
    narrow = λ i x number from to. let same : new.expanded ≡ old.expanded = step.expanded in absurd (omega arith);
    keeps = λ i is. (step.processed i).1 (inl is);
    units =
        let lengths : processed_in_view new ≡ count_below (length old.known) new.processed = ap
        (λ (ks : List P). count_below (length ks) new.processed) step.known in
        let more : count_below (length old.known) new.processed ≡ suc (count_below (length old.known) old.processed)
        = count_one_more (length old.known) s old.processed new.processed within step.waits ((step.processed s).1 (inr refl)) others in
        let same : new.expanded ≡ old.expanded = step.expanded in
        omega arith;
  }
    where
      others : (k : ℕ) → (k ≡ s → ⊥) → new.processed k ≡ old.processed k
      others k other =
          ⊎_elim
          (λ is. ⊎_elim (λ was. is ∙ sym was) (λ same. absurd (other same)) ((step.processed k).0 is))
          (λ none.
          ⊎_elim
          (λ was. let now : new.processed k ≡ true = (step.processed k).1 (inl was) in cc)
          (λ was. none ∙ sym was)
          (true_or_false (old.processed k)))
          (true_or_false (new.processed k))

  module _ (stored : Stored P) (sound : IsLocallySound graph IsWide stored) (full : expanded_count stored ≡ length stored.positions)
      (s : ℕ) (r : Record) (w : Player) (next : IsNextSettled stored s r w) where
    pub processed_works : length stored.positions ≤ limit → UnitsOfWork cmp graph IsWide limit (view_of stored) 1 (view_of (with_processed graph s r w stored))
    processed_works room =
        processing_works (view_of stored) (view_of (with_processed graph s r w stored)) s w r.distance
        (processed_next graph IsWide stored sound full s r w next)
        (sound_right graph IsWide stored sound)
        (sound_right graph IsWide (with_processed graph s r w stored) (processed_sound graph IsWide stored sound full s r w next))
        (s_known stored sound.table s r w next r.distance refl)
        room
