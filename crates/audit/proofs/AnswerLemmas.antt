-- From the conditions at each number to the answer, and what the answer right means.
use Rattle.std.proofs.Common.{◌≡◌, ◌∙◌, ap, subst, ℕ, ◌+◌, ◌<◌, ◌≤◌, ⊎_elim, Some, None, length, refl, arith, slice_get}
use Rattle.std.proofs.lemmas.Bool.{cases_lt}
use Rattle.std.proofs.lemmas.Option.{slice_get_within}
use Rattle.retrograde.specs.Graph.{Graph}
use Rattle.retrograde.specs.View.{HasNumber}
use Rattle.retrograde.specs.Stored.{Stored, IsTable, view_of, expanded_count}
use Rattle.retrograde.specs.Audit.{EdgesAreMoves}
use Rattle.retrograde.specs.Right.{IsRight}
use Rattle.retrograde.specs.Sound.{IsLocallySound, IsLocallySoundAt}
use Rattle.retrograde.specs.Verdicts.{A1, A2, A3, A4, A5, A6, A7, condition_of}
use Rattle.retrograde.proofs.Finished.{element, values_are_won, reach_is_known, draws}
use Rattle.retrograde.proofs.Sound.{sound_right}
use Rattle.audit.specs.declared.verdict.Reason.{Reason}
use Rattle.audit.specs.declared.verdict.Verdict.TheVariants.{Right, Wrong}
use Rattle.audit.specs.Answers.{IsAnswer, IsTableSo, reason_of}
use Rattle.audit.specs.lemmas.Conditions.{IsLowest, own_condition}

module _ {P : Type 0} (graph : Graph P) (IsWide : P → Type 0) (stored : Stored P) where
  -- where each condition holds, all do
  pub sound_at : (i : ℕ) (x : P) → IsLowest (condition_of graph stored i x) None → IsLocallySoundAt graph stored i x
  sound_at i x each = record {
    reached = each A1;
    edges = each A2;
    late = each A3;
    no_nearer = each A4;
    ended = each A5;
    moving = each A6;
    waiting = each A7;
  }

  -- all below n hold, and none that is expanded is too wide
  pub record AreSound (n : ℕ) : Type 0 where
    pub each : (i : ℕ) (x : P) → i < n → HasNumber (view_of stored) i x → IsLocallySoundAt graph stored i x
    pub narrow : (i : ℕ) (x : P) → i < n → HasNumber (view_of stored) i x → i < expanded_count stored → IsWide x → ⊥

  pub none_yet : AreSound 0
  none_yet = record {
    each = λ i x lt. absurd (omega arith);
    narrow = λ i x lt. absurd (omega arith);
  }

  pub one_more : (n : ℕ) → AreSound n → ((x : P) → HasNumber (view_of stored) n x → IsLowest (condition_of graph stored n x) None)
      → ((x : P) → HasNumber (view_of stored) n x → n < expanded_count stored → IsWide x → ⊥) → AreSound (n + 1)
  one_more n before here narrow = record {
    each = λ i x lt at.
        ⊎_elim
        (λ early. before.each i x early at)
        (λ late. let same : n ≡ i = omega arith in
        subst (λ (m : ℕ). IsLocallySoundAt graph stored m x) same (sound_at n x (here x (ap (λ (m : ℕ). slice_get stored.positions m) same ∙ at))))
        (cases_lt i n);
    narrow = λ i x lt at within wide.
        ⊎_elim
        (λ early. before.narrow i x early at within wide)
        (λ late. let same : n ≡ i = omega arith in
        narrow x (ap (λ (m : ℕ). slice_get stored.positions m) same ∙ at) (omega arith) wide)
        (cases_lt i n);
  }

  -- the same, where nothing is asked of the edges that lead to a number
  pub record OwnSound (n : ℕ) : Type 0 where
    pub own : (i : ℕ) (x : P) → i < n → HasNumber (view_of stored) i x → IsLowest (own_condition graph stored i x) None
    pub narrow : (i : ℕ) (x : P) → i < n → HasNumber (view_of stored) i x → i < expanded_count stored → IsWide x → ⊥

  pub own_more : (n : ℕ) → OwnSound n → ((x : P) → HasNumber (view_of stored) n x → IsLowest (own_condition graph stored n x) None)
      → ((x : P) → HasNumber (view_of stored) n x → n < expanded_count stored → IsWide x → ⊥) → OwnSound (n + 1)
  own_more n before here narrow = record {
    own = λ i x lt at.
        ⊎_elim
        (λ early. before.own i x early at)
        (λ late. let same : n ≡ i = omega arith in
        subst (λ (m : ℕ). IsLowest (own_condition graph stored m x) None) same (here x (ap (λ (m : ℕ). slice_get stored.positions m) same ∙ at)))
        (cases_lt i n);
    narrow = λ i x lt at within wide.
        ⊎_elim
        (λ early. before.narrow i x early at within wide)
        (λ late. let same : n ≡ i = omega arith in
        narrow x (ap (λ (m : ℕ). slice_get stored.positions m) same ∙ at) (omega arith) wide)
        (cases_lt i n);
  }

  -- where each edge is a move too, all numbers hold
  pub all_own : (n : ℕ) → length stored.positions ≤ n → OwnSound n
      → ((i : ℕ) (x : P) → HasNumber (view_of stored) i x → EdgesAreMoves graph stored i x) → IsAnswer graph IsWide stored Right
  all_own n all sound moves = record {
    verdict = λ i x at.
        let within : i < length stored.positions = slice_get_within stored.positions i x at in
        let own = sound.own i x (omega arith) at in
        record {
          reached = own A1;
          edges = record { from_it = own A2; to_it = moves i x at };
          late = own A3;
          no_nearer = own A4;
          ended = own A5;
          moving = own A6;
          waiting = own A7;
        };
    narrow = λ i x at. let within : i < length stored.positions = slice_get_within stored.positions i x at in sound.narrow i x (omega arith) at;
  }

  -- all numbers hold
  pub all_right : (n : ℕ) → length stored.positions ≤ n → AreSound n → IsAnswer graph IsWide stored Right
  all_right n all sound = record {
    verdict = λ i x at. let within : i < length stored.positions = slice_get_within stored.positions i x at in sound.each i x (omega arith) at;
    narrow = λ i x at. let within : i < length stored.positions = slice_get_within stored.positions i x at in sound.narrow i x (omega arith) at;
  }

  -- this number is the lowest that fails
  pub this_wrong : (n : ℕ) (reason : Reason) → n < length stored.positions → AreSound n
      → ((x : P) → HasNumber (view_of stored) n x → IsLowest (condition_of graph stored n x) (Some reason)) → IsAnswer graph IsWide stored (Wrong n reason)
  this_wrong n reason within before here =
      let (x, at) = element stored.positions n within in
      let (fails, lower) = here x at in
      record {
        verdict = record {
          position = x;
          number = at;
          reason = reason_of reason;
          code = refl;
          fails = fails;
          lower_reasons = lower;
          lower_numbers = λ i y y_at lt. before.each i y lt y_at;
        };
        narrow = tt;
      }

  -- a table that is right is locally sound
  pub right_sound : IsTable stored → IsAnswer graph IsWide stored Right → IsLocallySound graph IsWide stored
  right_sound table answer = record { table = table; each = answer.verdict; narrow = answer.narrow }

  pub right_so : IsTable stored → IsAnswer graph IsWide stored Right → IsTableSo graph (view_of stored)
  right_so table answer =
      let right : IsRight graph (view_of stored) = sound_right graph IsWide stored (right_sound table answer) in
      record {
        won = λ x w n has. values_are_won graph (view_of stored) right x w n has;
        reached = λ done x. (right.moves.reached x, reach_is_known graph (view_of stored) right done x);
        drawn = λ done i x number. draws graph (view_of stored) right done i x number;
      }
