-- The best step among the successors.
use Rattle.std.proofs.Common.{◌≡◌, ◌∙◌, sym, ap, ℕ, suc, ◌<◌, inl, inr, ⊎_elim, Some, List, get_or, arith, slice_get, subst, refl}
use Rattle.std.specs.Prelude.{Contains, IsSome}
use Rattle.std.specs.declared.cmp.Ordering.TheVariants.{Less}
use Rattle.std.proofs.lemmas.Bool.{cases_eq, cases_lt}
use Rattle.std.proofs.lemmas.Option.{slice_get_within, get_or_from_slice_get, slice_get-get_or, same_Some}
use Rattle.std.proofs.lemmas.List.Elements.{All-contains}
use Rattle.rbg_game.specs.declared.roles.Player.{Player}
use Rattle.retrograde.specs.Graph.{Graph}
use Rattle.retrograde.specs.View.{View, HasNumber, HasValue}
use Rattle.retrograde.specs.Stored.{Stored, view_of, expanded_count}
use Rattle.retrograde.specs.Sound.{IsLocallySound}
use Rattle.retrograde.specs.Successors.{packed_cmp}
use Rattle.retrograde.proofs.Finished.{is_some_at}
use Rattle.retrograde.proofs.Play.{goes_on}
use Rattle.retrograde.proofs.Sound.{coherent, sound_right}
use Rattle.legal_moves.specs.Listed.{ListsExactly}
use Rattle.best_line.specs.declared.fault.LineFault.{LineFault}
use Rattle.best_line.specs.declared.fault.LineFault.TheVariants.{NotSettled, Inconsistent, TooWide, OutOfMemory, Table}
use Rattle.best_line.specs.Causes.{IsLineCause, LineStops}
use Rattle.best_line.specs.Lines.{IsBestStep, HasNoStep, LineComesTo}
use Rattle.best_line.specs.lemmas.Lines.{IsFirstWon}

module _ (graph : Graph (List ℕ)) (view : View (List ℕ)) (x : List ℕ) (ys : List (List ℕ)) (lists : ListsExactly (graph.Successor x) ys)
    (i : ℕ) (number : HasNumber view i x) (w : Player) (n : ℕ) where
  -- the first of the successors that is won so is a best step
  pub best_step : (j : ℕ) → IsFirstWon view ys w n j → IsBestStep graph view i w n j
  best_step j won = record {
    from = x;
    to = won.position;
    from_number = number;
    to_number = won.number;
    move =
        All-contains (graph.Successor x) ys won.position lists.only
        (won.place, slice_get_within ys won.place won.position won.at, get_or_from_slice_get ys won.place won.position won.position won.at);
    value = won.value;
    first = λ y move has.
        let (k, within, is) = lists.all y move in
        let at : slice_get ys k ≡ Some y = slice_get-get_or ys k y within ∙ ap (λ (z : List ℕ). Some z) is in
        ⊎_elim
        (λ before. absurd (won.first k y before at has))
        (λ later.
        ⊎_elim
        (λ same. inl (same_Some y won.position (sym at ∙ (ap (λ (m : ℕ). slice_get ys m) (sym same) ∙ won.at))))
        (λ apart.
        let less : won.place < k = omega arith in
        let pair = lists.ascending won.place k y less within in
        inr (subst (λ (z : List ℕ). packed_cmp won.position z ≡ Less) is
        (subst (λ (z : List ℕ). packed_cmp z (get_or ys k y) ≡ Less) (get_or_from_slice_get ys won.place won.position y won.at) pair)))
        (cases_eq won.place k))
        (cases_lt k won.place);
  }

  -- where none of them is won so, there is no step
  pub no_step : ((y : List ℕ) → Contains ys y → HasValue view y w n → ⊥) → HasNoStep graph view i w n
  no_step none = record { from = x; number = number; none = λ y move has. none y (lists.all y move) has }

module _ (graph : Graph (List ℕ)) (IsWide : List ℕ → Type 0) (stored : Stored (List ℕ)) (sound : IsLocallySound graph IsWide stored) (w : Player) where
  -- in a sound table there is always a step
  step_there : (i n : ℕ) → (view_of stored).value i ≡ Some (w, suc n) → HasNoStep graph (view_of stored) i w n → ⊥
  step_there i n value stuck = goes_on graph (view_of stored) (sound_right graph IsWide stored sound) stuck.from w n (i, stuck.number, value) stuck.none

  -- and what is settled is not wide
  settled_narrow : (i n : ℕ) → (view_of stored).value i ≡ Some (w, n) → (x : List ℕ) → HasNumber (view_of stored) i x → IsWide x → ⊥
  settled_narrow i n value x number wide =
      let within : i < expanded_count stored = (coherent graph IsWide stored sound).settled i (is_some_at ((view_of stored).value i) (w, n) value) in
      sound.narrow i x number within wide

  -- why a step of a line is not found
  pub step_cause : (number i n : ℕ) → IsSome ((view_of stored).value number) → (view_of stored).value i ≡ Some (w, suc n) → (fault : LineFault)
      → (fault ≡ Inconsistent → HasNoStep graph (view_of stored) i w n)
      → (fault ≡ TooWide → (x : List ℕ) × HasNumber (view_of stored) i x × IsWide x)
      → (fault ≡ NotSettled → ⊥) → IsLineCause (view_of stored) number fault
  step_cause number i n some value NotSettled none wide settled = absurd (settled refl)
  step_cause number i n some value Inconsistent none wide settled = step_there i n value (none refl)
  step_cause number i n some value TooWide none wide settled = let (x, at, is) = wide refl in settled_narrow i (suc n) value x at is
  step_cause number i n some value OutOfMemory none wide settled = some
  step_cause number i n some value (Table fault) none wide settled = tt

-- why the line of any table stops at a step that is not found
pub step_stops : (graph : Graph (List ℕ)) (IsWide : List ℕ → Type 0) (view : View (List ℕ)) (w : Player) (number i n : ℕ)
    → LineComesTo graph view number w i (suc n)
    → (fault : LineFault) → (fault ≡ Inconsistent → HasNoStep graph view i w n) → (fault ≡ TooWide → (x : List ℕ) × HasNumber view i x × IsWide x)
    → (fault ≡ NotSettled → ⊥) → LineStops graph IsWide view number fault
step_stops graph IsWide view w number i n comes NotSettled none wide settled = absurd (settled refl)
step_stops graph IsWide view w number i n comes Inconsistent none wide settled = record { winner = w; last = i; left = n; comes = comes; none = none refl }
step_stops graph IsWide view w number i n comes TooWide none wide settled =
    let (x, at, is) = wide refl in
    record { winner = w; last = i; left = n; comes = comes; position = x; number_is = at; wide = is }
step_stops graph IsWide view w number i n comes OutOfMemory none wide settled = tt
step_stops graph IsWide view w number i n comes (Table fault) none wide settled = tt
