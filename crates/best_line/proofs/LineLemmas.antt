-- A line, number by number.
use Rattle.std.proofs.Common.{◌≡◌, ◌∙◌, sym, subst, ℕ, zero, suc, Some, List, [], ◌∷◌, ◌++◌, refl, arith, slice_get}
use Rattle.std.specs.Prelude.{Result, Ok, Err, IfOk}
use Rattle.std.specs.List.{AllZip}
use Rattle.std.proofs.lemmas.Option.{same_Some}
use Rattle.rbg_game.specs.declared.roles.Player.{Player}
use Rattle.retrograde.specs.Graph.{Graph}
use Rattle.retrograde.specs.View.{View, HasNumber}
use Rattle.retrograde.specs.Right.{IsRight}
use Rattle.retrograde.specs.Play.{IsPlay}
use Rattle.retrograde.specs.Stored.{Stored, view_of}
use Rattle.retrograde.specs.Sound.{IsLocallySound}
use Rattle.retrograde.proofs.Finished.{values_are_won, is_some_at}
use Rattle.retrograde.proofs.Sound.{known_number, valued_known, sound_right}
use Rattle.best_line.specs.Lines.{IsBestStep, IsBestLine, IsBestPlay, IsLineTo as IsLineOf, IsToldLine}

module _ (graph : Graph (List ℕ)) (view : View (List ℕ)) (w : Player) where
  abbrev IsLineTo : ℕ → List ℕ → ℕ → ℕ → Type 0
  IsLineTo = IsLineOf graph view w

  -- the last number is won in what is left
  pub line_value : (n : ℕ) (numbers : List ℕ) (j m : ℕ) → IsLineTo n numbers j m → view.value j ≡ Some (w, m)
  line_value n [] j m line = absurd line
  line_value n (i ∷ []) j m (same, is, value) =
      subst (λ (l : ℕ). view.value j ≡ Some (w, l)) is (subst (λ (k : ℕ). view.value k ≡ Some (w, n)) same value)
  line_value zero (i ∷ k ∷ rest) j m line = absurd line
  line_value (suc n) (i ∷ k ∷ rest) j m (value, step, more) = line_value n (k ∷ rest) j m more

  -- one more step
  pub line_push : (n : ℕ) (numbers : List ℕ) (j m k : ℕ) → IsLineTo n numbers j (suc m) → IsBestStep graph view j w m k → IsLineTo n (numbers ++ k ∷ []) k m
  line_push n [] j m k line step = absurd line
  line_push zero (i ∷ []) j m k (same, is, value) step = absurd (omega (arith, is))
  line_push (suc n) (i ∷ []) j m k (same, is, value) step =
      let left : n ≡ m = omega (arith, is) in
      let here : IsBestStep graph view i w m k = subst (λ (l : ℕ). IsBestStep graph view l w m k) (sym same) step in
      let first : IsBestStep graph view i w n k = subst (λ (l : ℕ). IsBestStep graph view i w l k) (sym left) here in
      (value, first, (refl, left, first.value))
  line_push zero (i ∷ h ∷ rest) j m k line step = absurd line
  line_push (suc n) (i ∷ h ∷ rest) j m k (value, first, more) step = (value, first, line_push n (h ∷ rest) j m k more step)

  -- a line to where nothing is left is a best line
  pub line_done : (n : ℕ) (numbers : List ℕ) (j : ℕ) → IsLineTo n numbers j 0 → IsBestLine graph view w n numbers
  line_done n [] j line = absurd line
  line_done zero (i ∷ []) j (same, is, value) = value
  line_done (suc n) (i ∷ []) j (same, is, value) = absurd (omega (arith, is))
  line_done zero (i ∷ k ∷ rest) j line = absurd line
  line_done (suc n) (i ∷ k ∷ rest) j (value, step, more) = (value, step, line_done n (k ∷ rest) j more)

  -- the positions of a best line are a shortest win
  pub line_play : IsRight graph view → (n i : ℕ) (rest : List ℕ) (x : List ℕ) → HasNumber view i x → IsBestLine graph view w n (i ∷ rest)
      → (xs : List (List ℕ)) × AllZip (HasNumber view) (i ∷ rest) (x ∷ xs) × IsPlay graph w n (x ∷ xs)
  line_play right zero i [] x number line = ([], (number, tt), values_are_won graph view right x w 0 (i, number, line))
  line_play right zero i (k ∷ rest) x number line = absurd line
  line_play right (suc n) i [] x number line = absurd line
  line_play right (suc n) i (k ∷ rest) x number (value, step, more) =
      let (xs, are, play) = line_play right n k rest step.to step.to_number more in
      let same : step.from ≡ x = same_Some step.from x (sym step.from_number ∙ number) in
      let move : graph.Successor x step.to = subst (λ (y : List ℕ). graph.Successor y step.to) same step.move in
      (step.to ∷ xs, (number, are), (values_are_won graph view right x w (suc n) (i, number, value), move, play))

module _ (graph : Graph (List ℕ)) (IsWide : List ℕ → Type 0) (stored : Stored (List ℕ)) (sound : IsLocallySound graph IsWide stored) (w : Player) (n number : ℕ)
    (value : (view_of stored).value number ≡ Some (w, n)) where
  -- in a sound table a best line is a play from where it begins
  best_play : (numbers : List ℕ) → IsBestLine graph (view_of stored) w n numbers → slice_get numbers 0 ≡ Some number
      → IsBestPlay graph (view_of stored) number numbers
  best_play [] line begins = cc
  best_play (i ∷ rest) line begins =
      let same : number ≡ i = sym (same_Some i number begins) in
      let (x, at) = known_number graph IsWide stored sound number
      (valued_known graph IsWide stored sound number (is_some_at ((view_of stored).value number) (w, n) value)) in
      let (xs, are, play) = line_play graph (view_of stored) w (sound_right graph IsWide stored sound) n i rest x
      (subst (λ (k : ℕ). HasNumber (view_of stored) k x) same at) line in
      record { winner = w; distance = n; value = value; begins = begins; line = line; positions = x ∷ xs; are = are; play = play }

  -- the same of an answer
  pub answers_play : {V E : Type 0} (items : V → List ℕ) (result : Result V E) → IfOk result (λ v. IsBestLine graph (view_of stored) w n (items v))
      → IfOk result (λ v. slice_get (items v) 0 ≡ Some number) → IfOk result (λ v. IsBestPlay graph (view_of stored) number (items v))
  answers_play items (Ok v) line begins = best_play (items v) line begins
  answers_play items (Err e) line begins = tt

-- an answer that is a best line is the line that the table tells
pub answers_told : (graph : Graph (List ℕ)) (view : View (List ℕ)) (w : Player) (n number : ℕ) → view.value number ≡ Some (w, n)
    → {V E : Type 0} (items : V → List ℕ)
    (result : Result V E) → IfOk result (λ v. IsBestLine graph view w n (items v)) → IfOk result (λ v. slice_get (items v) 0 ≡ Some number)
    → IfOk result (λ v. IsToldLine graph view number (items v))
answers_told graph view w n number value items (Ok v) line begins = record { winner = w; distance = n; value = value; begins = begins; line = line }
answers_told graph view w n number value items (Err e) line begins = tt
