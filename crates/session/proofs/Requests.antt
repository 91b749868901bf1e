-- What the bytes that have come for a line ask for.
use Rattle.std.proofs.Common.{◌≡◌, ◌<◌, ◌≤◌, ◌+◌, inl, inr, ℕ, Bool, true, false, List, [], ◌∷◌, ◌++◌, length, refl, ap, sym, ◌∙◌, subst, arith}
use Rattle.std.specs.Prelude.{IsTrue, OnOk, Result, Ok, Err}
use Rattle.std.proofs.lemmas.Bool.{cases_lt}
use Rattle.std.proofs.lemmas.List.{length-append}
use Rattle.session_lines.specs.Asked.{Asks, IsBare}
use Rattle.session_lines.specs.declared.input.Asked.{Asked}
use Rattle.session_lines.specs.declared.input.Asked.TheVariants.{Usage}
use Rattle.session_lines.specs.declared.input.Line.{Line}
use Rattle.session_lines.specs.declared.input.TheConstants.{MAX_LINE_BYTES}
use Rattle.session.specs.Cut.{HasRead}
use Rattle.session.proofs.CutLines.{bare_form}

-- a line that is too long asks for `usage`
pub long_asks : (line : List ℕ) → MAX_LINE_BYTES < length line → Asks line Usage
long_asks line long = (λ over. refl, λ few. absurd (omega (arith, few, long)))

-- a line that LF has ended
pub ended_says : (line : Line) (bytes : List ℕ) (asked : Asked) → HasRead line bytes → (IsTrue line.is_too_long → asked ≡ Usage)
    → (line.is_too_long ≡ false → (bare : List ℕ) × IsBare line.bytes.items bare × Asks bare asked) → (bare : List ℕ) × IsBare bytes bare × Asks bare asked
ended_says line bytes asked come over kept = by_length line.is_too_long refl
  where
    by_length : (b : Bool) → line.is_too_long ≡ b → (bare : List ℕ) × IsBare bytes bare × Asks bare asked
    by_length false is = let (bare, same, asks) = kept is in (bare, subst (λ bs. IsBare bs bare) (come.kept is) same, asks)
    by_length true is =
        let (bare, same, short) = bare_form bytes in
        (bare, same, subst (Asks bare) (sym (over is)) (long_asks bare (omega (arith, short, (come.long is).0))))

-- the line with which the input ends
pub last_says : (line : Line) (bytes : List ℕ) (asked : Asked) → HasRead line bytes → (IsTrue line.is_too_long → asked ≡ Usage)
    → (line.is_too_long ≡ false → Asks line.bytes.items asked) → Asks bytes asked
last_says line bytes asked come over kept = by_length line.is_too_long refl
  where
    by_length : (b : Bool) → line.is_too_long ≡ b → Asks bytes asked
    by_length false is = subst (λ bs. Asks bs asked) (come.kept is) (kept is)
    by_length true is = subst (Asks bytes) (sym (over is)) (long_asks bytes (omega (arith, (come.long is).0)))

-- an empty line
pub come_of_none : (line : Line) → line.bytes.items ≡ [] → line.is_too_long ≡ false → HasRead line []
come_of_none line none short = record { kept = λ is. none; long = λ is. absurd (differ (sym is ∙ short)) }
  where
    differ : true ≡ false → ⊥
    differ e = cc

-- a byte more
pub come_of_more : {E : Type 0} (old new : Line) (bytes : List ℕ) (byte : ℕ) (result : Result Unit E) → HasRead old bytes
    → (length old.bytes.items ≤ MAX_LINE_BYTES → old.is_too_long ≡ false
    → OnOk result ((new.bytes.items ≡ old.bytes.items ++ byte ∷ []) × (new.is_too_long ≡ false)))
    → (MAX_LINE_BYTES < length old.bytes.items → IsTrue new.is_too_long × (new.bytes.items ≡ old.bytes.items))
    → OnOk result (HasRead new (bytes ++ byte ∷ []))
come_of_more old new bytes byte (Err e) come room full = tt
come_of_more old new bytes byte (Ok u) come room full = elim (cases_lt MAX_LINE_BYTES (length old.bytes.items)) [
  | inl over ↦ too_long over
  | inr enough ↦ fits enough old.is_too_long refl
]
  where
    grown : length (bytes ++ byte ∷ []) ≡ length bytes + 1
    grown = length-append bytes (byte ∷ [])

    known : MAX_LINE_BYTES < length old.bytes.items → (b : Bool) → old.is_too_long ≡ b → MAX_LINE_BYTES < length bytes
    known over false is = subst (λ bs. MAX_LINE_BYTES < length bs) (come.kept is) over
    known over true is = omega (arith, (come.long is).0)

    too_long : MAX_LINE_BYTES < length old.bytes.items → HasRead new (bytes ++ byte ∷ [])
    too_long over = record {
      kept = λ is. absurd (differ (sym (full over).0 ∙ is));
      long = λ is. (omega (arith, grown, known over old.is_too_long refl), subst (λ bs. MAX_LINE_BYTES < length bs) (sym (full over).1) over);
    }
      where
        differ : true ≡ false → ⊥
        differ e = cc

    fits : length old.bytes.items ≤ MAX_LINE_BYTES → (b : Bool) → old.is_too_long ≡ b → HasRead new (bytes ++ byte ∷ [])
    fits enough false is = record {
      kept = λ _. (room enough is).0 ∙ ap (λ bs. bs ++ byte ∷ []) (come.kept is);
      long = λ long. absurd (differ (sym long ∙ (room enough is).1));
    }
      where
        differ : true ≡ false → ⊥
        differ e = cc
    fits enough true is = absurd (omega (arith, enough, (come.long is).1))
