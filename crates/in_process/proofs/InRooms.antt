-- A call on a table of a room.
use Rattle.std.specs.Prelude.{◌≡◌, ℕ, ◌<◌, ◌≤◌, List, [], length, slice_set, None, Some}
use Rattle.std.proofs.Common.{sym, subst, ◌∙◌, ap, inl, inr, arith, set-set}
use Rattle.std.proofs.lemmas.Bool.{cases_lt}
use Rattle.game_file.specs.Kept.{Layout}
use Rattle.game_file.specs.State.{State}
use Rattle.retrograde.specs.Stored.{Stored}
use Rattle.session.specs.declared.line_by_line.Lines.{Lines}
use Rattle.in_process.specs.Calls.{bytes_of}
use Rattle.in_process.specs.Given.{IsGiven}
use Rattle.in_process.specs.Kept.{disk_kept, IsAskable}
use Rattle.in_process.specs.Lines.{AnswersLinesOn, IsAnsweredOn}
use Rattle.in_process.specs.Rooms.{Boxed, table_at, IsOnTable, GivesAnswers, GivesBytes}
use Rattle.in_process.specs.declared.held.HeldTable.{HeldTable}
use Rattle.in_process.specs.declared.kept.Kept.{Kept}
use Rattle.in_process.specs.declared.places.HeldTables.{HeldTables}

-- there is no such table
pub on_none : {Does : HeldTable → HeldTable → ℕ → Type 0} {before self new after : HeldTables} {number status : ℕ} → self ≡ before
    → table_at self number ≡ None → new.places.items ≡ self.places.items → after ≡ new → status ≡ 7 → IsOnTable Does before after number status
on_none {Does} {before} {self} {new} {after} {number} {status} same absent kept is seven =
    subst (λ (n : ℕ). IsOnTable Does before after number n) (sym seven)
    (IsOnTable.not_open (ap (λ (t : HeldTables). table_at t number) (sym same) ∙ absent)
    (ap (λ (t : HeldTables). t.places.items) is ∙ (kept ∙ ap (λ (t : HeldTables). t.places.items) same)))

-- the table was taken out, changed, and put in its place again
pub on_found : {Does : HeldTable → HeldTable → ℕ → Type 0} {before self taken again put after : HeldTables} {number status : ℕ} (was is : Boxed)
    → self ≡ before → table_at self number ≡ Some was → taken.places.items ≡ slice_set self.places.items number None → again ≡ taken
    → put.places.items ≡ slice_set again.places.items number (Some is) → after ≡ put → Does was.value is.value status
    → IsOnTable Does before after number status
on_found {Does} {before} {self} {taken} {again} {put} {after} {number} {status} was is same there out back puts last does =
    let first : table_at before number ≡ Some was = ap (λ (t : HeldTables). table_at t number) (sym same) ∙ there in
    let items : after.places.items ≡ slice_set again.places.items number (Some is) = ap (λ (t : HeldTables). t.places.items) last ∙ puts in
    let of_taken : slice_set again.places.items number (Some is) ≡ slice_set taken.places.items number (Some is) =
    ap (λ (t : HeldTables). slice_set t.places.items number (Some is)) back in
    let of_self : slice_set taken.places.items number (Some is) ≡ slice_set (slice_set self.places.items number None) number (Some is) =
    ap (λ xs. slice_set xs number (Some is)) out in
    let once : slice_set (slice_set self.places.items number None) number (Some is) ≡ slice_set self.places.items number (Some is) =
    set-set self.places.items number None (Some is) in
    let of_before : slice_set self.places.items number (Some is) ≡ slice_set before.places.items number (Some is) =
    ap (λ (t : HeldTables). slice_set t.places.items number (Some is)) same in
    IsOnTable.found was is status first does (items ∙ (of_taken ∙ (of_self ∙ (once ∙ of_before))))

-- the answers that wait fit, or they wait on
pub gives_answers : {out told : List ℕ} {count status : ℕ} {was is : HeldTable} → IsGiven was.answers.items out told count → is.kept ≡ was.kept
    → (length was.answers.items ≤ length out → is.answers.items ≡ []) → (length out < length was.answers.items → is ≡ was)
    → length told ≡ length out → (count ≤ length told → status ≡ 0) → (length told < count → status ≡ 6)
    → GivesAnswers out told count was is status
gives_answers {out} {told} {count} {status} {was} {is} given kept none wait long fits over =
    record {
      given = given;
      same = kept;
      either = elim (cases_lt (length out) (length was.answers.items)) [
        | inl less ↦ inr (over (omega (arith, given.counted, long, less)), wait less)
        | inr enough ↦ inl (fits (omega (arith, given.counted, long, enough)), none enough)
      ];
    }

-- the bytes fit, or not
pub gives_bytes : {out told : List ℕ} {count status : ℕ} {was is : HeldTable} → IsGiven (bytes_of (disk_kept was.kept)) out told count
    → disk_kept is.kept ≡ disk_kept was.kept → (IsAskable was.kept → IsAskable is.kept) → is.answers ≡ was.answers
    → (count ≤ length told → status ≡ 0) → (length told < count → status ≡ 6) → GivesBytes out told count was is status
gives_bytes {out} {told} {count} {status} {was} {is} given disk askable answers fits over =
    record {
      given = given;
      disk = disk;
      askable = askable;
      answers = answers;
      either = elim (cases_lt (length told) count) [
        | inl less ↦ inr (over less)
        | inr enough ↦ inl (fits enough)
      ];
    }

-- what is done is told so, where this is equal to that
pub moved : (Does : List ℕ → ℕ → HeldTable → ℕ → Type 0) {a b : List ℕ} {n m s t : ℕ} {x y : HeldTable} → a ≡ b → n ≡ m → s ≡ t → x ≡ y
    → Does b m x t → Does a n y s
moved Does {a} {b} {n} {m} {s} {t} {x} {y} texts counts statuses tables does =
    subst (λ (it : List ℕ). Does it n y s) (sym texts) (subst (λ (k : ℕ). Does b k y s) (sym counts)
    (subst (λ (k : ℕ). Does b m y k) (sym statuses) (subst (λ (it : HeldTable). Does b m it t) tables does)))

-- lines were answered on a table that was found in its place, and how many bytes wait was told
module _ {F Version : Type 0} {Stores : ℕ → Layout} {state : F → State} {IsVersion : Version → Stored (List ℕ) → F → Type 0}
    {AreTwo : Version → Version → Type 0} {IsUsedUp : F → Type 0} {Lasts : F → F → Type 0} where
  pub answers_lines : {manner taken : Lines} {lines : List ℕ} {count status result : ℕ} {was found is : HeldTable} → found ≡ was → manner ≡ taken
      → status ≡ result → count ≡ length is.answers.items
      → (IsAskable found.kept → IsAnsweredOn Stores state IsVersion AreTwo IsUsedUp Lasts manner lines found.kept is.kept found.answers.items
      is.answers.items result)
      → (IsAskable found.kept → IsAskable is.kept)
      → AnswersLinesOn Stores state IsVersion AreTwo IsUsedUp Lasts taken lines count was is status
  answers_lines {manner} {taken} {lines} {count} {status} {result} {was} {found} {is} same takes told waits answers again =
      record {
        answered = λ askable. subst (λ (n : ℕ). Answered taken was n) (sym told) (subst (λ (m : Lines). Answered m was result) takes
            (subst (λ (t : HeldTable). Answered manner t result) same (answers (subst (λ (t : HeldTable). IsAskable t.kept) (sym same) askable))));
        again = λ askable. again (subst (λ (t : HeldTable). IsAskable t.kept) (sym same) askable);
        waits = waits;
      }
    where
      Answered : Lines → HeldTable → ℕ → Type 0
      Answered m t n = IsAnsweredOn Stores state IsVersion AreTwo IsUsedUp Lasts m lines t.kept is.kept t.answers.items is.answers.items n

  -- lines were answered on what was taken out of the table, and what they left was put in again
  pub answered_in : {manner : Lines} {lines : List ℕ} {status : ℕ} {was found is left : Kept} {before waits after leaves : List ℕ} → found ≡ was
      → waits ≡ before → is ≡ left → after ≡ leaves
      → (IsAskable found → IsAnsweredOn Stores state IsVersion AreTwo IsUsedUp Lasts manner lines found left waits leaves status) → IsAskable was
      → IsAnsweredOn Stores state IsVersion AreTwo IsUsedUp Lasts manner lines was is before after status
  answered_in {manner} {lines} {status} {was} {found} {is} {left} {before} {waits} {after} {leaves} taken waited puts leave answers askable =
      subst (λ (it : Kept). Answered was it before after) (sym puts) (subst (λ (them : List ℕ). Answered was left before them) (sym leave)
      (subst (λ (them : List ℕ). Answered was left them leaves) waited (subst (λ (it : Kept). Answered it left waits leaves) taken
      (answers (subst IsAskable (sym taken) askable)))))
    where
      Answered : Kept → Kept → List ℕ → List ℕ → Type 0
      Answered from to old new = IsAnsweredOn Stores state IsVersion AreTwo IsUsedUp Lasts manner lines from to old new status
