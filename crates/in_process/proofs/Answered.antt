-- A command that was done is answered.
use Rattle.std.proofs.Common.{◌≡◌, ◌≢◌, ℕ, ◌<◌, ◌≤◌, List, [], ◌++◌, length, Option, Some, inl, inr, sym, ◌∙◌, ap, subst}
use Rattle.std.proofs.lemmas.Bool.{cases_lt}
use Rattle.std.proofs.lemmas.Bool.Decides.{eqb_tells}
use Rattle.sector_disk.specs.Disk.{Disk}
use Rattle.session.specs.Commands.{Came, IsLineOf, IsPrinted}
use Rattle.in_process.specs.Calls.{IsAnswered, IsCalled, IsDiskOf, IsDone, bytes_of}
use Rattle.in_process.specs.Lines.{AreLinesAnswered}
use Rattle.in_process.specs.Given.{IsGiven, over}

-- it was done and printed, or memory ran out for its line; and what give_table says
pub answered : {Does : Disk → ℕ → Came → Disk → ℕ → Type 0} {disk : Disk} {before after out given : List ℕ} {count result failures : ℕ}
    (back : Disk) (now : ℕ) (came : Came) (status : ℕ) {empty items text bytes : List ℕ} → empty ≡ [] → text ≡ items → bytes ≡ bytes_of back
    → failures ≡ 0 → Does disk failures came back now → IsPrinted (Some empty) (Some items) came status
    → (status ≡ 4 → (result ≡ 5) × (count ≡ 0) × (given ≡ out) × (after ≡ before))
    → (status ≢ 4 → IsGiven text out given count)
    → (status ≢ 4 → length text ≤ length out → (result ≡ status) × (after ≡ over bytes before))
    → (status ≢ 4 → length out < length text → (result ≡ 6) × (after ≡ before))
    → IsAnswered Does disk before after out given count result
answered {Does} {disk} {before} {after} {out} {given} {count} {result} back now came status {empty} {items} {text} {bytes}
    none same shown unfailed does printed no_memory gives fits long = elim (eqb_tells status 4) [
      | inl four ↦ nothing four.1
      | inr differs ↦ let other : status ≢ 4 = differs.1 in elim printed [
        | IsPrinted.told line is_line prints status_is ↦
            let is_text : line ≡ text = sym (same ∙ prints ∙ ap (λ (xs : List ℕ). xs ++ line) none) in
            let done : IsDone Does disk text status back =
            (came, now, subst (λ (n : ℕ). Does disk n came back now) unfailed does, subst (IsLineOf came) is_text is_line, status_is) in
            elim (cases_lt (length out) (length text)) [
              | inl less ↦ subst (λ (n : ℕ). IsAnswered Does disk before after out given count n) (sym (long other less).0)
                  (IsAnswered.too_long back text status done less (gives other).counted ((gives other).too_long less) (long other less).1)
              | inr enough ↦ subst (λ (n : ℕ). IsAnswered Does disk before after out given count n) (sym (fits other enough).0)
                  (IsAnswered.done back text status done enough (gives other).counted ((gives other).fits enough)
                  ((fits other enough).1 ∙ ap (λ (bs : List ℕ). over bs before) shown))
            ]
        | IsPrinted.untold line is_line part is ↦ nothing is
      ]
    ]
  where
    nothing : status ≡ 4 → IsAnswered Does disk before after out given count result
    nothing is = subst (λ (n : ℕ). IsAnswered Does disk before after out given count n) (sym (no_memory is).0)
        (IsAnswered.no_memory (no_memory is).1 (no_memory is).2 (no_memory is).3)

-- a call by an equal argument, or on equal bytes
pub same_call : {A : Type 0} (Does : A → Disk → ℕ → Came → Disk → ℕ → Type 0) {x y : A} {bytes before after out told : List ℕ} {count status : ℕ} → x ≡ y
    → IsCalled (Does x) bytes before after out told count status → IsCalled (Does y) bytes before after out told count status
same_call Does {bytes = bytes} {before} {after} {out} {told} {count} {status} same =
    subst (λ a. IsCalled (Does a) bytes before after out told count status) same

pub same_bytes : {Does : Disk → ℕ → Came → Disk → ℕ → Type 0} {bytes others before after out told : List ℕ} {count status : ℕ} → bytes ≡ others
    → IsCalled Does bytes before after out told count status → IsCalled Does others before after out told count status
same_bytes {Does} {before = before} {after} {out} {told} {count} {status} same =
    subst (λ bs. IsCalled Does bs before after out told count status) same

-- lines were answered, or memory ran out for their answers; and what give_table says
pub lines_answered : {Answers : Disk → List ℕ → Option (List ℕ) → List ℕ → ℕ → Disk → ℕ
    → Type 0} {disk : Disk} {lines before after out given : List ℕ} {count result : ℕ}
    (back : Disk) (now status : ℕ) (read left : List ℕ) {text bytes : List ℕ} → IsDiskOf before disk → lines ≡ read ++ left
    → Answers disk read (Some left) text status back now → bytes ≡ bytes_of back
    → (status ≡ 4 → (result ≡ 5) × (count ≡ 0) × (given ≡ out) × (after ≡ before))
    → (status ≢ 4 → IsGiven text out given count)
    → (status ≢ 4 → length text ≤ length out → (result ≡ status) × (after ≡ over bytes before))
    → (status ≢ 4 → length out < length text → (result ≡ 6) × (after ≡ before))
    → AreLinesAnswered Answers lines before after out given count result
lines_answered {Answers} {disk} {lines} {before} {after} {out} {given} {count} {result} back now status read left {text} {bytes} is_disk cut does shown no_memory gives fits long =
    elim (eqb_tells status 4) [
      | inl four ↦ subst (λ (n : ℕ). AreLinesAnswered Answers lines before after out given count n) (sym (no_memory four.1).0)
          (AreLinesAnswered.no_memory (no_memory four.1).1 (no_memory four.1).2 (no_memory four.1).3)
      | inr differs ↦ let other : status ≢ 4 = differs.1 in elim (cases_lt (length out) (length text)) [
        | inl less ↦ subst (λ (n : ℕ). AreLinesAnswered Answers lines before after out given count n) (sym (long other less).0)
            (AreLinesAnswered.too_long disk back now read left text status is_disk cut does less (gives other).counted
            ((gives other).too_long less) (long other less).1)
        | inr enough ↦ subst (λ (n : ℕ). AreLinesAnswered Answers lines before after out given count n) (sym (fits other enough).0)
            (AreLinesAnswered.answered disk back now read left text status is_disk cut does enough (gives other).counted ((gives other).fits enough)
            ((fits other enough).1 ∙ ap (λ (bs : List ℕ). over bs before) shown))
      ]
    ]
