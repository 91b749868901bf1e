-- What calls of a layer above leave of a store, one after another.
use Rattle.std.specs.Prelude.{◌≡◌, ◌⊎◌, ℕ, ◌+◌, ◌≤◌, Result, Ok, Err, false, OnOk, IfErr}
use Rattle.std.proofs.Common.{refl, sym, ◌∙◌, ap, subst, arith, inl, inr}
use Rattle.std.specs.Result.{IsErr, IsErrAnd}
use Rattle.sector_disk.specs.Disk.{Disk, Shown, size, GoesOn, LeavesOnly, MayLeave}
use Rattle.sector_disk.specs.lemmas.Moments.{leaves_now, leaves_then, leaves_more, still_honest}
use Rattle.page_store.specs.declared.marks.Mark.TheVariants.{Committed}
use Rattle.page_store.specs.Marks.{mark, free_count, AreSealed}
use Rattle.page_store.specs.Store.{Store, StoreWorks, IsUnchanged, IsRemarked}
use Rattle.page_store.specs.Frames.{PagesRead, PagesWritten, PagesRefused, OnlyMarks, IsReadOn}
use Rattle.page_store.specs.lemmas.Works.{works_refl, works_then}

-- nothing has happened
pub unchanged_refl : (store : Store) → IsUnchanged store store
unchanged_refl store = record {
  root = refl;
  marks = refl;
  closed = refl;
  shown = λ honest. refl;
  failed_writes = refl;
  leaves = λ honest. leaves_now store.disk (λ image left. left);
  holds = refl;
}

pub read_refl : (store : Store) → PagesRead store store
read_refl store = record { unchanged = unchanged_refl store; works = works_refl store }

-- a store that is as it was
pub read_same : {old new : Store} → new ≡ old → PagesRead old new
read_same {old} same = subst (λ (s : Store). PagesRead old s) (sym same) (read_refl old)

-- one read after another
pub unchanged_then : {old mid new : Store} → StoreWorks old mid → StoreWorks mid new → IsUnchanged old mid → IsUnchanged mid new
    → IsUnchanged old new
unchanged_then one two first second = record {
  root = second.root ∙ first.root;
  marks = second.marks ∙ first.marks;
  closed = second.closed ∙ first.closed;
  failed_writes = second.failed_writes ∙ first.failed_writes;
  shown = λ honest. second.shown (still_honest one.goes_on honest) ∙ first.shown honest;
  leaves = λ honest.
      leaves_then two.goes_on (first.leaves honest)
      (leaves_more (λ image left. subst (λ (s : Shown). MayLeave s image) (first.shown honest) left)
      (second.leaves (still_honest one.goes_on honest)));
  holds = second.holds ∙ first.holds;
}

pub read_then : {old mid new : Store} → PagesRead old mid → PagesRead mid new → PagesRead old new
read_then one two =
    record { unchanged = unchanged_then one.works two.works one.unchanged two.unchanged; works = works_then one.works two.works }

-- pages are marked, one after another
pub marks_none : (store : Store) → OnlyMarks store store
marks_none store = record {
  works = works_refl store;
  shown = λ honest. refl;
  leaves = λ honest. leaves_now store.disk (λ image left. left);
  closed = refl;
  others = λ p. inl refl;
}

pub marks_then : {old mid new : Store} → OnlyMarks old mid → OnlyMarks mid new → OnlyMarks old new
marks_then {old} {mid} {new} first second = record {
  works = works_then first.works second.works;
  shown = λ honest. second.shown (still_honest first.works.goes_on honest) ∙ first.shown honest;
  leaves = λ honest.
      leaves_then second.works.goes_on (first.leaves honest)
      (leaves_more (λ image left. subst (λ (s : Shown). MayLeave s image) (first.shown honest) left) (second.leaves (still_honest first.works.goes_on honest)));
  closed = second.closed ∙ first.closed;
  others = each;
}
  where
    each : (p : ℕ) → (mark new.marks p ≡ mark old.marks p) ⊎ (mark new.marks p ≡ Committed)
    each p = elim (second.others p) [
      | inr is ↦ inr is
      | inl same ↦ elim (first.others p) [
        | inl was ↦ inl (same ∙ was)
        | inr is ↦ inr (same ∙ is)
      ]
    ]

-- a read marks nothing
pub marks_read : {old new : Store} → StoreWorks old new → IsUnchanged old new → OnlyMarks old new
marks_read {old} {new} works same = record {
  works = works;
  shown = same.shown;
  leaves = same.leaves;
  closed = same.closed;
  others = λ p. inl (λ i. mark (same.marks i) p);
}

-- a call that writes after one that took so many pages at most
pub written_since : {old mid new : Store} {more all : ℕ} (most : ℕ) → StoreWorks old mid → free_count old.marks ≤ free_count mid.marks + most
    → most + more ≤ all → PagesWritten more mid new → PagesWritten all old new
written_since most works took fits it =
    record { works = works_then works it.works; «open» = it.open; takes = omega (arith, took, fits, it.takes) }

-- one that is refused after it
pub refused_since : {F : Type 0} {disk : F} {Cause Before : Store → Store → F → Type 0} {old mid new : Store} {more all : ℕ} {fault : F}
    (most : ℕ) → StoreWorks old mid → mid.closed ≡ old.closed → free_count old.marks ≤ free_count mid.marks + most → most + more ≤ all
    → (Cause mid new fault → Before old new fault) → PagesRefused disk Cause more mid new fault → PagesRefused disk Before all old new fault
refused_since most works still took fits cause it = record {
  works = works_then works it.works;
  still = λ other. it.still other ∙ still;
  takes = omega (arith, took, fits, it.takes);
  cause = cause it.cause;
}

-- nor does it take more than more
pub written_within : {old new : Store} {most all : ℕ} → PagesWritten most old new → most ≤ all → PagesWritten all old new
written_within it fits = record { works = it.works; «open» = it.open; takes = omega (arith, it.takes, fits) }

pub refused_within : {F : Type 0} {disk : F} {Cause : Store → Store → F → Type 0} {old new : Store} {most all : ℕ} {fault : F}
    → PagesRefused disk Cause most old new fault → most ≤ all → PagesRefused disk Cause all old new fault
refused_within it fits = record { works = it.works; still = it.still; takes = omega (arith, it.takes, fits); cause = it.cause }

-- a call that only reads is refused
pub read_refused : {F : Type 0} {disk : F} {Cause : Store → Store → F → Type 0} {old new : Store} {all : ℕ} {fault : F} → PagesRead old new
    → Cause old new fault → PagesRefused disk Cause all old new fault
read_refused read cause = record {
  works = read.works;
  still = λ other. read.unchanged.closed;
  takes = omega (arith, ap free_count read.unchanged.marks);
  cause = cause;
}

-- a store that was open is as open as it was
pub open_still : {old new : Store} → StoreWorks old new → new.closed ≡ false → new.closed ≡ old.closed
open_still works is_open = is_open ∙ sym (works.closed is_open)

-- reading takes no page
pub read_takes : {old new : Store} → PagesRead old new → free_count old.marks ≤ free_count new.marks + 0
read_takes read = omega (arith, ap free_count read.unchanged.marks)

-- a store of which pages were marked is one of which was read
pub marked_on : {old mid : Store} → OnlyMarks old mid → IsReadOn old mid
marked_on only = record {
  goes_on = only.works.goes_on;
  same_size = only.works.same_size;
  failures = only.works.failures;
  root = only.works.root;
  same_pages = only.works.same_pages;
  shown = only.shown;
  leaves = only.leaves;
  closed = only.closed;
}

-- and so it is once it is sealed
pub sealed_on : {old mid new : Store} → OnlyMarks old mid → AreSealed mid.marks new.marks → IsRemarked mid new → IsReadOn old new
sealed_on {old} {mid} {new} only sealed others = record {
  goes_on = subst (λ (d : Disk). GoesOn old.disk d) (sym others.disk) only.works.goes_on;
  same_size = ap size others.disk ∙ only.works.same_size;
  failures = omega (arith, only.works.failures, others.failures);
  root = others.root ∙ only.works.root;
  same_pages = sealed.same_length ∙ only.works.same_pages;
  shown = λ honest. ap (λ (d : Disk). d.now) others.disk ∙ only.shown honest;
  leaves = λ honest. subst (λ (d : Disk). LeavesOnly old.disk d (MayLeave old.disk.now)) (sym others.disk) (only.leaves honest);
  closed = others.closed ∙ only.closed;
}

-- a fault is handed on
pub passed_on : {X E : Type 0} (Such : E → Type 0) (r : Result X E) (fault : E) → IsErr r × IsErrAnd r (λ f. f ≡ fault) → Such fault → IfErr r Such
passed_on Such (Ok x) fault is such = tt
passed_on Such (Err f) fault is such = subst Such (sym is.1) such

-- and of no fault nothing is said
pub none_done : {X E : Type 0} (Done : Type 0) (r : Result X E) → IsErr r → OnOk r Done
none_done Done (Ok x) is = absurd (cc)
none_done Done (Err f) is = tt
