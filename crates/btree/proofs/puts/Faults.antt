-- Why an entry is not put below a page.
use Rattle.std.proofs.Common.{◌≡◌, ◌≢◌, ◌⊎◌, ℕ, zero, suc, ◌+◌, ◌-◌, ◌^◌, ◌<◌, ◌≤◌, List, Some, Contains, false, true, Result, Ok, Err, length, IsTrue, refl, sym, ◌∙◌, ap, subst, inl, inr, arith}
use Rattle.std.specs.List.{flat_map, slice_get}
use Rattle.std.specs.Result.{IsErr, IfErr, IsErrAnd}
use Rattle.page_store.specs.Causes.{PageReadCause as PageCause, NewCause, PageWriteCause}
use Rattle.page_store.specs.declared.fault.PageFault.{PageFault}
use Rattle.page_store.specs.declared.fault.PageFault.TheVariants.{Disk, NotATable, Damaged, TableFull, OutOfMemory, Closed}
use Rattle.page_store.specs.declared.marks.Mark.{Mark}
use Rattle.page_store.specs.Marks.{free_count}
use Rattle.page_store.specs.Page.{page}
use Rattle.page_store.specs.Frames.{PagesRefused}
use Rattle.page_store.specs.Store.{Store, reads, StoreWorks, IsUnchanged}
use Rattle.std.proofs.lemmas.Result.{IfErr-weaker}
use Rattle.page_store.specs.lemmas.Frames.{open_still, refused_since}
use Rattle.page_store.specs.lemmas.Works.{works_same}
use Rattle.sector_disk.specs.Disk.{Shown}
use Rattle.sector_disk.specs.lemmas.Moments.{still_honest}
use Rattle.btree.specs.declared.page.kind.Kind.{Kind}
use Rattle.btree.specs.declared.page.kind.Kind.TheVariants.{Leaf, Inner}
use Rattle.btree.specs.declared.page.widths.Widths.{Widths}
use Rattle.btree.specs.Page.{Item, IsPage, items_in, child_of}
use Rattle.btree.specs.Entries.{first_key}
use Rattle.btree.specs.lemmas.Laws.{contains_root, contains_later}
use Rattle.btree.specs.lemmas.Parts.{all_got, contains_part}
use Rattle.btree.specs.Tree.{entries_below, pages_below, IsTree}
use Rattle.btree.specs.lemmas.Causes.{WriteCause, BelowCause, IsReadable}

-- a fault is passed on
pub passed_on : {X E : Type 0} (Cause : E → Type 0) (r : Result X E) (fault : E) → IsErr r × IsErrAnd r (λ f. f ≡ fault) → Cause fault → IfErr r Cause
passed_on Cause (Ok x) fault is cause = tt
passed_on Cause (Err f) fault is cause = subst Cause (sym is.1) cause

-- why nothing is written: of a store after some work, as of the one before
grew_later : (a b c : ℕ) → a ≤ b → (b < c) ⊎ (2 ^ 64 - 1 ≤ c) → (a < c) ⊎ (2 ^ 64 - 1 ≤ c)
grew_later a b c before (inl more) = inl (omega (arith, before, more))
grew_later a b c before (inr many) = inr many

pub cause_later : (old mid new : Store) (fault : PageFault) → StoreWorks old mid → mid.closed ≡ false → WriteCause mid new fault → WriteCause old new fault
cause_later old mid new Disk works open_ cause = grew_later old.failures mid.failures new.failures works.failures cause
cause_later old mid new NotATable works open_ cause = absurd cause
cause_later old mid new Damaged works open_ cause = absurd cause
cause_later old mid new TableFull works open_ cause = cause
cause_later old mid new OutOfMemory works open_ cause = absurd cause
cause_later old mid new Closed works open_ cause = let no : false ≡ true = sym open_ ∙ cause in absurd (cc)

pub none_free : (old mid new : Store) (fault : PageFault) → new ≡ mid → mid.closed ≡ old.closed → NewCause mid fault → WriteCause old new fault
none_free old mid new Disk same closed cause = absurd cause
none_free old mid new NotATable same closed cause = absurd cause
none_free old mid new Damaged same closed cause = absurd cause
none_free old mid new TableFull same closed cause = ap (λ (s : Store). free_count s.marks) same ∙ cause
none_free old mid new OutOfMemory same closed cause = absurd cause
none_free old mid new Closed same closed cause = sym closed ∙ cause

pub write_fails : (old mid new : Store) (fault : PageFault) → StoreWorks old mid → mid.closed ≡ old.closed → PageWriteCause mid new fault
    → WriteCause old new fault
write_fails old mid new Disk works closed cause = grew_later old.failures mid.failures new.failures works.failures cause.0
write_fails old mid new NotATable works closed cause = absurd cause
write_fails old mid new Damaged works closed cause = absurd cause
write_fails old mid new TableFull works closed cause = absurd cause
write_fails old mid new OutOfMemory works closed cause = absurd cause
write_fails old mid new Closed works closed cause = sym closed ∙ cause

-- nor put below a page
pub as_below : (w : Widths) (levels q : ℕ) (old new : Store) (fault : PageFault) → WriteCause old new fault → BelowCause w levels q old new fault
as_below w levels q old new Disk cause = cause
as_below w levels q old new NotATable cause = absurd cause
as_below w levels q old new Damaged cause = absurd cause
as_below w levels q old new TableFull cause = cause
as_below w levels q old new OutOfMemory cause = absurd cause
as_below w levels q old new Closed cause = cause

-- what is read of a store that a read left unchanged
pub reads_unchanged : (old new : Store) → IsUnchanged old new → IsTrue old.disk.honest → reads new ≡ reads old
reads_unchanged old new same honest = ap (λ (now : Shown). λ (p : ℕ). page now.contents p) (same.shown honest)

-- its page is not there
pub not_there : (w : Widths) (levels q : ℕ) (old new : Store) (fault : PageFault) → PageCause old q new fault → BelowCause w levels q old new fault
not_there w levels q old new Disk cause = cause
not_there w levels q old new NotATable cause = absurd cause
not_there w levels q old new Damaged cause = λ honest tree. out cause (tree.within q (contains_root w (reads old) tree.depth q))
  where
    out : (q ≡ 0) ⊎ (length old.marks ≤ q) → (1 ≤ q) × (q < length old.marks) → ⊥
    out (inl none) there = omega (arith, none, there.0)
    out (inr past) there = omega (arith, past, there.1)
not_there w levels q old new TableFull cause = absurd cause
not_there w levels q old new OutOfMemory cause = absurd cause
not_there w levels q old new Closed cause = cause

-- it is none of a tree
pub has_kind : (w : Widths) (bytes : ℕ → List ℕ) (d q : ℕ) → IsTree w bytes d q → IsPage w Leaf (bytes q) ⊎ IsPage w Inner (bytes q)
has_kind w bytes zero q tree = inl tree
has_kind w bytes (suc d) q tree = inr tree.0

pub no_kind : (w : Widths) (levels q : ℕ) (old : Store) (page : List ℕ) → (IsTrue old.disk.honest → page ≡ reads old q)
    → ((kind : Kind) → IsPage w kind page → ⊥)
    → IsTrue old.disk.honest → IsReadable w levels q old → ⊥
no_kind w levels q old page is none honest tree = elim (has_kind w (reads old) tree.depth q tree.tree) [
  | inl leaf ↦ none Leaf (subst (IsPage w Leaf) (sym (is honest)) leaf)
  | inr inner ↦ none Inner (subst (IsPage w Inner) (sym (is honest)) inner)
]

-- an inner page with no level below it
pub too_deep : (w : Widths) (levels q : ℕ) (old : Store) (page : List ℕ) → levels ≡ 0 → (IsTrue old.disk.honest → page ≡ reads old q) → IsPage w Inner page
    → IsTrue old.disk.honest → IsReadable w levels q old → ⊥
too_deep w levels q old page none is inner honest tree = by_depth tree.depth (omega (arith, tree.shallow, none)) tree.tree
    (subst (IsPage w Inner) (is honest) inner)
  where
    by_depth : (d : ℕ) → d ≤ 0 → IsTree w (reads old) d q → IsPage w Inner (reads old q) → ⊥
    by_depth zero shallow tree inner = omega (arith, inner.first, tree.first)
    by_depth (suc d) shallow tree inner = omega (arith, shallow)

-- a child is readable where its page is
pub readable_child : (w : Widths) (levels q place : ℕ) (c : Item) (old mid : Store) (page : List ℕ) → page ≡ reads old q → IsPage w Inner page
    → slice_get (items_in w Inner page) place ≡ Some c → mid.marks ≡ old.marks → reads mid ≡ reads old
    → IsReadable w levels q old → IsReadable w (levels - 1) (child_of c) mid
readable_child w levels q place c old mid page is inner got marks same tree =
    by_depth tree.depth tree.shallow tree.tree tree.within (subst (IsPage w Inner) is inner)
    (subst (λ (b : List ℕ). slice_get (items_in w Inner b) place ≡ Some c) is got)
  where
    by_depth : (d : ℕ) → d ≤ levels → IsTree w (reads old) d q → ((p : ℕ) → Contains (pages_below w (reads old) d q) p → (1 ≤ p) × (p < length old.marks))
        → IsPage w Inner (reads old q) → slice_get (items_in w Inner (reads old q)) place ≡ Some c → IsReadable w (levels - 1) (child_of c) mid
    by_depth zero shallow tree within inner got = absurd (omega (arith, inner.first, tree.first))
    by_depth (suc d) shallow tree within inner got =
        let below = λ (e : Item). pages_below w (reads old) d (child_of e) in
        let items = items_in w Inner (reads old q) in
        let branch : IsTree w (reads old) d (child_of c) × (first_key (entries_below w (reads old) d (child_of c)) ≡ Some c.0) =
        all_got (λ e. IsTree w (reads old) d (child_of e) × (first_key (entries_below w (reads old) d (child_of e)) ≡ Some e.0)) items place c tree.1 got in
        record {
          depth = d;
          shallow = omega (arith, shallow);
          tree = subst (λ (bytes : ℕ → List ℕ). IsTree w bytes d (child_of c)) (sym same) branch.0;
          within = λ p here.
              let was : Contains (pages_below w (reads old) d (child_of c)) p = subst
              (λ (bytes : ℕ → List ℕ). Contains (pages_below w bytes d (child_of c)) p) same here in
              let there = within p (contains_later q p (flat_map below items) (contains_part below items place c p got was)) in
              (there.0, subst (λ (ms : List Mark). p < length ms) (sym marks) there.1);
        }

-- nothing is put below a child
pub child_fails : (w : Widths) (levels q place child : ℕ) (c : Item) (old mid new : Store) (page : List ℕ) (fault : PageFault)
    → child ≡ child_of c → StoreWorks old mid → mid.marks ≡ old.marks
    → (IsTrue old.disk.honest → reads mid ≡ reads old) → mid.closed ≡ false → (IsTrue old.disk.honest → page ≡ reads old q) → IsPage w Inner page
    → slice_get (items_in w Inner page) place ≡ Some c → BelowCause w (levels - 1) child mid new fault → BelowCause w levels q old new fault
child_fails w levels q place child c old mid new page Disk leads works marks same open_ is inner got cause = grew cause
  where
    grew : (mid.failures < new.failures) ⊎ (2 ^ 64 - 1 ≤ new.failures) → (old.failures < new.failures) ⊎ (2 ^ 64 - 1 ≤ new.failures)
    grew (inl more) = inl (omega (arith, more, works.failures))
    grew (inr many) = inr many
child_fails w levels q place child c old mid new page NotATable leads works marks same open_ is inner got cause = absurd cause
child_fails w levels q place child c old mid new page Damaged leads works marks same open_ is inner got cause = λ honest tree.
    cause (still_honest works.goes_on honest)
    (subst (λ (n : ℕ). IsReadable w (levels - 1) n mid) (sym leads)
    (readable_child w levels q place c old mid page (is honest) inner got marks (same honest) tree))
child_fails w levels q place child c old mid new page TableFull leads works marks same open_ is inner got cause = cause
child_fails w levels q place child c old mid new page OutOfMemory leads works marks same open_ is inner got cause = absurd cause
child_fails w levels q place child c old mid new page Closed leads works marks same open_ is inner got cause = let no : false ≡ true =
    sym open_ ∙ cause in absurd (cc)

-- why nothing is written, of a store that is as open as it was
pub cause_since : (old mid new : Store) (fault : PageFault) → StoreWorks old mid → mid.closed ≡ old.closed → WriteCause mid new fault → WriteCause old new fault
cause_since old mid new Disk works closed cause = grew_later old.failures mid.failures new.failures works.failures cause
cause_since old mid new NotATable works closed cause = absurd cause
cause_since old mid new Damaged works closed cause = absurd cause
cause_since old mid new TableFull works closed cause = cause
cause_since old mid new OutOfMemory works closed cause = absurd cause
cause_since old mid new Closed works closed cause = sym closed ∙ cause

-- no page was handed out
pub none_handed_out : {old new : Store} {fault : PageFault} → new ≡ old → NewCause old fault → PagesRefused Disk WriteCause 0 old new fault
none_handed_out {old} {new} {fault} same cause = record {
  works = works_same same;
  still = λ other. ap (λ (s : Store). s.closed) same;
  takes = omega (arith, ap (λ (s : Store). free_count s.marks) same);
  cause = none_free old old new fault same refl cause;
}

-- a page was not written
pub not_written : {old new : Store} {fault : PageFault} → StoreWorks old new → new.marks ≡ old.marks → (fault ≢ Disk → new ≡ old) → PageWriteCause old new fault
    → PagesRefused Disk PageWriteCause 0 old new fault
not_written works marks untouched cause = record {
  works = works;
  still = λ other. ap (λ (s : Store). s.closed) (untouched other);
  takes = omega (arith, ap free_count marks);
  cause = cause;
}

-- after others were handed out
pub refused_after : {old mid new : Store} {all : ℕ} {fault : PageFault} (most : ℕ) → StoreWorks old mid → mid.closed ≡ old.closed
    → free_count old.marks ≤ free_count mid.marks + most → most ≤ all → PagesRefused Disk PageWriteCause 0 mid new fault
    → PagesRefused Disk WriteCause all old new fault
refused_after {old} {mid} {new} {all} {fault} most works closed took fits it =
    refused_since most works closed took (omega (arith, fits)) (write_fails old mid new fault works closed) it

-- where no mark changes no page is taken
pub marks_take : {old new : List Mark} → new ≡ old → free_count old ≤ free_count new + 0
marks_take same = omega (arith, ap free_count same)

-- pages are not written below a page
pub below_refused : {X : Type 0} (w : Widths) (levels q most : ℕ) (old mid new : Store) (all : ℕ) (r : Result X PageFault)
    → StoreWorks old mid → mid.closed ≡ false
    → free_count old.marks ≤ free_count mid.marks + most → most + 2 ≤ all → IfErr r (PagesRefused Disk WriteCause 2 mid new)
    → IfErr r (PagesRefused Disk (BelowCause w levels q) all old new)
below_refused w levels q most old mid new all r works is_open took fits refused =
    IfErr-weaker r (PagesRefused Disk WriteCause 2 mid new) (PagesRefused Disk (BelowCause w levels q) all old new)
    (λ fault it. refused_since most works (open_still works is_open) took fits
    (λ cause. as_below w levels q old new fault (cause_later old mid new fault works is_open cause)) it) refused
