-- A chain is read, page by page.
use Rattle.std.proofs.Common.{◌≡◌, inl, inr, ◌⊎◌, ℕ, ◌+◌, ◌*◌, ◌<◌, ◌≤◌, List, [], ◌∷◌, ◌++◌, Some, length, take, drop, Contains, IsTrue, refl, sym, ◌∙◌, ap, subst, arith}
use Rattle.std.proofs.lemmas.List.{length-append, length-take-le}
use Rattle.std.proofs.lemmas.List.Elements.{Contains-push_cases}
use Rattle.std.proofs.lemmas.Bool.{cases_eq}
use Rattle.std.specs.Prelude.{slice_get}
use Rattle.sector_disk.specs.Disk.{Shown, Disk as DiskStated, LeavesOnly, MayLeave}
use Rattle.sector_disk.specs.lemmas.Moments.{still_honest}
use Rattle.page_store.specs.declared.fault.PageFault.{PageFault}
use Rattle.page_store.specs.declared.fault.PageFault.TheVariants.{Disk, NotATable, Damaged, TableFull, OutOfMemory, Closed}
use Rattle.page_store.specs.declared.marks.Mark.{Mark}
use Rattle.page_store.specs.declared.marks.Mark.TheVariants.{Committed, Waiting}
use Rattle.page_store.specs.Marks.{mark, IsMarked}
use Rattle.page_store.specs.Page.{page}
use Rattle.page_store.specs.Store.{Store, reads, IsRemarked, IsUnchanged, StoreWorks}
use Rattle.page_store.specs.lemmas.Works.{works_then}
use Rattle.page_chain.specs.Chain.{next_in, LeadsThrough, payloads, IsChain}
use Rattle.page_chain.specs.Causes.{ChainReadCause}
use Rattle.page_chain.specs.lemmas.Causes.{LinkCause}
use Rattle.page_chain.specs.lemmas.Links.{IsJoined}
use Rattle.page_store.specs.Frames.{OnlyMarks}
use Rattle.page_store.specs.lemmas.Frames.{marks_none, marks_then}
use Rattle.page_store.specs.Pages.{IsOnce, AreWaiting}
use Rattle.page_chain.proofs.Links.{LeadsTo, leads_more, leads_end, payloads_more, once_more, none_once, none_contained, contains_before, contains_last, same_way, got_seam, got_before, contains_got}

-- what a stop leaves where the disk was at first as it was
pub leaves_same : (old mid new : DiskStated) → mid ≡ old → (IsTrue mid.honest → LeavesOnly mid new (MayLeave mid.now)) → IsTrue old.honest
    → LeavesOnly old new (MayLeave old.now)
leaves_same old mid new same leaves honest = subst (λ (d : DiskStated). LeavesOnly d new (MayLeave d.now)) same
    (leaves (subst (λ (d : DiskStated). IsTrue d.honest) (sym same) honest))

-- one page is marked, and then read
pub one_marked : (at : ℕ) (old new : Store) → StoreWorks old new → (IsTrue old.disk.honest → new.disk.now ≡ old.disk.now)
    → (IsTrue old.disk.honest → LeavesOnly old.disk new.disk (MayLeave old.disk.now)) → new.closed ≡ old.closed
    → IsMarked at Committed old.marks new.marks → OnlyMarks old new
one_marked at old new works shown leaves closed marked = record { works = works; shown = shown; leaves = leaves; closed = closed; others = each }
  where
    each : (p : ℕ) → (mark new.marks p ≡ mark old.marks p) ⊎ (mark new.marks p ≡ Committed)
    each p = elim (cases_eq p at) [
      | inl same ↦ inr (ap (mark new.marks) same ∙ marked.is)
      | inr other ↦ inl (marked.others p other)
    ]

-- a call that marks a page, and one that reads it
pub read_marked : {at : ℕ} {old mid new : Store} → IsRemarked old mid → StoreWorks old mid → IsMarked at Committed old.marks mid.marks
    → IsUnchanged mid new → StoreWorks mid new → OnlyMarks old new
read_marked {at} {old} {mid} {new} marking first marked unchanged second =
    one_marked at old new (works_then first second)
    (λ honest. unchanged.shown (still_honest first.goes_on honest) ∙ ap (λ (d : DiskStated). d.now) marking.disk)
    (leaves_same _ _ new.disk marking.disk unchanged.leaves)
    (unchanged.closed ∙ marking.closed)
    (subst (λ (ms : List Mark). IsMarked at Committed old.marks ms) (sym unchanged.marks) marked)

-- this many pages are read, and the next one is known
pub record IsRead (old now : Store) (first count next : ℕ) (pages content : List ℕ) : Type 0 where
  pub only : OnlyMarks old now
  pub many : length pages ≡ count
  pub long : length content ≡ 4092 * count
  pub leads : IsTrue old.disk.honest → LeadsTo (reads old) first pages next
  pub holds : IsTrue old.disk.honest → payloads (reads old) pages ≡ content
  pub within : (p : ℕ) → Contains pages p → (1 ≤ p) × (p < length old.marks)
  pub once : IsOnce pages
  pub marked : (p : ℕ) → Contains pages p → mark now.marks p ≡ Committed
  pub waited : (p : ℕ) → Contains pages p → mark old.marks p ≡ Waiting
  pub kept : (p : ℕ) → (mark now.marks p ≡ mark old.marks p) ⊎ Contains pages p

nothing_read : (store : Store) (first : ℕ) → IsRead store store first 0 first [] []
nothing_read store first = record {
  only = marks_none store;
  many = refl;
  long = refl;
  leads = λ honest. refl;
  holds = λ honest. refl;
  within = λ p here. absurd (none_contained p here);
  once = none_once;
  marked = λ p here. absurd (none_contained p here);
  waited = λ p here. absurd (none_contained p here);
  kept = λ p. inl refl;
}

pub none_read : (store : Store) (first : ℕ) (pages content : List ℕ) → pages ≡ [] → content ≡ [] → IsRead store store first 0 first pages content
none_read store first pages content no_page no_byte =
    subst (λ (ps : List ℕ). IsRead store store first 0 first ps content) (sym no_page)
    (subst (λ (xs : List ℕ). IsRead store store first 0 first [] xs) (sym no_byte) (nothing_read store first))

waits_apart : (m : Mark) → m ≡ Committed → m ≡ Waiting → ⊥
waits_apart m one other = cc

-- one page more
module _ (old mid new : Store) (first count here next : ℕ) (pages more content longer : List ℕ) (read : IsRead old mid first count here pages content)
    (link : IsJoined here next mid new pages more content longer) (only : OnlyMarks mid new) where
  stays : IsTrue old.disk.honest → reads mid here ≡ reads old here
  stays honest = ap (λ (s : Shown). page s.contents here) (read.only.shown honest)

  new_here : Contains pages here → ⊥
  new_here contained = waits_apart _ (read.marked here contained) link.waited

  was_waiting : mark old.marks here ≡ Waiting
  was_waiting = read.only.works.waiting here link.waited

  marked_each : (p : ℕ) → Contains (pages ++ here ∷ []) p → mark new.marks p ≡ Committed
  marked_each p contained = elim (cases_eq p here) [
    | inl same ↦ ap (mark new.marks) same ∙ link.marks.is
    | inr other ↦ elim (Contains-push_cases pages here p contained) [
      | inl before ↦ link.marks.others p other ∙ read.marked p before
      | inr is ↦ absurd (other (sym is))
    ]
  ]

  waited_each : (p : ℕ) → Contains (pages ++ here ∷ []) p → mark old.marks p ≡ Waiting
  waited_each p contained = elim (Contains-push_cases pages here p contained) [
    | inl before ↦ read.waited p before
    | inr is ↦ ap (mark old.marks) (sym is) ∙ was_waiting
  ]

  within_each : (p : ℕ) → Contains (pages ++ here ∷ []) p → (1 ≤ p) × (p < length old.marks)
  within_each p contained = elim (Contains-push_cases pages here p contained) [
    | inl before ↦ read.within p before
    | inr is ↦ (omega (arith, link.is_page, is), omega (arith, link.within, is, read.only.works.same_pages))
  ]

  kept_each : (p : ℕ) → (mark new.marks p ≡ mark old.marks p) ⊎ Contains (pages ++ here ∷ []) p
  kept_each p = elim (cases_eq p here) [
    | inl same ↦ inr (subst (λ (r : ℕ). Contains (pages ++ here ∷ []) r) (sym same) (contains_last pages here))
    | inr other ↦ elim (read.kept p) [
      | inl was ↦ inl (link.marks.others p other ∙ was)
      | inr contained ↦ inr (contains_before pages here p contained)
    ]
  ]

  read_on : IsRead old new first (count + 1) next (pages ++ here ∷ []) longer
  read_on = record {
    only = marks_then read.only only;
    many = omega (arith, length-append pages (here ∷ []), read.many);
    long = omega (arith, link.long, read.long);
    leads = λ honest. leads_more (reads old) first here next pages (read.leads honest)
        (link.leads (still_honest read.only.works.goes_on honest) ∙ ap next_in (stays honest));
    holds = λ honest.
        payloads_more (reads old) here pages ∙ (λ i. read.holds honest i ++ drop 4 (sym (stays honest) i))
        ∙ sym (link.holds (still_honest read.only.works.goes_on honest));
    within = within_each;
    once = once_more pages here read.once new_here;
    marked = marked_each;
    waited = waited_each;
    kept = kept_each;
  }

  pub read_more : IsRead old new first (count + 1) next more longer
  read_more = subst (λ (ps : List ℕ). IsRead old new first (count + 1) next ps longer) (sym link.pages_are) read_on

-- what was read is a chain where it ends there
pub read_chain : {old now : Store} {first count next : ℕ} {pages content : List ℕ} (long : ℕ) (cut : List ℕ) → IsRead old now first count next pages content
    → next ≡ 0 → long ≤ 4092 * count → 4092 * count < long + 4092 → cut ≡ take long content → IsTrue old.disk.honest
    → IsChain (length old.marks) first pages cut (reads old)
read_chain {old} {now} {first} {count} {next} {pages} {content} long cut read end enough no_more is honest =
    let same : length cut ≡ long = ap (λ (xs : List ℕ). length xs) is ∙ length-take-le long content (omega (arith, read.long, enough)) in
    record {
      leads = leads_end (reads old) first next pages (read.leads honest) end;
      within = read.within;
      once = read.once;
      enough = omega (arith, same, enough, read.many);
      no_more = omega (arith, same, no_more, read.many);
      is = (λ i. take (same i) (read.holds honest i)) ∙ sym is;
    }

-- where there is a chain the last page of this many ends it
pub chain_ends : {old now : Store} {first count next : ℕ} {pages content : List ℕ} (long : ℕ) → IsRead old now first count next pages content
    → long ≤ 4092 * count → 4092 * count < long + 4092 → IsTrue old.disk.honest
    → (ps other : List ℕ) → length other ≡ long → IsChain (length old.marks) first ps other (reads old) → next ≡ 0
chain_ends {old} {now} {first} {count} {next} {pages} {content} long read enough no_more honest ps other same chain =
    let as_many : length ps ≡ length pages = omega (arith, same, chain.enough, chain.no_more, enough, no_more, read.many) in
    let way = same_way (reads old) first next pages ps (read.leads honest) chain.leads (omega (arith, as_many)) in
    ends way.0 (omega (arith, ap (λ (xs : List ℕ). length xs) way.1, length-append pages way.0, as_many)) way.2
  where
    ends : (rest : List ℕ) → length rest ≡ 0 → LeadsThrough (reads old) next rest → next ≡ 0
    ends [] none leads = leads
    ends (r ∷ rest) none leads = absurd (omega (arith, none))

-- and each page before it waits
pub chain_waits : {old now : Store} {first count next : ℕ} {pages content : List ℕ} (long : ℕ) → IsRead old now first count next pages content
    → 4092 * count < long → IsTrue old.disk.honest
    → (ps other : List ℕ) → length other ≡ long → AreWaiting ps old → IsChain (length old.marks) first ps other (reads old) → mark now.marks next ≡ Waiting
chain_waits {old} {now} {first} {count} {next} {pages} {content} long read more honest ps other same wait chain =
    let fewer : length pages < length ps = omega (arith, same, chain.enough, more, read.many) in
    let way = same_way (reads old) first next pages ps (read.leads honest) chain.leads (omega (arith, fewer)) in
    waits way.0 (omega (arith, ap (λ (xs : List ℕ). length xs) way.1, length-append pages way.0, fewer)) way.2 way.1
  where
    waits : (rest : List ℕ) → 0 < length rest → LeadsThrough (reads old) next rest → ps ≡ pages ++ rest → mark now.marks next ≡ Waiting
    waits [] some leads is = absurd (omega (arith, some))
    waits (r ∷ rest) some leads is =
        let at_seam : slice_get ps (length pages) ≡ Some r = ap (λ (xs : List ℕ). slice_get xs (length pages)) is ∙ got_seam pages rest r in
        let apart : Contains pages r → ⊥ = met_twice r at_seam is in
        ap (mark now.marks) leads.0 ∙ elim (read.kept r) [
          | inl was ↦ was ∙ wait r (contains_got ps (length pages) r at_seam)
          | inr contained ↦ absurd (apart contained)
        ]
      where
        met_twice : (r : ℕ) → slice_get ps (length pages) ≡ Some r → ps ≡ pages ++ r ∷ rest → Contains pages r → ⊥
        met_twice r at_seam is (k, low, at_k) =
            omega (arith, low, chain.once k (length pages) r (ap (λ (xs : List ℕ). slice_get xs k) is ∙ got_before pages (r ∷ rest) k r low at_k) at_seam)

-- why a page is not joined is why the chain is not read
pub link_cause : {old mid : Store} {first count next : ℕ} {pages content : List ℕ} (new : Store) (long : ℕ) (fault : PageFault)
    → IsRead old mid first count next pages content
    → 4092 * count < long → LinkCause next mid new fault → ChainReadCause first long old new fault
link_cause new long Disk read more (inl grew) = inl (omega (arith, grew, read.only.works.failures))
link_cause new long Disk read more (inr most) = inr most
link_cause new long NotATable read more never = absurd never
link_cause new long Damaged read more other = λ honest ps content same wait chain. other (chain_waits long read more honest ps content same wait chain)
link_cause new long TableFull read more never = absurd never
link_cause new long OutOfMemory read more given = given
link_cause new long Closed read more closed = sym read.only.closed ∙ closed
