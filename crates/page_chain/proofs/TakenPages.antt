-- Pages are taken, one by one.
use Rattle.std.proofs.Common.{◌≡◌, inl, inr, ◌⊎◌, ℕ, ◌+◌, ◌*◌, ◌<◌, ◌≤◌, List, [], ◌∷◌, ◌++◌, false, length, Contains, IsTrue, refl, sym, ◌∙◌, ap, subst, arith}
use Rattle.std.proofs.lemmas.List.{length-append, take_all}
use Rattle.sector_disk.specs.lemmas.Moments.{still_honest}
use Rattle.std.proofs.lemmas.List.Elements.{Contains-push_cases}
use Rattle.std.proofs.lemmas.Bool.{cases_eq}
use Rattle.page_store.specs.declared.marks.Mark.{Mark}
use Rattle.page_store.specs.declared.marks.Mark.TheVariants.{Fresh, Free}
use Rattle.page_store.specs.declared.fault.PageFault.{PageFault}
use Rattle.page_store.specs.declared.fault.PageFault.TheVariants.{Disk, NotATable, Damaged, TableFull, OutOfMemory, Closed}
use Rattle.page_store.specs.Causes.{NewCause}
use Rattle.page_store.specs.Marks.{mark, free_count, IsMarked}
use Rattle.page_store.specs.Store.{Store, StoreWorks, IsRemarked, reads}
use Rattle.page_store.specs.lemmas.Counts.{one_fewer}
use Rattle.page_store.specs.lemmas.Works.{grew_since, works_refl, works_then}
use Rattle.page_chain.specs.Chain.{IsChain, first_of}
use Rattle.page_chain.specs.Frames.{IsNotWritten, AreLinked, AreNotLinked}
use Rattle.page_chain.specs.lemmas.Causes.{HandOutCause}
use Rattle.page_chain.specs.lemmas.Links.{HandsOut, AreTaken}
use Rattle.page_chain.proofs.Links.{once_more, none_once, none_contained, contains_before, contains_last}

pub hands_out_refl : (store : Store) → HandsOut store store
hands_out_refl store = record { works = works_refl store; disk = refl; failures = refl; closed = refl; others = λ p. inl refl }

-- this many pages are taken so far
pub record IsTaken (old now : Store) (count : ℕ) (pages : List ℕ) : Type 0 where
  pub out : HandsOut old now
  pub taken : AreTaken old now count pages
  pub free : free_count now.marks + count ≡ free_count old.marks

nothing_taken : (store : Store) → IsTaken store store 0 []
nothing_taken store = record {
  out = hands_out_refl store;
  taken = record {
    many = refl;
    within = λ p here. absurd (none_contained p here);
    once = none_once;
    were = λ p here. absurd (none_contained p here);
    are = λ p here. absurd (none_contained p here);
    kept = λ p. inl refl;
    gone = λ some. absurd (omega (arith, some));
  };
  free = omega arith;
}

pub none_taken : (store : Store) (pages : List ℕ) → pages ≡ [] → IsTaken store store 0 pages
none_taken store pages no_page = subst (λ (ps : List ℕ). IsTaken store store 0 ps) (sym no_page) (nothing_taken store)

-- one page more
module _ (old mid new : Store) (count here : ℕ) (pages : List ℕ) (taken : IsTaken old mid count pages)
    (marks : IsMarked here Fresh mid.marks new.marks) (free : mark mid.marks here ≡ Free)
    (is_page : 1 ≤ here) (within : here < length mid.marks) (gone : new.closed ≡ false) (others : IsRemarked mid new) (works : StoreWorks mid new) where
  was_free : mark old.marks here ≡ Free
  was_free = elim (taken.out.others here) [
    | inl same ↦ sym same ∙ free
    | inr was ↦ was.0
  ]

  new_here : Contains pages here → ⊥
  new_here contained = apart _ (taken.taken.are here contained) free
    where
      apart : (m : Mark) → m ≡ Fresh → m ≡ Free → ⊥
      apart m one other = cc

  out_each : (p : ℕ) → (mark new.marks p ≡ mark old.marks p) ⊎ ((mark old.marks p ≡ Free) × (mark new.marks p ≡ Fresh))
  out_each p = elim (cases_eq p here) [
    | inl same ↦ inr (ap (mark old.marks) same ∙ was_free, ap (mark new.marks) same ∙ marks.is)
    | inr other ↦ elim (taken.out.others p) [
      | inl was ↦ inl (marks.others p other ∙ was)
      | inr was ↦ inr (was.0, marks.others p other ∙ was.1)
    ]
  ]

  pub out_more : HandsOut old new
  out_more = record {
    works = works_then taken.out.works works;
    disk = others.disk ∙ taken.out.disk;
    failures = others.failures ∙ taken.out.failures;
    closed = others.closed ∙ taken.out.closed;
    others = out_each;
  }

  within_each : (p : ℕ) → Contains (pages ++ here ∷ []) p → (1 ≤ p) × (p < length old.marks)
  within_each p contained = elim (Contains-push_cases pages here p contained) [
    | inl before ↦ taken.taken.within p before
    | inr is ↦ (omega (arith, is_page, is), omega (arith, within, is, taken.out.works.same_pages))
  ]

  were_each : (p : ℕ) → Contains (pages ++ here ∷ []) p → mark old.marks p ≡ Free
  were_each p contained = elim (Contains-push_cases pages here p contained) [
    | inl before ↦ taken.taken.were p before
    | inr is ↦ ap (mark old.marks) (sym is) ∙ was_free
  ]

  are_each : (p : ℕ) → Contains (pages ++ here ∷ []) p → mark new.marks p ≡ Fresh
  are_each p contained = elim (cases_eq p here) [
    | inl same ↦ ap (mark new.marks) same ∙ marks.is
    | inr other ↦ elim (Contains-push_cases pages here p contained) [
      | inl before ↦ marks.others p other ∙ taken.taken.are p before
      | inr is ↦ absurd (other (sym is))
    ]
  ]

  kept_each : (p : ℕ) → (mark new.marks p ≡ mark old.marks p) ⊎ Contains (pages ++ here ∷ []) p
  kept_each p = elim (cases_eq p here) [
    | inl same ↦ inr (subst (λ (r : ℕ). Contains (pages ++ here ∷ []) r) (sym same) (contains_last pages here))
    | inr other ↦ elim (taken.taken.kept p) [
      | inl was ↦ inl (marks.others p other ∙ was)
      | inr contained ↦ inr (contains_before pages here p contained)
    ]
  ]

  taken_on : IsTaken old new (count + 1) (pages ++ here ∷ [])
  taken_on = record {
    out = out_more;
    taken = record {
      many = omega (arith, length-append pages (here ∷ []), taken.taken.many);
      within = within_each;
      once = once_more pages here taken.taken.once new_here;
      were = were_each;
      are = are_each;
      kept = kept_each;
      gone = λ some. gone;
    };
    free = omega (arith, taken.free, one_fewer mid.marks new.marks here marks.same_length within free marks.is marks.others);
  }

  pub taken_more : (more : List ℕ) → more ≡ pages ++ here ∷ [] → IsTaken old new (count + 1) more
  taken_more more are = subst (λ (ps : List ℕ). IsTaken old new (count + 1) ps) (sym are) taken_on

-- a page is refused only where the store is closed, as long as some are free
pub take_cause : {old mid : Store} {count : ℕ} {pages : List ℕ} (fault : PageFault) → IsTaken old mid count pages
    → count < free_count old.marks → NewCause mid fault → HandOutCause old fault
take_cause Disk taken some never = never
take_cause NotATable taken some never = never
take_cause Damaged taken some never = never
take_cause TableFull taken some none = omega (arith, taken.free, some, none)
take_cause OutOfMemory taken some never = absurd never
take_cause Closed taken some closed = sym taken.out.closed ∙ closed

-- a chain on pages that were taken
pub chain_put : (old mid new : Store) (content pages : List ℕ) (count : ℕ) → HandsOut old mid → AreTaken old mid count pages → length content ≤ 4092 * count
    → 4092 * count < length content + 4092 → AreLinked content pages mid new → IsTrue old.disk.honest
    → IsChain (length old.marks) (first_of pages) pages content (reads new)
chain_put old mid new content pages count out taken enough no_more linked honest =
    let still = still_honest out.works.goes_on honest in
    record {
      leads = linked.leads still;
      within = taken.within;
      once = taken.once;
      enough = omega (arith, enough, taken.many);
      no_more = omega (arith, no_more, taken.many);
      is = linked.holds still ∙ take_all (4092 * length pages) content (omega (arith, enough, taken.many));
    }

-- pages are not taken, so no chain is written
pub taken_fails : (long : ℕ) (old new : Store) (fault : PageFault) → new.closed ≡ old.closed → HandOutCause old fault → IsNotWritten long old new fault
taken_fails long old new Disk closed cause = absurd cause
taken_fails long old new NotATable closed cause = absurd cause
taken_fails long old new Damaged closed cause = absurd cause
taken_fails long old new TableFull closed cause = absurd cause
taken_fails long old new OutOfMemory closed cause = record { refused = λ full. absurd (cc); still = λ other. closed; cause = tt }
taken_fails long old new Closed closed cause = record { refused = λ full. absurd (cc); still = λ other. closed; cause = cause }

-- a page of it is not written
pub linked_fails : (long : ℕ) (old mid new : Store) (fault : PageFault) → HandsOut old mid → AreNotLinked mid new fault → IsNotWritten long old new fault
linked_fails long old mid new Disk out it = record {
  refused = λ full. absurd (cc);
  still = λ other. it.still other ∙ out.closed;
  cause = (grew_since (omega (arith, out.failures)) it.cause.0, it.cause.1);
}
linked_fails long old mid new NotATable out it = absurd it.cause
linked_fails long old mid new Damaged out it = absurd it.cause
linked_fails long old mid new TableFull out it = absurd it.cause
linked_fails long old mid new OutOfMemory out it = absurd it.cause
linked_fails long old mid new Closed out it = record {
  refused = λ full. absurd (cc);
  still = λ other. it.still other ∙ out.closed;
  cause = sym out.closed ∙ it.cause;
}
