-- The pages of a chain are written, one by one.
use Rattle.std.proofs.Common.{◌≡◌, ◌≢◌, inl, inr, ℕ, ◌+◌, ◌*◌, ◌-◌, ◌<◌, ◌≤◌, List, [], ◌∷◌, ◌++◌, Some, false, length, take, drop, Contains, IsTrue, refl, sym, ◌∙◌, ap, subst, arith}
use Rattle.std.proofs.Math.Seq.{take-append-add, take-length}
use Rattle.std.proofs.lemmas.Bool.{cases_lt}
use Rattle.std.proofs.lemmas.List.{length-append, length-take-le, length-drop, take_all, take-append-drop, take_more, get_or_past}
use Rattle.std.proofs.lemmas.Option.{slice_get-get_or}
use Rattle.std.specs.Prelude.{slice_get, slice_index}
use Rattle.sector_disk.specs.lemmas.Moments.{still_honest}
use Rattle.page_store.specs.declared.fault.PageFault.{PageFault}
use Rattle.page_store.specs.declared.fault.PageFault.TheVariants.{Disk, NotATable, Damaged, TableFull, OutOfMemory, Closed}
use Rattle.page_store.specs.Causes.{PageWriteCause as PageCause}
use Rattle.page_store.specs.Store.{Store, reads, StoreWorks}
use Rattle.page_store.specs.lemmas.Works.{works_refl, works_then}
use Rattle.page_chain.specs.Chain.{next_in, LeadsThrough, payloads, first_of}
use Rattle.page_store.specs.Pages.{IsOnce}
use Rattle.page_chain.specs.lemmas.EveryChain.{payloads_same}
use Rattle.page_chain.proofs.Links.{LeadsTo, leads_more, leads_end, leads_to_same, payloads_more, got_before}

-- what fills a page up is cut away
filled : (rest ys : List ℕ) → length ys ≡ 4092 → take (length (take 4092 rest)) ys ≡ take 4092 rest → take (length rest) ys ≡ take 4092 rest
filled rest ys long is = elim (cases_lt 4092 (length rest)) [
  | inl more ↦
      let part : length (take 4092 rest) ≡ 4092 = length-take-le 4092 rest (omega (arith, more)) in
      take_all (length rest) ys (omega (arith, long, more)) ∙ sym (take_all (length (take 4092 rest)) ys (omega (arith, long, part))) ∙ is
  | inr few ↦
      let whole : take 4092 rest ≡ rest = take_all 4092 rest (omega (arith, few)) in
      ap (λ (xs : List ℕ). take (length xs) ys) (sym whole) ∙ is
]

-- the content up to a place, and a page more
cut_more : (content xs ys : List ℕ) (n : ℕ) → length xs ≡ n → n ≤ length content → take (length content) xs ≡ take n content → length ys ≡ 4092
    → take (length (take 4092 (drop n content))) ys ≡ take 4092 (drop n content) → take (length content) (xs ++ ys) ≡ take (n + 4092) content
cut_more content xs ys n long within before full is =
    let rest : length (drop n content) ≡ length content - n = length-drop n content in
    let begun : length (take n content) ≡ n = length-take-le n content within in
    let xs_is : xs ≡ take n content = sym (take_all (length content) xs (omega (arith, long, within))) ∙ before in
    let left : length content ≡ length xs + length (drop n content) = omega (arith, rest, long, within) in
    let there : length (take n content) + 4092 ≡ n + 4092 = omega (arith, begun) in
    ap (λ (m : ℕ). take m (xs ++ ys)) left ∙ take-append-add xs ys (length (drop n content))
    ∙ (λ i. xs_is i ++ filled (drop n content) ys full is i)
    ∙ sym (take-append-add (take n content) (drop n content) 4092)
    ∙ (λ i. take (there i) (take-append-drop n content i))

-- the pages before this place are written
pub record IsPut (old now : Store) (pages content : List ℕ) (place : ℕ) : Type 0 where
  pub works : StoreWorks old now
  pub marks : now.marks ≡ old.marks
  pub closed : now.closed ≡ old.closed
  pub gone : 1 ≤ place → now.closed ≡ false
  pub leads : IsTrue old.disk.honest → LeadsTo (reads now) (first_of pages) (take place pages) (slice_index pages place)
  pub long : IsTrue old.disk.honest → length (payloads (reads now) (take place pages)) ≡ 4092 * place
  pub holds : IsTrue old.disk.honest → take (length content) (payloads (reads now) (take place pages)) ≡ take (4092 * place) content

pub none_put : (store : Store) (pages content : List ℕ) → IsPut store store pages content 0
none_put store pages content = record {
  works = works_refl store;
  marks = refl;
  closed = refl;
  gone = λ some. absurd (omega (arith, some));
  leads = λ honest. refl;
  long = λ honest. refl;
  holds = λ honest. take_all (length content) [] (omega arith);
}

-- a page before this place is another
module _ (pages : List ℕ) (once : IsOnce pages) (place : ℕ) (low : place < length pages) where
  pub apart : (p : ℕ) → Contains (take place pages) p → p ≡ slice_index pages place → ⊥
  apart p (k, before, is) same =
      let at_k : slice_get pages k ≡ Some p = ap (λ (xs : List ℕ). slice_get xs k) (sym (take-append-drop place pages))
      ∙ got_before (take place pages) (drop place pages) k p before is in
      let at_place : slice_get pages place ≡ Some p = slice_get-get_or pages place 0 low ∙ ap Some (sym same) in
      omega (arith, before, length-take-le place pages (omega (arith, low)), once k place p at_k at_place)

-- one page more
module _ (old mid new : Store) (pages content bytes part : List ℕ) (place : ℕ) (put : IsPut old mid pages content place)
    (once : IsOnce pages) (low : place < length pages)
    (no_more : 4092 * length pages < length content + 4092) (full : length bytes ≡ 4096) (next : next_in bytes ≡ slice_index pages (place + 1))
    (part_is : part ≡ take 4092 (drop (4092 * place) content)) (filled_with : take (length part) (drop 4 bytes) ≡ part)
    (written : IsTrue mid.disk.honest → reads new (slice_index pages place) ≡ bytes)
    (others : IsTrue mid.disk.honest → (p : ℕ) → (p ≡ slice_index pages place → ⊥) → reads new p ≡ reads mid p)
    (marks : new.marks ≡ mid.marks) (gone : new.closed ≡ false) (works : StoreWorks mid new) where
  is_here : IsTrue old.disk.honest → reads new (slice_index pages place) ≡ bytes
  is_here honest = written (still_honest put.works.goes_on honest)

  agree : IsTrue old.disk.honest → (p : ℕ) → Contains (take place pages) p → reads new p ≡ reads mid p
  agree honest p here = others (still_honest put.works.goes_on honest) p (apart pages once place low p here)

  one_more : take (place + 1) pages ≡ take place pages ++ slice_index pages place ∷ []
  one_more = take_more pages place 0 low

  held : IsTrue old.disk.honest → payloads (reads new) (take (place + 1) pages) ≡ payloads (reads mid) (take place pages) ++ drop 4 bytes
  held honest =
      ap (payloads (reads new)) one_more ∙ payloads_more (reads new) (slice_index pages place) (take place pages)
      ∙ (λ i. payloads_same (reads mid) (reads new) (take place pages) (agree honest) i ++ drop 4 (is_here honest i))

  begins : take (length (take 4092 (drop (4092 * place) content))) (drop 4 bytes) ≡ take 4092 (drop (4092 * place) content)
  begins = subst (λ (xs : List ℕ). take (length xs) (drop 4 bytes) ≡ xs) part_is filled_with

  payload_full : length (drop 4 bytes) ≡ 4092
  payload_full = omega (arith, length-drop 4 bytes, full)

  leads_on : IsTrue old.disk.honest → LeadsTo (reads new) (first_of pages) (take (place + 1) pages) (slice_index pages (place + 1))
  leads_on honest =
      subst (λ (ps : List ℕ). LeadsTo (reads new) (first_of pages) ps (slice_index pages (place + 1))) (sym one_more)
      (leads_more (reads new) (first_of pages) (slice_index pages place) (slice_index pages (place + 1)) (take place pages)
      (leads_to_same (reads mid) (reads new) (first_of pages) (slice_index pages place) (take place pages) (agree honest) (put.leads honest))
      (sym (ap next_in (is_here honest) ∙ next)))

  pub put_more : IsPut old new pages content (place + 1)
  put_more = record {
    works = works_then put.works works;
    marks = marks ∙ put.marks;
    closed = gone ∙ sym (put.works.closed (works.closed gone));
    gone = λ some. gone;
    leads = leads_on;
    long = λ honest.
        ap (λ (xs : List ℕ). length xs) (held honest) ∙ omega
        (arith, length-append (payloads (reads mid) (take place pages)) (drop 4 bytes), put.long honest, payload_full);
    holds = λ honest.
        let there : 4092 * place + 4092 ≡ 4092 * (place + 1) = omega arith in
        ap (take (length content)) (held honest)
        ∙ cut_more content (payloads (reads mid) (take place pages)) (drop 4 bytes) (4092 * place) (put.long honest)
        (omega (arith, low, no_more)) (put.holds honest) payload_full begins
        ∙ ap (λ (m : ℕ). take m content) there;
  }

-- all pages are written
pub all_lead : {old now : Store} {pages content : List ℕ} (place : ℕ) → IsPut old now pages content place → place ≡ length pages → IsTrue old.disk.honest
    → LeadsThrough (reads now) (first_of pages) pages
all_lead {old} {now} {pages} {content} place put end honest =
    subst (λ (ps : List ℕ). LeadsThrough (reads now) (first_of pages) ps) (ap (λ (m : ℕ). take m pages) end ∙ take-length pages)
    (leads_end (reads now) (first_of pages) (slice_index pages place) (take place pages) (put.leads honest) (get_or_past pages place 0 (omega (arith, end))))

pub all_hold : {old now : Store} {pages content : List ℕ} (place : ℕ) → IsPut old now pages content place → place ≡ length pages → IsTrue old.disk.honest
    → take (length content) (payloads (reads now) pages) ≡ take (4092 * length pages) content
all_hold {old} {now} {pages} {content} place put end honest =
    ap (λ (ps : List ℕ). take (length content) (payloads (reads now) ps)) (sym (ap (λ (m : ℕ). take m pages) end ∙ take-length pages)) ∙ put.holds honest
    ∙ ap (λ (m : ℕ). take (4092 * m) content) end

-- why a page is not written is why the chain is not
pub put_cause : {old mid : Store} {pages content : List ℕ} {place : ℕ} (new : Store) (fault : PageFault) → IsPut old mid pages content place
    → PageCause mid new fault → PageCause old new fault
put_cause new Disk put (inl grew, closed) = (inl (omega (arith, grew, put.works.failures)), closed)
put_cause new Disk put (inr most, closed) = (inr most, closed)
put_cause new NotATable put never = never
put_cause new Damaged put never = never
put_cause new TableFull put never = never
put_cause new OutOfMemory put never = never
put_cause new Closed put closed = sym put.closed ∙ closed

-- a page that is refused with any fault but that of the disk leaves the store open or closed as it was
pub put_still : {old mid : Store} {pages content : List ℕ} {place : ℕ} (new : Store) (fault : PageFault) → IsPut old mid pages content place
    → (fault ≢ Disk → new ≡ mid) → fault ≢ Disk
    → new.closed ≡ old.closed
put_still new fault put same other = ap (λ (s : Store). s.closed) (same other) ∙ put.closed
