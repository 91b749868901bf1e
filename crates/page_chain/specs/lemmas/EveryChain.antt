-- What holds of every chain.
use Rattle.std.specs.Prelude.{◌≡◌, ℕ, suc, ◌*◌, ◌≤◌, false, List, [], ◌∷◌, ◌++◌, length, take, drop, slice_get, Contains, Some, IsTrue}
use Rattle.std.proofs.Common.{refl, sym, ◌∙◌, ap, subst, arith}
use Rattle.std.specs.List.{AllByRecursion, IsDistinct}
use Rattle.std.proofs.Math.Dec.{eqb}
use Rattle.std.proofs.lemmas.Bool.{eqb-true, ne_eqb}
use Rattle.std.proofs.lemmas.Map.Steps.{length-le_from_distinct_below}
use Rattle.std.proofs.lemmas.Map.Views.{Contains-from_any}
use Rattle.page_store.specs.declared.marks.Mark.{Mark}
use Rattle.page_store.specs.declared.marks.Mark.TheVariants.{Committed, Fresh}
use Rattle.page_store.specs.Marks.{mark, needs, keeps}
use Rattle.page_store.specs.Spelled.{SpelledBy, Stands, IsPrepared}
use Rattle.page_store.specs.Store.{Store, reads}
use Rattle.page_store.specs.lemmas.Works.{fresh_within}
use Rattle.page_chain.specs.Chain.{next_in, LeadsThrough, payloads, IsChain}
use Rattle.page_chain.specs.declared.page.TheConstants.{PAYLOAD}

-- the first of some pages is one of them, and so are the others
pub contains_first : (p : ℕ) (ps : List ℕ) → Contains (p ∷ ps) p
contains_first p ps = (0, omega arith, refl)

pub contains_later : (p q : ℕ) (ps : List ℕ) → Contains ps q → Contains (p ∷ ps) q
contains_later p q ps (k, low, is) = (suc k, omega (arith, low), is)

-- pages that read the same lead the same way
pub leads_same : (bytes other : ℕ → List ℕ) (from : ℕ) (ps : List ℕ) → ((p : ℕ) → Contains ps p → other p ≡ bytes p)
    → LeadsThrough bytes from ps → LeadsThrough other from ps
leads_same bytes other from [] same leads = leads
leads_same bytes other from (p ∷ ps) same leads = (
  leads.0,
  subst (λ (n : ℕ). LeadsThrough other n ps) (sym (ap next_in (same p (contains_first p ps))))
      (leads_same bytes other (next_in (bytes p)) ps (λ q here. same q (contains_later p q ps here)) leads.1),
)

-- and hold the same
pub payloads_same : (bytes other : ℕ → List ℕ) (ps : List ℕ) → ((p : ℕ) → Contains ps p → other p ≡ bytes p)
    → payloads other ps ≡ payloads bytes ps
payloads_same bytes other [] same = refl
payloads_same bytes other (p ∷ ps) same =
    let rest = payloads_same bytes other ps (λ q here. same q (contains_later p q ps here)) in
    λ i. drop 4 (same p (contains_first p ps) i) ++ rest i

-- a chain rests on its own pages alone
pub a_chain_rests_on_its_pages : (capacity first : ℕ) (pages content : List ℕ) (bytes : ℕ → List ℕ)
    → IsChain capacity first pages content bytes
    → SpelledBy (λ p. Contains pages p) bytes (IsChain capacity first pages content)
a_chain_rests_on_its_pages capacity first pages content bytes chain = record {
  anywhere = λ other same. record {
    leads = leads_same bytes other first pages same chain.leads;
    within = chain.within;
    once = chain.once;
    enough = chain.enough;
    no_more = chain.no_more;
    is = ap (take (length content)) (payloads_same bytes other pages same) ∙ chain.is;
  };
}

-- one way leads on from a page
leads_one : (bytes : ℕ → List ℕ) (from : ℕ) (ps qs : List ℕ) → length ps ≡ length qs → LeadsThrough bytes from ps
    → LeadsThrough bytes from qs → ps ≡ qs
leads_one bytes from [] [] long one other = refl
leads_one bytes from [] (q ∷ qs) long one other = absurd (omega (arith, long))
leads_one bytes from (p ∷ ps) [] long one other = absurd (omega (arith, long))
leads_one bytes from (p ∷ ps) (q ∷ qs) long one other =
    let same : p ≡ q = sym one.0 ∙ other.0 in
    let rest = leads_one bytes (next_in (bytes p)) ps qs (omega (arith, long)) one.1
    (subst (λ (r : ℕ). LeadsThrough bytes (next_in (bytes r)) qs) (sym same) other.1) in
    λ i. same i ∷ rest i

-- from one page on there is one chain at most, and for each length it has one content
pub a_chain_has_one_content : (capacity first : ℕ) (pages others content other : List ℕ) (bytes : ℕ → List ℕ)
    → IsChain capacity first pages content bytes
    → IsChain capacity first others other bytes → length content ≡ length other → (pages ≡ others) × (content ≡ other)
a_chain_has_one_content capacity first pages others content other bytes one two long =
    let same : pages ≡ others = leads_one bytes first pages others
    (omega (arith, long, one.enough, one.no_more, two.enough, two.no_more)) one.leads two.leads in
    (same, sym one.is ∙ (λ i. take (long i) (payloads bytes (same i))) ∙ two.is)

-- a chain below one capacity is below each that is greater
pub a_chain_fits_more : (capacity more first : ℕ) (pages content : List ℕ) (bytes : ℕ → List ℕ) → capacity ≤ more
    → IsChain capacity first pages content bytes
    → IsChain more first pages content bytes
a_chain_fits_more capacity more first pages content bytes greater chain = record {
  leads = chain.leads;
  within = λ p here. ((chain.within p here).0, omega (arith, greater, (chain.within p here).1));
  once = chain.once;
  enough = chain.enough;
  no_more = chain.no_more;
  is = chain.is;
}

-- one of some pages that is at no place is another
none_again : (p : ℕ) (ps : List ℕ) → ((k q : ℕ) → slice_get ps k ≡ Some q → p ≡ q → ⊥) → AllByRecursion (λ q. eqb p q ≡ false) ps
none_again p [] apart = tt
none_again p (q ∷ ps) apart = (ne_eqb p q (apart 0 q refl), none_again p ps (λ k r at. apart (suc k) r at))

-- pages that are named once each are all different
all_different : (ps : List ℕ) → ((i j p : ℕ) → slice_get ps i ≡ Some p → slice_get ps j ≡ Some p → i ≡ j) → IsDistinct eqb ps
unfolding IsDistinct
all_different [] once = tt
all_different (p ∷ ps) once = (
  none_again p ps (λ k q at same. omega (arith, once 0 (suc k) q (ap Some same) at)),
  all_different ps (λ i j q at_i at_j. omega (arith, once (suc i) (suc j) q at_i at_j)),
)

-- a chain has no more pages than lie below its capacity, and so no more content
pub a_chain_is_not_longer : (capacity first : ℕ) (pages content : List ℕ) (bytes : ℕ → List ℕ) → IsChain capacity first pages content bytes
    → length content ≤ PAYLOAD * capacity
a_chain_is_not_longer capacity first pages content bytes chain =
    let many : length pages ≤ capacity =
    length-le_from_distinct_below pages capacity (all_different pages chain.once)
    (λ q here. (chain.within q (Contains-from_any eqb-true q pages here)).1) in
    omega (arith, many, chain.enough)

-- a chain on pages that were handed out is prepared for the next commit
pub a_chain_is_prepared : (capacity first : ℕ) (pages content : List ℕ) (store : Store) → IsChain capacity first pages content (reads store)
    → ((p : ℕ) → Contains pages p → mark store.marks p ≡ Fresh)
    → IsPrepared (λ p. Contains pages p) (IsChain capacity first pages content) store
a_chain_is_prepared capacity first pages content store chain fresh = record {
  spelled = a_chain_rests_on_its_pages capacity first pages content (reads store) chain;
  kept = λ p here. (
    (chain.within p here).0,
    fresh_within store.marks p (fresh p here),
    subst (λ (m : Mark). IsTrue (keeps m))
        (sym (fresh p here)) refl,
  );
}

-- a chain on pages that are marked stands
pub a_chain_stands : (capacity first : ℕ) (pages content : List ℕ) (store : Store) → capacity ≤ length store.marks
    → IsChain capacity first pages content (reads store)
    → ((p : ℕ) → Contains pages p → mark store.marks p ≡ Committed)
    → Stands (λ p. Contains pages p) (IsChain capacity first pages content) store
a_chain_stands capacity first pages content store below chain marked = record {
  spelled = a_chain_rests_on_its_pages capacity first pages content (reads store) chain;
  needed = λ p here. (
    (chain.within p here).0,
    omega (arith, below, (chain.within p here).1),
    subst (λ (m : Mark). IsTrue (needs m))
        (sym (marked p here)) refl,
  );
}
