-- How pages lead on to a page, and what they hold.
use Rattle.std.proofs.Common.{◌≡◌, inl, inr, ◌⊎◌, ℕ, zero, suc, ◌<◌, ◌≤◌, List, [], ◌∷◌, ◌++◌, length, drop, Some, Contains, refl, sym, ◌∙◌, ap, subst, arith}
use Rattle.std.specs.Prelude.{slice_get, slice_index_or}
use Rattle.std.proofs.lemmas.List.{append_assoc, append-nil}
use Rattle.std.proofs.lemmas.Option.{slice_get_within, get_or_from_slice_get}
use Rattle.page_chain.specs.Chain.{next_in, LeadsThrough, payloads}
use Rattle.page_store.specs.Pages.{IsOnce}
use Rattle.page_chain.specs.lemmas.EveryChain.{contains_first, contains_later}

-- from this page on the way goes through these pages, and on to that one
abbrev pub LeadsTo : (ℕ → List ℕ) → ℕ → List ℕ → ℕ → Type 0
LeadsTo bytes from [] to = from ≡ to
LeadsTo bytes from (p ∷ ps) to = (from ≡ p) × LeadsTo bytes (next_in (bytes p)) ps to

-- one page further
pub leads_more : (bytes : ℕ → List ℕ) (from q to : ℕ) (ps : List ℕ) → LeadsTo bytes from ps q → to ≡ next_in (bytes q) → LeadsTo bytes from (ps ++ q ∷ []) to
leads_more bytes from q to [] leads is = (leads, sym is)
leads_more bytes from q to (p ∷ ps) leads is = (leads.0, leads_more bytes (next_in (bytes p)) q to ps leads.1 is)

-- where the way goes on to page 0 it ends
pub leads_end : (bytes : ℕ → List ℕ) (from to : ℕ) (ps : List ℕ) → LeadsTo bytes from ps to → to ≡ 0 → LeadsThrough bytes from ps
leads_end bytes from to [] leads is = leads ∙ is
leads_end bytes from to (p ∷ ps) leads is = (leads.0, leads_end bytes (next_in (bytes p)) to ps leads.1 is)

-- other bytes that agree on these pages
pub leads_to_same : (bytes other : ℕ → List ℕ) (from to : ℕ) (ps : List ℕ) → ((p : ℕ) → Contains ps p → other p ≡ bytes p)
    → LeadsTo bytes from ps to → LeadsTo other from ps to
leads_to_same bytes other from to [] same leads = leads
leads_to_same bytes other from to (p ∷ ps) same leads = (
  leads.0,
  subst (λ (n : ℕ). LeadsTo other n ps to) (sym (ap next_in (same p (contains_first p ps))))
      (leads_to_same bytes other (next_in (bytes p)) to ps (λ q here. same q (contains_later p q ps here)) leads.1),
)

pub payloads_more : (bytes : ℕ → List ℕ) (q : ℕ) (ps : List ℕ) → payloads bytes (ps ++ q ∷ []) ≡ payloads bytes ps ++ drop 4 (bytes q)
payloads_more bytes q [] = append-nil (drop 4 (bytes q))
payloads_more bytes q (p ∷ ps) = ap (λ (xs : List ℕ). drop 4 (bytes p) ++ xs) (payloads_more bytes q ps)
    ∙ sym (append_assoc (drop 4 (bytes p)) (payloads bytes ps) (drop 4 (bytes q)))

-- a page at a place is one of the pages
pub contains_got : (ps : List ℕ) (i p : ℕ) → slice_get ps i ≡ Some p → Contains ps p
contains_got ps i p is = (i, slice_get_within ps i p is, get_or_from_slice_get ps i p p is)

-- of one page more: it was there, or it is the one
got_more : (ps : List ℕ) (q i p : ℕ) → slice_get (ps ++ q ∷ []) i ≡ Some p → (slice_get ps i ≡ Some p) ⊎ ((i ≡ length ps) × (q ≡ p))
got_more [] q zero p is = inr (refl, cc)
got_more [] q (suc i) p is = cc
got_more (x ∷ ps) q zero p is = inl is
got_more (x ∷ ps) q (suc i) p is = elim (got_more ps q i p is) [
  | inl was ↦ inl was
  | inr here ↦ inr (omega (arith, here.0), here.1)
]

-- a page that was not there is there once
pub once_more : (ps : List ℕ) (q : ℕ) → IsOnce ps → (Contains ps q → ⊥) → IsOnce (ps ++ q ∷ [])
once_more ps q once new i j p at_i at_j = elim (got_more ps q i p at_i) [
  | inl was_i ↦ elim (got_more ps q j p at_j) [
    | inl was_j ↦ once i j p was_i was_j
    | inr here_j ↦ absurd (new (subst (λ (r : ℕ). Contains ps r) (sym here_j.1) (contains_got ps i p was_i)))
  ]
  | inr here_i ↦ elim (got_more ps q j p at_j) [
    | inl was_j ↦ absurd (new (subst (λ (r : ℕ). Contains ps r) (sym here_i.1) (contains_got ps j p was_j)))
    | inr here_j ↦ here_i.0 ∙ sym here_j.0
  ]
]

pub none_once : IsOnce []
none_once i j p at_i at_j = absurd (omega (arith, slice_get_within [] i p at_i))

-- a chain that begins as these pages do goes on from where they lead
pub same_way : (bytes : ℕ → List ℕ) (from to : ℕ) (ps qs : List ℕ) → LeadsTo bytes from ps to → LeadsThrough bytes from qs → length ps ≤ length qs
    → (rest : List ℕ) × (qs ≡ ps ++ rest) × LeadsThrough bytes to rest
same_way bytes from to [] qs leads chain long = (qs, refl, subst (λ (n : ℕ). LeadsThrough bytes n qs) leads chain)
same_way bytes from to (p ∷ ps) [] leads chain long = absurd (omega (arith, long))
same_way bytes from to (p ∷ ps) (q ∷ qs) leads chain long =
    let same : p ≡ q = sym leads.0 ∙ chain.0 in
    let more = same_way bytes (next_in (bytes p)) to ps qs leads.1
    (subst (λ (r : ℕ). LeadsThrough bytes (next_in (bytes r)) qs) (sym same) chain.1) (omega (arith, long)) in
    (more.0, λ i. sym same i ∷ more.1 i, more.2)

pub got_seam : (ps rest : List ℕ) (q : ℕ) → slice_get (ps ++ q ∷ rest) (length ps) ≡ Some q
got_seam [] rest q = refl
got_seam (p ∷ ps) rest q = got_seam ps rest q

pub got_before : (ps rest : List ℕ) (k q : ℕ) → k < length ps → slice_index_or ps k q ≡ q → slice_get (ps ++ rest) k ≡ Some q
got_before [] rest k q low is = absurd (omega (arith, low))
got_before (p ∷ ps) rest zero q low is = ap Some is
got_before (p ∷ ps) rest (suc k) q low is = got_before ps rest k q (omega (arith, low)) is

pub none_contained : (p : ℕ) → Contains [] p → ⊥
none_contained p (k, low, is) = omega (arith, low)

pub contains_before : (ps : List ℕ) (q p : ℕ) → Contains ps p → Contains (ps ++ q ∷ []) p
contains_before ps q p (k, low, is) = contains_got (ps ++ q ∷ []) k p (got_before ps (q ∷ []) k p low is)

pub contains_last : (ps : List ℕ) (q : ℕ) → Contains (ps ++ q ∷ []) q
contains_last ps q = contains_got (ps ++ q ∷ []) (length ps) q (got_seam ps [] q)
