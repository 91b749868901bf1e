-- Pages that are named once.
use Rattle.std.proofs.Common.{◌≡◌, ◌⊎◌, ℕ, zero, suc, List, [], ◌∷◌, ◌++◌, Some, Contains, refl, sym, ◌∙◌, ap, subst, inl, inr, arith}
use Rattle.std.proofs.lemmas.List.Elements.{Contains-append_left, Contains-append_right, Contains-append_cases}
use Rattle.std.proofs.lemmas.Option.{slice_get_within, get_or_from_slice_get, slice_get-get_or}
use Rattle.std.specs.List.{slice_get}
use Rattle.page_store.specs.Pages.{IsOnce}
use Rattle.btree.specs.lemmas.Laws.{contains_first, contains_later}

-- a page is the first of some, or a later one
pub contains_cons : (q p : ℕ) (ps : List ℕ) → Contains (q ∷ ps) p → (p ≡ q) ⊎ Contains ps p
contains_cons q p ps (zero, low, is) = inl (sym is)
contains_cons q p ps (suc k, low, is) = inr (k, omega (arith, low), is)

-- no page is of both
abbrev pub Apart : List ℕ → List ℕ → Type 0
Apart a b = (p : ℕ) → Contains a p → Contains b p → ⊥

got_contains : (ps : List ℕ) (i p : ℕ) → slice_get ps i ≡ Some p → Contains ps p
got_contains ps i p is = (i, slice_get_within ps i p is, get_or_from_slice_get ps i p p is)

contains_got : (ps : List ℕ) (p : ℕ) → Contains ps p → (k : ℕ) × (slice_get ps k ≡ Some p)
contains_got ps p (k, low, is) = (k, slice_get-get_or ps k p low ∙ ap Some is)

pub once_cons : (p : ℕ) (ps : List ℕ) → (Contains ps p → ⊥) → IsOnce ps → IsOnce (p ∷ ps)
once_cons p ps new once zero zero q at_i at_j = refl
once_cons p ps new once zero (suc j) q at_i at_j =
    let same : p ≡ q = cc in
    absurd (new (subst (λ (r : ℕ). Contains ps r) (sym same) (got_contains ps j q at_j)))
once_cons p ps new once (suc i) zero q at_i at_j =
    let same : p ≡ q = cc in
    absurd (new (subst (λ (r : ℕ). Contains ps r) (sym same) (got_contains ps i q at_i)))
once_cons p ps new once (suc i) (suc j) q at_i at_j = ap suc (once i j q at_i at_j)

pub once_first : (p : ℕ) (ps : List ℕ) → IsOnce (p ∷ ps) → Contains ps p → ⊥
once_first p ps once here =
    let at = contains_got ps p here in
    let same : 0 ≡ suc at.0 = once 0 (suc at.0) p refl at.1 in
    omega (arith, same)

pub once_rest : (p : ℕ) (ps : List ℕ) → IsOnce (p ∷ ps) → IsOnce ps
once_rest p ps once i j q at_i at_j = let same : suc i ≡ suc j = once (suc i) (suc j) q at_i at_j in omega (arith, same)

pub once_none : IsOnce []
once_none i j p at_i at_j = absurd (cc)

pub once_append : (a b : List ℕ) → IsOnce a → IsOnce b → Apart a b → IsOnce (a ++ b)
once_append [] b one two apart = two
once_append (x ∷ a) b one two apart =
    once_cons x (a ++ b)
    (λ here. elim (Contains-append_cases a b x here) [
      | inl there ↦ once_first x a one there
      | inr there ↦ apart x (contains_first x a) there
    ])
    (once_append a b (once_rest x a one) two (λ p here. apart p (contains_later x p a here)))

pub once_left : (a b : List ℕ) → IsOnce (a ++ b) → IsOnce a
once_left [] b once = once_none
once_left (x ∷ a) b once = once_cons x a (λ here. once_first x (a ++ b) once (Contains-append_left a b x here))
    (once_left a b (once_rest x (a ++ b) once))

pub once_right : (a b : List ℕ) → IsOnce (a ++ b) → IsOnce b
once_right [] b once = once
once_right (x ∷ a) b once = once_right a b (once_rest x (a ++ b) once)

pub once_apart : (a b : List ℕ) → IsOnce (a ++ b) → Apart a b
once_apart [] b once p (k, low, is) there = omega (arith, low)
once_apart (x ∷ a) b once p here there = elim (contains_cons x p a here) [
  | inl same ↦ once_first x (a ++ b) once (Contains-append_right a b x (subst (λ (q : ℕ). Contains b q) same there))
  | inr later ↦ once_apart a b (once_rest x (a ++ b) once) p later there
]
