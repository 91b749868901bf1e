-- Lists of the numbers that are wanted.
use Rattle.std.proofs.Common.{◌≡◌, ℕ, zero, suc, ◌+◌, ◌<◌, ◌≤◌, ◌⊎◌, inl, inr, Bool, List, [], ◌∷◌, ◌++◌, length, Some, slice_get, slice_index, option_map, unwrap_or, refl, sym, ap, ◌∙◌, subst, arith}
use Rattle.std.proofs.lemmas.Bool.{cases_lt}
use Rattle.std.proofs.lemmas.Option.{slice_get-get_or, get_or_from_slice_get}
use Rattle.std.proofs.lemmas.Option.{slice_get_past}
use Rattle.std.proofs.Common.{Vec, Global}
use Rattle.smallvec.specs.SmallVec.{SmallVec}
use Rattle.legal_moves.specs.lemmas.Marks.{IsMarkSet}
use Rattle.legal_moves.specs.lemmas.Relations.{row_of, IsRelated}
use Rattle.legal_moves.specs.declared.automaton.relation.Relation.{Relation}
use Rattle.legal_moves.specs.NumberLists.{AreListed, list_at}
use Rattle.legal_moves.proofs.GetLemmas.{slice_get-append, slice_get-push, slice_get-end, slice_get-within}

pub listed_none : (P : ℕ → Type 0) → ((k : ℕ) → ¬ P k) → AreListed P []
listed_none P none = record {
  only = λ i k at. absurd (cc);
  all = λ k h. absurd (none k h);
  ascending = λ i j k l less at to. absurd (cc);
}

pub listed_by : (P Q : ℕ → Type 0) (ks : List ℕ) → ((k : ℕ) → P k → Q k) → ((k : ℕ) → Q k → P k) → AreListed P ks → AreListed Q ks
listed_by P Q ks there back h = record {
  only = λ i k at. there k (h.only i k at);
  all = λ k q. h.all k (back k q);
  ascending = h.ascending;
}

module _ (P : ℕ → Type 0) (n : ℕ) (ks : List ℕ) (h : AreListed (λ k. P k × (k < n)) ks) where
  lower : (k : ℕ) → P k → k < n + 1 → (k < n) ⊎ (k ≡ n)
  lower k p less = elim (cases_lt k n) [
    | inl below ↦ inl below
    | inr above ↦ inr (omega (arith, above, less))
  ]

  -- one that is not wanted
  pub listed_skip : ¬ P n → AreListed (λ k. P k × (k < n + 1)) ks
  listed_skip none = record {
    only = λ i k at. let o = h.only i k at in (o.0, omega (arith, o.1));
    all = λ k w. h.all k (w.0, below k w.0 (lower k w.0 w.1));
    ascending = h.ascending;
  }
    where
      below : (k : ℕ) → P k → (k < n) ⊎ (k ≡ n) → k < n
      below k p (inl less) = less
      below k p (inr same) = absurd (none (subst P same p))

  -- one more
  pub listed_more : P n → AreListed (λ k. P k × (k < n + 1)) (ks ++ n ∷ [])
  listed_more p = record {
    only = λ i k at. only k (slice_get-push ks n i k at);
    all = λ k w. all k w.0 (lower k w.0 w.1);
    ascending = λ i j k l less at to. rising k l (slice_get-push ks n i k at) (slice_get-push ks n j l to) (λ inside. slice_get-within ks j l inside) less;
  }
    where
      only : (k : ℕ) → {i : ℕ} → (slice_get ks i ≡ Some k) ⊎ (i ≡ length ks) × (k ≡ n) → P k × (k < n + 1)
      only k {i} (inl at) = let o = h.only i k at in (o.0, omega (arith, o.1))
      only k (inr at) = (subst P (sym at.1) p, omega (arith, at.1))

      all : (k : ℕ) → P k → (k < n) ⊎ (k ≡ n) → (i : ℕ) × (slice_get (ks ++ n ∷ []) i ≡ Some k)
      all k q (inl less) = let a = h.all k (q, less) in (a.0, slice_get-append ks (n ∷ []) a.0 k a.1)
      all k q (inr same) = (length ks, slice_get-end ks n ∙ ap Some (sym same))

      rising : (k l : ℕ) → {i j : ℕ} → (slice_get ks i ≡ Some k) ⊎ (i ≡ length ks) × (k ≡ n) → (slice_get ks j ≡ Some l) ⊎ (j ≡ length ks)
          × (l ≡ n) → (slice_get ks j ≡ Some l → j < length ks) → i < j → k < l
      rising k l {i} {j} (inl at) (inl to) inside less = h.ascending i j k l less at to
      rising k l {i} (inl at) (inr to) inside less = let o = h.only i k at in omega (arith, o.1, to.1)
      rising k l {i} {j} (inr at) (inl to) inside less = let w = inside to in absurd (omega (arith, at.0, w, less))
      rising k l (inr at) (inr to) inside less = absurd (omega (arith, at.0, to.0, less))

-- a marked place is within the row
pub marked_within : (row : List Bool) (k : ℕ) → IsMarkSet row k → k < length row
marked_within [] k set = absurd (cc)
marked_within (b ∷ row) zero set = omega arith
marked_within (b ∷ row) (suc k) set = omega (arith, marked_within row k set)

-- ---- rows of a relation

pub row_is : (r : Relation) (i : ℕ) (row : Vec Bool Global) → slice_get r.rows.items i ≡ Some row → row_of r i ≡ row.items
row_is r i row at = ap (λ o. unwrap_or (option_map (λ x. x.items) o) []) at

pub row_past : (r : Relation) (i k : ℕ) → length r.rows.items ≤ i → ¬ IsRelated r i k
row_past r i k past set =
    let none : row_of r i ≡ [] = ap (λ o. unwrap_or (option_map (λ x. x.items) o) []) (slice_get_past r.rows.items i past) in
    let never = subst (λ row. IsMarkSet row k) none set in
    let within = marked_within [] k never in
    omega (arith, within)

-- ---- lists of lists

pub list_is : (lists : List (SmallVec ℕ)) (i : ℕ) (list : SmallVec ℕ) → slice_get lists i ≡ Some list → list_at lists i ≡ list.items
list_is lists i list at = ap (λ o. unwrap_or (option_map (λ x. x.items) o) []) at

pub list_past : (lists : List (SmallVec ℕ)) (i : ℕ) → length lists ≤ i → list_at lists i ≡ []
list_past [] i h = refl
list_past (x ∷ lists) zero h = absurd (omega (arith, h))
list_past (x ∷ lists) (suc i) h = list_past lists i (omega (arith, h))

pub list_there : (lists : List (SmallVec ℕ)) (i : ℕ) → i < length lists → (list : SmallVec ℕ) × (slice_get lists i ≡ Some list)
list_there [] i h = absurd (omega (arith, h))
list_there (x ∷ lists) zero h = (x, refl)
list_there (x ∷ lists) (suc i) h = list_there lists i (omega (arith, h))

-- one list more
pub lists_more : (P : ℕ → ℕ → Type 0) (lists lists' : List (SmallVec ℕ)) (list : SmallVec ℕ)
    → ((i : ℕ) → i < length lists → AreListed (P i) (list_at lists i)) → AreListed (P (length lists)) list.items → lists' ≡ lists
    ++ list ∷ [] → (i : ℕ) → i < length lists + 1 → AreListed (P i) (list_at lists' i)
lists_more P lists lists' list h new pushed i less = elim (cases_lt i (length lists)) [
  | inl below ↦
      let there = list_there lists i below in
      let same : list_at lists' i ≡ list_at lists i = list_is lists' i there.0
      (ap (λ ls. slice_get ls i) pushed ∙ slice_get-append lists (list ∷ []) i there.0 there.1) ∙ sym (list_is lists i there.0 there.1) in
      subst (AreListed (P i)) (sym same) (h i below)
  | inr above ↦
      let end : i ≡ length lists = omega (arith, above, less) in
      let same : list_at lists' i ≡ list.items = ap (list_at lists') end
      ∙ list_is lists' (length lists) list (ap (λ ls. slice_get ls (length lists)) pushed ∙ slice_get-end lists list) in
      subst (λ ks. AreListed (P i) ks) (sym same) (subst (λ j. AreListed (P j) list.items) (sym end) new)
]

-- ---- along a list

-- one more than the number before the place; 0 before the first
abbrev pub past : List ℕ → ℕ → ℕ
past ks zero = 0
past ks (suc i) = suc (slice_index ks i)

pub past_more : (ks : List ℕ) (i k : ℕ) → slice_get ks i ≡ Some k → k + 1 ≡ past ks (i + 1)
past_more ks i k at =
    let is : slice_index ks i ≡ k = get_or_from_slice_get ks i k 0 at in
    let next : past ks (suc i) ≡ past ks (i + 1) = let one : suc i ≡ i + 1 = omega arith in ap (past ks) one in
    omega (arith, is, next)

module _ (P : ℕ → Type 0) (ks : List ℕ) (h : AreListed P ks) where
  behind : (i m j : ℕ) → i ≤ length ks → past ks i ≤ m → slice_get ks j ≡ Some m → i ≤ j
  behind zero m j inside from at = omega arith
  behind (suc i) m j inside from at = elim (cases_lt i j) [
    | inl later ↦ omega (arith, later)
    | inr upto ↦ absurd (not_upto upto)
  ]
    where
      at_i : slice_get ks i ≡ Some (slice_index ks i)
      at_i = slice_get-get_or ks i 0 (omega (arith, inside))

      not_upto : j ≤ i → ⊥
      not_upto upto = elim (cases_lt j i) [
        | inl earlier ↦ let less = h.ascending j i m (slice_index ks i) earlier at at_i in omega (arith, less, from)
        | inr same ↦
            let e : j ≡ i = omega (arith, upto, same) in
            let is_i : slice_index ks i ≡ m = sym (ap (slice_index ks) e) ∙ get_or_from_slice_get ks j m 0 at in
            omega (arith, is_i, from)
      ]

  -- none is wanted between the number before the place and the one at it
  pub none_between : (i k m : ℕ) → slice_get ks i ≡ Some k → past ks i ≤ m → m < k → ¬ P m
  none_between i k m at from below wanted =
      let found = h.all m wanted in
      let later = behind i m found.0 (omega (arith, slice_get-within ks i k at)) from found.1 in
      elim (cases_lt i found.0) [
        | inl less ↦ let rise = h.ascending i found.0 k m less at found.1 in absurd (omega (arith, rise, below))
        | inr upto ↦
            let e : found.0 ≡ i = omega (arith, later, upto) in
            let both : Some m ≡ Some k = sym found.1 ∙ ap (slice_get ks) e ∙ at in
            let same : m ≡ k = cc in
            absurd (omega (arith, same, below))
      ]

  -- none after the last
  pub none_past : (m : ℕ) → past ks (length ks) ≤ m → ¬ P m
  none_past m from wanted =
      let found = h.all m wanted in
      let later = behind (length ks) m found.0 (omega arith) from found.1 in
      let within = slice_get-within ks found.0 m found.1 in
      absurd (omega (arith, later, within))
