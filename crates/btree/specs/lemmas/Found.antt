-- What is found in a leaf, by the place of the key among its items.
use Rattle.std.specs.Prelude.{◌≡◌, ◌⊎◌, ℕ, zero, suc, ◌-◌, ◌<◌, ◌≤◌, false, cond, List, [], ◌∷◌, ◌++◌, Option, None, Some, drop, slice_get}
use Rattle.std.specs.Prelude.{take}
use Rattle.std.proofs.Common.{refl, sym, ◌∙◌, ap, subst, inl, inr, arith, take-append-drop}
use Rattle.std.proofs.lemmas.Cmp.{nat_list_cmp_total, tied_itself}
use Rattle.std.specs.declared.cmp.Ordering.{Ordering}
use Rattle.std.specs.declared.cmp.Ordering.TheVariants.{Less, Equal, Greater}
use Rattle.std.specs.List.{AllByRecursion}
use Rattle.std.specs.Ordering.{is_eq, is_gt, is_lt, match_ordering, ordering_reverse}
use Rattle.btree.specs.Page.{Item, key_cmp}
use Rattle.btree.specs.Place.{IsPlace}
use Rattle.btree.specs.Entries.{Ascend, find_entry, next_after, put_entry}
use Rattle.btree.specs.lemmas.Order.{Below, Past, all_both, below_upto, ascend_seam, find_below, find_none, next_first, put_below}
use Rattle.btree.specs.lemmas.Order.{put_first, same_key}
use Rattle.btree.specs.lemmas.Parts.{got_first}

-- what holds from a place on, or up to it
pub all_from : (P : Item → Type 0) (n : ℕ) (es : List Item) → ((k : ℕ) (e : Item) → n ≤ k → slice_get es k ≡ Some e → P e)
    → AllByRecursion P (drop n es)
all_from P zero [] each = tt
all_from P (suc n) [] each = tt
all_from P zero (e ∷ es) each = (each 0 e (omega arith) refl, all_from P zero es (λ k x low got. each (suc k) x (omega arith) got))
all_from P (suc n) (e ∷ es) each = all_from P n es (λ k x low got. each (suc k) x (omega (arith, low)) got)

pub all_upto : (P : Item → Type 0) (n : ℕ) (es : List Item) → ((k : ℕ) (e : Item) → k < n → slice_get es k ≡ Some e → P e)
    → AllByRecursion P (take n es)
all_upto P zero es each = tt
all_upto P (suc n) [] each = tt
all_upto P (suc n) (e ∷ es) each = (each 0 e (omega arith) refl, all_upto P n es (λ k x low got. each (suc k) x (omega (arith, low)) got))

-- the items around one of them
pub split_got : {X : Type 0} (es : List X) (i : ℕ) (e : X) → slice_get es i ≡ Some e → es ≡ take i es ++ e ∷ drop (suc i) es
split_got [] i e got = absurd (cc)
split_got (x ∷ es) zero e got = let same : x ≡ e = cc in λ k. same k ∷ es
split_got (x ∷ es) (suc i) e got = ap (λ rest. x ∷ rest) (split_got es i e got)

module _ (es : List Item) (key : List ℕ) (n : ℕ) (place : IsPlace es key n) where
  -- after its place a key is past
  pub place_past : Past (drop n es) key
  place_past = all_from (λ e. key_cmp key e.0 ≡ Less) n es place.past

  -- it is the key before its place, or there is none
  pub find_place : Ascend es → (e : Item) → 1 ≤ n → slice_get es (n - 1) ≡ Some e
      → find_entry es key ≡ cond (is_eq (key_cmp key e.0)) (Some e.1) None
  find_place ascend e some got =
      let behind : suc (n - 1) ≡ n = omega (arith, some) in
      let parts : es ≡ take (n - 1) es ++ e ∷ drop n es =
      split_got es (n - 1) e got ∙ ap (λ (m : ℕ). take (n - 1) es ++ e ∷ drop m es) behind in
      let below : Below (take (n - 1) es) key =
      below_upto e.0 key (take (n - 1) es) (place.upto (n - 1) e (omega (arith, some)) got)
      (ascend_seam (take (n - 1) es) e (drop n es) (subst Ascend parts ascend)) in
      ap (λ (fs : List Item). find_entry fs key) parts ∙ find_below (take (n - 1) es) (e ∷ drop n es) key below
      ∙ ap (λ (o : Option (List ℕ)). cond (is_eq (key_cmp key e.0)) (Some e.1) o) (find_none (drop n es) key place_past)

  pub find_before : n ≡ 0 → find_entry es key ≡ None
  find_before none = find_none es key (subst (λ (m : ℕ). Past (drop m es) key) none place_past)

  -- the next entry stands at its place
  pub next_place : next_after es key ≡ slice_get es n
  next_place =
      ap (λ (fs : List Item). next_after fs key) (sym (take-append-drop n es))
      ∙ skip (take n es) (drop n es) (all_upto (λ e. is_gt (key_cmp e.0 key) ≡ false) n es place.upto)
      ∙ next_first (drop n es) key place_past ∙ got_first n es
    where
      not_less : (o : Ordering) → is_gt o ≡ false → is_lt (ordering_reverse o) ≡ false
      not_less Less not = refl
      not_less Equal not = refl
      not_less Greater not = absurd (cc)

      skip : (fs gs : List Item) → AllByRecursion (λ e. is_gt (key_cmp e.0 key) ≡ false) fs → next_after (fs ++ gs) key ≡ next_after gs key
      skip [] gs all = refl
      skip (f ∷ fs) gs all =
          let less : is_lt (key_cmp key f.0) ≡ false = ap is_lt (nat_list_cmp_total.antisymm key f.0) ∙ not_less (key_cmp f.0 key) all.0 in
          (λ i. cond (less i) (Some f) (next_after (fs ++ gs) key)) ∙ skip fs gs all.1

pub take_got : {X : Type 0} (es : List X) (i : ℕ) (e : X) → slice_get es i ≡ Some e → take (suc i) es ≡ take i es ++ e ∷ []
take_got [] i e got = absurd (cc)
take_got (x ∷ es) zero e got = let same : x ≡ e = cc in λ k. same k ∷ []
take_got (x ∷ es) (suc i) e got = ap (λ rest. x ∷ rest) (take_got es i e got)

less_or_same : (o : Ordering) → is_gt o ≡ false → (o ≡ Equal → ⊥) → o ≡ Less
less_or_same Less not other = refl
less_or_same Equal not other = absurd (other refl)
less_or_same Greater not other = absurd (cc)

-- what a put does to a leaf
module _ (es : List Item) (key value : List ℕ) (n : ℕ) (place : IsPlace es key n) (ascend : Ascend es) where
  -- the key before its place is another
  pub put_new : ((e : Item) → 1 ≤ n → slice_get es (n - 1) ≡ Some e → e.0 ≡ key → ⊥)
      → (n ≡ 0) ⊎ ((e : Item) × (slice_get es (n - 1) ≡ Some e) × (1 ≤ n))
      → put_entry es key value ≡ take n es ++ (key, value) ∷ drop n es
  put_new other before =
      ap (λ (fs : List Item). put_entry fs key value) (sym (take-append-drop n es))
      ∙ put_below (take n es) (drop n es) key value (below before)
      ∙ ap (λ (fs : List Item). take n es ++ fs) (put_first (drop n es) key value (place_past es key n place))
    where
      below : (n ≡ 0) ⊎ ((e : Item) × (slice_get es (n - 1) ≡ Some e) × (1 ≤ n)) → Below (take n es) key
      below (inl none) = subst (λ (m : ℕ). Below (take m es) key) (sym none) tt
      below (inr (e, got, some)) =
          let behind : suc (n - 1) ≡ n = omega (arith, some) in
          let parts : es ≡ take (n - 1) es ++ e ∷ drop n es =
          split_got es (n - 1) e got ∙ ap (λ (m : ℕ). take (n - 1) es ++ e ∷ drop m es) behind in
          let upto : is_gt (key_cmp e.0 key) ≡ false = place.upto (n - 1) e (omega (arith, some)) got in
          let before_it : Below (take (n - 1) es) key = below_upto e.0 key (take (n - 1) es) upto
          (ascend_seam (take (n - 1) es) e (drop n es) (subst Ascend parts ascend)) in
          let it : key_cmp e.0 key ≡ Less = less_or_same (key_cmp e.0 key) upto (λ tied. other e some got (same_key e.0 key tied)) in
          subst (λ (fs : List Item). Below fs key) (sym (take_got es (n - 1) e got) ∙ ap (λ (m : ℕ). take m es) behind)
          (all_both (λ f. key_cmp f.0 key ≡ Less) (take (n - 1) es) (e ∷ []) before_it (it, tt))

  -- it is the key
  pub put_same : (e : Item) → 1 ≤ n → slice_get es (n - 1) ≡ Some e → e.0 ≡ key
      → put_entry es key value ≡ take (n - 1) es ++ (key, value) ∷ drop n es
  put_same e some got same =
      let behind : suc (n - 1) ≡ n = omega (arith, some) in
      let parts : es ≡ take (n - 1) es ++ e ∷ drop n es =
      split_got es (n - 1) e got ∙ ap (λ (m : ℕ). take (n - 1) es ++ e ∷ drop m es) behind in
      let below : Below (take (n - 1) es) key = subst (λ (k : List ℕ). Below (take (n - 1) es) k) same
      (ascend_seam (take (n - 1) es) e (drop n es) (subst Ascend parts ascend)) in
      let tied : key_cmp key e.0 ≡ Equal = subst (λ (k : List ℕ). key_cmp key k ≡ Equal) (sym same) (tied_itself nat_list_cmp_total key) in
      ap (λ (fs : List Item). put_entry fs key value) parts ∙ put_below (take (n - 1) es) (e ∷ drop n es) key value below
      ∙ ap (λ (o : Ordering). take (n - 1) es ++ match_ordering o ((key, value) ∷ e ∷ drop n es) ((e.0, value) ∷ drop n es)
      (e ∷ put_entry (drop n es) key value)) tied
      ∙ ap (λ (k : List ℕ). take (n - 1) es ++ (k, value) ∷ drop n es) same
