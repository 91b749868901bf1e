-- The search for the place of a key.
use Rattle.std.proofs.Common.{◌≡◌, ℕ, zero, suc, ◌+◌, ◌*◌, ◌-◌, ◌<◌, ◌≤◌, List, [], ◌∷◌, false, Some, take, drop, refl, sym, ◌∙◌, ap, subst, inl, inr, arith}
use Rattle.std.proofs.lemmas.Bool.{cases_eq}
use Rattle.std.proofs.lemmas.Cmp.{nat_list_cmp_total, upto}
use Rattle.std.proofs.lemmas.List.{take-take, drop-drop}
use Rattle.std.proofs.lemmas.Slice.{between_is}
use Rattle.std.specs.declared.cmp.Ordering.{Ordering}
use Rattle.std.specs.declared.cmp.Ordering.TheVariants.{Less, Equal, Greater}
use Rattle.std.specs.List.{AllByRecursion, slice_get}
use Rattle.std.specs.List.Sorted.{IsStrictlySortedBy}
use Rattle.std.specs.Map.{keys_of}
use Rattle.std.specs.Ordering.{is_gt, ordering_reverse}
use Rattle.btree.specs.lemmas.Items.{item_of}
use Rattle.btree.specs.Page.{Item, key_cmp}
use Rattle.btree.specs.Place.{IsPlace}

-- the item of a place, as it is cut out of a page
pub item_cut : (key behind k from : ℕ) (bytes item : List ℕ) → from ≡ 4 + k * (key + behind) → item ≡ take (key + behind) (drop from bytes)
    → (front back : List ℕ) → front ≡ take key item → back ≡ drop key item → Some (item_of key behind k (drop 4 bytes)) ≡ Some (front, back)
item_cut key behind k from bytes item at is front back front_is back_is =
    let here : drop (k * (key + behind)) (drop 4 bytes) ≡ drop from bytes = drop-drop (k * (key + behind)) 4 bytes ∙ ap (λ n. drop n bytes) (sym at) in
    let first : take key item ≡ take key (drop from bytes) = ap (take key) is ∙ take-take key (key + behind) (drop from bytes) (omega arith) in
    let long : key + behind - key ≡ behind = omega arith in
    let second : drop key item ≡ take behind (drop key (drop from bytes)) =
    ap (drop key) is ∙ sym (between_is (drop from bytes) key (key + behind)) ∙ ap (λ n. take n (drop key (drop from bytes))) long in
    λ i. Some ((ap (take key) here ∙ sym first ∙ sym front_is) i, (ap (λ bs. take behind (drop key bs)) here ∙ sym second ∙ sym back_is) i)

later : (x : List ℕ) (es : List Item) (j : ℕ) (b : Item) → AllByRecursion (λ y. key_cmp x y ≡ Less) (keys_of es) → slice_get es j ≡ Some b
    → key_cmp x b.0 ≡ Less
later x [] j b all is = absurd (cc)
later x (e ∷ es) zero b all is = let same : e ≡ b = cc in subst (λ (i : Item). key_cmp x i.0 ≡ Less) same all.0
later x (e ∷ es) (suc j) b all is = later x es j b all.1 is

-- keys ascend by their places
pub ascend_at : (es : List Item) (i j : ℕ) (a b : Item) → IsStrictlySortedBy key_cmp (keys_of es) → i < j → slice_get es i ≡ Some a
    → slice_get es j ≡ Some b → key_cmp a.0 b.0 ≡ Less
unfolding IsStrictlySortedBy
ascend_at [] i j a b sorted low at other = absurd (cc)
ascend_at (e ∷ es) i zero a b sorted low at other = absurd (omega (arith, low))
ascend_at (e ∷ es) zero (suc j) a b sorted low at other =
    let same : e ≡ a = cc in
    subst (λ (i : Item). key_cmp i.0 b.0 ≡ Less) same (later e.0 es j b sorted.0 other)
ascend_at (e ∷ es) (suc i) (suc j) a b sorted low at other = ascend_at es i j a b sorted.1 (omega (arith, low)) at other

-- the search goes on between two places
pub record IsNarrowed (items : List Item) (count : ℕ) (key : List ℕ) (low high : ℕ) : Type 0 where
  pub ordered : low ≤ high
  pub within : high ≤ count
  pub upto : IsStrictlySortedBy key_cmp (keys_of items) → (k : ℕ) (e : Item) → k < low → slice_get items k ≡ Some e → is_gt (key_cmp e.0 key) ≡ false
  pub past : IsStrictlySortedBy key_cmp (keys_of items) → (k : ℕ) (e : Item) → high ≤ k → slice_get items k ≡ Some e → key_cmp key e.0 ≡ Less

less_not : (o : Ordering) → o ≡ Less → is_gt o ≡ false
less_not o is = ap is_gt is

pub none_narrowed : (items : List Item) (count : ℕ) (key : List ℕ) → ((k : ℕ) (e : Item) → slice_get items k ≡ Some e → k < count)
    → IsNarrowed items count key 0 count
none_narrowed items count key here = record {
  ordered = omega arith;
  within = omega arith;
  upto = λ sorted k e low at. absurd (omega (arith, low));
  past = λ sorted k e high at. absurd (omega (arith, high, here k e at));
}

module _ (items : List Item) (count : ℕ) (key : List ℕ) (low high middle : ℕ) (so_far : IsNarrowed items count key low high)
    (above : low ≤ middle) (below : middle < high)
    (here : Item) (at : slice_get items middle ≡ Some here) where
  pub go_right : is_gt (key_cmp here.0 key) ≡ false → IsNarrowed items count key (middle + 1) high
  go_right small = record { ordered = omega arith; within = so_far.within; upto = each; past = so_far.past }
    where
      each : IsStrictlySortedBy key_cmp (keys_of items) → (k : ℕ) (e : Item) → k < middle + 1 → slice_get items k ≡ Some e → is_gt (key_cmp e.0 key) ≡ false
      each sorted k e less got = elim (cases_eq k middle) [
        | inl same ↦ let is : here ≡ e = let also : slice_get items middle ≡ Some e = subst (λ (n : ℕ). slice_get items n ≡ Some e) same got in cc in
            subst (λ (i : Item). is_gt (key_cmp i.0 key) ≡ false) is small
        | inr other ↦ upto nat_list_cmp_total e.0 here.0 key (less_not _ (ascend_at items k middle e here sorted (omega (arith, less, other)) got at)) small
      ]

  pub go_left : key_cmp here.0 key ≡ Greater → IsNarrowed items count key low middle
  go_left great = record { ordered = omega arith; within = omega (arith, so_far.within); upto = so_far.upto; past = each }
    where
      less : key_cmp key here.0 ≡ Less
      less = nat_list_cmp_total.antisymm key here.0 ∙ ap ordering_reverse great

      each : IsStrictlySortedBy key_cmp (keys_of items) → (k : ℕ) (e : Item) → middle ≤ k → slice_get items k ≡ Some e → key_cmp key e.0 ≡ Less
      each sorted k e more got = elim (cases_eq k middle) [
        | inl same ↦ let is : here ≡ e = let also : slice_get items middle ≡ Some e = subst (λ (n : ℕ). slice_get items n ≡ Some e) same got in cc in
            subst (λ (i : Item). key_cmp key i.0 ≡ Less) is less
        | inr other ↦ nat_list_cmp_total.trans key here.0 e.0 less (ascend_at items middle k here e sorted (omega (arith, more, other)) at got)
      ]

  -- the key itself stands there: the search is over
  pub go_found : key_cmp here.0 key ≡ Equal → IsNarrowed items count key (middle + 1) (middle + 1)
  go_found same = record { ordered = omega arith; within = omega (arith, so_far.within); upto = (go_right (ap is_gt same)).upto; past = each }
    where
      each : IsStrictlySortedBy key_cmp (keys_of items) → (k : ℕ) (e : Item) → middle + 1 ≤ k → slice_get items k ≡ Some e → key_cmp key e.0 ≡ Less
      each sorted k e more got =
          sym (nat_list_cmp_total.congr here.0 key e.0 same) ∙ ascend_at items middle k here e sorted (omega (arith, more)) at got

pub is_place : (items : List Item) (count : ℕ) (key : List ℕ) (low high : ℕ) → IsNarrowed items count key low high → high ≤ low
    → IsStrictlySortedBy key_cmp (keys_of items)
    → IsPlace items key low
is_place items count key low high so_far done sorted =
    record { upto = so_far.upto sorted; past = λ k e least. so_far.past sorted k e (omega (arith, done, so_far.ordered, least)) }

pub not_greater : (o : Ordering) → (o ≡ Greater → ⊥) → is_gt o ≡ false
not_greater Less not = refl
not_greater Equal not = refl
not_greater Greater not = absurd (not refl)
