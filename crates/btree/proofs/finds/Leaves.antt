-- A leaf answers what its items say.
use Rattle.std.proofs.Common.{◌≡◌, ℕ, ◌-◌, ◌<◌, ◌≤◌, inl, inr, cond, true, false, List, None, Some, refl, sym, ◌∙◌, ap, subst, arith}
use Rattle.std.proofs.lemmas.Bool.{cases_eq}
use Rattle.std.proofs.lemmas.Cmp.{nat_list_cmp_total, tied_itself}
use Rattle.std.proofs.lemmas.Option.{slice_get_past}
use Rattle.std.specs.declared.cmp.Ordering.{Ordering}
use Rattle.std.specs.declared.cmp.Ordering.TheVariants.{Less, Equal, Greater}
use Rattle.std.specs.List.{slice_get}
use Rattle.std.specs.Ordering.{is_eq}
use Rattle.btree.specs.lemmas.Items.{item_got, item_of, length-items}
use Rattle.btree.specs.Page.{Item, key_cmp, items_of}
use Rattle.btree.specs.Place.{IsPlace}
use Rattle.btree.specs.Entries.{Ascend, find_entry, next_after}
use Rattle.btree.specs.lemmas.Found.{find_place, find_before, next_place}
use Rattle.btree.specs.lemmas.Order.{same_key}

pub leaf_after : (es : List Item) (key k v copy value : List ℕ) (n : ℕ) → (Ascend es → IsPlace es key n) → slice_get es n ≡ Some (k, v) → copy ≡ k → value ≡ v
    → Ascend es → Some (copy, value) ≡ next_after es key
leaf_after es key k v copy value n place got same_copy same_value ascend =
    (λ i. Some (same_copy i, same_value i)) ∙ sym got ∙ sym (next_place es key n (place ascend))

pub leaf_ends : (k b count : ℕ) (bytes key : List ℕ) (n : ℕ) → count ≤ n → (Ascend (items_of k b count bytes) → IsPlace (items_of k b count bytes) key n)
    → Ascend (items_of k b count bytes) → None ≡ next_after (items_of k b count bytes) key
leaf_ends k b count bytes key n past place ascend =
    let es = items_of k b count bytes in
    sym (next_place es key n (place ascend) ∙ slice_get_past es n (omega (arith, past, length-items k b count bytes)))

pub leaf_begins : (es : List Item) (key : List ℕ) (n : ℕ) → (Ascend es → IsPlace es key n) → n ≡ 0 → Ascend es → None ≡ find_entry es key
leaf_begins es key n place none ascend = sym (find_before es key n (place ascend) none)

other_key : (key found : List ℕ) → (found ≡ key → ⊥) → (o : Ordering) → key_cmp key found ≡ o → is_eq o ≡ false
other_key key found apart Less is = refl
other_key key found apart Equal is = absurd (apart (sym (same_key key found is)))
other_key key found apart Greater is = refl

module _ (es : List Item) (key found value : List ℕ) (n : ℕ) (place : Ascend es → IsPlace es key n) (some : n ≡ 0 → ⊥)
    (got : slice_get es (n - 1) ≡ Some (found, value)) where
  pub leaf_has : (copy : List ℕ) → found ≡ key → copy ≡ value → Ascend es → Some copy ≡ find_entry es key
  leaf_has copy same is ascend =
      let tied : is_eq (key_cmp key found) ≡ true =
      ap is_eq (subst (λ (k : List ℕ). key_cmp key k ≡ Equal) (sym same) (tied_itself nat_list_cmp_total key)) in
      ap Some is ∙ (λ i. cond (sym tied i) (Some value) None) ∙ sym (find_place es key n (place ascend) ascend (found, value) (omega (arith, some)) got)

  pub leaf_lacks : (found ≡ key → ⊥) → Ascend es → None ≡ find_entry es key
  leaf_lacks apart ascend =
      let untied : is_eq (key_cmp key found) ≡ false = other_key key found apart (key_cmp key found) refl in
      (λ i. cond (sym untied i) (Some value) None) ∙ sym (find_place es key n (place ascend) ascend (found, value) (omega (arith, some)) got)

-- no key before the place is this one
pub leaf_without : (k b count : ℕ) (bytes key : List ℕ) (n : ℕ) → n ≤ count → (Ascend (items_of k b count bytes) → IsPlace (items_of k b count bytes) key n)
    → ((e : Item) → slice_get (items_of k b count bytes) (n - 1) ≡ Some e → 1 ≤ n → e.0 ≡ key → ⊥)
    → Ascend (items_of k b count bytes) → None ≡ find_entry (items_of k b count bytes) key
leaf_without k b count bytes key n within place other = elim (cases_eq n 0) [
  | inl none ↦ leaf_begins (items_of k b count bytes) key n place none
  | inr some ↦ let item : Item = item_of k b (n - 1) bytes in
      let low : n - 1 < count = omega (arith, within, some) in
      let got : slice_get (items_of k b count bytes) (n - 1) ≡ Some item = item_got k b count (n - 1) bytes low in
      leaf_lacks (items_of k b count bytes) key item.0 item.1 n place some got (λ same. other item got (omega (arith, some)) same)
]
