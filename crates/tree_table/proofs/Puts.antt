-- What is found once an entry was put.
use Rattle.std.proofs.Common.{◌≡◌, ◌≢◌, ◌⊎◌, inl, inr, ℕ, ◌+◌, List, [], ◌∷◌, length, None, Some, cond, true, false, refl, sym, ◌∙◌, ap, arith}
use Rattle.std.proofs.lemmas.Cmp.{nat_list_cmp_total, tied_itself}
use Rattle.std.proofs.lemmas.Option.{same_Some}
use Rattle.std.specs.declared.cmp.Ordering.{Ordering}
use Rattle.std.specs.declared.cmp.Ordering.TheVariants.{Less, Equal, Greater}
use Rattle.std.specs.Ordering.{is_eq, match_ordering}
use Rattle.btree.specs.Page.{Item, key_cmp}
use Rattle.btree.specs.Entries.{find_entry, put_entry}
use Rattle.btree.specs.lemmas.Order.{same_key}
use Rattle.btree.specs.lemmas.PutEntries.{a_put_is_found, others_are_found}

-- two keys are the same or not
pub keys_same : (a b : List ℕ) → (a ≡ b) ⊎ (a ≢ b)
keys_same a b = by_order (key_cmp a b) refl
  where
    differ : (o : Ordering) → key_cmp a b ≡ o → is_eq o ≡ false → a ≡ b → ⊥
    differ o is other same =
        let tie : key_cmp a b ≡ Equal = ap (key_cmp a) (sym same) ∙ tied_itself nat_list_cmp_total a in
        let e : true ≡ false = ap is_eq (sym tie ∙ is) ∙ other in cc

    by_order : (o : Ordering) → key_cmp a b ≡ o → (a ≡ b) ⊎ (a ≢ b)
    by_order Less is = inr (differ Less is refl)
    by_order Equal is = inl (same_key a b is)
    by_order Greater is = inr (differ Greater is refl)

-- what is found is what was put, or was there
pub found_now : (es : List Item) (key value k v : List ℕ) → find_entry (put_entry es key value) k ≡ Some v
    → ((k ≡ key) × (v ≡ value)) ⊎ ((k ≢ key) × (find_entry es k ≡ Some v))
found_now es key value k v found = elim (keys_same k key) [
  | inl same ↦ inl (same, same_Some v value (sym found ∙ ap (find_entry (put_entry es key value)) same ∙ a_put_is_found es key value))
  | inr other ↦ inr (other, sym (others_are_found es key value k other) ∙ found)
]

-- one entry more where none had the key
pub one_more : (es : List Item) (key value : List ℕ) → find_entry es key ≡ None → length (put_entry es key value) ≡ length es + 1
one_more [] key value none = refl
one_more (e ∷ es) key value none = by_order (one_more es key value) (key_cmp key e.0) refl none
  where
    by_order : (find_entry es key ≡ None → length (put_entry es key value) ≡ length es + 1) → (o : Ordering) → key_cmp key e.0 ≡ o
        → cond (is_eq o) (Some e.1) (find_entry es key) ≡ None
        → length (match_ordering o ((key, value) ∷ e ∷ es) ((e.0, value) ∷ es) (e ∷ put_entry es key value)) ≡ length (e ∷ es) + 1
    by_order more Less is none = omega arith
    by_order more Equal is none = absurd (cc)
    by_order more Greater is none = let rest : length (put_entry es key value) ≡ length es + 1 = more none in omega (arith, rest)
