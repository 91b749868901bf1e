-- Entries after a put.
use Rattle.std.specs.Prelude.{◌≡◌, ℕ, cond, false, List, [], ◌∷◌, Option, None, Some}
use Rattle.std.proofs.Common.{refl, sym, ◌∙◌, ap}
use Rattle.std.proofs.lemmas.Cmp.{nat_list_cmp_total, tied_itself}
use Rattle.std.specs.declared.cmp.Ordering.{Ordering}
use Rattle.std.specs.declared.cmp.Ordering.TheVariants.{Less, Equal, Greater}
use Rattle.std.specs.Ordering.{is_eq, match_ordering, ordering_reverse}
use Rattle.btree.specs.Page.{Item, key_cmp}
use Rattle.btree.specs.Entries.{Ascend, find_entry, put_entry}
use Rattle.btree.specs.lemmas.Order.{Past, same_key, past_more, ascend_cons, ascend_first, ascend_rest, ascend_none}

other_order : (a b : List ℕ) → (a ≡ b → ⊥) → (o : Ordering) → key_cmp a b ≡ o → is_eq o ≡ false
other_order a b apart Less is = refl
other_order a b apart Equal is = absurd (apart (same_key a b is))
other_order a b apart Greater is = refl

past_put : (es : List Item) (key value less : List ℕ) → key_cmp less key ≡ Less → Past es less → Past (put_entry es key value) less
past_put [] key value less below past = (below, tt)
past_put (e ∷ es) key value less below past = by_order (past_put es key value less below past.1) (key_cmp key e.0)
  where
    by_order : Past (put_entry es key value) less → (o : Ordering)
        → Past (match_ordering o ((key, value) ∷ e ∷ es) ((e.0, value) ∷ es) (e ∷ put_entry es key value)) less
    by_order rest Less = (below, past)
    by_order rest Equal = past
    by_order rest Greater = (past.0, rest)

-- they ascend as before
pub puts_ascend : (es : List Item) (key value : List ℕ) → Ascend es → Ascend (put_entry es key value)
puts_ascend [] key value ascend = ascend_cons (key, value) [] tt ascend_none
puts_ascend (e ∷ es) key value ascend = by_order (puts_ascend es key value (ascend_rest e es ascend)) (key_cmp key e.0) refl
  where
    by_order : Ascend (put_entry es key value) → (o : Ordering) → key_cmp key e.0 ≡ o
        → Ascend (match_ordering o ((key, value) ∷ e ∷ es) ((e.0, value) ∷ es) (e ∷ put_entry es key value))
    by_order rest Less is = ascend_cons (key, value) (e ∷ es) (is, past_more key e.0 es is (ascend_first e es ascend)) ascend
    by_order rest Equal is = ascend_cons (e.0, value) es (ascend_first e es ascend) (ascend_rest e es ascend)
    by_order rest Greater is =
        ascend_cons e (put_entry es key value) (past_put es key value e.0 (nat_list_cmp_total.antisymm e.0 key ∙ ap ordering_reverse is)
        (ascend_first e es ascend)) rest

-- the key has the value
pub a_put_is_found : (es : List Item) (key value : List ℕ) → find_entry (put_entry es key value) key ≡ Some value
a_put_is_found [] key value = ap (λ (o : Ordering). cond (is_eq o) (Some value) None) (tied_itself nat_list_cmp_total key)
a_put_is_found (e ∷ es) key value = by_order (a_put_is_found es key value) (key_cmp key e.0) refl
  where
    by_order : find_entry (put_entry es key value) key ≡ Some value → (o : Ordering) → key_cmp key e.0 ≡ o
        → find_entry (match_ordering o ((key, value) ∷ e ∷ es) ((e.0, value) ∷ es) (e ∷ put_entry es key value)) key ≡ Some value
    by_order rest Less is = ap (λ (o : Ordering). cond (is_eq o) (Some value) (find_entry (e ∷ es) key))
        (tied_itself nat_list_cmp_total key)
    by_order rest Equal is = ap (λ (o : Ordering). cond (is_eq o) (Some value) (find_entry es key)) is
    by_order rest Greater is = ap (λ (o : Ordering). cond (is_eq o) (Some e.1) (find_entry (put_entry es key value) key)) is ∙ rest

-- each other key has what it had
pub others_are_found : (es : List Item) (key value other : List ℕ) → (other ≡ key → ⊥)
    → find_entry (put_entry es key value) other ≡ find_entry es other
others_are_found [] key value other apart = ap (λ b. cond b (Some value) None) (other_order other key apart (key_cmp other key) refl)
others_are_found (e ∷ es) key value other apart = by_order (others_are_found es key value other apart) (key_cmp key e.0) refl
  where
    by_order : find_entry (put_entry es key value) other ≡ find_entry es other → (o : Ordering) → key_cmp key e.0 ≡ o
        → find_entry (match_ordering o ((key, value) ∷ e ∷ es) ((e.0, value) ∷ es) (e ∷ put_entry es key value)) other ≡ find_entry
        (e ∷ es) other
    by_order rest Less is = ap (λ b. cond b (Some value) (find_entry (e ∷ es) other)) (other_order other key apart (key_cmp other key) refl)
    by_order rest Equal is =
        let elsewhere : is_eq (key_cmp other e.0) ≡ false =
        other_order other e.0 (λ same. apart (same ∙ sym (same_key key e.0 is))) (key_cmp other e.0) refl in
        ap (λ b. cond b (Some value) (find_entry es other)) elsewhere ∙ sym (ap (λ b. cond b (Some e.1) (find_entry es other)) elsewhere)
    by_order rest Greater is = ap (λ (found : Option (List ℕ)). cond (is_eq (key_cmp other e.0)) (Some e.1) found) rest
