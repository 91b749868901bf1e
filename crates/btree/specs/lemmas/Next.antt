-- What is asked for as the next entry is the one with the least greater key.
use Rattle.std.specs.Prelude.{◌≡◌, ◌⊎◌, ℕ, zero, suc, cond, List, [], ◌∷◌, None, Some, Contains}
use Rattle.std.proofs.Common.{refl, sym, ◌∙◌, ap, subst, inl, inr, arith}
use Rattle.std.proofs.lemmas.Cmp.{nat_list_cmp_total, tied_itself}
use Rattle.std.proofs.lemmas.List.Elements.{All-contains, All-from_recursion}
use Rattle.std.specs.declared.cmp.Ordering.{Ordering}
use Rattle.std.specs.declared.cmp.Ordering.TheVariants.{Less, Equal, Greater}
use Rattle.std.specs.Ordering.{is_gt, is_lt}
use Rattle.btree.specs.Page.{Item, key_cmp}
use Rattle.btree.specs.Entries.{Ascend, next_after}
use Rattle.btree.specs.Next.{IsNextEntry}
use Rattle.btree.specs.lemmas.Order.{ascend_first, ascend_rest}

one_of : (x e : Item) (es : List Item) → Contains (x ∷ es) e → (e ≡ x) ⊎ Contains es e
one_of x e es (zero, low, is) = inl (sym is)
one_of x e es (suc k, low, is) = inr (k, omega (arith, low), is)

first_of : (x : Item) (es : List Item) → Contains (x ∷ es) x
first_of x es = (0, omega arith, refl)

later_of : (x e : Item) (es : List Item) → Contains es e → Contains (x ∷ es) e
later_of x e es (k, low, is) = (suc k, omega (arith, low), is)

-- the next entry is the one with the least greater key
pub the_next_is_the_least : (es : List Item) (key : List ℕ) (next : Item) → Ascend es → next_after es key ≡ Some next
    → IsNextEntry es key next
the_next_is_the_least [] key next ascend is = absurd (cc)
the_next_is_the_least (x ∷ es) key next ascend is =
    by_order (the_next_is_the_least es key next (ascend_rest x es ascend)) (key_cmp key x.0) refl is
  where
    here : x ≡ next → key_cmp key x.0 ≡ Less → IsNextEntry (x ∷ es) key next
    here same less = subst (λ (n : Item). IsNextEntry (x ∷ es) key n) same (record {
      there = first_of x es;
      greater = less;
      least = λ e at more. elim (one_of x e es at) [
        | inl first ↦ ap is_gt (ap (λ (i : Item). key_cmp x.0 i.0) first ∙ tied_itself nat_list_cmp_total x.0)
        | inr later ↦ ap is_gt (All-contains (λ i. key_cmp x.0 i.0 ≡ Less) es e
            (All-from_recursion (λ i. key_cmp x.0 i.0 ≡ Less) es (ascend_first x es ascend)) later)
      ];
    })

    further : (key_cmp key x.0 ≡ Less → ⊥) → IsNextEntry es key next → IsNextEntry (x ∷ es) key next
    further not rest = record {
      there = later_of x next es rest.there;
      greater = rest.greater;
      least = λ e at more. elim (one_of x e es at) [
        | inl first ↦ absurd (not (subst (λ (i : Item). key_cmp key i.0 ≡ Less) first more))
        | inr later ↦ rest.least e later more
      ];
    }

    by_order : (next_after es key ≡ Some next → IsNextEntry es key next) → (o : Ordering) → key_cmp key x.0 ≡ o
        → cond (is_lt o) (Some x) (next_after es key) ≡ Some next → IsNextEntry (x ∷ es) key next
    by_order rest Less order at = here (cc) order
    by_order rest Equal order at = further (λ less. let e : Less ≡ Equal = sym less ∙ order in cc) (rest at)
    by_order rest Greater order at = further (λ less. let e : Less ≡ Greater = sym less ∙ order in cc) (rest at)

-- where there is none, no key is greater
pub no_next_is_greater : (es : List Item) (key : List ℕ) → next_after es key ≡ None → (e : Item) → Contains es e → key_cmp key e.0 ≡ Less
    → ⊥
no_next_is_greater [] key none e (k, low, is) more = omega (arith, low)
no_next_is_greater (x ∷ es) key none e at more = by_order (no_next_is_greater es key) (key_cmp key x.0) refl none
  where
    by_order : (next_after es key ≡ None → (f : Item) → Contains es f → key_cmp key f.0 ≡ Less → ⊥) → (o : Ordering) → key_cmp key x.0 ≡ o
        → cond (is_lt o) (Some x) (next_after es key) ≡ None → ⊥
    by_order rest Less order nothing = let e : Some x ≡ None = nothing in cc
    by_order rest Equal order nothing = elim (one_of x e es at) [
      | inl first ↦ let same : Less ≡ Equal = sym (subst (λ (i : Item). key_cmp key i.0 ≡ Less) first more) ∙ order in cc
      | inr later ↦ rest nothing e later more
    ]
    by_order rest Greater order nothing = elim (one_of x e es at) [
      | inl first ↦ let same : Less ≡ Greater = sym (subst (λ (i : Item). key_cmp key i.0 ≡ Less) first more) ∙ order in cc
      | inr later ↦ rest nothing e later more
    ]
