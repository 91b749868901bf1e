-- What holds of entries in the order of their keys.
use Rattle.std.specs.Prelude.{◌≡◌, ◌⊎◌, ℕ, cond, false, List, [], ◌∷◌, ◌++◌, Option, None, Some, slice_get}
use Rattle.std.proofs.Common.{refl, sym, ◌∙◌, ap, subst, inl, inr}
use Rattle.std.proofs.lemmas.Cmp.{nat_list_cmp_total, tied_itself}
use Rattle.std.proofs.lemmas.Map.Text.{is_eq-slice_cmp}
use Rattle.std.proofs.lemmas.Slice.Eq.{bytes_eq-Decides}
use Rattle.std.proofs.lemmas.List.Folds.{find-append}
use Rattle.std.specs.declared.cmp.Ordering.{Ordering}
use Rattle.std.specs.declared.cmp.Ordering.TheVariants.{Less, Equal, Greater}
use Rattle.std.specs.List.{AllByRecursion}
use Rattle.std.specs.List.Sorted.{IsStrictlySortedBy}
use Rattle.std.specs.Map.{keys_of}
use Rattle.std.specs.Option.{option_or}
use Rattle.std.specs.Ordering.{is_eq, is_gt, is_lt, match_ordering, ordering_reverse}
use Rattle.btree.specs.Page.{Item, key_cmp}
use Rattle.btree.specs.Entries.{Ascend, find_entry, next_after, put_entry}

-- all keys are below this one
abbrev pub Below : List Item → List ℕ → Type 0
Below es key = AllByRecursion (λ e. key_cmp e.0 key ≡ Less) es

-- all keys are past this one
abbrev pub Past : List Item → List ℕ → Type 0
Past es key = AllByRecursion (λ e. key_cmp key e.0 ≡ Less) es

-- keys in order

pub turned : (a b : List ℕ) → key_cmp a b ≡ Less → key_cmp b a ≡ Greater
turned a b less = nat_list_cmp_total.antisymm b a ∙ ap ordering_reverse less

pub same_key : (a b : List ℕ) → key_cmp a b ≡ Equal → a ≡ b
same_key a b is = (bytes_eq-Decides a b).0 (sym (is_eq-slice_cmp a b) ∙ ap is_eq is)

not_past : (o : Ordering) → is_gt o ≡ false → (o ≡ Less) ⊎ (o ≡ Equal)
not_past Less not = inl refl
not_past Equal not = inr refl
not_past Greater not = absurd (cc)

pub less_upto : (a b c : List ℕ) → key_cmp a b ≡ Less → is_gt (key_cmp b c) ≡ false → key_cmp a c ≡ Less
less_upto a b c less upto = elim (not_past (key_cmp b c) upto) [
  | inl more ↦ nat_list_cmp_total.trans a b c less more
  | inr is ↦ subst (λ (k : List ℕ). key_cmp a k ≡ Less) (same_key b c is) less
]

-- entries in a row

pub all_front : (P : Item → Type 0) (fs bs : List Item) → AllByRecursion P (fs ++ bs) → AllByRecursion P fs
all_front P [] bs all = tt
all_front P (a ∷ fs) bs all = (all.0, all_front P fs bs all.1)

pub all_back : (P : Item → Type 0) (fs bs : List Item) → AllByRecursion P (fs ++ bs) → AllByRecursion P bs
all_back P [] bs all = all
all_back P (a ∷ fs) bs all = all_back P fs bs all.1

pub all_both : (P : Item → Type 0) (fs bs : List Item) → AllByRecursion P fs → AllByRecursion P bs → AllByRecursion P (fs ++ bs)
all_both P [] bs one two = two
all_both P (a ∷ fs) bs one two = (one.0, all_both P fs bs one.1 two)

past_keys : (key : List ℕ) (es : List Item) → AllByRecursion (λ y. key_cmp key y ≡ Less) (keys_of es) → Past es key
past_keys key [] all = tt
past_keys key (e ∷ es) all = (all.0, past_keys key es all.1)

keys_past : (key : List ℕ) (es : List Item) → Past es key → AllByRecursion (λ y. key_cmp key y ≡ Less) (keys_of es)
keys_past key [] all = tt
keys_past key (e ∷ es) all = (all.0, keys_past key es all.1)

pub past_more : (less more : List ℕ) (es : List Item) → key_cmp less more ≡ Less → Past es more → Past es less
past_more less more [] is all = tt
past_more less more (e ∷ es) is all = (nat_list_cmp_total.trans less more e.0 is all.0, past_more less more es is all.1)

pub below_upto : (less more : List ℕ) (es : List Item) → is_gt (key_cmp less more) ≡ false → Below es less → Below es more
below_upto less more [] is all = tt
below_upto less more (e ∷ es) is all = (less_upto e.0 less more all.0 is, below_upto less more es is all.1)

-- the first is below the others
pub ascend_cons : (e : Item) (es : List Item) → Past es e.0 → Ascend es → Ascend (e ∷ es)
unfolding IsStrictlySortedBy
ascend_cons e es past ascend = (keys_past e.0 es past, ascend)

pub ascend_first : (e : Item) (es : List Item) → Ascend (e ∷ es) → Past es e.0
unfolding IsStrictlySortedBy
ascend_first e es ascend = past_keys e.0 es ascend.0

pub ascend_rest : (e : Item) (es : List Item) → Ascend (e ∷ es) → Ascend es
unfolding IsStrictlySortedBy
ascend_rest e es ascend = ascend.1

pub ascend_none : Ascend []
unfolding IsStrictlySortedBy
ascend_none = tt

pub ascend_front : (fs bs : List Item) → Ascend (fs ++ bs) → Ascend fs
ascend_front [] bs ascend = ascend_none
ascend_front (a ∷ fs) bs ascend =
    ascend_cons a fs (all_front (λ e. key_cmp a.0 e.0 ≡ Less) fs bs (ascend_first a (fs ++ bs) ascend))
    (ascend_front fs bs (ascend_rest a (fs ++ bs) ascend))

pub ascend_back : (fs bs : List Item) → Ascend (fs ++ bs) → Ascend bs
ascend_back [] bs ascend = ascend
ascend_back (a ∷ fs) bs ascend = ascend_back fs bs (ascend_rest a (fs ++ bs) ascend)

-- those before one are below it
pub ascend_seam : (fs : List Item) (b : Item) (bs : List Item) → Ascend (fs ++ b ∷ bs) → Below fs b.0
ascend_seam [] b bs ascend = tt
ascend_seam (a ∷ fs) b bs ascend = (
  (all_back (λ e. key_cmp a.0 e.0 ≡ Less) fs (b ∷ bs) (ascend_first a (fs ++ b ∷ bs) ascend)).0,
  ascend_seam fs b bs
      (ascend_rest a (fs ++ b ∷ bs) ascend),
)

-- what is found at a key, next to it and after a put there is where the key belongs

pub find_below : (fs bs : List Item) (key : List ℕ) → Below fs key → find_entry (fs ++ bs) key ≡ find_entry bs key
find_below [] bs key below = refl
find_below (a ∷ fs) bs key below =
    ap (λ (o : Ordering). cond (is_eq o) (Some a.1) (find_entry (fs ++ bs) key)) (turned a.0 key below.0) ∙ find_below fs bs key below.1

pub find_none : (bs : List Item) (key : List ℕ) → Past bs key → find_entry bs key ≡ None
find_none [] key past = refl
find_none (b ∷ bs) key past = ap (λ (o : Ordering). cond (is_eq o) (Some b.1) (find_entry bs key)) past.0 ∙ find_none bs key past.1

pub find_past : (fs bs : List Item) (key : List ℕ) → Past bs key → find_entry (fs ++ bs) key ≡ find_entry fs key
find_past [] bs key past = find_none bs key past
find_past (a ∷ fs) bs key past = ap (λ (rest : Option (List ℕ)). cond (is_eq (key_cmp key a.0)) (Some a.1) rest) (find_past fs bs key past)

pub find_here : (e : Item) (es : List Item) → find_entry (e ∷ es) e.0 ≡ Some e.1
find_here e es = ap (λ (o : Ordering). cond (is_eq o) (Some e.1) (find_entry es e.0)) (tied_itself nat_list_cmp_total e.0)

pub next_below : (fs bs : List Item) (key : List ℕ) → Below fs key → next_after (fs ++ bs) key ≡ next_after bs key
next_below [] bs key below = refl
next_below (a ∷ fs) bs key below =
    ap (λ (o : Ordering). cond (is_lt o) (Some a) (next_after (fs ++ bs) key)) (turned a.0 key below.0) ∙ next_below fs bs key below.1

pub next_first : (bs : List Item) (key : List ℕ) → Past bs key → next_after bs key ≡ slice_get bs 0
next_first [] key past = refl
next_first (b ∷ bs) key past = ap (λ (o : Ordering). cond (is_lt o) (Some b) (next_after bs key)) past.0

pub next_past : (fs bs : List Item) (key : List ℕ) → Past bs key
    → next_after (fs ++ bs) key ≡ option_or (next_after fs key) (slice_get bs 0)
next_past fs bs key past =
    find-append (λ e. is_lt (key_cmp key e.0)) fs bs ∙ ap (λ (o : Option Item). option_or (next_after fs key) o) (next_first bs key past)

pub put_below : (fs bs : List Item) (key value : List ℕ) → Below fs key → put_entry (fs ++ bs) key value ≡ fs ++ put_entry bs key value
put_below [] bs key value below = refl
put_below (a ∷ fs) bs key value below =
    ap (λ (o : Ordering). match_ordering o ((key, value) ∷ a ∷ (fs ++ bs)) ((a.0, value) ∷ (fs ++ bs))
    (a ∷ put_entry (fs ++ bs) key value)) (turned a.0 key below.0)
    ∙ ap (λ (es : List Item). a ∷ es) (put_below fs bs key value below.1)

pub put_first : (bs : List Item) (key value : List ℕ) → Past bs key → put_entry bs key value ≡ (key, value) ∷ bs
put_first [] key value past = refl
put_first (b ∷ bs) key value past = ap (λ (o : Ordering). match_ordering o ((key, value) ∷ b ∷ bs) ((b.0, value) ∷ bs)
    (b ∷ put_entry bs key value)) past.0

pub put_past : (fs bs : List Item) (key value : List ℕ) → Past bs key → put_entry (fs ++ bs) key value ≡ put_entry fs key value ++ bs
put_past [] bs key value past = put_first bs key value past
put_past (a ∷ fs) bs key value past = by_order (put_past fs bs key value past) (key_cmp key a.0)
  where
    by_order : put_entry (fs ++ bs) key value ≡ put_entry fs key value ++ bs → (o : Ordering)
        → match_ordering o ((key, value) ∷ a ∷ (fs ++ bs)) ((a.0, value) ∷ (fs ++ bs)) (a ∷ put_entry (fs ++ bs) key value)
        ≡ match_ordering o ((key, value) ∷ a ∷ fs) ((a.0, value) ∷ fs) (a ∷ put_entry fs key value) ++ bs
    by_order rest Less = refl
    by_order rest Equal = refl
    by_order rest Greater = ap (λ (es : List Item). a ∷ es) rest
