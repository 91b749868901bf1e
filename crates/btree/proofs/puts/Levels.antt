-- The trees that items lead to, level by level.
use Rattle.std.proofs.Common.{◌≡◌, ◌⊎◌, ℕ, zero, suc, ◌-◌, ◌<◌, List, [], ◌∷◌, ◌++◌, Some, All, Contains, false, length, take, drop, IsTrue, refl, sym, ◌∙◌, ap, subst, inl, inr, arith}
use Rattle.std.proofs.lemmas.Bool.{cases_eq}
use Rattle.std.proofs.lemmas.List.Concat.{flat_map-append, flat_map_single}
use Rattle.std.proofs.lemmas.List.Elements.{All-nil, All-cons, All-head, All-tail, All-append, All-take, All-drop, All-weaker, Contains-append_left, Contains-append_right, Contains-append_cases}
use Rattle.std.specs.List.{flat_map, slice_get}
use Rattle.std.specs.Option.{option_map}
use Rattle.std.specs.Ordering.{is_gt}
use Rattle.sector_disk.specs.lemmas.Moments.{still_honest}
use Rattle.page_store.specs.declared.marks.Mark.{Mark}
use Rattle.page_store.specs.Marks.{mark, let_go}
use Rattle.page_store.specs.Store.{Store, reads, StoreWorks}
use Rattle.page_store.specs.lemmas.Works.{works_then}
use Rattle.btree.specs.declared.page.kind.Kind.TheVariants.{Leaf, Inner}
use Rattle.btree.specs.declared.page.widths.Widths.{Widths}
use Rattle.btree.specs.Page.{Item, IsPage, items_in, child_of, key_cmp}
use Rattle.btree.specs.Place.{IsPlace}
use Rattle.btree.specs.Changes.{AreHeld, TakePlace}
use Rattle.btree.specs.Entries.{Ascend, find_entry, first_key, put_entry}
use Rattle.btree.specs.lemmas.Laws.{contains_first, contains_later, contains_root, pages_same, entries_same, tree_same}
use Rattle.btree.specs.lemmas.Order.{Below, Past, ascend_front, ascend_back, find_below, find_past, put_below, put_past}
use Rattle.btree.specs.lemmas.Parts.{HasFirst, all_got, contains_part, flat_at, first_below, below_part, past_part, children_ascend}
use Rattle.btree.specs.lemmas.Replacements.{take_then, only_one}
use Rattle.btree.specs.Tree.{entries_below, pages_below, IsTree}
use Rattle.page_store.specs.Pages.{IsOnce}
use Rattle.btree.specs.lemmas.Growth.{AreThere, AreWritten, IsGrowing, IsGrownTree, children}
use Rattle.btree.specs.lemmas.Once.{contains_cons, Apart, once_append, once_apart, once_cons, once_first, once_left, once_none, once_rest, once_right}
use Rattle.btree.proofs.puts.Replacements.{IsUnion, held_not_free, take_beside}

-- lists

all_left : (P : Item → Type 0) (xs ys : List Item) → All P (xs ++ ys) → All P xs
all_left P [] ys all = All-nil P
all_left P (x ∷ xs) ys all = All-cons P x xs (All-head P x (xs ++ ys) all) (all_left P xs ys (All-tail P x (xs ++ ys) all))

all_right : (P : Item → Type 0) (xs ys : List Item) → All P (xs ++ ys) → All P ys
all_right P [] ys all = all
all_right P (x ∷ xs) ys all = all_right P xs ys (All-tail P x (xs ++ ys) all)

all_from : (P : Item → Type 0) (cs : List Item) → ((i : ℕ) (c : Item) → slice_get cs i ≡ Some c → P c) → All P cs
all_from P [] each = All-nil P
all_from P (c ∷ cs) each = All-cons P c cs (each 0 c refl) (all_from P cs (λ i e got. each (suc i) e got))

flat_equal : {X : Type 0} (f g : Item → List X) (cs : List Item) → ((i : ℕ) (c : Item) → slice_get cs i ≡ Some c → g c ≡ f c) → flat_map g cs ≡ flat_map f cs
flat_equal f g [] each = refl
flat_equal f g (c ∷ cs) each =
    let one = each 0 c refl in
    let rest = flat_equal f g cs (λ i e got. each (suc i) e got) in
    λ i. one i ++ rest i

flat_flat : {X : Type 0} (f : Item → List X) (g : Item → List Item) (ts : List Item) → flat_map (λ t. flat_map f (g t)) ts ≡ flat_map f (flat_map g ts)
flat_flat f g [] = refl
flat_flat f g (t ∷ ts) = ap (λ rest. flat_map f (g t) ++ rest) (flat_flat f g ts) ∙ sym (flat_map-append f (g t) (flat_map g ts))

pub first_got : (es : List Item) → first_key es ≡ option_map (λ e. e.0) (slice_get es 0)
first_got [] = refl
first_got (e ∷ es) = refl

module _ (w : Widths) where
  -- what is below the page that an item leads to
  abbrev pub pages_at : (ℕ → List ℕ) → ℕ → Item → List ℕ
  pages_at bytes d c = pages_below w bytes d (child_of c)

  abbrev pub entries_at : (ℕ → List ℕ) → ℕ → Item → List Item
  entries_at bytes d c = entries_below w bytes d (child_of c)

  abbrev pub IsBranch : (ℕ → List ℕ) → ℕ → Item → Type 0
  IsBranch bytes d c = IsTree w bytes d (child_of c) × (first_key (entries_below w bytes d (child_of c)) ≡ Some c.0)

  -- branches whose pages stay
  module _ (d : ℕ) (bytes other : ℕ → List ℕ) (cs : List Item) (same : (p : ℕ) → Contains (flat_map (pages_at bytes d) cs) p → other p ≡ bytes p) where
    each_same : (i : ℕ) (c : Item) → slice_get cs i ≡ Some c → (p : ℕ) → Contains (pages_at bytes d c) p → other p ≡ bytes p
    each_same i c got p here = same p (contains_part (pages_at bytes d) cs i c p got here)

    pub pages_stay : flat_map (pages_at other d) cs ≡ flat_map (pages_at bytes d) cs
    pages_stay = flat_equal (pages_at bytes d) (pages_at other d) cs (λ i c got. pages_same w bytes other d (child_of c) (each_same i c got))

    pub entries_stay : flat_map (entries_at other d) cs ≡ flat_map (entries_at bytes d) cs
    entries_stay = flat_equal (entries_at bytes d) (entries_at other d) cs (λ i c got. entries_same w bytes other d (child_of c) (each_same i c got))

    pub branches_stay : All (IsBranch bytes d) cs → All (IsBranch other d) cs
    branches_stay all = all_from (IsBranch other d) cs (λ i c got.
        let was : IsBranch bytes d c = all_got (IsBranch bytes d) cs i c all got in (
          tree_same w bytes other d (child_of c) (each_same i c got) was.0,
          ap first_key (entries_same w bytes other d (child_of c) (each_same i c got)) ∙ was.1,
        ))

  -- pages with these items are branches one level up
  module _ (d : ℕ) (bytes : ℕ → List ℕ) where
    abbrev pub items_at : Item → List Item
    items_at c = items_in w Inner (bytes (child_of c))

    abbrev pub IsHead : Item → Type 0
    IsHead c = IsPage w Inner (bytes (child_of c)) × (first_key (items_in w Inner (bytes (child_of c))) ≡ Some c.0)

    pub branches_up : (tops : List Item) → All IsHead tops → All (IsBranch bytes d) (flat_map items_at tops) → All (IsBranch bytes (suc d)) tops
    branches_up [] heads all = All-nil (IsBranch bytes (suc d))
    branches_up (t ∷ ts) heads all =
        let head : IsHead t = All-head IsHead t ts heads in
        let here : All (IsBranch bytes d) (items_at t) = all_left (IsBranch bytes d) (items_at t) (flat_map items_at ts) all in
        let firsts : All (HasFirst (entries_at bytes d)) (items_at t) = All-weaker (IsBranch bytes d) (HasFirst (entries_at bytes d))
        (λ c b. b.1) (items_at t) here in
        All-cons (IsBranch bytes (suc d)) t ts
        ((head.0, here), first_below (entries_at bytes d) (items_at t) firsts ∙ sym (first_got (items_at t)) ∙ head.1)
        (branches_up ts (All-tail IsHead t ts heads) (all_right (IsBranch bytes d) (items_at t) (flat_map items_at ts) all))

    pub entries_up : (tops : List Item) → flat_map (entries_at bytes (suc d)) tops ≡ flat_map (entries_at bytes d) (flat_map items_at tops)
    entries_up tops = flat_flat (entries_at bytes d) items_at tops

    -- its pages are those that the items lead to, and those below
    pub pages_up : (tops : List Item) → IsUnion (children tops) (flat_map (pages_at bytes d) (flat_map items_at tops)) (flat_map (pages_at bytes (suc d)) tops)
    pages_up [] = record { split = λ p here. inl here; left = λ p here. here; right = λ p here. here }
    pages_up (t ∷ ts) =
        let rest = pages_up ts in
        let body = flat_map (pages_at bytes d) (items_at t) in
        let below = flat_map (pages_at bytes d) (flat_map items_at ts) in
        let more = flat_map (pages_at bytes (suc d)) ts in
        let parts : flat_map (pages_at bytes d) (items_at t ++ flat_map items_at ts) ≡ body
        ++ below = flat_map-append (pages_at bytes d) (items_at t) (flat_map items_at ts) in
        record {
          split = λ p here. elim (contains_cons (child_of t) p (body ++ more) here) [
            | inl is ↦ inl (subst (λ (q : ℕ). Contains (child_of t ∷ children ts) q) (sym is) (contains_first (child_of t) (children ts)))
            | inr later ↦ elim (Contains-append_cases body more p later) [
              | inl one ↦ inr (subst (λ (ps : List ℕ). Contains ps p) (sym parts) (Contains-append_left body below p one))
              | inr two ↦ elim (rest.split p two) [
                | inl there ↦ inl (contains_later (child_of t) p (children ts) there)
                | inr there ↦ inr (subst (λ (ps : List ℕ). Contains ps p) (sym parts) (Contains-append_right body below p there))
              ]
            ]
          ];
          left = λ p here. elim (contains_cons (child_of t) p (children ts) here) [
            | inl is ↦ subst (λ (q : ℕ). Contains (child_of t ∷ (body ++ more)) q) (sym is) (contains_first (child_of t) (body ++ more))
            | inr later ↦ contains_later (child_of t) p (body ++ more) (Contains-append_right body more p (rest.left p later))
          ];
          right = λ p here. elim (Contains-append_cases body below p (subst (λ (ps : List ℕ). Contains ps p) parts here)) [
            | inl one ↦ contains_later (child_of t) p (body ++ more) (Contains-append_left body more p one)
            | inr two ↦ contains_later (child_of t) p (body ++ more) (Contains-append_right body more p (rest.right p two))
          ];
        }

    pub once_up : (tops : List Item) → IsOnce (children tops) → IsOnce (flat_map (pages_at bytes d) (flat_map items_at tops))
        → Apart (children tops) (flat_map (pages_at bytes d) (flat_map items_at tops)) → IsOnce (flat_map (pages_at bytes (suc d)) tops)
    once_up [] heads once apart = once_none
    once_up (t ∷ ts) heads once apart =
        let body = flat_map (pages_at bytes d) (items_at t) in
        let below = flat_map (pages_at bytes d) (flat_map items_at ts) in
        let more = flat_map (pages_at bytes (suc d)) ts in
        let parts : flat_map (pages_at bytes d) (items_at t ++ flat_map items_at ts) ≡ body
        ++ below = flat_map-append (pages_at bytes d) (items_at t) (flat_map items_at ts) in
        let each : IsOnce (body ++ below) = subst IsOnce parts once in
        let free : Apart (child_of t ∷ children ts) (body ++ below) = subst (λ (ps : List ℕ). Apart (child_of t ∷ children ts) ps) parts apart in
        let rest : IsOnce more =
        once_up ts (once_rest (child_of t) (children ts) heads) (once_right body below each)
        (λ p here there. free p (contains_later (child_of t) p (children ts) here) (Contains-append_right body below p there)) in
        let union = pages_up ts in
        let body_more : Apart body more = λ p here there. elim (union.split p there) [
          | inl head ↦ free p (contains_later (child_of t) p (children ts) head) (Contains-append_left body below p here)
          | inr later ↦ once_apart body below each p here later
        ] in
        let new : Contains (body ++ more) (child_of t) → ⊥ = λ here. elim (Contains-append_cases body more (child_of t) here) [
          | inl one ↦ free (child_of t) (contains_first (child_of t) (children ts)) (Contains-append_left body below (child_of t) one)
          | inr two ↦ elim (union.split (child_of t) two) [
            | inl head ↦ once_first (child_of t) (children ts) heads head
            | inr later ↦ free (child_of t) (contains_first (child_of t) (children ts)) (Contains-append_right body below (child_of t) later)
          ]
        ] in
        once_cons (child_of t) (body ++ more) new (once_append body more (once_left body below each) rest body_more)

-- page lists around the pages of one child
union_mid : (q : ℕ) (a b c : List ℕ) → IsUnion b (q ∷ (a ++ c)) (q ∷ (a ++ (b ++ c)))
union_mid q a b c = record {
  split = λ p here. elim (contains_cons q p (a ++ (b ++ c)) here) [
    | inl is ↦ inr (subst (λ (r : ℕ). Contains (q ∷ (a ++ c)) r) (sym is) (contains_first q (a ++ c)))
    | inr later ↦ elim (Contains-append_cases a (b ++ c) p later) [
      | inl one ↦ inr (contains_later q p (a ++ c) (Contains-append_left a c p one))
      | inr more ↦ elim (Contains-append_cases b c p more) [
        | inl two ↦ inl two
        | inr three ↦ inr (contains_later q p (a ++ c) (Contains-append_right a c p three))
      ]
    ]
  ];
  left = λ p here. contains_later q p (a ++ (b ++ c)) (Contains-append_right a (b ++ c) p (Contains-append_left b c p here));
  right = λ p here. elim (contains_cons q p (a ++ c) here) [
    | inl is ↦ subst (λ (r : ℕ). Contains (q ∷ (a ++ (b ++ c))) r) (sym is) (contains_first q (a ++ (b ++ c)))
    | inr later ↦ elim (Contains-append_cases a c p later) [
      | inl one ↦ contains_later q p (a ++ (b ++ c)) (Contains-append_left a (b ++ c) p one)
      | inr three ↦ contains_later q p (a ++ (b ++ c)) (Contains-append_right a (b ++ c) p (Contains-append_right b c p three))
    ]
  ];
}

pub union_first : (q : ℕ) (ps : List ℕ) → IsUnion (q ∷ []) ps (q ∷ ps)
union_first q ps = record {
  split = λ p here. elim (contains_cons q p ps here) [
    | inl is ↦ inl (subst (λ (r : ℕ). Contains (q ∷ []) r) (sym is) (contains_first q []))
    | inr later ↦ inr later
  ];
  left = λ p here. subst (λ (r : ℕ). Contains (q ∷ ps) r) (sym (only_one q p here)) (contains_first q ps);
  right = λ p here. contains_later q p ps here;
}

-- first pages between others change, and then the page above them
module _ (q : ℕ) (a b c b' heads all : List ℕ) (old mid new : Store) (works : StoreWorks old mid)
    (held : AreHeld old.marks (q ∷ (a ++ (b ++ c)))) (once : IsOnce (q ∷ (a ++ (b ++ c))))
    (first : TakePlace b b' old mid) (second : TakePlace (q ∷ []) heads mid new) where
  abbrev pub beside : List ℕ
  beside = q ∷ (a ++ c)

  abbrev pub below : List ℕ
  below = a ++ (b' ++ c)

  held_beside : AreHeld old.marks beside
  held_beside p here = held p ((union_mid q a b c).right p here)

  apart_beside : Apart b beside
  apart_beside p here there = elim (contains_cons q p (a ++ c) there) [
    | inl is ↦ once_first q (a ++ (b ++ c)) once
        (Contains-append_right a (b ++ c) q (Contains-append_left b c q (subst (λ (r : ℕ). Contains b r) is here)))
    | inr later ↦ elim (Contains-append_cases a c p later) [
      | inl one ↦ once_apart a (b ++ c) (once_rest q (a ++ (b ++ c)) once) p one (Contains-append_left b c p here)
      | inr three ↦ once_apart b c (once_right a (b ++ c) (once_rest q (a ++ (b ++ c)) once)) p here three
    ]
  ]

  -- what stays is not taken
  pub beside_not_taken : Apart b' beside
  beside_not_taken p here there = elim (first.from p here) [
    | inl was ↦ apart_beside p was there
    | inr free ↦ held_not_free (mark old.marks p) (held_beside p there) free
  ]

  -- and reads as before
  pub beside_reads : IsTrue old.disk.honest → (p : ℕ) → Contains beside p → reads mid p ≡ reads old p
  beside_reads honest p here = first.reads honest p (λ there. apart_beside p there here) (held_not_free (mark old.marks p) (held_beside p here))

  between : TakePlace (q ∷ (a ++ (b ++ c))) (q ∷ below) old mid
  between = take_beside b b' beside (q ∷ (a ++ (b ++ c))) (q ∷ below) old mid (union_mid q a b c) (union_mid q a b' c) held_beside apart_beside first

  held_below : AreHeld mid.marks below
  held_below p here = between.held p (contains_later q p below here)

  pub q_not_below : Contains below q → ⊥
  q_not_below here = elim (Contains-append_cases a (b' ++ c) q here) [
    | inl one ↦ once_first q (a ++ (b ++ c)) once (Contains-append_left a (b ++ c) q one)
    | inr more ↦ elim (Contains-append_cases b' c q more) [
      | inl two ↦ beside_not_taken q two (contains_first q (a ++ c))
      | inr three ↦ once_first q (a ++ (b ++ c)) once (Contains-append_right a (b ++ c) q (Contains-append_right b c q three))
    ]
  ]

  apart_below : Apart (q ∷ []) below
  apart_below p here there = q_not_below (subst (λ (r : ℕ). Contains below r) (only_one q p here) there)

  pub heads_apart : Apart heads below
  heads_apart p here there = elim (second.from p here) [
    | inl is ↦ apart_below p is there
    | inr free ↦ held_not_free (mark mid.marks p) (held_below p there) free
  ]

  pub below_reads : IsTrue mid.disk.honest → (p : ℕ) → Contains below p → reads new p ≡ reads mid p
  below_reads honest p here = second.reads honest p (λ there. apart_below p there here) (held_not_free (mark mid.marks p) (held_below p here))

  pub both_take : IsUnion heads below all → TakePlace (q ∷ (a ++ (b ++ c))) all old new
  both_take union =
      take_then held works between
      (take_beside (q ∷ []) heads below (q ∷ below) all mid new (union_first q below) union held_below apart_below second)

  pub once_below : IsOnce b' → IsOnce below
  once_below mine =
      let rest = once_rest q (a ++ (b ++ c)) once in
      let parts = once_right a (b ++ c) rest in
      once_append a (b' ++ c) (once_left a (b ++ c) rest)
      (once_append b' c mine (once_right b c parts) (λ p here there. beside_not_taken p here (contains_later q p (a ++ c) (Contains-append_right a c p there))))
      (λ p here there. elim (Contains-append_cases b' c p there) [
        | inl two ↦ beside_not_taken p two (contains_later q p (a ++ c) (Contains-append_left a c p here))
        | inr three ↦ once_apart a (b ++ c) rest p here (Contains-append_right b c p three)
      ])

-- a tree taken apart at one child
module _ (w : Widths) (d q i : ℕ) (c : Item) (store : Store) (got : slice_get (items_in w Inner (reads store q)) i ≡ Some c)
    (growing : IsGrowing w (suc d) q store) where
  abbrev pub items : List Item
  items = items_in w Inner (reads store q)

  abbrev pub pages_left : List ℕ
  pages_left = flat_map (pages_at w (reads store) d) (take i items)

  abbrev pub pages_right : List ℕ
  pages_right = flat_map (pages_at w (reads store) d) (drop (suc i) items)

  abbrev pub entries_left : List Item
  entries_left = flat_map (entries_at w (reads store) d) (take i items)

  abbrev pub entries_right : List Item
  entries_right = flat_map (entries_at w (reads store) d) (drop (suc i) items)

  pub pages_parts : pages_below w (reads store) (suc d) q ≡ q ∷ (pages_left ++ (pages_below w (reads store) d (child_of c) ++ pages_right))
  pages_parts = ap (λ (ps : List ℕ). q ∷ ps) (flat_at (pages_at w (reads store) d) items i c got)

  pub entries_parts : entries_below w (reads store) (suc d) q ≡ entries_left ++ (entries_below w (reads store) d (child_of c) ++ entries_right)
  entries_parts = flat_at (entries_at w (reads store) d) items i c got

  branch : IsBranch w (reads store) d c
  branch = all_got (IsBranch w (reads store) d) items i c growing.tree.1 got

  inside : (p : ℕ) → Contains (pages_below w (reads store) d (child_of c)) p → Contains (pages_below w (reads store) (suc d) q) p
  inside p here = contains_later q p (flat_map (pages_at w (reads store) d) items) (contains_part (pages_at w (reads store) d) items i c p got here)

  -- the child grows too
  pub growing_child : IsGrowing w d (child_of c) store
  growing_child = record {
    tree = branch.0;
    ascending = ascend_front (entries_below w (reads store) d (child_of c)) entries_right
        (ascend_back entries_left (entries_below w (reads store) d (child_of c) ++ entries_right) (subst Ascend entries_parts growing.ascending));
    held = λ p here. growing.held p (inside p here);
    there = λ p here. growing.there p (inside p here);
    once = once_left (pages_below w (reads store) d (child_of c)) pages_right
        (once_right pages_left (pages_below w (reads store) d (child_of c) ++ pages_right)
        (once_rest q (pages_left ++ (pages_below w (reads store) d (child_of c) ++ pages_right)) (subst IsOnce pages_parts growing.once)));
  }

  firsts : All (HasFirst (entries_at w (reads store) d)) items
  firsts = All-weaker (IsBranch w (reads store) d) (HasFirst (entries_at w (reads store) d)) (λ e b. b.1) items growing.tree.1

  pub items_ascend : Ascend items
  items_ascend = children_ascend (entries_at w (reads store) d) items firsts growing.ascending

  -- the key of this place belongs there: what comes before is below it, and what comes after is past it
  parts_below : (key : List ℕ) (place : ℕ) → i ≡ place - 1 → IsPlace items key place → Below entries_left key
  parts_below key place at fits =
      let first : (i ≡ 0) ⊎ (is_gt (key_cmp c.0 key) ≡ false) = elim (cases_eq place 0) [
        | inl none ↦ inl (omega (arith, at, none))
        | inr some ↦ inr (fits.upto i c (omega (arith, at, some)) got)
      ] in
      below_part (entries_at w (reads store) d) items i c got firsts growing.ascending key first

  parts_past : (key : List ℕ) (place : ℕ) → i ≡ place - 1 → IsPlace items key place → Past entries_right key
  parts_past key place at fits = past_part (entries_at w (reads store) d) items i c got firsts growing.ascending key
      (λ e got_next. fits.past (suc i) e (omega (arith, at)) got_next)

  -- what is found there is found in the whole
  pub find_parts : (key : List ℕ) (place : ℕ) → i ≡ place - 1 → IsPlace items key place
      → find_entry (entries_below w (reads store) (suc d) q) key ≡ find_entry (entries_below w (reads store) d (child_of c)) key
  find_parts key place at fits =
      let here = entries_below w (reads store) d (child_of c) in
      ap (λ (es : List Item). find_entry es key) entries_parts
      ∙ find_below entries_left (here ++ entries_right) key (parts_below key place at fits)
      ∙ find_past here entries_right key (parts_past key place at fits)

  -- a put there is a put of the whole
  pub put_parts : (key value : List ℕ) (place : ℕ) → i ≡ place - 1 → IsPlace items key place
      → entries_left ++ (put_entry (entries_below w (reads store) d (child_of c)) key value ++ entries_right) ≡ put_entry
      (entries_below w (reads store) (suc d) q) key value
  put_parts key value place at fits =
      let here = entries_below w (reads store) d (child_of c) in
      ap (λ (es : List Item). entries_left ++ es) (sym (put_past here entries_right key value (parts_past key place at fits)))
      ∙ sym (put_below entries_left (here ++ entries_right) key value (parts_below key place at fits))
      ∙ ap (λ (es : List Item). put_entry es key value) (sym entries_parts)

-- while a child grows, the page above it reads as before
pub page_stays : (w : Widths) (d q i : ℕ) (c : Item) (others : List ℕ) (old mid : Store) → IsTrue old.disk.honest
    → slice_get (items_in w Inner (reads old q)) i ≡ Some c
    → IsGrowing w (suc d) q old → TakePlace (pages_below w (reads old) d (child_of c)) others old mid → reads mid q ≡ reads old q
page_stays w d q i c others old mid honest got growing grown =
    let left : List ℕ = pages_left w d q i c old got growing in
    let below : List ℕ = pages_below w (reads old) d (child_of c) in
    let right : List ℕ = pages_right w d q i c old got growing in
    grown.reads honest q
    (λ here. once_first q (left ++ (below ++ right)) (subst IsOnce (pages_parts w d q i c old got growing) growing.once)
    (Contains-append_right left (below ++ right) q (Contains-append_left below right q here)))
    (held_not_free (mark old.marks q) (growing.held q (contains_root w (reads old) (suc d) q)))

-- an entry is put below a child, and then its page is written
module _ (w : Widths) (key value : List ℕ) (d q i place : ℕ) (c : Item) (tops heads : List Item) (old mid new : Store)
    (honest : IsTrue old.disk.honest) (works : StoreWorks old mid)
    (got : slice_get (items_in w Inner (reads old q)) i ≡ Some c) (growing : IsGrowing w (suc d) q old) (at : i ≡ place - 1)
    (fits : IsPlace (items_in w Inner (reads old q)) key place)
    (grown : IsGrownTree w key value d (child_of c) tops old mid)
    (written : AreWritten w Inner q (take i (items_in w Inner (reads old q)) ++ (tops ++ drop (suc i) (items_in w Inner (reads old q)))) heads mid new) where
  abbrev its : List Item
  its = items_in w Inner (reads old q)

  abbrev lefts : List Item
  lefts = take i its

  abbrev rights : List Item
  rights = drop (suc i) its

  abbrev list : List Item
  list = lefts ++ (tops ++ rights)

  abbrev a : List ℕ
  a = flat_map (pages_at w (reads old) d) lefts

  abbrev b : List ℕ
  b = pages_below w (reads old) d (child_of c)

  abbrev e : List ℕ
  e = flat_map (pages_at w (reads old) d) rights

  abbrev b' : List ℕ
  b' = flat_map (pages_at w (reads mid) d) tops

  abbrev all : List ℕ
  all = flat_map (pages_at w (reads new) (suc d)) heads

  now : IsTrue mid.disk.honest
  now = still_honest works.goes_on honest

  parts : pages_below w (reads old) (suc d) q ≡ q ∷ (a ++ (b ++ e))
  parts = pages_parts w d q i c old got growing

  held : AreHeld old.marks (q ∷ (a ++ (b ++ e)))
  held = subst (AreHeld old.marks) parts growing.held

  once : IsOnce (q ∷ (a ++ (b ++ e)))
  once = subst IsOnce parts growing.once

  there : AreThere (length old.marks) (q ∷ (a ++ (b ++ e)))
  there = subst (AreThere (length old.marks)) parts growing.there

  left_same : (p : ℕ) → Contains a p → reads mid p ≡ reads old p
  left_same p here = beside_reads q a b e b' (children heads) all old mid new works held once grown.place written.place honest p
      (contains_later q p (a ++ e) (Contains-append_left a e p here))

  right_same : (p : ℕ) → Contains e p → reads mid p ≡ reads old p
  right_same p here = beside_reads q a b e b' (children heads) all old mid new works held once grown.place written.place honest p
      (contains_later q p (a ++ e) (Contains-append_right a e p here))

  pages_mid : flat_map (pages_at w (reads mid) d) list ≡ a ++ (b' ++ e)
  pages_mid =
      flat_map-append (pages_at w (reads mid) d) lefts (tops ++ rights)
      ∙ (λ k. pages_stay w d (reads old) (reads mid) lefts left_same k
      ++ (flat_map-append (pages_at w (reads mid) d) tops rights ∙ ap (λ (ps : List ℕ). b' ++ ps) (pages_stay w d (reads old) (reads mid) rights right_same)) k)

  entries_mid : flat_map (entries_at w (reads mid) d) list ≡ put_entry (entries_below w (reads old) (suc d) q) key value
  entries_mid =
      flat_map-append (entries_at w (reads mid) d) lefts (tops ++ rights)
      ∙ (λ k. entries_stay w d (reads old) (reads mid) lefts left_same k
      ++ (flat_map-append (entries_at w (reads mid) d) tops rights ∙ (λ j. grown.entries j ++ entries_stay w d (reads old) (reads mid) rights right_same j)) k)
      ∙ put_parts w d q i c old got growing key value place at fits

  branches_mid : All (IsBranch w (reads mid) d) list
  branches_mid =
      All-append (IsBranch w (reads mid) d) lefts (tops ++ rights)
      (branches_stay w d (reads old) (reads mid) lefts left_same (All-take (IsBranch w (reads old) d) i its growing.tree.1))
      (All-append (IsBranch w (reads mid) d) tops rights grown.trees
      (branches_stay w d (reads old) (reads mid) rights right_same (All-drop (IsBranch w (reads old) d) (suc i) its growing.tree.1)))

  list_same : (p : ℕ) → Contains (flat_map (pages_at w (reads mid) d) list) p → reads new p ≡ reads mid p
  list_same p here =
      below_reads q a b e b' (children heads) all old mid new works held once grown.place written.place now p
      (subst (λ (ps : List ℕ). Contains ps p) pages_mid here)

  written_items : flat_map (items_at w d (reads new)) heads ≡ list
  written_items = written.items now

  pages_new : flat_map (pages_at w (reads new) d) (flat_map (items_at w d (reads new)) heads) ≡ a ++ (b' ++ e)
  pages_new = ap (flat_map (pages_at w (reads new) d)) written_items ∙ pages_stay w d (reads mid) (reads new) list list_same ∙ pages_mid

  union : IsUnion (children heads) (a ++ (b' ++ e)) all
  union = subst (λ (ps : List ℕ). IsUnion (children heads) ps all) pages_new (pages_up w d (reads new) heads)

  pub inner_grown : IsGrownTree w key value (suc d) q heads old new
  inner_grown = record {
    trees = branches_up w d (reads new) heads (written.pages now)
        (subst (All (IsBranch w (reads new) d)) (sym written_items) (branches_stay w d (reads mid) (reads new) list list_same branches_mid));
    entries = entries_up w d (reads new) heads ∙ ap (flat_map (entries_at w (reads new) d)) written_items
        ∙ entries_stay w d (reads mid) (reads new) list list_same ∙ entries_mid;
    place = subst (λ (ps : List ℕ). TakePlace ps all old new) (sym parts)
        (both_take q a b e b' (children heads) all old mid new works held once grown.place written.place union);
    there = λ p here. elim (union.split p here) [
      | inl head ↦ let known = written.there p head in (known.0, subst (λ (n : ℕ). p < n) works.same_pages known.1)
      | inr later ↦ elim (Contains-append_cases a (b' ++ e) p later) [
        | inl one ↦ there p (contains_later q p (a ++ (b ++ e)) (Contains-append_left a (b ++ e) p one))
        | inr more ↦ elim (Contains-append_cases b' e p more) [
          | inl two ↦ grown.there p two
          | inr three ↦ there p (contains_later q p (a ++ (b ++ e)) (Contains-append_right a (b ++ e) p (Contains-append_right b e p three)))
        ]
      ]
    ];
    once = once_up w d (reads new) heads written.once
        (subst IsOnce (sym pages_new) (once_below q a b e b' (children heads) all old mid new works held once grown.place written.place grown.once))
        (subst (Apart (children heads)) (sym pages_new) (heads_apart q a b e b' (children heads) all old mid new works held once grown.place written.place));
  }

-- an entry is put in a leaf
pub leaf_grown : (w : Widths) (key value : List ℕ) (q : ℕ) (entries heads : List Item) (old new : Store) → IsTrue old.disk.honest → IsGrowing w 0 q old
    → entries ≡ put_entry (items_in w Leaf (reads old q)) key value → AreWritten w Leaf q entries heads old new → IsGrownTree w key value 0 q heads old new
leaf_grown w key value q entries heads old new honest growing put written =
    let same : flat_map (λ c. pages_below w (reads new) 0 (child_of c)) heads ≡ children heads = flat_map_single child_of heads in
    record {
      trees = written.pages honest;
      entries = written.items honest ∙ put;
      place = subst (λ (ps : List ℕ). TakePlace (q ∷ []) ps old new) (sym same) written.place;
      there = subst (AreThere (length old.marks)) (sym same) written.there;
      once = subst IsOnce (sym same) written.once;
    }

-- a store that a read left unchanged
module _ (old mid : Store) (marks : mid.marks ≡ old.marks) (same : reads mid ≡ reads old) where
  pub growing_same : (w : Widths) (d q : ℕ) → IsGrowing w d q old → IsGrowing w d q mid
  growing_same w d q growing = record {
    tree = subst (λ (bytes : ℕ → List ℕ). IsTree w bytes d q) (sym same) growing.tree;
    ascending = subst (λ (bytes : ℕ → List ℕ). Ascend (entries_below w bytes d q)) (sym same) growing.ascending;
    held = subst (λ (ms : List Mark). AreHeld ms (pages_below w (reads mid) d q)) (sym marks)
        (subst (λ (bytes : ℕ → List ℕ). AreHeld old.marks (pages_below w bytes d q)) (sym same) growing.held);
    there = subst (λ (ms : List Mark). AreThere (length ms) (pages_below w (reads mid) d q)) (sym marks)
        (subst (λ (bytes : ℕ → List ℕ). AreThere (length old.marks) (pages_below w bytes d q)) (sym same) growing.there);
    once = subst (λ (bytes : ℕ → List ℕ). IsOnce (pages_below w bytes d q)) (sym same) growing.once;
  }

  take_same : (pages others : List ℕ) (new : Store) → (IsTrue old.disk.honest → IsTrue mid.disk.honest) → TakePlace pages others mid new
      → TakePlace pages others old new
  take_same pages others new honest place = record {
    held = place.held;
    from = λ p here. elim (place.from p here) [
      | inl there ↦ inl there
      | inr free ↦ inr (sym (marked p) ∙ free)
    ];
    gone = λ p here not. place.gone p here not ∙ ap let_go (marked p);
    kept = λ p not other. place.kept p not other ∙ marked p;
    reads = λ is p not used. place.reads (honest is) p not (λ free. used (sym (marked p) ∙ free)) ∙ (λ k. same k p);
  }
    where
      marked : (p : ℕ) → mark mid.marks p ≡ mark old.marks p
      marked p = ap (λ (ms : List Mark). mark ms p) marks

  pub grown_same : (w : Widths) (key value : List ℕ) (d q : ℕ) (tops : List Item) (new : Store) → (IsTrue old.disk.honest → IsTrue mid.disk.honest)
      → IsGrownTree w key value d q tops mid new → IsGrownTree w key value d q tops old new
  grown_same w key value d q tops new honest grown = record {
    trees = grown.trees;
    entries = grown.entries ∙ ap (λ (bytes : ℕ → List ℕ). put_entry (entries_below w bytes d q) key value) same;
    place = take_same (pages_below w (reads old) d q) (flat_map (λ c. pages_below w (reads new) d (child_of c)) tops) new honest
        (subst (λ (bytes : ℕ → List ℕ). TakePlace (pages_below w bytes d q)
        (flat_map (λ c. pages_below w (reads new) d (child_of c)) tops) mid new) same grown.place);
    there = subst (λ (ms : List Mark). AreThere (length ms) (flat_map (λ c. pages_below w (reads new) d (child_of c)) tops)) marks grown.there;
    once = grown.once;
  }

-- a page is read, and an entry put below it
module _ (w : Widths) (key value : List ℕ) (q : ℕ) (old mid : Store) (page : List ℕ) (honest : IsTrue old.disk.honest)
    (works : StoreWorks old mid) (marks : mid.marks ≡ old.marks)
    (same : reads mid ≡ reads old) (is : page ≡ reads old q) where
  pub put_in_leaf : (d : ℕ) (new : Store) (entries heads : List Item) → IsPage w Leaf page
      → (Ascend (items_in w Leaf page) → entries ≡ put_entry (items_in w Leaf page) key value)
      → IsGrowing w d q old → AreWritten w Leaf q entries heads mid new → IsGrownTree w key value d q heads old new
  put_in_leaf zero new entries heads leaf put growing written =
      let bytes : page ≡ reads mid q = is ∙ ap (λ (bytes : ℕ → List ℕ). bytes q) (sym same) in
      grown_same old mid marks same w key value 0 q heads new (still_honest works.goes_on)
      (leaf_grown w key value q entries heads mid new (still_honest works.goes_on honest) (growing_same old mid marks same w 0 q growing)
      (put (subst (λ (b : List ℕ). Ascend (items_in w Leaf b)) (sym is) growing.ascending)
      ∙ ap (λ (b : List ℕ). put_entry (items_in w Leaf b) key value) bytes) written)
  put_in_leaf (suc d) new entries heads leaf put growing written =
      let here : IsPage w Leaf (reads old q) = subst (IsPage w Leaf) is leaf in
      absurd (omega (arith, here.first, growing.tree.0.first))

  pub put_in_inner : (d i place child : ℕ) (c : Item) (below new : Store) (tops heads : List Item) → IsPage w Inner page → i ≡ place - 1 → child ≡ child_of c
      → (Ascend (items_in w Inner page) → IsPlace (items_in w Inner page) key place) → slice_get (items_in w Inner page) i ≡ Some c
      → StoreWorks mid below → ((e : ℕ) → IsGrowing w e child mid → IsGrownTree w key value e child tops mid below)
      → IsGrowing w d q old → (reads below q ≡ page → AreWritten w Inner q
      (take i (items_in w Inner page) ++ (tops ++ drop (suc i) (items_in w Inner page))) heads below new)
      → IsGrownTree w key value d q heads old new
  put_in_inner zero i place child c below new tops heads inner at leads fits got more grow growing written =
      let here : IsPage w Inner (reads old q) = subst (IsPage w Inner) is inner in
      absurd (omega (arith, here.first, growing.tree.first))
  put_in_inner (suc d) i place child c below new tops heads inner at leads fits got more grow growing written =
      let here : slice_get (items_in w Inner (reads old q)) i ≡ Some c = subst (λ (b : List ℕ). slice_get (items_in w Inner b) i ≡ Some c) is got in
      let sorted : Ascend (items_in w Inner page) = subst (λ (b : List ℕ). Ascend (items_in w Inner b)) (sym is) (items_ascend w d q i c old here growing) in
      let its : IsGrowing w d child mid =
      subst (λ (n : ℕ). IsGrowing w d n mid) (sym leads) (growing_same old mid marks same w d (child_of c) (growing_child w d q i c old here growing)) in
      let grown : IsGrownTree w key value d (child_of c) tops old below =
      grown_same old mid marks same w key value d (child_of c) tops below (still_honest works.goes_on)
      (subst (λ (n : ℕ). IsGrownTree w key value d n tops mid below) leads (grow d its)) in
      inner_grown w key value d q i place c tops heads old below new honest (works_then works more) here growing at
      (subst (λ (b : List ℕ). IsPlace (items_in w Inner b) key place) is (fits sorted)) grown
      (subst (λ (b : List ℕ). AreWritten w Inner q (take i (items_in w Inner b) ++ (tops ++ drop (suc i) (items_in w Inner b))) heads below new) is
      (written (page_stays w d q i c (flat_map (λ e. pages_below w (reads below) d (child_of e)) tops) old below honest here growing grown.place ∙ sym is)))
