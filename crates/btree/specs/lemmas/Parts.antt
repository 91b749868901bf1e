-- A tree taken apart at one child of its first page: the entries before that child, its own, and those after it.
use Rattle.std.specs.Prelude.{◌≡◌, ◌⊎◌, ℕ, zero, suc, false, List, [], ◌∷◌, ◌++◌, Option, Some, All, Contains, drop, slice_get, take}
use Rattle.std.specs.declared.cmp.Ordering.TheVariants.{Less}
use Rattle.std.specs.List.{flat_map}
use Rattle.std.specs.Option.{option_map, option_or}
use Rattle.std.specs.Ordering.{is_gt}
use Rattle.std.proofs.Common.{refl, sym, ◌∙◌, ap, subst, inl, inr, append_assoc}
use Rattle.std.proofs.lemmas.List.Elements.{All-head, All-tail, All-drop, Contains-append_left, Contains-append_right}
use Rattle.btree.specs.Page.{Item, key_cmp}
use Rattle.btree.specs.Entries.{Ascend, first_key}
use Rattle.btree.specs.lemmas.Order.{Below, Past, all_back, past_more, below_upto, ascend_cons, ascend_first, ascend_none, ascend_back}
use Rattle.btree.specs.lemmas.Order.{ascend_seam}

-- lists

pub got_first : {X : Type 0} (n : ℕ) (xs : List X) → slice_get (drop n xs) 0 ≡ slice_get xs n
got_first zero [] = refl
got_first zero (x ∷ xs) = refl
got_first (suc n) [] = refl
got_first (suc n) (x ∷ xs) = got_first n xs

pub all_got : (P : Item → Type 0) (cs : List Item) (i : ℕ) (c : Item) → All P cs → slice_get cs i ≡ Some c → P c
all_got P [] i c all got = absurd (cc)
all_got P (d ∷ cs) zero c all got = let same : d ≡ c = cc in subst P same (All-head P d cs all)
all_got P (d ∷ cs) (suc i) c all got = all_got P cs i c (All-tail P d cs all) got

pub contains_part : (f : Item → List ℕ) (cs : List Item) (i : ℕ) (c : Item) (p : ℕ) → slice_get cs i ≡ Some c → Contains (f c) p
    → Contains (flat_map f cs) p
contains_part f [] i c p got here = absurd (cc)
contains_part f (d ∷ cs) zero c p got here = let same : d ≡ c = cc in
    Contains-append_left (f d) (flat_map f cs) p (subst (λ (e : Item). Contains (f e) p) (sym same) here)
contains_part f (d ∷ cs) (suc i) c p got here = Contains-append_right (f d) (flat_map f cs) p (contains_part f cs i c p got here)

-- what all children have, at one of them
pub flat_at : {X : Type 0} (f : Item → List X) (cs : List Item) (i : ℕ) (c : Item) → slice_get cs i ≡ Some c
    → flat_map f cs ≡ flat_map f (take i cs) ++ (f c ++ flat_map f (drop (suc i) cs))
flat_at f [] i c got = absurd (cc)
flat_at f (d ∷ cs) zero c got = let same : d ≡ c = cc in λ k. f (same k) ++ flat_map f cs
flat_at f (d ∷ cs) (suc i) c got =
    ap (λ rest. f d ++ rest) (flat_at f cs i c got)
    ∙ sym (append_assoc (f d) (flat_map f (take i cs)) (f c ++ flat_map f (drop (suc i) cs)))

pub first_key-append : (es fs : List Item) → first_key (es ++ fs) ≡ option_or (first_key es) (first_key fs)
first_key-append [] fs = refl
first_key-append (e ∷ es) fs = refl

-- the first entry, where its key is known
pub record BeginsWithKey (es : List Item) (key : List ℕ) : Type 0 where
  pub entry : Item
  pub rest : List Item
  pub is : es ≡ entry ∷ rest
  pub has : entry.0 ≡ key

pub begins : (es : List Item) (key : List ℕ) → first_key es ≡ Some key → BeginsWithKey es key
begins [] key first = absurd (cc)
begins (e ∷ es) key first = record { entry = e; rest = es; is = refl; has = cc }

-- children, each with its first key
module _ (f : Item → List Item) where
  abbrev pub HasFirst : Item → Type 0
  HasFirst c = first_key (f c) ≡ Some c.0

  -- the first key of some children
  pub first_below : (cs : List Item) → All HasFirst cs → first_key (flat_map f cs) ≡ option_map (λ e. e.0) (slice_get cs 0)
  first_below [] all = refl
  first_below (c ∷ cs) all =
      first_key-append (f c) (flat_map f cs) ∙ ap (λ (o : Option (List ℕ)). option_or o (first_key (flat_map f cs)))
      (All-head HasFirst c cs all)

  -- what is past a key from the first child on
  pub past_first : (key : List ℕ) (cs : List Item) → All HasFirst cs → Ascend (flat_map f cs)
      → ((c : Item) → slice_get cs 0 ≡ Some c → key_cmp key c.0 ≡ Less) → Past (flat_map f cs) key
  past_first key [] all ascend less = tt
  past_first key (c ∷ cs) all ascend less =
      let start = begins (f c) c.0 (All-head HasFirst c cs all) in
      let same : f c ++ flat_map f cs ≡ start.entry ∷ (start.rest ++ flat_map f cs) =
      ap (λ (es : List Item). es ++ flat_map f cs) start.is in
      let here : key_cmp key start.entry.0 ≡ Less = subst (λ (k : List ℕ). key_cmp key k ≡ Less) (sym start.has) (less c refl) in
      let others : Past (start.rest ++ flat_map f cs) key =
      past_more key start.entry.0 (start.rest ++ flat_map f cs) here
      (ascend_first start.entry (start.rest ++ flat_map f cs) (subst Ascend same ascend)) in
      subst (λ (es : List Item). Past es key) (sym same) (here, others)

  heads_past : (key : List ℕ) (cs : List Item) → All HasFirst cs → Past (flat_map f cs) key → Past cs key
  heads_past key [] all past = tt
  heads_past key (c ∷ cs) all past =
      let start = begins (f c) c.0 (All-head HasFirst c cs all) in
      let same : f c ++ flat_map f cs ≡ start.entry ∷ (start.rest ++ flat_map f cs) =
      ap (λ (es : List Item). es ++ flat_map f cs) start.is in
      let here : Past (start.entry ∷ (start.rest ++ flat_map f cs)) key = subst (λ (es : List Item). Past es key) same past in (
        subst (λ (k : List ℕ). key_cmp key k ≡ Less) start.has here.0,
        heads_past key cs (All-tail HasFirst c cs all)
            (all_back (λ e. key_cmp key e.0 ≡ Less) (f c) (flat_map f cs) past),
      )

  -- the keys of an inner page ascend
  pub children_ascend : (cs : List Item) → All HasFirst cs → Ascend (flat_map f cs) → Ascend cs
  children_ascend [] all ascend = ascend_none
  children_ascend (c ∷ cs) all ascend =
      let start = begins (f c) c.0 (All-head HasFirst c cs all) in
      let same : f c ++ flat_map f cs ≡ start.entry ∷ (start.rest ++ flat_map f cs) =
      ap (λ (es : List Item). es ++ flat_map f cs) start.is in
      let past : Past (start.rest ++ flat_map f cs) start.entry.0 =
      ascend_first start.entry (start.rest ++ flat_map f cs) (subst Ascend same ascend) in
      let heads : Past cs start.entry.0 = heads_past start.entry.0 cs (All-tail HasFirst c cs all)
      (all_back (λ e. key_cmp start.entry.0 e.0 ≡ Less) start.rest (flat_map f cs) past) in
      ascend_cons c cs (subst (λ (k : List ℕ). Past cs k) start.has heads)
      (children_ascend cs (All-tail HasFirst c cs all) (ascend_back (f c) (flat_map f cs) ascend))

  module _ (cs : List Item) (i : ℕ) (c : Item) (got : slice_get cs i ≡ Some c) (all : All HasFirst cs)
      (ascend : Ascend (flat_map f cs)) where
    -- the entries of the children before this one are below its first key
    pub below_part : (key : List ℕ) → (i ≡ 0) ⊎ (is_gt (key_cmp c.0 key) ≡ false) → Below (flat_map f (take i cs)) key
    below_part key (inl none) = subst (λ (n : ℕ). Below (flat_map f (take n cs)) key) (sym none) tt
    below_part key (inr upto) =
        let start = begins (f c) c.0 (all_got HasFirst cs i c all got) in
        let rest = flat_map f (drop (suc i) cs) in
        let same : flat_map f cs ≡ flat_map f (take i cs) ++ start.entry ∷ (start.rest ++ rest) =
        flat_at f cs i c got ∙ ap (λ (es : List Item). flat_map f (take i cs) ++ (es ++ rest)) start.is in
        below_upto c.0 key (flat_map f (take i cs)) upto
        (subst (λ (k : List ℕ). Below (flat_map f (take i cs)) k) start.has
        (ascend_seam (flat_map f (take i cs)) start.entry (start.rest ++ rest) (subst Ascend same ascend)))

    pub ascend_after : Ascend (flat_map f (drop (suc i) cs))
    ascend_after = ascend_back (f c) _ (ascend_back (flat_map f (take i cs)) _ (subst Ascend (flat_at f cs i c got) ascend))

    -- those after it are past the key, as the first key of the next child is
    pub past_part : (key : List ℕ) → ((e : Item) → slice_get cs (suc i) ≡ Some e → key_cmp key e.0 ≡ Less)
        → Past (flat_map f (drop (suc i) cs)) key
    past_part key less = past_first key (drop (suc i) cs) (All-drop HasFirst (suc i) cs all) ascend_after
        (λ e at. less e (sym (got_first (suc i) cs) ∙ at))
