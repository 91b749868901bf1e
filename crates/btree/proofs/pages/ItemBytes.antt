-- Items as bytes, edited.
use Rattle.std.proofs.Common.{◌≡◌, ℕ, zero, suc, ◌+◌, ◌-◌, ◌*◌, ◌<◌, ◌≤◌, List, [], ◌∷◌, ◌++◌, Some, length, take, drop, false, refl, sym, ◌∙◌, ap, subst, inl, inr, arith, length-append, length-drop, get_or}
use Rattle.std.proofs.lemmas.Bool.{cases_eq}
use Rattle.std.proofs.lemmas.List.{append_assoc, take-append-drop, length-take, take-append-le, drop-append-le, drop-drop, drop_at, take-take, get_or-take, get_or_append_left}
use Rattle.std.proofs.lemmas.Slice.{between_is}
use Rattle.std.specs.declared.cmp.Ordering.{Ordering}
use Rattle.std.specs.declared.cmp.Ordering.TheVariants.{Less, Equal, Greater}
use Rattle.std.specs.List.{slice_get, copy_within}
use borrow.Rule.Slice.PartMut.{put_mid}
use Rattle.std.specs.Ordering.{is_gt, match_ordering}
use Rattle.std.proofs.lemmas.Cmp.{nat_list_cmp_total, tied_itself}
use Rattle.btree.specs.declared.page.kind.Kind.{Kind}
use Rattle.btree.specs.declared.page.kind.Kind.TheVariants.{Leaf, Inner}
use Rattle.btree.specs.declared.page.widths.Widths.{Widths}
use Rattle.btree.specs.lemmas.Items.{items-append, items-front}
use Rattle.btree.specs.Page.{Item, item_width, items_of, key_cmp}
use Rattle.btree.specs.Place.{IsPlace}
use Rattle.btree.specs.lemmas.Found.{place_past, split_got}
use Rattle.btree.specs.Entries.{Ascend, put_entry}
use Rattle.btree.specs.lemmas.Order.{Below, Past, all_both, ascend_seam, below_upto, put_below, put_first, same_key}

-- products

pub mul-mono : (a b c : ℕ) → a ≤ b → a * c ≤ b * c
mul-mono a b zero le = omega arith
mul-mono a b (suc c) le = let rest = mul-mono a b c le in omega (arith, le, rest)

pub distribute : (a b c : ℕ) → (a + b) * c ≡ a * c + b * c
distribute a b zero = omega arith
distribute a b (suc c) = let rest = distribute a b c in omega (arith, rest)

-- an item takes few bytes
pub narrow : (w : Widths) (kind : Kind) → item_width w kind ≤ 512
narrow w Leaf = omega (arith, w.key_fits, w.value_fits)
narrow w Inner = omega (arith, w.key_fits)

-- one item
pub one_item : (key behind : ℕ) (k v : List ℕ) → length k ≡ key → length v ≡ behind → items_of key behind 1 (k ++ v) ≡ (k, v) ∷ []
one_item key behind k v long short = λ i. (front i, back i) ∷ []
  where
    all_taken : (n : ℕ) (xs : List ℕ) → length xs ≡ n → take n xs ≡ xs
    all_taken zero [] is = refl
    all_taken zero (x ∷ xs) is = absurd (omega (arith, is))
    all_taken (suc n) [] is = refl
    all_taken (suc n) (x ∷ xs) is = ap (λ (ys : List ℕ). x ∷ ys) (all_taken n xs (omega (arith, is)))

    all_dropped : (n : ℕ) (xs : List ℕ) → length xs ≡ n → drop n xs ≡ []
    all_dropped zero [] is = refl
    all_dropped zero (x ∷ xs) is = absurd (omega (arith, is))
    all_dropped (suc n) [] is = refl
    all_dropped (suc n) (x ∷ xs) is = all_dropped n xs (omega (arith, is))

    front : take key (k ++ v) ≡ k
    front = take-append-le key k v (omega (arith, long)) ∙ all_taken key k long

    back : take behind (drop key (k ++ v)) ≡ v
    back = ap (take behind) (drop-append-le key k v (omega (arith, long)) ∙ ap (λ (xs : List ℕ). xs ++ v) (all_dropped key k long)) ∙ all_taken behind v short

-- one item more
pub one_more : (key behind n : ℕ) (old k v first both : List ℕ) → length old ≡ n * (key + behind) → length k ≡ key → length v ≡ behind
    → first ≡ old ++ k → both ≡ first ++ v
    → items_of key behind (n + 1) both ≡ items_of key behind n old ++ (k, v) ∷ []
one_more key behind n old k v first both whole long short is also =
    ap (items_of key behind (n + 1)) (also ∙ ap (λ (xs : List ℕ). xs ++ v) is ∙ append_assoc old k v)
    ∙ items-append key behind n 1 (n + 1) old (k ++ v) refl whole
    ∙ ap (λ (es : List Item). items_of key behind n old ++ es) (one_item key behind k v long short)

-- the items up to a place, and those from there
pub items-take : (key behind m n total : ℕ) (bytes : List ℕ) → total ≡ m + n → take m (items_of key behind total bytes) ≡ items_of key behind m bytes
items-take key behind zero n total bytes sum = refl
items-take key behind (suc m) n zero bytes sum = absurd (omega (arith, sum))
items-take key behind (suc m) n (suc total) bytes sum =
    ap (λ (es : List Item). (take key bytes, take behind (drop key bytes)) ∷ es)
    (items-take key behind m n total (drop (key + behind) bytes) (omega (arith, sum)))

pub items-drop : (key behind m n total : ℕ) (bytes : List ℕ) → total ≡ m + n
    → drop m (items_of key behind total bytes) ≡ items_of key behind n (drop (m * (key + behind)) bytes)
items-drop key behind zero n total bytes sum =
    let none : 0 * (key + behind) ≡ 0 = omega arith in
    let same : total ≡ n = omega (arith, sum) in
    λ i. items_of key behind (same i) (drop (sym none i) bytes)
items-drop key behind (suc m) n zero bytes sum = absurd (omega (arith, sum))
items-drop key behind (suc m) n (suc total) bytes sum =
    let on : key + behind + m * (key + behind) ≡ suc m * (key + behind) = omega arith in
    items-drop key behind m n total (drop (key + behind) bytes) (omega (arith, sum))
    ∙ ap (items_of key behind n) (drop-drop (m * (key + behind)) (key + behind) bytes ∙ ap (λ k. drop k bytes) on)

pub items-cut : (key behind n : ℕ) (bytes : List ℕ) → n * (key + behind) ≤ length bytes
    → items_of key behind n (take (n * (key + behind)) bytes) ≡ items_of key behind n bytes
items-cut key behind n bytes room =
    let width = n * (key + behind) in
    sym (items-front key behind n (take width bytes) (drop width bytes) (omega (arith, length-take width bytes, room)))
    ∙ ap (items_of key behind n) (take-append-drop width bytes)

-- some items in the place of others
pub splice : (key behind all from n rest : ℕ) (bytes front middle back : List ℕ) → (to : ℕ) → from ≤ to → all ≡ to + rest → all * (key + behind) ≤ length bytes
    → front ≡ take (from * (key + behind)) bytes → length middle ≡ n * (key + behind) → back ≡ take (rest * (key + behind)) (drop (to * (key + behind)) bytes)
    → (total : ℕ) → total ≡ from + n + rest
    → items_of key behind total ((front ++ middle) ++ back) ≡ take from (items_of key behind all bytes)
    ++ (items_of key behind n middle ++ drop to (items_of key behind all bytes))
splice key behind all from n rest bytes front middle back to order sum room first whole last total adds =
    let width = key + behind in
    let m = to - from + rest in
    let one : to * width ≤ all * width = mul-mono to all width (omega (arith, sum)) in
    let two : from * width ≤ to * width = mul-mono from to width order in
    let adds-up : all * width ≡ to * width + rest * width = ap (λ n. n * width) sum ∙ distribute to rest width in
    let front-long : length front ≡ from * width = ap length first ∙ omega (arith, length-take (from * width) bytes, one, two, room) in
    let back-room : rest * width ≤ length (drop (to * width) bytes) = omega (arith, length-drop (to * width) bytes, adds-up, room) in
    let start : items_of key behind from front ≡ take from (items_of key behind all bytes) =
    ap (items_of key behind from) first ∙ items-cut key behind from bytes (omega (arith, one, two, room))
    ∙ sym (items-take key behind from m all bytes (omega (arith, sum, order))) in
    let end : items_of key behind rest back ≡ drop to (items_of key behind all bytes) =
    ap (items_of key behind rest) last ∙ items-cut key behind rest (drop (to * width) bytes) back-room ∙ sym (items-drop key behind to rest all bytes sum) in
    ap (items_of key behind total) (append_assoc front middle back)
    ∙ items-append key behind from (n + rest) total front (middle ++ back) (omega (arith, adds)) front-long
    ∙ (λ i. start i ++ (items-append key behind n rest (n + rest) middle back refl whole ∙ ap (λ (es : List Item). items_of key behind n middle ++ es) end) i)

-- the bytes of a page, with others in the place of some of them
module _ (key behind b from to count : ℕ) (page : List ℕ) (is : b ≡ behind) (long : length page ≡ 4096) (order : from ≤ to)
    (within : to ≤ count) (fits : count * (key + behind) ≤ 4092) where
  abbrev width : ℕ
  width = key + behind

  abbrev rest : ℕ
  rest = count - to

  parts : count * width ≡ to * width + rest * width
  parts = let sum : count ≡ to + rest = omega (arith, within) in ap (λ n. n * width) sum ∙ distribute to rest width

  early : from * width ≤ to * width
  early = mul-mono from to width order

  module _ (none first : List ℕ) (nothing : none ≡ []) (one : first ≡ none ++ take (4 + from * (key + b) - 4) (drop 4 page)) where
    first_is : first ≡ take (from * width) (drop 4 page)
    first_is =
        let amount : 4 + from * width - 4 ≡ from * width = omega arith in
        one ∙ (λ i. nothing i ++ take (4 + from * (key + is i) - 4) (drop 4 page)) ∙ ap (λ (n : ℕ). take n (drop 4 page)) amount

    first_long : length first ≡ from * width
    first_long = ap length first_is ∙ omega (arith, length-take (from * width) (drop 4 page), length-drop 4 page, long, early, parts, fits)

    module _ (n : ℕ) (middle second : List ℕ) (whole : length middle ≡ n * width) (two : second ≡ first ++ middle) where
      second_long : length second ≡ from * width + n * width
      second_long = ap length two ∙ omega (arith, length-append first middle, first_long, whole)

      pub middle_fits : n ≤ 2 → width ≤ 512 → length first + length middle ≤ 5120
      middle_fits few narrow =
          let some : n * width ≤ 2 * width = mul-mono n 2 width few in
          omega (arith, first_long, whole, some, narrow, early, parts, fits)

      module _ (all : ℕ) (are : all ≡ count) where
        amount : 4 + all * (key + b) - (4 + to * (key + b)) ≡ rest * width
        amount =
            let left : 4 + count * width - (4 + to * width) ≡ rest * width = omega (arith, parts) in
            (λ i. 4 + are i * (key + is i) - (4 + to * (key + is i))) ∙ left

        abbrev back : List ℕ
        back = take (4 + all * (key + b) - (4 + to * (key + b))) (drop (4 + to * (key + b)) page)

        back_is : back ≡ take (rest * width) (drop (to * width) (drop 4 page))
        back_is =
            (λ i. take (amount i) (drop (4 + to * (key + is i)) page))
            ∙ ap (take (rest * width)) (sym (drop-drop (to * width) 4 page))

        back_long : length back ≡ rest * width
        back_long =
            ap length back_is
            ∙ omega (
              arith,
              length-take (rest * width) (drop (to * width) (drop 4 page)),
              length-drop (to * width) (drop 4 page),
              length-drop 4 page,
              long,
              parts,
              fits,
            )

        pub back_fits : n ≤ 2 → width ≤ 512 → length second + length back ≤ 5120
        back_fits few narrow =
            let some : n * width ≤ 2 * width = mul-mono n 2 width few in
            omega (arith, second_long, back_long, some, narrow, early, parts, fits)

        module _ (third : List ℕ) (three : third ≡ second ++ back) where
          pub spliced_whole : length third ≡ (from + n + (all - to)) * width
          spliced_whole =
              let each : (from + n + rest) * width ≡ from * width + n * width + rest * width = distribute (from + n) rest width
              ∙ ap (λ m. m + rest * width) (distribute from n width) in
              ap length three ∙ omega (arith, length-append second back, second_long, back_long, each) ∙ ap (λ m. (from + n + (m - to)) * width) (sym are)

          pub spliced_listed : items_of key behind (from + n + (all - to)) third
              ≡ take from (items_of key behind count (drop 4 page)) ++ (items_of key behind n middle ++ drop to (items_of key behind count (drop 4 page)))
          spliced_listed =
              (λ i. items_of key behind (from + n + (are i - to)) ((three ∙ ap (λ (xs : List ℕ). xs ++ back) two) i))
              ∙ splice key behind count from n rest (drop 4 page) first middle back to order (omega (arith, within))
              (omega (arith, length-drop 4 page, long, fits))
              first_is whole back_is (from + n + rest) refl

-- bytes in the place of others on the page itself: what stood after is moved from i to e, and the others stand from s on
module _ (page moved new middle : List ℕ) (s e i j : ℕ) (head : 4 ≤ s) (long : e ≡ s + length middle) (room : e + (j - i) ≤ length page)
    (one : moved ≡ take e page ++ (take (j - i) (drop i page) ++ drop (e + (j - i)) page)) (two : new ≡ take s moved ++ (middle ++ drop e moved)) where
  abbrev tail : List ℕ
  tail = drop (e + (j - i)) page

  behind_is : drop e moved ≡ take (j - i) (drop i page) ++ tail
  behind_is = ap (drop e) one ∙ drop_at (take e page) (take (j - i) (drop i page) ++ tail) e (omega (arith, length-take e page, room))

  front_is : take s moved ≡ take s page
  front_is =
      ap (take s) one ∙ take-append-le s (take e page) (take (j - i) (drop i page) ++ tail) (omega (arith, length-take e page, long, room))
      ∙ take-take s e page (omega (arith, long))

  whole_is : new ≡ take s page ++ (middle ++ (take (j - i) (drop i page) ++ tail))
  whole_is = two ∙ (λ k. front_is k ++ (middle ++ behind_is k))

  pub in_place : drop 4 new ≡ ((take (s - 4) (drop 4 page) ++ middle) ++ take (j - i) (drop i page)) ++ tail
  in_place =
      ap (drop 4) whole_is
      ∙ drop-append-le 4 (take s page) (middle ++ (take (j - i) (drop i page) ++ tail)) (omega (arith, length-take s page, head, long, room))
      ∙ ap (λ (xs : List ℕ). xs ++ (middle ++ (take (j - i) (drop i page) ++ tail))) (sym (between_is page 4 s))
      ∙ sym (append_assoc (take (s - 4) (drop 4 page)) middle (take (j - i) (drop i page) ++ tail))
      ∙ sym (append_assoc (take (s - 4) (drop 4 page) ++ middle) (take (j - i) (drop i page)) tail)

  -- the head of the page stays
  pub same_head : (k d : ℕ) → k < 4 → get_or new k d ≡ get_or page k d
  same_head k d low =
      ap (λ (xs : List ℕ). get_or xs k d) whole_is
      ∙ get_or_append_left (take s page) (middle ++ (take (j - i) (drop i page) ++ tail)) d k (omega (arith, length-take s page, head, long, room, low))
      ∙ get_or-take s page k d (omega (arith, head, low))

-- items of a page in the place of others, on the page itself
module _ (key behind b from to count n all : ℕ) (page moved written middle new : List ℕ) (is : b ≡ behind) (long : length page ≡ 4096)
    (order : from ≤ to) (within : to ≤ count)
    (fits : count * (key + behind) ≤ 4092) (are : all ≡ count) (whole : length middle ≡ n * (key + behind))
    (room : (from + n + (count - to)) * (key + behind) ≤ 4092)
    (one : moved ≡ copy_within page (4 + to * (key + b)) (4 + all * (key + b)) (4 + from * (key + b) + length middle)) (same : written ≡ middle)
    (two : new ≡ put_mid (4 + from * (key + b)) (4 + from * (key + b) + length middle - (4 + from * (key + b))) moved written) where
  abbrev start : ℕ
  start = 4 + from * (key + b)

  abbrev end : ℕ
  end = start + length middle

  abbrev old_start : ℕ
  old_start = 4 + to * (key + b)

  abbrev old_end : ℕ
  old_end = 4 + all * (key + b)

  enough : end + (old_end - old_start) ≤ length page
  enough =
      let from_is : from * (key + b) ≡ from * (key + behind) = ap (λ (c : ℕ). from * (key + c)) is in
      let to_is : to * (key + b) ≡ to * (key + behind) = ap (λ (c : ℕ). to * (key + c)) is in
      let all_is : all * (key + b) ≡ count * (key + behind) = λ k. are k * (key + is k) in
      let sum : count ≡ to + (count - to) = omega (arith, within) in
      let parts : count * (key + behind) ≡ to * (key + behind) + (count - to) * (key + behind) = ap (λ (m : ℕ). m * (key + behind)) sum
      ∙ distribute to (count - to) (key + behind) in
      let each : (from + n + (count - to)) * (key + behind) ≡ from * (key + behind) + n * (key + behind) + (count - to) * (key + behind) =
      distribute (from + n) (count - to) (key + behind) ∙ ap (λ m. m + (count - to) * (key + behind)) (distribute from n (key + behind)) in
      omega (arith, from_is, to_is, all_is, parts, each, room, whole, long)

  written_is : new ≡ take start moved ++ (middle ++ drop end moved)
  written_is =
      let sum : start + (end - start) ≡ end = omega arith in
      let behind_it : drop (end - start) (drop start moved) ≡ drop end moved = drop-drop (end - start) start moved ∙ ap (λ m. drop m moved) sum in
      two ∙ (λ k. take start moved ++ (same k ++ behind_it k))

  moved_is : moved ≡ take end page ++ (take (old_end - old_start) (drop old_start page) ++ drop (end + (old_end - old_start)) page)
  moved_is = one ∙ append_assoc (take end page) (take (old_end - old_start) (drop old_start page)) (drop (end + (old_end - old_start)) page)

  pub head_stays : (k d : ℕ) → k < 4 → get_or new k d ≡ get_or page k d
  head_stays = same_head page moved new middle start end old_start old_end (omega arith) refl enough moved_is written_is

  pub page_listed : (bytes : List ℕ) (total : ℕ) → bytes ≡ drop 4 new → total ≡ from + n + (all - to) → items_of key behind total bytes
      ≡ take from (items_of key behind count (drop 4 page)) ++ (items_of key behind n middle ++ drop to (items_of key behind count (drop 4 page)))
  page_listed bytes total are_bytes adds =
      let first = take (start - 4) (drop 4 page) in
      let back = take (old_end - old_start) (drop old_start page) in
      let third = (first ++ middle) ++ back in
      let all_long : length third ≡ (from + n + (all - to)) * (key + behind) =
      spliced_whole key behind b from to count page is long order within fits [] first refl refl n middle (first ++ middle) whole refl all are third refl in
      (λ k. items_of key behind (adds k)
      ((are_bytes ∙ in_place page moved new middle start end old_start old_end (omega arith) refl enough moved_is written_is) k))
      ∙ items-front key behind (from + n + (all - to)) third (drop (end + (old_end - old_start)) page) all_long
      ∙ spliced_listed key behind b from to count page is long order within fits [] first refl refl n middle (first ++ middle) whole refl all are third refl

-- an entry in a leaf

take_at : (es : List Item) (i : ℕ) (e : Item) → slice_get es i ≡ Some e → take (suc i) es ≡ take i es ++ e ∷ []
take_at [] i e got = absurd (cc)
take_at (f ∷ es) zero e got = let same : f ≡ e = cc in λ k. same k ∷ []
take_at (f ∷ es) (suc i) e got = ap (λ (fs : List Item). f ∷ fs) (take_at es i e got)

got : (es : List Item) (i : ℕ) → i < length es → (e : Item) × (slice_get es i ≡ Some e)
got [] i low = absurd (omega (arith, low))
got (e ∷ es) zero low = (e, refl)
got (e ∷ es) (suc i) low = got es i (omega (arith, low))

less_but_same : (a key : List ℕ) → is_gt (key_cmp a key) ≡ false → (a ≡ key → ⊥) → key_cmp a key ≡ Less
less_but_same a key upto other = by_order (key_cmp a key) refl upto
  where
    by_order : (o : Ordering) → key_cmp a key ≡ o → is_gt o ≡ false → key_cmp a key ≡ Less
    by_order Less is not = is
    by_order Equal is not = absurd (other (same_key a key is))
    by_order Greater is not = absurd (cc)

module _ (es : List Item) (key value : List ℕ) (to : ℕ) (fits : IsPlace es key to) (ascend : Ascend es) where
  -- the entry at this key gets another value
  pub put_again : (e : Item) → slice_get es (to - 1) ≡ Some e → 1 ≤ to → e.0 ≡ key → take (to - 1) es ++ (key, value) ∷ drop to es ≡ put_entry es key value
  put_again e at some same =
      let rest = drop (suc (to - 1)) es in
      let whole : es ≡ take (to - 1) es ++ e ∷ rest = split_got es (to - 1) e at in
      let below : Below (take (to - 1) es) key = subst (λ (k : List ℕ). Below (take (to - 1) es) k) same
      (ascend_seam (take (to - 1) es) e rest (subst Ascend whole ascend)) in
      let on : suc (to - 1) ≡ to = omega (arith, some) in
      let equal : key_cmp key e.0 ≡ Equal = ap (key_cmp key) same ∙ tied_itself nat_list_cmp_total key in
      let here : put_entry (e ∷ rest) key value ≡ (e.0, value) ∷ rest =
      ap (λ (o : Ordering). match_ordering o ((key, value) ∷ e ∷ rest) ((e.0, value) ∷ rest) (e ∷ put_entry rest key value)) equal in
      (λ i. take (to - 1) es ++ (sym same i, value) ∷ drop (sym on i) es)
      ∙ ap (λ (fs : List Item). take (to - 1) es ++ fs) (sym here)
      ∙ sym (put_below (take (to - 1) es) (e ∷ rest) key value below)
      ∙ ap (λ (fs : List Item). put_entry fs key value) (sym whole)

  -- an entry more
  pub put_new : to ≤ length es → ((e : Item) → slice_get es (to - 1) ≡ Some e → 1 ≤ to → e.0 ≡ key → ⊥) → take to es
      ++ (key, value) ∷ drop to es ≡ put_entry es key value
  put_new within other =
      let past : Past (drop to es) key = place_past es key to fits in
      ap (λ (fs : List Item). take to es ++ fs) (sym (put_first (drop to es) key value past))
      ∙ sym (put_below (take to es) (drop to es) key value below)
      ∙ ap (λ (fs : List Item). put_entry fs key value) (take-append-drop to es)
    where
      below_next : (n : ℕ) → to ≡ suc n → Below (take to es) key
      below_next n is =
          let last = got es n (omega (arith, is, within)) in
          let e = last.0 in
          let low : n < to = omega (arith, is) in
          let before : n ≡ to - 1 = omega (arith, is) in
          let not_same : e.0 ≡ key → ⊥ = λ same. other e (ap (slice_get es) (sym before) ∙ last.1) (omega (arith, is)) same in
          let less : key_cmp e.0 key ≡ Less = less_but_same e.0 key (fits.upto n e low last.1) not_same in
          let seam : Below (take n es) e.0 = ascend_seam (take n es) e (drop (suc n) es) (subst Ascend (split_got es n e last.1) ascend) in
          subst (λ (fs : List Item). Below fs key) (sym (ap (λ k. take k es) is ∙ take_at es n e last.1))
          (all_both (λ f. key_cmp f.0 key ≡ Less) (take n es) (e ∷ []) (below_upto e.0 key (take n es) (fits.upto n e low last.1) seam) (less, tt))

      below : Below (take to es) key
      below = elim (cases_eq to 0) [
        | inl none ↦ subst (λ (n : ℕ). Below (take n es) key) (sym none) tt
        | inr some ↦ below_next (to - 1) (omega (arith, some))
      ]
