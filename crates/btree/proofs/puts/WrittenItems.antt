-- The items of a page are written.
use Rattle.std.proofs.Common.{◌≡◌, ◌≢◌, ◌⊎◌, ℕ, zero, suc, ◌+◌, ◌-◌, ◌*◌, ◌/◌, ◌<◌, ◌≤◌, ◌^◌, List, [], ◌∷◌, ◌++◌, Some, length, take, drop, IsTrue, refl, sym, ◌∙◌, ap, subst, inl, inr, arith, append-nil}
use Rattle.std.proofs.lemmas.Bool.{cases_eq}
use Rattle.std.proofs.lemmas.List.{take-append-drop}
use Rattle.std.proofs.lemmas.List.Elements.{All-nil, All-cons}
use Rattle.std.specs.List.{slice_get}
use Rattle.byteorder.specs.Endian.{big_bytes, big_number}
use Rattle.byteorder.specs.Numbers.{big_number-reads_back}
use Rattle.sector_disk.specs.lemmas.Moments.{still_honest}
use Rattle.page_store.specs.declared.marks.Mark.TheVariants.{Fresh, Free}
use Rattle.page_store.specs.Marks.{mark, IsMarked}
use Rattle.page_store.specs.Store.{Store, reads, StoreWorks, IsRemarked}
use Rattle.page_store.specs.lemmas.Works.{works_then}
use Rattle.btree.specs.declared.page.kind.Kind.{Kind}
use Rattle.btree.specs.declared.page.kind.Kind.TheVariants.{Leaf, Inner}
use Rattle.btree.specs.declared.page.widths.Widths.{Widths}
use Rattle.btree.specs.lemmas.Items.{items-append}
use Rattle.btree.specs.Page.{Item, IsPage, item_width, items_in, items_of, least_of, child_of}
use Rattle.btree.specs.Changes.{TakePlace}
use Rattle.btree.specs.Entries.{first_key}
use Rattle.btree.specs.lemmas.Laws.{contains_first, contains_later}
use Rattle.page_store.specs.Pages.{IsOnce}
use Rattle.btree.specs.lemmas.Growth.{AreWritten}
use Rattle.btree.specs.lemmas.PutItems.{IsCut}
use Rattle.btree.proofs.pages.ItemBytes.{mul-mono, distribute, narrow}
use Rattle.btree.specs.lemmas.Replacements.{only_one}
use Rattle.btree.specs.lemmas.Once.{contains_cons}
use Rattle.btree.proofs.puts.Replacements.{held_not_free, take_more, take_wrote}

-- a page number reads back
pub leads_back : (page : ℕ) → page < 2 ^ 32 → big_number 4 (big_bytes 4 page) ≡ page
leads_back page fits = ap (big_number 4) (sym (append-nil (big_bytes 4 page))) ∙ big_number-reads_back 4 page [] fits

-- the key of the first item
pub first_of : (key behind n : ℕ) (bytes : List ℕ) → 1 ≤ n → first_key (items_of key behind n bytes) ≡ Some (take key bytes)
first_of key behind zero bytes some = absurd (omega (arith, some))
first_of key behind (suc n) bytes some = refl

-- the rest of some items
pub rest_is : (count width cut : ℕ) → cut ≤ count → count * width ≡ cut * width + (count - cut) * width
rest_is count width cut within = let sum : count ≡ cut + (count - cut) = omega (arith, within) in ap (λ n. n * width) sum ∙ distribute cut (count - cut) width

-- the halves of too many items
module _ (count width : ℕ) where
  abbrev half : ℕ
  half = count / 2

  double : (half + half) * width ≤ count * width
  double = mul-mono (half + half) count width (omega arith)

  pub half_fits : count * width ≤ 5120 → half * width ≤ 4092
  half_fits most = let both = distribute half half width in omega (arith, double, both, most)

  pub rest_fits : count * width ≤ 5120 → width ≤ 512 → (count - half) * width ≤ 4092
  rest_fits most narrow =
      let both = distribute half half width in
      let more = distribute half 1 width in
      let less : (count - half) * width ≤ (half + 1) * width = mul-mono (count - half) (half + 1) width (omega arith) in
      omega (arith, double, both, more, less, most, narrow)

  pub half_some : 4092 < count * width → width ≤ 512 → 4 ≤ half
  half_some more narrow = elim (split count) [
    | inl few ↦
        let least : count * width ≤ 7 * width = mul-mono count 7 width few in
        absurd (omega (arith, least, more, narrow))
    | inr many ↦ omega (arith, many)
  ]
    where
      split : (n : ℕ) → (n ≤ 7) ⊎ (8 ≤ n)
      split zero = inl (omega arith)
      split (suc n) = elim (split n) [
        | inl few ↦ elim (cases_eq n 7) [
          | inl is ↦ inr (omega (arith, is))
          | inr other ↦ inl (omega (arith, few, other))
        ]
        | inr many ↦ inr (omega (arith, many))
      ]

-- items that are cut in halves, or before the last that a page may have
few_least : (kind : Kind) → (1 ≤ least_of kind) × (least_of kind ≤ 2)
few_least Leaf = (omega arith, omega arith)
few_least Inner = (omega arith, omega arith)

module _ (w : Widths) (kind : Kind) (count : ℕ) (full : (count - 1) * item_width w kind ≤ 4092) (over : 4092 < count * item_width w kind) where
  abbrev wide : ℕ
  wide = item_width w kind

  abbrev least : ℕ
  least = least_of kind

  many : 4 ≤ count / 2
  many = half_some count wide over (narrow w kind)

  most : count * wide ≤ 5120
  most =
      let sum : count ≡ count - 1 + 1 = omega (arith, many) in
      let parts : count * wide ≡ (count - 1) * wide + 1 * wide = ap (λ n. n * wide) sum ∙ distribute (count - 1) 1 wide in
      omega (arith, parts, full, narrow w kind)

  at_end : IsCut w kind count (count - least)
  at_end =
      let few = few_least kind in
      let before : (count - least) * wide ≤ (count - 1) * wide = mul-mono (count - least) (count - 1) wide (omega (arith, few.0)) in
      let behind : (count - (count - least)) * wide ≤ 2 * wide = mul-mono (count - (count - least)) 2 wide (omega (arith, few.1)) in
      record {
        front_enough = omega (arith, few.1, many);
        back_enough = omega (arith, few.1, many);
        front_fits = omega (arith, before, full);
        back_fits = omega (arith, behind, narrow w kind);
      }

  at_half : IsCut w kind count (count / 2)
  at_half =
      let few = few_least kind in
      record {
        front_enough = omega (arith, few.1, many);
        back_enough = omega (arith, few.1, many);
        front_fits = half_fits count wide most;
        back_fits = rest_fits count wide most (narrow w kind);
      }

  pub cut_is : (cut behind : ℕ) → (behind ≡ 0 → cut ≡ count - least_of kind) → (1 ≤ behind → cut ≡ count / 2) → IsCut w kind count cut
  cut_is cut zero end half = subst (IsCut w kind count) (sym (end refl)) at_end
  cut_is cut (suc behind) end half = subst (IsCut w kind count) (sym (half (omega arith))) at_half

-- items in two parts
pub items_parts : (key behind b m n count : ℕ) (bytes whole front back : List ℕ) → b ≡ behind → count ≡ m + n → whole ≡ bytes
    → front ≡ take (m * (key + b)) whole → back ≡ drop (m * (key + b)) whole
    → length front ≡ m * (key + b) → items_of key behind count bytes ≡ items_of key behind m front ++ items_of key behind n back
items_parts key behind b m n count bytes whole front back is sum same first last long =
    ap (items_of key behind count) (sym ((λ i. first i ++ last i) ∙ take-append-drop (m * (key + b)) whole ∙ same))
    ∙ items-append key behind m n count front back sum (long ∙ ap (λ c. m * (key + c)) is)

-- no page is named twice
pub once_one : (q : ℕ) → IsOnce (q ∷ [])
once_one q i j p at_i at_j = at_first i at_i ∙ sym (at_first j at_j)
  where
    at_first : (i : ℕ) → slice_get (q ∷ []) i ≡ Some p → i ≡ 0
    at_first zero at = refl
    at_first (suc i) at = cc

pub once_two : (q r : ℕ) → q ≢ r → IsOnce (q ∷ r ∷ [])
once_two q r other zero zero p at_i at_j = refl
once_two q r other zero (suc zero) p at_i at_j = absurd (other (cc))
once_two q r other zero (suc (suc j)) p at_i at_j = cc
once_two q r other (suc zero) zero p at_i at_j = absurd (other (cc))
once_two q r other (suc zero) (suc zero) p at_i at_j = refl
once_two q r other (suc zero) (suc (suc j)) p at_i at_j = cc
once_two q r other (suc (suc i)) j p at_i at_j = cc

module _ (w : Widths) (kind : Kind) (page : ℕ) (old : Store) where
  -- on one page
  pub written_one : (list : List Item) (q : ℕ) (top : Item) (mid new : Store) → child_of top ≡ q → first_key list ≡ Some top.0
      → TakePlace (page ∷ []) (q ∷ []) old mid → StoreWorks old mid → 1 ≤ q → q < length old.marks
      → (IsTrue mid.disk.honest → IsPage w kind (reads new q)) → (IsTrue mid.disk.honest → items_in w kind (reads new q) ≡ list)
      → (IsTrue mid.disk.honest → (p : ℕ) → p ≢ q → reads new p ≡ reads mid p) → new.marks ≡ mid.marks
      → AreWritten w kind page list (top ∷ []) old new
  written_one list q top mid new leads first place works is_page there form items others marks = record {
    place = subst (λ (n : ℕ). TakePlace (page ∷ []) (n ∷ []) old new) (sym leads)
        (take_wrote (page ∷ []) (q ∷ []) q old mid new place (contains_first q []) works others marks);
    once = once_one (child_of top);
    there = λ p here. let is : p ≡ q = only_one (child_of top) p here ∙ leads in (omega (arith, is, is_page), omega (arith, is, there));
    pages = λ honest.
        let now = still_honest works.goes_on honest in
        let bytes : reads new (child_of top) ≡ reads new q = ap (reads new) leads in
        All-cons (λ c. IsPage w kind (reads new (child_of c)) × (first_key (items_in w kind (reads new (child_of c))) ≡ Some c.0)) top []
        (subst (IsPage w kind) (sym bytes) (form now), ap first_key (ap (items_in w kind) bytes ∙ items now) ∙ first)
        (All-nil (λ c. IsPage w kind (reads new (child_of c)) × (first_key (items_in w kind (reads new (child_of c))) ≡ Some c.0)));
    items = λ honest.
        let now = still_honest works.goes_on honest in
        append-nil (items_in w kind (reads new (child_of top))) ∙ ap (λ (n : ℕ). items_in w kind (reads new n)) leads ∙ items now;
  }

  -- on that page and one more
  pub written_two : (list front back : List Item) (q r : ℕ) (top more : Item) (a b c d : Store) → list ≡ front ++ back → child_of top ≡ q → child_of more ≡ r
      → first_key front ≡ Some top.0 → first_key back ≡ Some more.0
      → TakePlace (page ∷ []) (q ∷ []) old a → StoreWorks old a → mark a.marks q ≡ Fresh → 1 ≤ q → q < length old.marks
      → mark a.marks r ≡ Free → IsMarked r Fresh a.marks b.marks → IsRemarked a b → StoreWorks a b → 1 ≤ r → r < length a.marks
      → (IsTrue b.disk.honest → IsPage w kind (reads c q)) → (IsTrue b.disk.honest → items_in w kind (reads c q) ≡ front)
      → (IsTrue b.disk.honest → (p : ℕ) → p ≢ q → reads c p ≡ reads b p) → c.marks ≡ b.marks → StoreWorks b c
      → (IsTrue c.disk.honest → IsPage w kind (reads d r)) → (IsTrue c.disk.honest → items_in w kind (reads d r) ≡ back)
      → (IsTrue c.disk.honest → (p : ℕ) → p ≢ r → reads d p ≡ reads c p) → d.marks ≡ c.marks
      → AreWritten w kind page list (top ∷ more ∷ []) old d
  written_two list front back q r top more a b c d parts leads_q leads_r first_q first_r place works-a fresh page_q there_q free marked same works-b page_r there_r
      form_q items_q others_q marks_q works-c form_r items_r others_r marks_r = record {
        place = subst (λ (n : ℕ). TakePlace (page ∷ []) (n ∷ child_of more ∷ []) old d) (sym leads_q)
            (subst (λ (n : ℕ). TakePlace (page ∷ []) (q ∷ n ∷ []) old d) (sym leads_r) placed);
        once = once_two (child_of top) (child_of more) (λ is. apart (sym leads_q ∙ is ∙ leads_r));
        there = λ p here. elim (contains_cons (child_of top) p (child_of more ∷ []) here) [
          | inl is ↦ let at : p ≡ q = is ∙ leads_q in (omega (arith, at, page_q), omega (arith, at, there_q))
          | inr later ↦ let at : p ≡ r = only_one (child_of more) p later ∙ leads_r in
              (omega (arith, at, page_r), omega (arith, at, there_r, works-a.same_pages))
        ];
        pages = λ honest.
            All-cons P top (more ∷ []) (
              subst (IsPage w kind) (sym (bytes_q honest)) (form_q (now_b honest)),
              ap first_key (ap (items_in w kind) (bytes_q honest) ∙ items_q (now_b honest)) ∙ first_q,
            )
            (All-cons P more []
            (subst (IsPage w kind) (sym bytes_r) (form_r (now_c honest)), ap first_key (ap (items_in w kind) bytes_r ∙ items_r (now_c honest)) ∙ first_r)
            (All-nil P));
        items = λ honest.
            (λ i. (ap (items_in w kind) (bytes_q honest) ∙ items_q (now_b honest)) i
            ++ (append-nil (items_in w kind (reads d (child_of more))) ∙ ap (items_in w kind) bytes_r ∙ items_r (now_c honest)) i)
            ∙ sym parts;
      }
    where
      P : Item → Type 0
      P c = IsPage w kind (reads d (child_of c)) × (first_key (items_in w kind (reads d (child_of c))) ≡ Some c.0)

      apart : q ≢ r
      apart is = held_not_free (mark a.marks q) (inr fresh) (ap (mark a.marks) is ∙ free)

      now_b : IsTrue old.disk.honest → IsTrue b.disk.honest
      now_b honest = still_honest works-b.goes_on (still_honest works-a.goes_on honest)

      now_c : IsTrue old.disk.honest → IsTrue c.disk.honest
      now_c honest = still_honest works-c.goes_on (now_b honest)

      bytes_q : IsTrue old.disk.honest → reads d (child_of top) ≡ reads c q
      bytes_q honest = ap (reads d) leads_q ∙ others_r (now_c honest) q apart

      bytes_r : reads d (child_of more) ≡ reads d r
      bytes_r = ap (reads d) leads_r

      placed : TakePlace (page ∷ []) (q ∷ r ∷ []) old d
      placed =
          take_wrote (page ∷ []) (q ∷ r ∷ []) r old c d
          (take_wrote (page ∷ []) (q ∷ r ∷ []) q old b c (take_more (page ∷ []) (q ∷ []) r old a b place free marked same)
          (contains_first q (r ∷ [])) (works_then works-a works-b) others_q marks_q)
          (contains_later q r (r ∷ []) (contains_first r [])) (works_then (works_then works-a works-b) works-c) others_r marks_r
