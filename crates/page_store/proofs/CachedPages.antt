-- Pages in a cache.
use Rattle.std.proofs.Common.{◌≡◌, ◌≢◌, ◌⊎◌, inl, inr, ℕ, ◌≤◌, List, [], ◌∷◌, ◌++◌, length, Option, Some, None, Result, Ok, Err, OnOk, IsTrue, refl, sym, ◌∙◌, ap, subst, arith, ◌<◌, set, get_or, length-set, length-append}
use Rattle.std.proofs.lemmas.Bool.{cases_lt, cases_eq}
use Rattle.std.proofs.lemmas.List.{get_or_past, get_or_default, get_or-set_other, get_or_append_left}
use Rattle.std.proofs.lemmas.Grind.{get_or-set_at}
use Rattle.std.proofs.lemmas.Option.{same_Some}
use Rattle.std.specs.Option.{IfSome}
use Rattle.sector_disk.specs.Disk.{Image, sector}
use Rattle.page_store.specs.declared.marks.Mark.{Mark}
use Rattle.page_store.specs.declared.marks.Mark.TheVariants.{Committed, Waiting, Fresh, Released, Free, Past}
use Rattle.page_store.specs.declared.holds.Holders.{Holders}
use Rattle.page_store.specs.Holds.{holders_at}
use Rattle.page_store.specs.declared.cache.PageCache.{PageCache}
use Rattle.page_store.specs.Cache.{HoldsPage, HasPlace, OnlyForgets, IsCacheOf, IsEditedAt}
use Rattle.page_store.specs.Places.{HoldsAt, IsPlaced, StandOnce, number_at, kept_at}
use Rattle.page_store.specs.Marks.{mark, keeps, committed, left, AreCommitted, AreLeft, IsMarked, IsKept}
use Rattle.sector_disk.specs.Pages.{HasSectors}
use Rattle.page_store.specs.Page.{IsWithin, page as page_at}
use Rattle.page_store.specs.Store.{Store, reads}
use Rattle.page_store.proofs.PageSectors.{sectors_read, sectors_same}

-- a cache that holds no page is one of each store
pub empty_cache : (store : Store) (cache : PageCache) → ((p : ℕ) (held : List ℕ) → HoldsPage cache p held → ⊥) → IsCacheOf store cache
empty_cache store cache none = record { kept = λ p held there. absurd (none p held there); same = λ p held there. absurd (none p held there) }

-- what a page has at its place
abbrev pub Numbers : Type 0
Numbers = List (Option ℕ)

abbrev pub Kept : Type 0
Kept = List (List ℕ)

-- a page that stands at a place of which a look tells the number
pub placed_there : (numbers : Numbers) (kept : Kept) (page place : ℕ) (found : Option ℕ) → found ≡ get_or numbers place found
    → place < length numbers → found ≡ Some page
    → place < length kept → IsPlaced numbers kept page place
placed_there numbers kept page place found is here has within = record { number = get_or_default numbers place None found here ∙ sym is ∙ has; within = within }

-- a place with a page has a number
pub within_numbers : (numbers : Numbers) (kept : Kept) (p place : ℕ) → IsPlaced numbers kept p place → place < length numbers
within_numbers numbers kept p place placed = by (cases_lt place (length numbers))
  where
    by : (place < length numbers) ⊎ (length numbers ≤ place) → place < length numbers
    by (inl within) = within
    by (inr past) = absurd (let no : None ≡ Some p = sym (get_or_past numbers place None past) ∙ placed.number in cc)

-- where fewer pages stand, none stands at two places
pub still_apart : (numbers numbers' : Numbers) (kept kept' : Kept) → StandOnce numbers kept
    → ((p place : ℕ) → IsPlaced numbers' kept' p place → IsPlaced numbers kept p place) → StandOnce numbers' kept'
still_apart numbers numbers' kept kept' apart fewer p x y at_x at_y = apart p x y (fewer p x at_x) (fewer p y at_y)

-- what is in a cache after a page was put into it
abbrev pub AfterPut : ℕ → List ℕ → Numbers → Kept → ℕ → List ℕ → Type 0
AfterPut page bytes numbers kept p held = ((p ≡ page) × (held ≡ bytes)) ⊎ ((p ≢ page) × HoldsAt numbers kept p held)

-- the page of a place gets other bytes
module _ (numbers : Numbers) (kept : Kept) (page place : ℕ) (bytes : List ℕ) (apart : StandOnce numbers kept) (placed : IsPlaced numbers kept page place) where
  pub put_here : (p : ℕ) (held : List ℕ) → HoldsAt numbers (set kept place bytes) p held → AfterPut page bytes numbers kept p held
  put_here p held there = elim (cases_eq there.place place) [
    | inl same ↦ inl (
      same_Some _ _ (sym there.placed.number ∙ ap (number_at numbers) same ∙ placed.number),
      sym there.holds ∙ get_or-set_at kept place there.place bytes [] same placed.within,
    )
    | inr other ↦
        let was : IsPlaced numbers kept p there.place =
        record { number = there.placed.number; within = omega (arith, there.placed.within, length-set kept place bytes) } in
        inr (
          λ is. other (apart page there.place place (subst (λ (q : ℕ). IsPlaced numbers kept q there.place) is was) placed),
          record { place = there.place; placed = was; holds = sym (get_or-set_other kept place there.place bytes [] other) ∙ there.holds },
        )
  ]

  pub put_apart : StandOnce numbers (set kept place bytes)
  put_apart = still_apart numbers numbers kept (set kept place bytes) apart
      (λ p at there. record { number = there.number; within = omega (arith, there.within, length-set kept place bytes) })

-- a page that stands nowhere is put at a place
module _ (numbers : Numbers) (kept : Kept) (page place : ℕ) (bytes : List ℕ) (apart : StandOnce numbers kept)
    (nowhere : (at : ℕ) → IsPlaced numbers kept page at → ⊥)
    (here : place < length numbers) (within : place < length kept) where
  else_placed : (p at : ℕ) → at ≢ place → IsPlaced (set numbers place (Some page)) (set kept place bytes) p at → IsPlaced numbers kept p at
  else_placed p at other there = record {
    number = sym (get_or-set_other numbers place at (Some page) None other) ∙ there.number;
    within = omega (arith, there.within, length-set kept place bytes);
  }

  here_is : (p at : ℕ) → at ≡ place → IsPlaced (set numbers place (Some page)) (set kept place bytes) p at → p ≡ page
  here_is p at same there = same_Some _ _ (sym there.number ∙ get_or-set_at numbers place at (Some page) None same here)

  pub put_new : (p : ℕ) (held : List ℕ) → HoldsAt (set numbers place (Some page)) (set kept place bytes) p held → AfterPut page bytes numbers kept p held
  put_new p held there = elim (cases_eq there.place place) [
    | inl same ↦ inl (
      here_is p there.place same there.placed,
      sym there.holds ∙ get_or-set_at kept place there.place bytes [] same within,
    )
    | inr other ↦
        let was = else_placed p there.place other there.placed in
        inr (
          λ is. nowhere there.place (subst (λ (q : ℕ). IsPlaced numbers kept q there.place) is was),
          record { place = there.place; placed = was; holds = sym (get_or-set_other kept place there.place bytes [] other) ∙ there.holds },
        )
  ]

  pub new_apart : StandOnce (set numbers place (Some page)) (set kept place bytes)
  new_apart p x y at_x at_y = by (cases_eq x place) (cases_eq y place)
    where
      wrong : (at : ℕ) → at ≢ place → p ≡ page → IsPlaced (set numbers place (Some page)) (set kept place bytes) p at → ⊥
      wrong at other is there = nowhere at (subst (λ (q : ℕ). IsPlaced numbers kept q at) is (else_placed p at other there))

      by : (x ≡ place) ⊎ (x ≢ place) → (y ≡ place) ⊎ (y ≢ place) → x ≡ y
      by (inl one) (inl two) = one ∙ sym two
      by (inl one) (inr two) = absurd (wrong y two (here_is p x one at_x) at_y)
      by (inr one) (inl two) = absurd (wrong x one (here_is p y two at_y) at_x)
      by (inr one) (inr two) = apart p x y (else_placed p x one at_x) (else_placed p y two at_y)

-- a place has no page any more
module _ (numbers : Numbers) (kept : Kept) (page place : ℕ) (apart : StandOnce numbers kept) (placed : IsPlaced numbers kept page place) where
  left_placed : (p at : ℕ) → IsPlaced (set numbers place None) kept p at → (p ≢ page) × IsPlaced numbers kept p at
  left_placed p at there =
      let other : at ≢ place = λ same.
      (let no : None ≡ Some p = sym (get_or-set_at numbers place at None None same (within_numbers numbers kept page place placed)) ∙ there.number in cc) in
      let was : IsPlaced numbers kept p at =
      record { number = sym (get_or-set_other numbers place at None None other) ∙ there.number; within = there.within } in
      (λ is. other (apart page at place (subst (λ (q : ℕ). IsPlaced numbers kept q at) is was) placed), was)

  pub let_go_of : (p : ℕ) (held : List ℕ) → HoldsAt (set numbers place None) kept p held → (p ≢ page) × HoldsAt numbers kept p held
  let_go_of p held there =
      let was = left_placed p there.place there.placed in
      (was.0, record { place = there.place; placed = was.1; holds = there.holds })

  pub left_apart : StandOnce (set numbers place None) kept
  left_apart = still_apart numbers (set numbers place None) kept kept apart (λ p at there. (left_placed p at there).1)

-- a place more, where no page stands
module _ (numbers : Numbers) (kept : Kept) (place : ℕ) (bytes : List ℕ) (apart : StandOnce numbers kept) (here : place < length numbers)
    (next : place ≡ length kept) where
  grown_placed : (p at : ℕ) → IsPlaced (set numbers place None) (kept ++ bytes ∷ []) p at → IsPlaced numbers kept p at
  grown_placed p at there =
      let other : at ≢ place = λ same. (let no : None ≡ Some p = sym (get_or-set_at numbers place at None None same here) ∙ there.number in cc) in
      record {
        number = sym (get_or-set_other numbers place at None None other) ∙ there.number;
        within = omega (arith, there.within, other, next, length-append kept (bytes ∷ []));
      }

  pub grown_holds : (p : ℕ) (held : List ℕ) → HoldsAt (set numbers place None) (kept ++ bytes ∷ []) p held → HoldsAt numbers kept p held
  grown_holds p held there =
      let was = grown_placed p there.place there.placed in
      record { place = there.place; placed = was; holds = sym (get_or_append_left kept (bytes ∷ []) [] there.place was.within) ∙ there.holds }

  pub grown_apart : StandOnce (set numbers place None) (kept ++ bytes ∷ [])
  grown_apart = still_apart numbers (set numbers place None) kept (kept ++ bytes ∷ []) apart grown_placed

  pub blank_holds : (p : ℕ) (held : List ℕ) → HoldsAt (set numbers place None) kept p held → HoldsAt numbers kept p held
  blank_holds p held there =
      let other : there.place ≢ place = omega (arith, there.placed.within, next) in
      record {
        place = there.place;
        placed = record { number = sym (get_or-set_other numbers place there.place None None other) ∙ there.placed.number; within = there.placed.within };
        holds = there.holds;
      }

  pub blank_apart : StandOnce (set numbers place None) kept
  blank_apart = still_apart numbers (set numbers place None) kept kept apart
      (λ p at there. record {
        number = sym (get_or-set_other numbers place at None None (omega (arith, there.within, next))) ∙ there.number;
        within = there.within;
      })

-- a page is edited at its place
pub edited_at : (Edits : List ℕ → List ℕ → Type 0) (old new : PageCache) (page place : ℕ) (was it : List ℕ) → HasPlace old page place
    → StandOnce old.numbers.items old.kept.items → kept_at old.kept.items place ≡ was
    → new.numbers.items ≡ old.numbers.items → new.kept.items ≡ set old.kept.items place it → Edits was it
    → IsEditedAt Edits page place was old new
edited_at Edits old new page place was it placed apart stood numbers kept edits = record {
  held = record { place = place; placed = placed; holds = stood };
  within = omega (arith, placed.within, ap (λ (ks : Kept). length ks) kept, length-set old.kept.items place it);
  edits = subst (λ (bs : List ℕ). Edits was bs) (sym here) edits;
  after = after;
}
  where
    here : kept_at new.kept.items place ≡ it
    here = ap (λ (ks : Kept). kept_at ks place) kept ∙ get_or-set_at old.kept.items place place it [] refl placed.within

    after : (p : ℕ) (held : List ℕ) → HoldsPage new p held
        → ((p ≡ page) × (held ≡ kept_at new.kept.items place)) ⊎ ((p ≢ page) × HoldsPage old p held)
    after p held there =
        let now : HoldsAt old.numbers.items (set old.kept.items place it) p held =
        subst (λ (ks : Kept). HoldsAt old.numbers.items ks p held) kept (subst (λ (ns : Numbers). HoldsAt ns new.kept.items p held) numbers there) in
        elim (put_here old.numbers.items old.kept.items page place it apart placed p held now) [
          | inl it_is ↦ inl (it_is.0, it_is.1 ∙ sym here)
          | inr else ↦ inr else
        ]

-- what was held apart from the page was held before
pub else_part : (was cache : PageCache) (page : ℕ) (bytes : List ℕ) → OnlyForgets was cache → (p : ℕ) (held : List ℕ)
    → ((p ≡ page) × (held ≡ bytes)) ⊎ ((p ≢ page) × HoldsPage cache p held) → ((p ≡ page) × (held ≡ bytes)) ⊎ ((p ≢ page) × HoldsPage was p held)
else_part was cache page bytes part p held (inl put) = inl put
else_part was cache page bytes part p held (inr else) = inr (else.0, part p held else.1)

-- what was true of each page of the cache stays true
pub carried : (old new : Store) (was cache : PageCache) → IsCacheOf old was → OnlyForgets was cache → (IsTrue new.disk.honest → IsTrue old.disk.honest)
    → ((p : ℕ) (held : List ℕ) → HoldsPage cache p held → IsKept old.marks p → IsKept new.marks p)
    → (IsTrue old.disk.honest → (p : ℕ) (held : List ℕ) → HoldsPage cache p held → 1 ≤ p → (k : ℕ) → IsWithin p k
    → sector new.disk.now.contents k ≡ sector old.disk.now.contents k) → IsCacheOf new cache
carried old new was cache of part honest kept same = record {
  kept = λ p held there. kept p held there (of.kept p held (part p held there));
  same = λ p held there h.
      let was_there = part p held there in
      sectors_same old.disk.now.contents new.disk.now.contents p held (same (honest h) p held there (of.kept p held was_there).0)
      (of.same p held was_there (honest h));
}

-- what a cache holds is what the page reads as
pub held_reads : (store : Store) (cache : PageCache) → IsCacheOf store cache → (p : ℕ) (bytes : List ℕ) → HoldsPage cache p bytes → IsTrue store.disk.honest
    → bytes ≡ reads store p
held_reads store cache of p bytes there honest = sectors_read store.disk.now.contents p bytes (of.same p bytes there honest)

-- what is said of what is there, of what is there
pub given_some : {X : Type 0} (P : X → Type 0) (o : Option X) (x : X) → o ≡ Some x → IfSome o P → P x
given_some P (Some y) x is it = subst P (same_Some _ _ is) it
given_some P None x is it = absurd (let no : None ≡ Some x = is in cc)

-- what is said of what is there, if anything is
pub kept_some : {X : Type 0} {P Q : X → Type 0} (o : Option X) → ((x : X) → P x → Q x) → IfSome o P → IfSome o Q
kept_some (Some x) keeps is = keeps x is
kept_some None keeps is = tt

-- so is a part of it
pub part_of : (store : Store) (was cache : PageCache) → IsCacheOf store was → OnlyForgets was cache → IsCacheOf store cache
part_of store was cache of part = carried store store was cache of part (λ h. h) (λ p held there kept. kept) (λ h p held there behind k within. refl)

-- one page is put, and the others read as before
pub added : (old new : Store) (was cache : PageCache) (page : ℕ) (bytes : List ℕ) → IsCacheOf old was
    → ((p : ℕ) (held : List ℕ) → HoldsPage cache p held → ((p ≡ page) × (held ≡ bytes)) ⊎ ((p ≢ page) × HoldsPage was p held))
    → (IsTrue new.disk.honest → IsTrue old.disk.honest) → new.marks ≡ old.marks → IsKept old.marks page
    → (IsTrue old.disk.honest → HasSectors new.disk.now.contents page bytes)
    → (IsTrue old.disk.honest → (p : ℕ) → p ≢ page → (k : ℕ) → IsWithin p k → sector new.disk.now.contents k ≡ sector old.disk.now.contents k)
    → IsCacheOf new cache
added old new was cache page bytes of after honest marks kept same others = record {
  kept = λ p held there. subst (λ (ms : List Mark). IsKept ms p) (sym marks) (elim (after p held there) [
    | inl put ↦ subst (λ (q : ℕ). IsKept old.marks q) (sym put.0) kept
    | inr was_there ↦ of.kept p held was_there.1
  ]);
  same = λ p held there h. elim (after p held there) [
    | inl put ↦ subst (λ (bs : List ℕ). HasSectors new.disk.now.contents p bs) (sym put.1)
        (subst (λ (q : ℕ). HasSectors new.disk.now.contents q bytes) (sym put.0) (same (honest h)))
    | inr was_there ↦ sectors_same old.disk.now.contents new.disk.now.contents p held (others (honest h) p was_there.0) (of.same p held was_there.1 (honest h))
  ];
}

-- a page of the cache was edited, and has these bytes now
module _ (old : Store) (was cache : PageCache) (Edits : List ℕ → List ℕ → Type 0) (page place : ℕ) (it bytes : List ℕ) (of : IsCacheOf old was)
    (edited : IsEditedAt Edits page place it was cache) (at : bytes ≡ kept_at cache.kept.items place) where
  -- what it was is on the disk
  pub edited_was : IsTrue old.disk.honest → HasSectors old.disk.now.contents page it
  edited_was honest = of.same page it edited.held honest

  -- once all is on the disk it reads as it was edited
  pub edited_reads : (new : Image) → IsTrue old.disk.honest → HasSectors new page bytes → Edits (reads old page) (page_at new page)
  edited_reads new honest has =
      subst (λ (bs : List ℕ). Edits bs (page_at new page)) (held_reads old was of page it edited.held honest)
      (subst (λ (bs : List ℕ). Edits it bs) (sym at ∙ sectors_read new page bytes has) edited.edits)

  -- what the cache holds
  pub edited_after : (p : ℕ) (held : List ℕ) → HoldsPage cache p held → ((p ≡ page) × (held ≡ bytes)) ⊎ ((p ≢ page) × HoldsPage was p held)
  edited_after p held there = elim (edited.after p held there) [
    | inl it ↦ inl (it.0, it.1 ∙ sym at)
    | inr else ↦ inr else
  ]

  -- and without the page
  pub edited_left : (later : PageCache) → ((p : ℕ) (held : List ℕ) → HoldsPage later p held → (p ≢ page) × HoldsPage cache p held) → OnlyForgets was later
  edited_left later forgets p held there = elim (edited.after p held (forgets p held there).1) [
    | inl it ↦ absurd ((forgets p held there).0 it.0)
    | inr else ↦ else.1
  ]

-- `commit` keeps what the next root needs
pub committed_kept : (holders : List Holders) (old new : List Mark) → AreCommitted holders old new → (p : ℕ) → IsKept old p → IsKept new p
committed_kept holders old new marks p kept =
    (kept.0, omega (arith, kept.1, marks.same_length), subst (λ (m : Mark). IsTrue (keeps m)) (sym (marks.each p)) (by (mark old p) kept.2))
  where
    by : (m : Mark) → IsTrue (keeps m) → IsTrue (keeps (committed (holders_at holders p) m))
    by Committed is = is
    by Waiting is = is
    by Fresh is = refl
    by Released is = cc
    by Free is = is
    by Past is = is

-- so does a hold that is let go
pub left_kept : (holders : List Holders) (old new : List Mark) → AreLeft holders old new → (p : ℕ) → IsKept old p → IsKept new p
left_kept holders old new marks p kept =
    (kept.0, omega (arith, kept.1, marks.same_length), subst (λ (m : Mark). IsTrue (keeps m)) (sym (marks.each p)) (by (mark old p) kept.2))
  where
    by : (m : Mark) → IsTrue (keeps m) → IsTrue (keeps (left (holders_at holders p) m))
    by Committed is = is
    by Waiting is = is
    by Fresh is = is
    by Released is = is
    by Free is = is
    by Past is = cc

-- one page has another mark: the others are kept as before
pub marked_kept : (old new : List Mark) (page : ℕ) (now : Mark) → IsMarked page now old new → (p : ℕ) → p ≢ page → IsKept old p → IsKept new p
marked_kept old new page now marks p other kept =
    (kept.0, omega (arith, kept.1, marks.same_length), subst (λ (m : Mark). IsTrue (keeps m)) (sym (marks.others p other)) kept.2)

-- a page that gets a mark that the next root may need
pub still_kept : (old new : List Mark) (page : ℕ) (now : Mark) → IsMarked page now old new → IsTrue (keeps now) → (p : ℕ) → IsKept old p → IsKept new p
still_kept old new page now marks keeps_now p kept =
    (kept.0, omega (arith, kept.1, marks.same_length), by (cases_eq p page))
  where
    by : (p ≡ page) ⊎ (p ≢ page) → IsTrue (keeps (mark new p))
    by (inl same) = subst (λ (m : Mark). IsTrue (keeps m)) (sym (ap (λ (q : ℕ). mark new q) same ∙ marks.is)) keeps_now
    by (inr other) = subst (λ (m : Mark). IsTrue (keeps m)) (sym (marks.others p other)) kept.2

-- a page that was handed out is kept
pub fresh_kept : (marks : List Mark) (p : ℕ) → 1 ≤ p → mark marks p ≡ Fresh → IsKept marks p
fresh_kept marks p behind fresh = elim (cases_lt p (length marks)) [
  | inl low ↦ (behind, low, subst (λ (m : Mark). IsTrue (keeps m)) (sym fresh) refl)
  | inr past ↦ absurd (let no : Committed ≡ Fresh = sym (get_or_past marks p Committed past) ∙ fresh in cc)
]

-- what is said of Ok, where it is Ok
pub is_ok : {T E P : Type 0} (r : Result T E) (x : T) → r ≡ Ok x → OnOk r P → P
is_ok (Ok y) x is given = given
is_ok (Err e) x is given = absurd (let wrong : Err e ≡ Ok x = is in cc)
