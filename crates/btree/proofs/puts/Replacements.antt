-- Pages take the place of others, step by step.
use Rattle.std.proofs.Common.{◌≡◌, ◌≢◌, ◌⊎◌, ℕ, List, [], ◌∷◌, ◌++◌, Contains, IsTrue, refl, sym, ◌∙◌, ap, subst, inl, inr, arith}
use Rattle.std.proofs.lemmas.Bool.{cases_eq}
use Rattle.std.proofs.lemmas.List.Elements.{Contains-append_left, Contains-append_right, Contains-append_cases}
use Rattle.sector_disk.specs.Disk.{Disk}
use Rattle.sector_disk.specs.lemmas.Moments.{still_honest}
use Rattle.page_store.specs.declared.marks.Mark.{Mark}
use Rattle.page_store.specs.declared.marks.Mark.TheVariants.{Committed, Fresh, Free}
use Rattle.page_store.specs.Marks.{mark, let_go, IsMarked}
use Rattle.page_store.specs.Page.{page}
use Rattle.page_store.specs.Store.{Store, reads, StoreWorks, IsRemarked}
use Rattle.btree.specs.Changes.{AreHeld, TakePlace}
use Rattle.btree.specs.lemmas.Replacements.{has_page, only_one}
use Rattle.btree.specs.lemmas.Laws.{contains_first}

pub one_contains : (q p : ℕ) → p ≡ q → Contains (q ∷ []) p
one_contains q p is = subst (λ (r : ℕ). Contains (q ∷ []) r) (sym is) (contains_first q [])

-- a mark that is in use is not that of a free page
pub held_not_free : (m : Mark) → (m ≡ Committed) ⊎ (m ≡ Fresh) → m ≡ Free → ⊥
held_not_free m (inl is) free = absurd (cc)
held_not_free m (inr is) free = absurd (cc)

-- a mark that stays is in use still
pub held_at : (m n : Mark) → n ≡ m → (m ≡ Committed) ⊎ (m ≡ Fresh) → (n ≡ Committed) ⊎ (n ≡ Fresh)
held_at m n same (inl is) = inl (same ∙ is)
held_at m n same (inr is) = inr (same ∙ is)

pub reads_remarked : (old new : Store) → IsRemarked old new → (p : ℕ) → reads new p ≡ reads old p
reads_remarked old new others p = ap (λ (d : Disk). page d.now.contents p) others.disk

-- a page that stays
pub stays : (q : ℕ) (store : Store) → mark store.marks q ≡ Fresh → TakePlace (q ∷ []) (q ∷ []) store store
stays q store fresh = record {
  held = λ p here. inr (subst (λ (r : ℕ). mark store.marks r ≡ Fresh) (sym (only_one q p here)) fresh);
  from = λ p here. inl here;
  gone = λ p here not. absurd (not here);
  kept = λ p not other. refl;
  reads = λ honest p not used. refl;
}

-- nothing is taken
none_in : (p : ℕ) → Contains [] p → ⊥
none_in p here = omega (arith, here.1)

pub take_none : (store : Store) → TakePlace [] [] store store
take_none store = record {
  held = λ p here. absurd (none_in p here);
  from = λ p here. absurd (none_in p here);
  gone = λ p here not. absurd (none_in p here);
  kept = λ p not other. refl;
  reads = λ honest p not used. refl;
}

-- a page is released, and then a free one handed out
pub renewed_place : (q n : ℕ) (old mid new : Store) → IsMarked q (let_go (mark old.marks q)) old.marks mid.marks → IsRemarked old mid
    → mark mid.marks n ≡ Free → IsMarked n Fresh mid.marks new.marks → IsRemarked mid new → TakePlace (q ∷ []) (n ∷ []) old new
renewed_place q n old mid new let_ first free marked second = record {
  held = λ p here. inr (subst (λ (r : ℕ). mark new.marks r ≡ Fresh) (sym (only_one n p here)) marked.is);
  from = λ p here. elim (cases_eq p q) [
    | inl is ↦ inl (one_contains q p is)
    | inr other ↦ inr (sym (let_.others p other) ∙ ap (mark mid.marks) (only_one n p here) ∙ free)
  ];
  gone = λ p here not.
      marked.others p (λ is. not (one_contains n p is))
      ∙ subst (λ (r : ℕ). mark mid.marks r ≡ let_go (mark old.marks r)) (sym (only_one q p here)) let_.is;
  kept = λ p not other. marked.others p (λ is. other (one_contains n p is)) ∙ let_.others p (λ is. not (one_contains q p is));
  reads = λ honest p not used. reads_remarked mid new second p ∙ reads_remarked old mid first p;
}

-- one more page is handed out
pub take_more : (pages others : List ℕ) (n : ℕ) (a b c : Store) → TakePlace pages others a b → mark b.marks n ≡ Free
    → IsMarked n Fresh b.marks c.marks → IsRemarked b c
    → TakePlace pages (others ++ n ∷ []) a c
take_more pages others n a b c place free marked same = record {
  held = λ p here. elim (Contains-append_cases others (n ∷ []) p here) [
    | inl there ↦ held_at (mark b.marks p) (mark c.marks p) (marked.others p (apart p there)) (place.held p there)
    | inr is ↦ inr (subst (λ (r : ℕ). mark c.marks r ≡ Fresh) (sym (only_one n p is)) marked.is)
  ];
  from = λ p here. elim (Contains-append_cases others (n ∷ []) p here) [
    | inl there ↦ place.from p there
    | inr is ↦ subst (λ (r : ℕ). Contains pages r ⊎ (mark a.marks r ≡ Free)) (sym (only_one n p is)) new_one
  ];
  gone = λ p here not. marked.others p (not_new p not) ∙ place.gone p here (λ there. not (Contains-append_left others (n ∷ []) p there));
  kept = λ p not other. marked.others p (not_new p other) ∙ place.kept p not (λ there. other (Contains-append_left others (n ∷ []) p there));
  reads = λ honest p not used. reads_remarked b c same p ∙ place.reads honest p not used;
}
  where
    apart : (p : ℕ) → Contains others p → p ≢ n
    apart p there is = held_not_free (mark b.marks p) (place.held p there) (ap (mark b.marks) is ∙ free)

    not_new : (p : ℕ) → (Contains (others ++ n ∷ []) p → ⊥) → p ≢ n
    not_new p not is = not (Contains-append_right others (n ∷ []) p (one_contains n p is))

    new_one : Contains pages n ⊎ (mark a.marks n ≡ Free)
    new_one = elim (has_page pages n) [
      | inl here ↦ inl here
      | inr not ↦ inr (sym (place.kept n not (λ there. apart n there refl)) ∙ free)
    ]

-- one of them is written
pub take_wrote : (pages others : List ℕ) (q : ℕ) (a b c : Store) → TakePlace pages others a b → Contains others q → StoreWorks a b
    → (IsTrue b.disk.honest → (p : ℕ) → p ≢ q → reads c p ≡ reads b p) → c.marks ≡ b.marks → TakePlace pages others a c
take_wrote pages others q a b c place one works same marks = record {
  held = λ p here. held_at (mark b.marks p) (mark c.marks p) (marked p) (place.held p here);
  from = place.from;
  gone = λ p here not. marked p ∙ place.gone p here not;
  kept = λ p not other. marked p ∙ place.kept p not other;
  reads = λ honest p not used. same (still_honest works.goes_on honest) p (λ is. not_one p not used is) ∙ place.reads honest p not used;
}
  where
    not_one : (p : ℕ) → (Contains pages p → ⊥) → (mark a.marks p ≡ Free → ⊥) → p ≡ q → ⊥
    not_one p not used is = elim (place.from p (subst (λ (r : ℕ). Contains others r) (sym is) one)) [
      | inl here ↦ not here
      | inr free ↦ used free
    ]

    marked : (p : ℕ) → mark c.marks p ≡ mark b.marks p
    marked p = ap (λ (ms : List Mark). mark ms p) marks

-- the pages of one list and of another
pub record IsUnion (one two both : List ℕ) : Type 0 where
  pub split : (p : ℕ) → Contains both p → Contains one p ⊎ Contains two p
  pub left : (p : ℕ) → Contains one p → Contains both p
  pub right : (p : ℕ) → Contains two p → Contains both p

-- pages beside those that change stay in use
pub take_beside : (pages others beside all new : List ℕ) (a b : Store) → IsUnion pages beside all → IsUnion others beside new → AreHeld a.marks beside
    → ((p : ℕ) → Contains pages p → Contains beside p → ⊥) → TakePlace pages others a b → TakePlace all new a b
take_beside pages others beside all new a b before after held apart place = record {
  held = λ p here. elim (after.split p here) [
    | inl there ↦ place.held p there
    | inr there ↦ held_at (mark a.marks p) (mark b.marks p) (place.kept p (λ one. apart p one there) (λ one. not_new p there one)) (held p there)
  ];
  from = λ p here. elim (after.split p here) [
    | inl there ↦ elim (place.from p there) [
      | inl one ↦ inl (before.left p one)
      | inr free ↦ inr free
    ]
    | inr there ↦ inl (before.right p there)
  ];
  gone = λ p here not. elim (before.split p here) [
    | inl there ↦ place.gone p there (λ one. not (after.left p one))
    | inr there ↦ absurd (not (after.right p there))
  ];
  kept = λ p not other. place.kept p (λ one. not (before.left p one)) (λ one. other (after.left p one));
  reads = λ honest p not used. place.reads honest p (λ one. not (before.left p one)) used;
}
  where
    not_new : (p : ℕ) → Contains beside p → Contains others p → ⊥
    not_new p there one = elim (place.from p one) [
      | inl was ↦ apart p was there
      | inr free ↦ held_not_free (mark a.marks p) (held p there) free
    ]
