-- Pages that take the place of others, step by step.
use Rattle.std.specs.Prelude.{◌≡◌, ◌⊎◌, ◌↔◌, ℕ, zero, suc, List, [], ◌∷◌, ◌++◌, Contains, IsTrue}
use Rattle.std.proofs.Common.{refl, sym, ◌∙◌, ap, subst, inl, inr, arith}
use Rattle.std.proofs.lemmas.Bool.{cases_eq}
use Rattle.std.proofs.lemmas.List.Elements.{Contains-append_left, Contains-append_right, Contains-append_cases}
use Rattle.sector_disk.specs.Disk.{Disk}
use Rattle.sector_disk.specs.lemmas.Moments.{still_honest}
use Rattle.page_store.specs.declared.marks.Mark.{Mark}
use Rattle.page_store.specs.declared.marks.Mark.TheVariants.{Committed, Fresh, Free}
use Rattle.page_store.specs.Marks.{mark, needs, let_go, IsMarked}
use Rattle.page_store.specs.Page.{page}
use Rattle.page_store.specs.Store.{Store, reads, StoreWorks, IsRemarked}
use Rattle.btree.specs.Changes.{AreHeld, TakePlace}
use Rattle.btree.specs.lemmas.Laws.{contains_first, contains_later, none_contained}

-- a page is among some or not

one_of : (x p : ℕ) (ps : List ℕ) → Contains (x ∷ ps) p → (p ≡ x) ⊎ Contains ps p
one_of x p ps (zero, low, is) = inl (sym is)
one_of x p ps (suc k, low, is) = inr (k, omega (arith, low), is)

pub has_page : (ps : List ℕ) (p : ℕ) → Contains ps p ⊎ ¬ Contains ps p
has_page [] p = inr (none_contained p)
has_page (x ∷ ps) p = elim (cases_eq p x) [
  | inl same ↦ inl (subst (λ (q : ℕ). Contains (x ∷ ps) q) (sym same) (contains_first x ps))
  | inr other ↦ elim (has_page ps p) [
    | inl here ↦ inl (contains_later x p ps here)
    | inr none ↦ inr (λ here. elim (one_of x p ps here) [ inl same ↦ other same | inr there ↦ none there ])
  ]
]

pub only_one : (x p : ℕ) → Contains (x ∷ []) p → p ≡ x
only_one x p here = elim (one_of x p [] here) [ inl same ↦ same | inr there ↦ absurd (none_contained p there) ]

-- what is in use before and after has the same mark
same_held : (m n : Mark) → (m ≡ Committed) ⊎ (m ≡ Fresh) → (n ≡ Committed) ⊎ (n ≡ Fresh) → needs n ≡ needs m → n ≡ m
same_held m n (inl one) (inl two) same = two ∙ sym one
same_held m n (inr one) (inr two) same = two ∙ sym one
same_held m n (inl one) (inr two) same = let e : needs Fresh ≡ needs Committed = ap needs (sym two) ∙ same ∙ ap needs one in cc
same_held m n (inr one) (inl two) same = let e : needs Committed ≡ needs Fresh = ap needs (sym two) ∙ same ∙ ap needs one in cc

-- a page that was free and is in use is free when it is let go
freed : (m n : Mark) → m ≡ Free → (n ≡ Committed) ⊎ (n ≡ Fresh) → needs n ≡ needs m → let_go n ≡ Free
freed m n free (inl is) same = let e : needs Committed ≡ needs Free = ap needs (sym is) ∙ same ∙ ap needs free in absurd (cc)
freed m n free (inr is) same = ap let_go is

in_use : (m : Mark) → (m ≡ Committed) ⊎ (m ≡ Fresh) → m ≡ Free → ⊥
in_use m (inl is) free = cc
in_use m (inr is) free = cc

-- nothing changes
pub take_none : (store : Store) (pages : List ℕ) → AreHeld store.marks pages → TakePlace pages pages store store
take_none store pages held = record {
  held = held;
  from = λ p here. inl here;
  gone = λ p here none. absurd (none here);
  kept = λ p none also. refl;
  reads = λ honest p none used. refl;
}

-- the same pages in another order
pub take_as : {old new : Store} {a b : List ℕ} (c d : List ℕ) → ((p : ℕ) → Contains a p ↔ Contains c p)
    → ((p : ℕ) → Contains b p ↔ Contains d p) → TakePlace a b old new → TakePlace c d old new
take_as {old} {new} {a} {b} c d one two change = record {
  held = λ p here. change.held p ((two p).1 here);
  from = λ p here. elim (change.from p ((two p).1 here)) [ inl there ↦ inl ((one p).0 there) | inr free ↦ inr free ];
  gone = λ p here none. change.gone p ((one p).1 here) (λ there. none ((two p).0 there));
  kept = λ p none also. change.kept p (λ there. none ((one p).0 there)) (λ there. also ((two p).0 there));
  reads = λ honest p none used. change.reads honest p (λ there. none ((one p).0 there)) used;
}

-- one part after another
pub take_then : {old mid new : Store} {a b c : List ℕ} → AreHeld old.marks a → StoreWorks old mid → TakePlace a b old mid
    → TakePlace b c mid new → TakePlace a c old new
take_then {old} {mid} {new} {a} {b} {c} held works first second =
    record { held = second.held; from = from_each; gone = gone_each; kept = kept_each; reads = reads_each }
  where
    from_each : (p : ℕ) → Contains c p → Contains a p ⊎ (mark old.marks p ≡ Free)
    from_each p here = elim (second.from p here) [
      | inl there ↦ first.from p there
      | inr free ↦ elim (has_page a p) [
        | inl was ↦ inl was
        | inr none ↦ inr (sym (first.kept p none (λ there. in_use (mark mid.marks p) (first.held p there) free)) ∙ free)
      ]
    ]

    gone_each : (p : ℕ) → Contains a p → ¬ Contains c p → mark new.marks p ≡ let_go (mark old.marks p)
    gone_each p here none = elim (has_page b p) [
      | inl there ↦ second.gone p there none ∙ ap let_go
          (same_held (mark old.marks p) (mark mid.marks p) (held p here) (first.held p there) (works.needed p))
      | inr gone ↦ second.kept p gone none ∙ first.gone p here gone
    ]

    kept_each : (p : ℕ) → ¬ Contains a p → ¬ Contains c p → mark new.marks p ≡ mark old.marks p
    kept_each p none also = elim (has_page b p) [
      | inl there ↦ elim (first.from p there) [
        | inl was ↦ absurd (none was)
        | inr free ↦ second.gone p there also ∙ freed (mark old.marks p) (mark mid.marks p) free (first.held p there) (works.needed p)
            ∙ sym free
      ]
      | inr apart ↦ second.kept p apart also ∙ first.kept p none apart
    ]

    reads_each : IsTrue old.disk.honest → (p : ℕ) → ¬ Contains a p → ¬ (mark old.marks p ≡ Free) → reads new p ≡ reads old p
    reads_each honest p none used =
        let apart : ¬ Contains b p = λ there. elim (first.from p there) [ inl was ↦ none was | inr free ↦ used free ] in
        let still : ¬ (mark mid.marks p ≡ Free) = λ free. used (sym (first.kept p none apart) ∙ free) in
        second.reads (still_honest works.goes_on honest) p apart still ∙ first.reads honest p none used

-- beside pages that stay
pub take_beside : {old new : Store} {a b : List ℕ} (stay : List ℕ) → AreHeld old.marks stay
    → ((p : ℕ) → Contains a p → Contains stay p → ⊥) → TakePlace a b old new → TakePlace (stay ++ a) (stay ++ b) old new
take_beside {old} {new} {a} {b} stay held apart change =
    record { held = held_each; from = from_each; gone = gone_each; kept = kept_each; reads = reads_each }
  where
    not_taken : (p : ℕ) → Contains stay p → Contains b p → ⊥
    not_taken p here there = elim (change.from p there) [
      | inl was ↦ apart p was here
      | inr free ↦
          in_use (mark old.marks p) (held p here) free
    ]

    held_each : (p : ℕ) → Contains (stay ++ b) p → (mark new.marks p ≡ Committed) ⊎ (mark new.marks p ≡ Fresh)
    held_each p here = elim (Contains-append_cases stay b p here) [
      | inl stays ↦ subst (λ (m : Mark). (m ≡ Committed) ⊎ (m ≡ Fresh))
          (sym (change.kept p (λ was. apart p was stays) (not_taken p stays))) (held p stays)
      | inr there ↦ change.held p there
    ]

    from_each : (p : ℕ) → Contains (stay ++ b) p → Contains (stay ++ a) p ⊎ (mark old.marks p ≡ Free)
    from_each p here = elim (Contains-append_cases stay b p here) [
      | inl stays ↦ inl (Contains-append_left stay a p stays)
      | inr there ↦ elim (change.from p there) [ inl was ↦ inl (Contains-append_right stay a p was) | inr free ↦ inr free ]
    ]

    gone_each : (p : ℕ) → Contains (stay ++ a) p → ¬ Contains (stay ++ b) p → mark new.marks p ≡ let_go (mark old.marks p)
    gone_each p here none = elim (Contains-append_cases stay a p here) [
      | inl stays ↦ absurd (none (Contains-append_left stay b p stays))
      | inr was ↦ change.gone p was (λ there. none (Contains-append_right stay b p there))
    ]

    kept_each : (p : ℕ) → ¬ Contains (stay ++ a) p → ¬ Contains (stay ++ b) p → mark new.marks p ≡ mark old.marks p
    kept_each p none also = change.kept p (λ was. none (Contains-append_right stay a p was))
        (λ there. also (Contains-append_right stay b p there))

    reads_each : IsTrue old.disk.honest → (p : ℕ) → ¬ Contains (stay ++ a) p → ¬ (mark old.marks p ≡ Free) → reads new p ≡ reads old p
    reads_each honest p none used = change.reads honest p (λ was. none (Contains-append_right stay a p was)) used

same_reads : (old new : Store) → IsRemarked old new → (p : ℕ) → reads new p ≡ reads old p
same_reads old new others p = ap (λ (d : Disk). page d.now.contents p) others.disk

-- after `new_page`
pub take_new : (old new : Store) (q : ℕ) → IsMarked q Fresh old.marks new.marks → mark old.marks q ≡ Free → IsRemarked old new
    → TakePlace [] (q ∷ []) old new
take_new old new q marks free others = record {
  held = λ p here. inr (ap (mark new.marks) (only_one q p here) ∙ marks.is);
  from = λ p here. inr (ap (mark old.marks) (only_one q p here) ∙ free);
  gone = λ p here none. absurd (none_contained p here);
  kept = λ p none also. marks.others p (λ same. also (subst (λ (r : ℕ). Contains (q ∷ []) r) (sym same) (contains_first q [])));
  reads = λ honest p none used. same_reads old new others p;
}

-- after `release`
pub take_released : (old new : Store) (q : ℕ) → IsMarked q (let_go (mark old.marks q)) old.marks new.marks → IsRemarked old new
    → TakePlace (q ∷ []) [] old new
take_released old new q marks others = record {
  held = λ p here. absurd (none_contained p here);
  from = λ p here. absurd (none_contained p here);
  gone = λ p here none. subst (λ (r : ℕ). mark new.marks r ≡ let_go (mark old.marks r)) (sym (only_one q p here)) marks.is;
  kept = λ p none also. marks.others p (λ same. none (subst (λ (r : ℕ). Contains (q ∷ []) r) (sym same) (contains_first q [])));
  reads = λ honest p none used. same_reads old new others p;
}

-- after `write_page`
pub take_written : (old new : Store) (q : ℕ) → mark old.marks q ≡ Fresh → new.marks ≡ old.marks
    → (IsTrue old.disk.honest → (p : ℕ) → ¬ (p ≡ q) → reads new p ≡ reads old p)
    → TakePlace (q ∷ []) (q ∷ []) old new
take_written old new q fresh marks others = record {
  held = λ p here. inr (ap (λ (ms : List Mark). mark ms p) marks ∙ ap (mark old.marks) (only_one q p here) ∙ fresh);
  from = λ p here. inl here;
  gone = λ p here none. absurd (none here);
  kept = λ p none also. ap (λ (ms : List Mark). mark ms p) marks;
  reads = λ honest p none used. others honest p (λ same. none (subst (λ (r : ℕ). Contains (q ∷ []) r) (sym same) (contains_first q [])));
}
