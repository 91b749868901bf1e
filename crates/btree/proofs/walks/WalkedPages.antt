-- Pages are walked one after another.
use Rattle.std.proofs.Common.{◌≡◌, inl, inr, ℕ, List, [], ◌∷◌, ◌++◌, length, Contains, sym, ◌∙◌, ap, subst, arith}
use Rattle.std.proofs.lemmas.List.Elements.{Contains-append_left, Contains-append_right, Contains-append_cases}
use Rattle.page_store.specs.declared.marks.Mark.{Mark}
use Rattle.page_store.specs.declared.marks.Mark.TheVariants.{Committed, Waiting}
use Rattle.page_store.specs.Marks.{mark}
use Rattle.page_store.specs.Store.{Store}
use Rattle.btree.specs.declared.page.kind.Kind.{Kind}
use Rattle.btree.specs.declared.page.widths.Widths.{Widths}
use Rattle.btree.specs.Page.{Item}
use Rattle.btree.specs.lemmas.Laws.{contains_first, none_contained}
use Rattle.btree.specs.lemmas.Once.{once_append, once_apart, once_cons, once_left, once_none, once_right}
use Rattle.btree.specs.lemmas.Replacements.{only_one}
use Rattle.btree.specs.lemmas.WalkedPages.{AreReady, ArePassed}
use Rattle.btree.specs.lemmas.MarkedReads.{IsPageTaken}
use Rattle.btree.specs.lemmas.Visits.{AscendFrom}
use Rattle.btree.proofs.walks.Visits.{from_back, from_front, told_none, told_then}

two_marks : (m : Mark) → m ≡ Committed → m ≡ Waiting → ⊥
two_marks m one two = cc

-- one part after another
module _ (ps qs : List ℕ) (es fs : List Item) (old mid new : Store) (last between now : List ℕ) (told more most : List Item → Type 0) where
  pub passed_then : length mid.marks ≡ length old.marks → ArePassed ps es old mid last between told more → ArePassed qs fs mid new between now more most
      → ArePassed (ps ++ qs) (es ++ fs) old new last now told most
  passed_then same one two = record {
    marked = record {
      waited = λ p here. elim (Contains-append_cases ps qs p here) [
        | inl there ↦ one.marked.waited p there
        | inr there ↦ sym (one.marked.kept p (λ was. apart p was there)) ∙ two.marked.waited p there
      ];
      marked = λ p here. elim (Contains-append_cases ps qs p here) [
        | inl there ↦ two.marked.kept p (apart p there) ∙ one.marked.marked p there
        | inr there ↦ two.marked.marked p there
      ];
      kept = λ p none. two.marked.kept p (λ there. none (Contains-append_right ps qs p there))
          ∙ one.marked.kept p (λ there. none (Contains-append_left ps qs p there));
    };
    once = once_append ps qs one.once two.once apart;
    there = λ p here. elim (Contains-append_cases ps qs p here) [
      | inl there ↦ one.there p there
      | inr there ↦ let known = two.there p there in (known.0, omega (arith, known.1, same))
    ];
    entries = told_then es fs last between now told more most one.entries two.entries;
  }
    where
      apart : (p : ℕ) → Contains ps p → Contains qs p → ⊥
      apart p was there = two_marks (mark mid.marks p) (one.marked.marked p was) (two.marked.waited p there)

-- one page
pub passed_page : (w : Widths) (kind : Kind) (page : ℕ) (body : List ℕ) (old new : Store) (last : List ℕ) (told : List Item → Type 0)
    → IsPageTaken w kind page body old new
    → ArePassed (page ∷ []) [] old new last last told told
passed_page w kind page body old new last told taken = record {
  marked = record {
    waited = λ p here. ap (mark old.marks) (only_one page p here) ∙ taken.waited;
    marked = λ p here. ap (mark new.marks) (only_one page p here) ∙ taken.marks.is;
    kept = λ p none. taken.marks.others p (λ is. none (subst (λ (q : ℕ). Contains (page ∷ []) q) (sym is) (contains_first page [])));
  };
  once = once_cons page [] (none_contained page) once_none;
  there = λ p here. let is = only_one page p here in (omega (arith, is, taken.is_page), omega (arith, is, taken.within));
  entries = told_none last told;
}

-- what can be walked, in part
module _ (ps qs : List ℕ) (es fs : List Item) (old : Store) (last : List ℕ) (ready : AreReady (ps ++ qs) (es ++ fs) old last) where
  pub ready_front : AreReady ps es old last
  ready_front = record {
    waiting = λ p here. ready.waiting p (Contains-append_left ps qs p here);
    once = once_left ps qs ready.once;
    ascending = from_front last es fs ready.ascending;
  }

  pub ready_back : (mid : Store) (between : List ℕ) (told more : List Item → Type 0) → ArePassed ps es old mid last between told more
      → AreReady qs fs mid between
  ready_back mid between told more passed = record {
    waiting = λ p here. passed.marked.kept p (λ was. once_apart ps qs ready.once p was here) ∙ ready.waiting p (Contains-append_right ps qs p here);
    once = once_right ps qs ready.once;
    ascending = subst (λ (k : List ℕ). AscendFrom k fs) (sym passed.entries.now_is) (from_back last es fs ready.ascending);
  }
