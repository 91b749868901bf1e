-- What a put leaves as it was; and how deep a map can be.
use Rattle.std.specs.Prelude.{◌≡◌, ◌⊎◌, ℕ, suc, ◌^◌, ◌<◌, ◌≤◌, Bool, true, false, List, [], ◌∷◌, length, slice_get, Contains, Some, IsTrue}
use Rattle.std.proofs.Common.{refl, sym, ap, subst, inl, inr, arith}
use Rattle.std.proofs.lemmas.Bool.{cases_lt}
use Rattle.std.proofs.lemmas.Bool.Decides.{Decides-eqb}
use Rattle.std.proofs.lemmas.Map.Steps.{length-le_from_distinct_below}
use Rattle.std.proofs.lemmas.Map.Views.{Contains-from_any}
use Rattle.std.proofs.Math.Dec.{eqb}
use Rattle.std.proofs.Math.Nat.{pow-le-pow_right}
use Rattle.std.specs.List.{AllByRecursion, IsDistinct}
use Rattle.page_store.specs.declared.marks.Mark.{Mark}
use Rattle.page_store.specs.declared.marks.Mark.TheVariants.{Committed, Fresh, Free}
use Rattle.page_store.specs.Marks.{mark}
use Rattle.page_store.specs.Store.{Store, reads, StoreWorks}
use Rattle.btree.specs.declared.page.widths.Widths.{Widths}
use Rattle.btree.specs.Page.{Item}
use Rattle.btree.specs.Changes.{AreHeld, HoldsMap, TakePlace}
use Rattle.btree.specs.lemmas.Laws.{a_map_rests_on_its_pages, a_tree_is_wide}
use Rattle.btree.specs.Tree.{IsMap, IsRooted}
use Rattle.page_store.specs.Pages.{IsOnce}
use Rattle.page_store.specs.declared.limits.TheConstants.{MAX_PAGES}

-- a page that is in use, and not by the map that changes, stays
held_apart : (m : Mark) → (m ≡ Committed) ⊎ (m ≡ Fresh) → m ≡ Free → ⊥
held_apart m (inl is) free = cc
held_apart m (inr is) free = cc

pub not_taken : (pages others : List ℕ) (old new : Store) → TakePlace pages others old new → (p : ℕ)
    → (mark old.marks p ≡ Committed) ⊎ (mark old.marks p ≡ Fresh) → (Contains pages p → ⊥) → Contains others p → ⊥
not_taken pages others old new change p held apart here = elim (change.from p here) [
  | inl there ↦ apart there
  | inr free ↦ held_apart (mark old.marks p) held free
]

-- another map stays, on pages of its own
pub another_map_stays : (w : Widths) (old new : Store) (pages others : List ℕ) → IsTrue old.disk.honest → StoreWorks old new
    → TakePlace pages others old new → (root : ℕ) (its : List ℕ) (es : List Item)
    → HoldsMap w old root its es → AreHeld old.marks its → ((p : ℕ) → Contains pages p → Contains its p → ⊥)
    → HoldsMap w new root its es × AreHeld new.marks its × ((p : ℕ) → Contains others p → Contains its p → ⊥)
another_map_stays w old new pages others honest works change root its es holds held apart = (
  subst (λ (n : ℕ). IsMap w n root its es (reads new)) (sym works.same_pages)
      ((a_map_rests_on_its_pages w (length old.marks) root its es (reads old) holds).anywhere (reads new)
      (λ p here. change.reads honest p (λ there. apart p there here) (held_apart (mark old.marks p) (held p here)))),
  λ p here.
      subst (λ (m : Mark). (m ≡ Committed) ⊎ (m ≡ Fresh)) (sym (change.kept p (λ there. apart p there here) (free p here))) (held p here),
  λ p there here. free p here there,
)
  where
    free : (p : ℕ) → Contains its p → Contains others p → ⊥
    free p here = not_taken pages others old new change p (held p here) (λ there. apart p there here)

-- pages that are named once are different
apart_each : (x : ℕ) (ys : List ℕ) → ((k y : ℕ) → slice_get ys k ≡ Some y → x ≡ y → ⊥) → AllByRecursion (λ y. eqb x y ≡ false) ys
apart_each x [] apart = tt
apart_each x (y ∷ ys) apart = (
  not_true (eqb x y) (λ yes. apart 0 y refl ((Decides-eqb x y).0 yes)),
  apart_each x ys
      (λ k z got. apart (suc k) z got),
)
  where
    not_true : (b : Bool) → (b ≡ true → ⊥) → b ≡ false
    not_true true not = absurd (not refl)
    not_true false not = refl

once_distinct : (ps : List ℕ) → IsOnce ps → IsDistinct eqb ps
unfolding IsDistinct
once_distinct [] once = tt
once_distinct (p ∷ ps) once = (
  apart_each p ps (λ k y got same. let e : 0 ≡ suc k = once 0 (suc k) y (ap Some same) got in omega (arith, e)),
  once_distinct ps (λ i j q at_i at_j. let e : suc i ≡ suc j = once (suc i) (suc j) q at_i at_j in omega (arith, e)),
)

-- a map has no more pages than there are
pub few_pages : (ps : List ℕ) (capacity : ℕ) → IsOnce ps → ((p : ℕ) → Contains ps p → p < capacity) → length ps ≤ capacity
few_pages ps capacity once within =
    length-le_from_distinct_below ps capacity (once_distinct ps once)
    (λ q found. within q (Contains-from_any (λ x y. (Decides-eqb x y).0) q ps found))

-- and so it has fewer levels than it may have
pub a_map_is_shallow : (w : Widths) (capacity root : ℕ) (pages : List ℕ) (es : List Item) (bytes : ℕ → List ℕ)
    (map : IsRooted w capacity root pages es bytes) → capacity ≤ MAX_PAGES → map.depth ≤ 20
a_map_is_shallow w capacity root pages es bytes map small =
    let wide : 2 ^ map.depth ≤ length pages =
    subst (λ (ps : List ℕ). 2 ^ map.depth ≤ length ps) map.pages_are (a_tree_is_wide w bytes map.depth root map.tree) in
    let few : length pages ≤ capacity = few_pages pages capacity map.once (λ p here. (map.within p here).1) in
    by_size map.depth (omega (arith, wide, few, small))
  where
    by_size : (d : ℕ) → 2 ^ d ≤ 1048576 → d ≤ 20
    by_size d least = elim (cases_lt d 21) [
      | inl fits ↦ omega (arith, fits)
      | inr deep ↦ let positive : 0 < 2 = omega arith in let power : 2 ^ 21 ≤ 2 ^ d = pow-le-pow_right positive deep in
          absurd (omega (arith, power, least))
    ]
