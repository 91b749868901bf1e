-- Which holds need a page.
use Rattle.std.specs.Prelude.{◌≡◌, ◌≢◌, ℕ, ◌<◌, Bool, true, false, ◌||◌, List, length, IsTrue}
use Rattle.std.proofs.Common.{refl, sym, ◌∙◌, ap, arith, inl, inr}
use Rattle.std.proofs.lemmas.Bool.{cases_lt}
use Rattle.std.proofs.lemmas.List.{get_or_past}
use Rattle.page_store.specs.declared.holds.HoldPlace.{HoldPlace}
use Rattle.page_store.specs.declared.holds.HoldPlace.TheVariants.{First, Second, Third, Fourth}
use Rattle.page_store.specs.declared.holds.Holders.{Holders}
use Rattle.page_store.specs.Holds.{Holds, SameHolds, none, needed_by, with_need, any, holders_at}
use Rattle.page_store.specs.Store.{Store, IsHeldBy, IsSoundStore}

-- what was said of this hold
pub need_is : (h : Holders) (place : HoldPlace) (b : Bool) → needed_by (with_need h place b) place ≡ b
need_is h First b = refl
need_is h Second b = refl
need_is h Third b = refl
need_is h Fourth b = refl

-- nothing was said of another
pub other_need : (h : Holders) (place other : HoldPlace) (b : Bool) → place ≢ other → needed_by (with_need h place b) other ≡ needed_by h other
other_need h First First b apart = absurd (apart refl)
other_need h First Second b apart = refl
other_need h First Third b apart = refl
other_need h First Fourth b apart = refl
other_need h Second First b apart = refl
other_need h Second Second b apart = absurd (apart refl)
other_need h Second Third b apart = refl
other_need h Second Fourth b apart = refl
other_need h Third First b apart = refl
other_need h Third Second b apart = refl
other_need h Third Third b apart = absurd (apart refl)
other_need h Third Fourth b apart = refl
other_need h Fourth First b apart = refl
other_need h Fourth Second b apart = refl
other_need h Fourth Third b apart = refl
other_need h Fourth Fourth b apart = absurd (apart refl)

-- none of them needs what none needs
pub none_needs : (place : HoldPlace) → needed_by none place ≡ false
none_needs First = refl
none_needs Second = refl
none_needs Third = refl
none_needs Fourth = refl

-- one of them needs it
some_of : (a b c d : Bool) → IsTrue (a || (b || (c || d)))
    → (place : HoldPlace) × IsTrue (needed_by (record { first = a; second = b; third = c; fourth = d }) place)
some_of true b c d is = (First, refl)
some_of false true c d is = (Second, refl)
some_of false false true d is = (Third, refl)
some_of false false false d is = (Fourth, is)

pub some_need : (h : Holders) → IsTrue (any h) → (place : HoldPlace) × IsTrue (needed_by h place)
some_need h is = some_of h.first h.second h.third h.fourth is

any_of : (a b c d : Bool) (place : HoldPlace) → IsTrue (needed_by (record { first = a; second = b; third = c; fourth = d }) place)
    → IsTrue (a || (b || (c || d)))
any_of true b c d place is = refl
any_of false true c d place is = refl
any_of false false true d place is = refl
any_of false false false true place is = refl
any_of false false false false First is = is
any_of false false false false Second is = is
any_of false false false false Third is = is
any_of false false false false Fourth is = is

pub need_any : (h : Holders) (place : HoldPlace) → IsTrue (needed_by h place) → IsTrue (any h)
need_any h place is = any_of h.first h.second h.third h.fourth place is

-- a page that a hold needs lies before the end
pub need_within : (holders : List Holders) (place : HoldPlace) (p : ℕ) → IsTrue (needed_by (holders_at holders p) place) → p < length holders
need_within holders place p it = elim (cases_lt p (length holders)) [
  | inl within ↦ within
  | inr past ↦ absurd (let no : true ≡ false = sym it ∙ ap (λ (h : Holders). needed_by h place) (get_or_past holders p none past)
      ∙ none_needs place in cc)
]

pub held_within : (store : Store) → IsSoundStore store → (place : HoldPlace) (p : ℕ) → IsHeldBy place store p → p < length store.marks
held_within store sound place p held = omega (arith, need_within store.holds.of place p held.1, sound.holds.same_length)

-- holds that are as they were
pub same_holds : {old new : Holds} → new ≡ old → SameHolds old new
same_holds same = record { taken = ap (λ (h : Holds). h.taken) same; each = λ p. ap (λ (h : Holds). holders_at h.of p) same }

pub same_holds_then : {old mid new : Holds} → SameHolds old mid → SameHolds mid new → SameHolds old new
same_holds_then first second = record { taken = second.taken ∙ first.taken; each = λ p. second.each p ∙ first.each p }

-- a page that a hold needs it needs still
pub held_still : (old new : Store) → SameHolds old.holds new.holds → (place : HoldPlace) (p : ℕ) → IsHeldBy place old p → IsHeldBy place new p
held_still old new same place p held = (held.0, ap (λ (h : Holders). needed_by h place) (same.each p) ∙ held.1)
