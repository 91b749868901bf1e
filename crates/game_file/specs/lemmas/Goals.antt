-- The number of a goal in a slot.
use Rattle.std.specs.Prelude.{◌≡◌, if◌then◌else◌, ℕ, Bool, true, false, nat_lt, List}
use Rattle.std.proofs.Common.{refl, sym, inl, inr, arith}
use Rattle.std.proofs.lemmas.Bool.{ltb-true, ltb-false}
use Rattle.game_file.specs.Fields.{word_at, layout_in, goal_number_in, HasPlaceFor}

-- one of two numbers
chosen : (b : Bool) (word number : ℕ) → word ≡ number → (b ≡ true → number ≡ 0) → (if b then 0 else word) ≡ number
chosen true word number is none = sym (none refl)
chosen false word number is none = is

-- the number that stands there is that of the goal, where the layout has a place for it
pub goal_is : (root : List ℕ) (number : ℕ) → word_at root 72 ≡ number → HasPlaceFor (layout_in root) number → goal_number_in root ≡ number
goal_is root number is (inl late) =
    chosen (nat_lt (layout_in root) 3) (word_at root 72) number is (λ low. absurd (omega (arith, late, ltb-true (layout_in root) 3 low)))
goal_is root number is (inr none) = chosen (nat_lt (layout_in root) 3) (word_at root 72) number is (λ low. none)

-- a slot has a place for the goal that it tells
pub goal_has_place : (root : List ℕ) → HasPlaceFor (layout_in root) (goal_number_in root)
goal_has_place root = at (nat_lt (layout_in root) 3) refl
  where
    at : (b : Bool) → nat_lt (layout_in root) 3 ≡ b → HasPlaceFor (layout_in root) (if b then 0 else word_at root 72)
    at true low = inr refl
    at false high = inl (ltb-false (layout_in root) 3 high)
