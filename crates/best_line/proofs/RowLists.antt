-- Lists of rows, one after another.
use Rattle.std.proofs.Common.{◌≡◌, ◌∙◌, ℕ, zero, suc, ◌+◌, ◌-◌, ◌⊎◌, inl, inr, ⊎_elim, min, List, [], ◌∷◌, ◌++◌, length, Some, arith, slice_get, length-append}
use Rattle.retrograde.specs.View.{View}
use Rattle.best_line.specs.declared.answers.Row.{Row}
use Rattle.best_line.specs.Rows.{AreRows}

-- an element of two lists is one of the first, or one of the second, so much further on
pub either_list : {A : Type 0} (xs ys : List A) (k : ℕ) (x : A) → slice_get (xs ++ ys) k ≡ Some x
    → (slice_get xs k ≡ Some x) ⊎ ((j : ℕ) × (k ≡ length xs + j) × (slice_get ys j ≡ Some x))
either_list [] ys k x h = inr (k, omega arith, h)
either_list (y ∷ xs) ys zero x h = inl h
either_list (y ∷ xs) ys (suc k) x h =
    ⊎_elim (λ early. inl early) (λ (j, place, at). inr (j, omega (arith, place), at)) (either_list xs ys k x h)

-- this many rows there are of both
joined_length : (from one two known a b : ℕ) → a ≡ min one (known - from) → b ≡ min two (known - (from + a)) → a + b ≡ min (one + two) (known - from)
joined_length from one two known a b first then = omega arith

-- lists cut anywhere join
pub rows_join : {P : Type 0} (view : View P) (from one two : ℕ) (first then : List Row) → AreRows view from one first
    → AreRows view (from + length first) two then
    → AreRows view from (one + two) (first ++ then)
rows_join view from one two first then a b = record {
  all =
      length-append first then
      ∙ joined_length from one two (length view.known) (length first) (length then) a.all b.all;
  numbers = λ k row at.
      ⊎_elim
      (λ early. a.numbers k row early)
      (λ (j, place, late). let here : row.number ≡ from + length first + j = b.numbers j row late in omega (arith, here, place))
      (either_list first then k row at);
  values = λ k row at.
      ⊎_elim (λ early. a.values k row early) (λ (j, place, late). b.values j row late) (either_list first then k row at);
}
