-- Lists that grow, and lists that are gone over.
use Rattle.std.proofs.Common.{◌≡◌, ◌∙◌, sym, ap, subst, ℕ, ◌+◌, ◌<◌, ⊎_elim, Option, Some, None, IfSome, List, [], ◌∷◌, ◌++◌, length, map, get_or, arith, slice_get, refl}
use Rattle.std.specs.Prelude.{IfNone, IsSome}
use Rattle.std.proofs.lemmas.Bool.{cases_lt}
use Rattle.std.proofs.lemmas.Option.{slice_get-get_or, same_Some}
use Rattle.std.proofs.lemmas.List.{get_or-map, length-map}
use Rattle.rbg_game.specs.declared.roles.Player.{Player}
use Rattle.retrograde.specs.View.{View, HasNumber, HasValue}
use Rattle.retrograde.proofs.Additions.{push_cases}
use Rattle.best_line.specs.lemmas.Lines.{IsFirstWon}

-- what holds of each row and of the one that is pushed holds of each row then
pub each_push : {A : Type 0} (Holds : ℕ → A → Type 0) (rows pushed : List A) (row : A) → pushed ≡ rows ++ row ∷ []
    → ((k : ℕ) (r : A) → slice_get rows k ≡ Some r → Holds k r) → Holds (length rows) row → (k : ℕ) (r : A) → slice_get pushed k ≡ Some r → Holds k r
each_push {A} Holds rows pushed row is before now k r at =
    ⊎_elim
    (λ early. before k r early)
    (λ (place, same). subst (λ (q : A). Holds k q) same (subst (λ (m : ℕ). Holds m row) (sym place) now))
    (push_cases rows row k r (subst (λ (xs : List A). slice_get xs k ≡ Some r) is at))

-- the element of a list that a loop has come to
pub item_at : {A P : Type 0} (f : A → P) (items : List A) (i : ℕ) (x : A) → i < length items → x ≡ get_or items i x → slice_get (map f items) i ≡ Some (f x)
item_at f items i x within is =
    let longer : i < length (map f items) = let same : length (map f items) ≡ length items = length-map items f in omega arith in
    slice_get-get_or (map f items) i (f x) longer ∙ ap (λ y. Some y) (get_or-map f items i x (f x) within ∙ ap f (sym is))

module _ {P : Type 0} (view : View P) (ys : List P) (w : Player) (n i : ℕ) (y : P) (at : slice_get ys i ≡ Some y)
    (passed : (k : ℕ) (z : P) → k < i → slice_get ys k ≡ Some z → HasValue view z w n → ⊥) where
  -- what is found here is the first
  pub found_first : (found : Option ℕ) → IfSome found (λ j. HasNumber view j y × (view.value j ≡ Some (w, n))) → IfSome found (IsFirstWon view ys w n)
  found_first None is = tt
  found_first (Some j) (number, value) = record { place = i; position = y; at = at; number = number; value = value; first = passed }

  -- where nothing is found here, it is passed too
  pub pass_on : (HasValue view y w n → ⊥) → (k : ℕ) (z : P) → k < i + 1 → slice_get ys k ≡ Some z → HasValue view z w n → ⊥
  pass_on none k z less here has =
      ⊎_elim
      (λ before. passed k z before here has)
      (λ later.
      let same : k ≡ i = omega arith in
      let is : z ≡ y = same_Some z y (sym here ∙ (ap (λ (m : ℕ). slice_get ys m) same ∙ at)) in
      none (subst (λ (u : P). HasValue view u w n) is has))
      (cases_lt k i)

-- nothing was found
pub none_here : {A : Type 0} (C : Type 0) (found : Option A) → (IsSome found → ⊥) → IfNone found C → C
none_here C None none is = is
none_here C (Some x) none is = absurd (none refl)
