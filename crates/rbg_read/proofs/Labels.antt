-- Labels that are kept where they are new are the first appearances.
use Rattle.std.proofs.Common.{◌≡◌, Bool, true, false, cond, not, ◌||◌, List, [], ◌∷◌, ◌++◌, map, filter, fold, inl, inr, refl, sym, ap, ◌∙◌}
use Rattle.std.specs.List.{list_any, flat_map}
use Rattle.std.specs.Str.{bytes_eq}
use Rattle.std.proofs.lemmas.Bool.{cases_Bool}
use Rattle.std.proofs.lemmas.List.{append_assoc, append-nil}
use Rattle.std.proofs.lemmas.List.Folds.{list_any-append}
use Rattle.std.proofs.lemmas.Slice.Eq.{bytes_eq-Decides}
use Rattle.rbg_text.specs.Token.{Text}
use Rattle.rbg_read.specs.Means.{first_appearances}
use Rattle.rbg_text.specs.Said.{arrow_view, vertex_view}
use Rattle.rbg_text.specs.declared.sections.Vertex.{Vertex}
use Rattle.rbg_read.specs.lemmas.Parts.{labels_in, with_label}
use Rattle.rbg_read.proofs.Lists.{map_map}

is_new : List Text → Text → Bool
is_new seen y = not (list_any (bytes_eq y) seen)

-- two tests in a row keep what one test keeps
both : {X : Type 0} (p q r : X → Bool) → ((x : X) → q x ≡ true → p x ≡ r x) → ((x : X) → q x ≡ false → r x ≡ false) → (xs : List X)
    → filter p (filter q xs) ≡ filter r xs
both p q r same none [] = refl
both p q r same none (x ∷ xs) = elim (cases_Bool (q x)) [
  | inl is ↦ rw (is, same x is) (ap (λ ys. cond (r x) (x ∷ ys) ys) (both p q r same none xs))
  | inr isnt ↦ rw (isnt, none x isnt) (both p q r same none xs)
]

equal : (x y : Text) → bytes_eq x y ≡ true → bytes_eq y x ≡ true
equal x y is = (bytes_eq-Decides y x).1 (sym ((bytes_eq-Decides x y).0 is))

unequal : (x y : Text) → bytes_eq x y ≡ false → bytes_eq y x ≡ false
unequal x y isnt = elim (cases_Bool (bytes_eq y x)) [
  | inl is ↦ (let back = equal y x is in absurd (cc))
  | inr off ↦ off
]

is_new-push : (seen : List Text) (x y : Text) → list_any (bytes_eq y) (seen ++ x ∷ []) ≡ (list_any (bytes_eq y) seen || (bytes_eq y x || false))
is_new-push seen x y = list_any-append (bytes_eq y) seen (x ∷ [])

or_false : (b : Bool) → (b || false) ≡ b
or_false true = refl
or_false false = refl

or_true : (b : Bool) → (b || true) ≡ true
or_true true = refl
or_true false = refl

not_is : (b : Bool) → not b ≡ true → b ≡ false
not_is true h = absurd (cc)
not_is false h = refl

not_isnt : (b : Bool) → not b ≡ false → b ≡ true
not_isnt true h = refl
not_isnt false h = absurd (cc)

still_seen : (seen : List Text) (x y : Text) → list_any (bytes_eq x) seen ≡ true → not (bytes_eq x y) ≡ false → is_new seen y ≡ false
unfolding is_new
still_seen seen x y is h =
    let same : x ≡ y = (bytes_eq-Decides x y).0 (not_isnt (bytes_eq x y) h) in
    ap (λ w. not (list_any (bytes_eq w) seen)) (sym same) ∙ ap not is

new_apart : (seen : List Text) (x y : Text) → not (bytes_eq x y) ≡ true → is_new seen y ≡ is_new (seen ++ x ∷ []) y
unfolding is_new
new_apart seen x y h =
    let off = unequal x y (not_is (bytes_eq x y) h) in
    ap not (sym (is_new-push seen x y ∙ ap (λ b. list_any (bytes_eq y) seen || (b || false)) off ∙ or_false (list_any (bytes_eq y) seen)))

new_same : (seen : List Text) (x y : Text) → not (bytes_eq x y) ≡ false → is_new (seen ++ x ∷ []) y ≡ false
unfolding is_new
new_same seen x y h =
    let on = equal x y (not_isnt (bytes_eq x y) h) in
    ap not (is_new-push seen x y ∙ ap (λ b. list_any (bytes_eq y) seen || (b || false)) on ∙ or_true (list_any (bytes_eq y) seen))

grown : (seen xs : List Text) → fold with_label seen xs ≡ seen ++ filter (is_new seen) (first_appearances xs)
unfolding is_new
grown seen [] = sym (append-nil seen)
grown seen (x ∷ xs) = elim (cases_Bool (list_any (bytes_eq x) seen)) [
  | inl is ↦
      rw is
      (grown seen xs ∙ ap (λ ys. seen ++ ys)
      (sym (both (is_new seen) (λ y. not (bytes_eq x y)) (is_new seen) (λ y h. refl) (λ y h. still_seen seen x y is h) (first_appearances xs))))
  | inr isnt ↦
      rw isnt
      (grown (seen ++ x ∷ []) xs ∙ append_assoc seen (x ∷ []) (filter (is_new (seen ++ x ∷ [])) (first_appearances xs))
      ∙ ap (λ ys. seen ++ x ∷ ys) (sym
      (both (is_new seen) (λ y. not (bytes_eq x y)) (is_new (seen ++ x ∷ [])) (λ y h. new_apart seen x y h) (λ y h. new_same seen x y h)
      (first_appearances xs))))
]

all_new : (ys : List Text) → filter (is_new []) ys ≡ ys
unfolding is_new
all_new [] = refl
all_new (y ∷ ys) = ap (λ zs. y ∷ zs) (all_new ys)

pub labels_are : (xs : List Text) → fold with_label [] xs ≡ first_appearances xs
labels_are xs = grown [] xs ∙ all_new (first_appearances xs)

arrow_labels : (vs : List Vertex) → flat_map (λ v. map (λ a. a.label) v.arrows) (map vertex_view vs) ≡ flat_map (λ v. map (λ a. a.label.now) v.arrows.items) vs
arrow_labels [] = refl
arrow_labels (v ∷ vs) =
    ap (λ ls. ls ++ flat_map (λ v. map (λ a. a.label) v.arrows) (map vertex_view vs)) (map_map (λ a. a.label) arrow_view v.arrows.items)
    ∙ ap (λ ls. map (λ a. a.label.now) v.arrows.items ++ ls) (arrow_labels vs)

-- the labels of the program's vertices
pub labels_said : (vs : List Vertex) → fold with_label [] (flat_map (λ v. map (λ a. a.label.now) v.arrows.items) vs) ≡ labels_in (map vertex_view vs)
labels_said vs = labels_are (flat_map (λ v. map (λ a. a.label.now) v.arrows.items) vs) ∙ ap first_appearances (sym (arrow_labels vs))
