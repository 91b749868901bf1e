-- What the program's actions stand for, and its reading of the board.
use Rattle.std.proofs.Common.{◌≡◌, ℕ, ◌<◌, ◌≤◌, ◌==◌, Bool, true, false, cond, List, [], ◌∷◌, ◌++◌, length, get_or, take, map, find, Option, Some, None, option_map, option_and_then, unwrap_or, slice_get, slice_set, nat_eq, refl, sym, ap, ◌∙◌, subst, arith, append-nil, ℤ, pos, negsuc, nat_abs, w64, to_z, of_z, Contains, length-set, drop_of_length-le}
use Rattle.std.specs.List.{refill, IsAnyAnswer}
use Rattle.std.specs.Bool.{OnTrue}
use Rattle.std.proofs.lemmas.Bool.{eqb-true}
use Rattle.std.proofs.lemmas.List.{take_all, length-map, get_or-map}
use Rattle.std.proofs.lemmas.Option.{slice_get-get_or}
use Rattle.std.proofs.lemmas.Int.{ints, to_z-of_z}
use lib.Signed.{le_z}
use mir.Val.{SFits}
use Rattle.rbg_game.specs.Expressions.{Expression, value_of}
use Rattle.rbg_game.specs.Rules as textbook
use Rattle.rbg_game.specs.Games as textbook'
use Rattle.rbg_game.specs.Games.{Arrow, neighbour, bound_of}
use Rattle.rbg_game.specs.Meaning.{arrow_of, vertex_of, variable_of, game_of}
use Rattle.rbg_game.specs.declared.game.Game.{Game}
use Rattle.rbg_game.specs.declared.game.Vertex.{Vertex}
use Rattle.rbg_game.specs.declared.game.Variable.{Variable}
use Rattle.rbg_game.specs.declared.position.SemiState.{SemiState}
use Rattle.legal_moves.specs.Effects.{Effect}

find_step : {X Y : Type 0} (p : Y → Bool) (f : X → Y) (x : X) (t : Bool) (o : Option Y) (q : Option X) → o ≡ option_map f q
    → cond t (Some (f x)) o ≡ option_map f (cond t (Some x) q)
find_step p f x true o q h = refl
find_step p f x false o q h = h

find-map : {X Y : Type 0} (p : Y → Bool) (f : X → Y) (xs : List X) → find p (map f xs) ≡ option_map f (find (λ x. p (f x)) xs)
find-map p f [] = refl
find-map p f (x ∷ xs) = find_step p f x (p (f x)) (find p (map f xs)) (find (λ y. p (f y)) xs) (find-map p f xs)

option_map-twice : {X Y Z : Type 0} (f : X → Y) (g : Y → Z) (o : Option X) → option_map g (option_map f o) ≡ option_map (λ x. g (f x)) o
option_map-twice f g None = refl
option_map-twice f g (Some x) = refl

slice_get-map : {X Y : Type 0} (f : X → Y) (xs : List X) (i : ℕ) (x : X) → i < length xs → x ≡ get_or xs i x → slice_get (map f xs) i ≡ Some (f x)
slice_get-map f xs i x within same =
    slice_get-get_or (map f xs) i (f x) (omega (arith, length-map xs f))
    ∙ ap Some (get_or-map f xs i x (f x) within ∙ ap f (sym same))

-- where a label leads from the vertex at an index
pub neighbour_is : (game : Game) (from label : ℕ) (v : Vertex) → from < length game.vertices.items → v ≡ get_or game.vertices.items from v
    → neighbour (game_of game) from label ≡ option_map (λ a. a.to) (find (λ a. a.label == label) v.arrows.items)
neighbour_is game from label v within same =
    ap (option_and_then (λ x. option_map (λ a. a.to) (find (λ a. a.label == label) x.arrows))) (slice_get-map vertex_of game.vertices.items from v within same)
    ∙ ap (option_map (λ a. a.to)) (find-map (λ a. a.label == label) arrow_of v.arrows.items)
    ∙ option_map-twice arrow_of (λ a. a.to) (find (λ a. a.label == label) v.arrows.items)

pub bound_is : (game : Game) (i : ℕ) (v : Variable) → i < length game.variables.items → v ≡ get_or game.variables.items i v
    → bound_of (game_of game) i ≡ v.bound
bound_is game i v within same =
    ap (λ o. unwrap_or (option_map (λ x. x.bound) o) 0) (slice_get-map variable_of game.variables.items i v within same)

-- a write through the slice of an `ArrayVec`
pub refill-set : (xs ys : List ℕ) (i v : ℕ) → ys ≡ xs → refill (length xs) xs (slice_set ys i v) ≡ slice_set xs i v
refill-set xs ys i v same =
    let kept : length (slice_set ys i v) ≡ length xs = length-set ys i v ∙ ap length same in
    ap (λ zs. take (length xs) (slice_set ys i v ++ zs)) (drop_of_length-le xs (omega arith))
    ∙ ap (take (length xs)) (append-nil (slice_set ys i v))
    ∙ take_all (length xs) (slice_set ys i v) (omega arith)
    ∙ ap (λ zs. slice_set zs i v) same

pub contains : (xs : List ℕ) (x : ℕ) (r : Bool) → IsAnyAnswer (λ y b. nat_eq y x ≡ b) xs r → OnTrue r (Contains xs x)
contains xs x true h = (h.0, h.1, eqb-true (get_or xs h.0 x) x (h.2 x))
contains xs x false h = tt

pub OnTrue-along : (r : Bool) (P Q : Type 0) → (P → Q) → OnTrue r P → OnTrue r Q
OnTrue-along true P Q f h = f h
OnTrue-along false P Q f h = tt

-- an assignment, by the tests of the program
module _ (game : textbook'.Game) (S : SemiState) (v : ℕ) (r : Expression) where
  assigns-by_tests : (z : ℤ) → z ≡ value_of S.values.items r → le_z (pos 0) z ≡ true → le_z z (pos (bound_of game v)) ≡ true
      → Effect game (textbook.assignment v r) S (record S { values = record { items = slice_set S.values.items v (nat_abs z) } })
  assigns-by_tests (pos n) e low high = (n, sym e, grind (arith, ints), refl)
  assigns-by_tests (negsuc n) e low high = absurd (cc)

  pub assigns : (z b : ℤ) (xs : List ℕ) → SFits w64 z → z ≡ value_of S.values.items r → le_z (pos 0) (to_z w64 (of_z w64 z)) ≡ true
      → le_z (to_z w64 (of_z w64 z)) b ≡ true → b ≡ pos (bound_of game v)
      → xs ≡ slice_set S.values.items v (nat_abs (to_z w64 (of_z w64 z)))
      → Effect game (textbook.assignment v r) S (record S { values = record { items = xs } })
  assigns z b xs fits e low high bound written =
      let same : to_z w64 (of_z w64 z) ≡ z = to_z-of_z w64 z fits in
      let low' : le_z (pos 0) z ≡ true = subst (λ y. le_z (pos 0) y ≡ true) same low in
      let high' : le_z z (pos (bound_of game v)) ≡ true = subst (λ y. le_z y (pos (bound_of game v)) ≡ true) same
      (subst (λ y. le_z (to_z w64 (of_z w64 z)) y ≡ true) bound high) in
      subst (λ ys. Effect game (textbook.assignment v r) S (record S { values = record { items = ys } }))
      (sym (written ∙ ap (λ y. slice_set S.values.items v (nat_abs y)) same))
      (assigns-by_tests z e low' high')

  pub not_below : (z : ℤ) (T : SemiState) → z ≡ value_of S.values.items r → Effect game (textbook.assignment v r) S T → le_z (pos 0) z ≡ false → ⊥
  not_below (pos n) T e h low = grind (arith, ints)
  not_below (negsuc n) T e h low = let never : negsuc n ≡ pos h.0 = e ∙ h.1 in cc

  pub not_above : (z : ℤ) (T : SemiState) → z ≡ value_of S.values.items r → Effect game (textbook.assignment v r) S T
      → le_z z (pos (bound_of game v)) ≡ false → ⊥
  not_above z T e h high =
      let same : z ≡ pos h.0 = e ∙ h.1 in
      let within : h.0 ≤ bound_of game v = h.2 in
      let never : le_z (pos h.0) (pos (bound_of game v)) ≡ false = subst (λ y. le_z y (pos (bound_of game v)) ≡ false) same high in
      grind (arith, ints)
