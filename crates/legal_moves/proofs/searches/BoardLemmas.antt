-- Boards that stand one behind the other are found by their numbers.
use Rattle.std.proofs.Common.{◌≡◌, ℕ, zero, suc, ◌+◌, ◌*◌, ◌<◌, ◌≤◌, List, [], ◌∷◌, ◌++◌, length, take, drop, Some, slice_get, unwrap_or, slice_range, refl, sym, ap, ◌∙◌, arith}
use Rattle.std.proofs.lemmas.List.{take-append-le, drop-append-le, drop-drop, take_all, length-take-le, length-drop}
use Rattle.std.proofs.Math.Nat.{mul-le-mul}
use Rattle.legal_moves.specs.lemmas.Boards.{board_of, board_at, boards_from, boards_in, AreWhole, IsAsLarge}
use Rattle.legal_moves.specs.declared.search.boards.Boards.{Boards}

-- ---- their number

pub count_boards : (v w n : ℕ) (ps xs : List ℕ) → length (boards_from v w n ps xs) ≡ n
count_boards v w zero ps xs = refl
count_boards v w (suc n) ps xs = ap suc (count_boards v w n (drop v ps) (drop w xs))

-- ---- the one with a number

drop_further : (xs : List ℕ) (v i : ℕ) → drop (i * v) (drop v xs) ≡ drop (suc i * v) xs
drop_further xs v i = drop-drop (i * v) v xs ∙ ap (λ k. drop k xs) (omega (arith))

pub board_number : (v w n : ℕ) (ps xs : List ℕ) (i : ℕ) → i < n
    → slice_get (boards_from v w n ps xs) i ≡ Some (board_of (take v (drop (i * v) ps)) (take w (drop (i * w) xs)))
board_number v w zero ps xs i h = absurd (omega (arith, h))
board_number v w (suc n) ps xs zero h =
    let none : 0 ≡ 0 * v = omega arith in
    let nothing : 0 ≡ 0 * w = omega arith in
    ap (λ k. Some (board_of (take v (drop k ps)) (take w xs))) none ∙ ap (λ k. Some (board_of (take v (drop (0 * v) ps)) (take w (drop k xs)))) nothing
board_number v w (suc n) ps xs (suc i) h =
    board_number v w n (drop v ps) (drop w xs) i (omega (arith, h))
    ∙ ap (λ ys. Some (board_of (take v ys) (take w (drop (i * w) (drop w xs))))) (drop_further ps v i)
    ∙ ap (λ ys. Some (board_of (take v (drop (suc i * v) ps)) (take w ys))) (drop_further xs w i)

pub many_boards : (b : Boards) → length (boards_in b) ≡ b.count
many_boards b = count_boards b.vertices b.variables b.count b.pieces.items b.values.items

-- ---- the place of a board

pub place_fits : (board count stride : ℕ) → board < count → board * stride + stride ≤ count * stride
place_fits board count stride h =
    let more : (board + 1) * stride ≤ count * stride = mul-le-mul (omega (arith, h)) (omega arith) in
    omega (arith, more)

pub part_is : (xs : List ℕ) (from stride : ℕ) → slice_range xs from (from + stride) ≡ take stride (drop from xs)
part_is xs from stride = ap (λ k. take k (drop from xs)) (omega arith)

pub part_long : (xs : List ℕ) (from stride : ℕ) → from + stride ≤ length xs → length (take stride (drop from xs)) ≡ stride
part_long xs from stride h = length-take-le stride (drop from xs) (omega (arith, h, length-drop from xs))

-- ---- one board more

pub boards_push : (v w n : ℕ) (ps xs ps' xs' : List ℕ) → length ps ≡ n * v → length xs ≡ n * w → length ps' ≡ v → length xs' ≡ w
    → boards_from v w (suc n) (ps ++ ps') (xs ++ xs') ≡ boards_from v w n ps xs ++ board_of ps' xs' ∷ []
boards_push v w zero [] [] ps' xs' hp hx hp' hx' =
    ap (λ ys. board_of ys (take w xs') ∷ []) (take_all v ps' (omega (arith, hp'))) ∙ ap (λ ys. board_of ps' ys ∷ []) (take_all w xs' (omega (arith, hx')))
boards_push v w zero (y ∷ ps) xs ps' xs' hp hx hp' hx' = absurd (omega (arith, hp))
boards_push v w zero [] (y ∷ xs) ps' xs' hp hx hp' hx' = absurd (omega (arith, hx))
boards_push v w (suc n) ps xs ps' xs' hp hx hp' hx' =
    let some_p : v ≤ length ps = omega (arith, hp) in
    let some_x : w ≤ length xs = omega (arith, hx) in
    let rest_p : length (drop v ps) ≡ n * v = omega (arith, hp, length-drop v ps) in
    let rest_x : length (drop w xs) ≡ n * w = omega (arith, hx, length-drop w xs) in
    ap (λ ys. board_of ys (take w (xs ++ xs')) ∷ boards_from v w (suc n) (drop v (ps ++ ps')) (drop w (xs ++ xs'))) (take-append-le v ps ps' some_p)
    ∙ ap (λ ys. board_of (take v ps) ys ∷ boards_from v w (suc n) (drop v (ps ++ ps')) (drop w (xs ++ xs'))) (take-append-le w xs xs' some_x)
    ∙ ap (λ ys. board_of (take v ps) (take w xs) ∷ boards_from v w (suc n) ys (drop w (xs ++ xs'))) (drop-append-le v ps ps' some_p)
    ∙ ap (λ ys. board_of (take v ps) (take w xs) ∷ boards_from v w (suc n) (drop v ps ++ ps') ys) (drop-append-le w xs xs' some_x)
    ∙ ap (λ bs. board_of (take v ps) (take w xs) ∷ bs) (boards_push v w n (drop v ps) (drop w xs) ps' xs' rest_p rest_x hp' hx')

-- ---- of boards that are whole

module _ (b : Boards) (whole : AreWhole b) (i : ℕ) (inside : i < b.count) where
  pub board_here : board_at (boards_in b) i ≡ board_of (take b.vertices (drop (i * b.vertices) b.pieces.items))
      (take b.variables (drop (i * b.variables) b.values.items))
  board_here = ap (λ o. unwrap_or o (board_of [] [])) (board_number b.vertices b.variables b.count b.pieces.items b.values.items i inside)

  pub pieces_inside : i * b.vertices + b.vertices ≤ length b.pieces.items
  pieces_inside = omega (arith, place_fits i b.count b.vertices inside, whole.pieces_are)

  pub values_inside : i * b.variables + b.variables ≤ length b.values.items
  values_inside = omega (arith, place_fits i b.count b.variables inside, whole.values_are)

  pub pieces_here : slice_range b.pieces.items (i * b.vertices) (i * b.vertices + b.vertices) ≡ (board_at (boards_in b) i).pieces.items
  pieces_here = part_is b.pieces.items (i * b.vertices) b.vertices ∙ sym (ap (λ S. S.pieces.items) board_here)

  pub values_here : slice_range b.values.items (i * b.variables) (i * b.variables + b.variables) ≡ (board_at (boards_in b) i).values.items
  values_here = part_is b.values.items (i * b.variables) b.variables ∙ sym (ap (λ S. S.values.items) board_here)

  pub as_large : IsAsLarge b (board_at (boards_in b) i)
  as_large = record {
    pieces_are = ap (λ S. length S.pieces.items) board_here ∙ part_long b.pieces.items (i * b.vertices) b.vertices pieces_inside;
    values_are = ap (λ S. length S.values.items) board_here ∙ part_long b.values.items (i * b.variables) b.variables values_inside;
  }
