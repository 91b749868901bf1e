use Rattle.std.proofs.Common.{◌≡◌, ◌∷◌, ◌++◌, [], ◌<◌, map, take, length, refl, sym, ap, ◌∙◌, arith}
use Rattle.std.proofs.lemmas.List.{take_all, length-map}
use Rattle.rbg_game.specs.Expressions.{negation, sum_all, product_all}
use Rattle.rbg_game.specs.Meaning.{expression_of}
use Rattle.rbg_game.proofs.MeaningLemmas.{expression_of-Negation, expression_of-Sum, expression_of-Product}
use Rattle.legal_moves.proofs.ActionLemmas.{OnTrue-along}
use Rattle.legal_moves.proofs.automata.AlikeLemmas.{take_map-more}
use Rattle.legal_moves.proofs.automata.ReadyLemmas.{OnTrue-at}
use Rattle.legal_moves.proofs.automaton.same.+numbers.Goals as goal

pub are_all_same_numbers-loop-at-preserved : goal.are_all_same_numbers-loop-at-preserved
are_all_same_numbers-loop-at-preserved t c =
    let xs = c.args.left.now in
    let ys = c.args.right.now in
    let i = c.loop-at.at in
    let x = c.index-left-at.result in
    let y = c.index-right-at.result in
    let inside : i < length ys = omega (arith, c.loop-at-test.true, c.if-left-right.false) in
    let left = take_map-more expression_of xs i x c.loop-at-test.true c.index-left-at.is in
    let right = take_map-more expression_of ys i y inside c.index-right-at.is in
    let same : expression_of x ≡ expression_of y = OnTrue-at c.are_same_numbers.result _ c.if-not-are_same_numbers.false c.are_same_numbers.ensures in
    left ∙ ap (λ es. es ++ expression_of x ∷ []) c.loop-at.invariant ∙ ap (λ e. take i (map expression_of ys) ++ e ∷ []) same ∙ sym right

pub are_same_numbers-returns-in-Sum-Sum : goal.are_same_numbers-returns-in-Sum-Sum
are_same_numbers-returns-in-Sum-Sum t c =
    let left = ap expression_of c.in-Sum-Sum.is-0 ∙ expression_of-Sum c.in-Sum-Sum.left in
    let right = ap expression_of c.in-Sum-Sum.is-1 ∙ expression_of-Sum c.in-Sum-Sum.right in
    OnTrue-along c.are_all_same_numbers.result _ _
    (λ h. left ∙ ap sum_all (ap (map expression_of) (sym c.deref-in-Sum-Sum.ensures.value) ∙ h
    ∙ ap (map expression_of) c.deref-in-Sum-Sum-2.ensures.value) ∙ sym right) c.are_all_same_numbers.ensures

pub are_same_numbers-returns-in-Product-Product : goal.are_same_numbers-returns-in-Product-Product
are_same_numbers-returns-in-Product-Product t c =
    let left = ap expression_of c.in-Product-Product.is-0 ∙ expression_of-Product c.in-Product-Product.left in
    let right = ap expression_of c.in-Product-Product.is-1 ∙ expression_of-Product c.in-Product-Product.right in
    OnTrue-along c.are_all_same_numbers-in-Product-Product.result _ _
    (λ h. left ∙ ap product_all (ap (map expression_of) (sym c.deref-in-Product-Product.ensures.value) ∙ h
    ∙ ap (map expression_of) c.deref-in-Product-Product-2.ensures.value) ∙ sym right) c.are_all_same_numbers-in-Product-Product.ensures

pub are_same_numbers-returns-in-Negation-Negation : goal.are_same_numbers-returns-in-Negation-Negation
are_same_numbers-returns-in-Negation-Negation t c =
    let left = ap expression_of c.in-Negation-Negation.is-0 ∙ expression_of-Negation c.in-Negation-Negation.left in
    let right = ap expression_of c.in-Negation-Negation.is-1 ∙ expression_of-Negation c.in-Negation-Negation.right in
    OnTrue-along c.are_same_numbers.result _ _
    (λ h. left ∙ ap negation (ap expression_of (sym c.deref.ensures) ∙ h ∙ ap expression_of c.deref-in-Negation-Negation.ensures)
    ∙ sym right) c.are_same_numbers.ensures

pub are_all_same_numbers-returns-then-left-right : goal.are_all_same_numbers-returns-then-left-right
are_all_same_numbers-returns-then-left-right t c = tt

pub are_all_same_numbers-returns-then-not-are_same_numbers : goal.are_all_same_numbers-returns-then-not-are_same_numbers
are_all_same_numbers-returns-then-not-are_same_numbers t c = tt

pub are_all_same_numbers-loop-at-init : goal.are_all_same_numbers-loop-at-init
are_all_same_numbers-loop-at-init t c = refl

pub are_all_same_numbers-returns : goal.are_all_same_numbers-returns
are_all_same_numbers-returns t c =
    let xs = map expression_of c.args.left.now in
    let ys = map expression_of c.args.right.now in
    let left = length-map c.args.left.now expression_of in
    let right = length-map c.args.right.now expression_of in
    sym (take_all c.loop-at.at xs (omega (arith, left, c.loop-at-test.false))) ∙ c.loop-at.invariant
    ∙ take_all c.loop-at.at ys (omega (arith, right, c.loop-at-test.false, c.if-left-right.false))
