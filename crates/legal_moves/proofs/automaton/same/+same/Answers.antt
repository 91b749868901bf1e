use Rattle.std.proofs.Common.{◌≡◌, ◌∷◌, ◌++◌, [], ◌<◌, map, take, length, refl, sym, ap, ◌∙◌, arith}
use Rattle.std.proofs.lemmas.List.{take_all, length-map}
use Rattle.rbg_game.specs.Rules.{one, star, cat_all, alt_all}
use Rattle.rbg_game.specs.Meaning.{regex_of}
use Rattle.rbg_game.proofs.MeaningLemmas.{regex_of-Action, regex_of-Concat, regex_of-Sum, regex_of-Star}
use Rattle.legal_moves.proofs.ActionLemmas.{OnTrue-along}
use Rattle.legal_moves.proofs.automata.AlikeLemmas.{take_map-more}
use Rattle.legal_moves.proofs.automata.ReadyLemmas.{OnTrue-at}
use Rattle.legal_moves.proofs.automaton.same.+same.Goals as goal

pub are_all_same-loop-at-preserved : goal.are_all_same-loop-at-preserved
are_all_same-loop-at-preserved t c =
    let xs = c.args.left.now in
    let ys = c.args.right.now in
    let i = c.loop-at.at in
    let x = c.index-left-at.result in
    let y = c.index-right-at.result in
    let inside : i < length ys = omega (arith, c.loop-at-test.true, c.if-left-right.false) in
    let left = take_map-more regex_of xs i x c.loop-at-test.true c.index-left-at.is in
    let right = take_map-more regex_of ys i y inside c.index-right-at.is in
    let same : regex_of x ≡ regex_of y = OnTrue-at c.are_same.result _ c.if-not-are_same.false c.are_same.ensures in
    left ∙ ap (λ es. es ++ regex_of x ∷ []) c.loop-at.invariant ∙ ap (λ e. take i (map regex_of ys) ++ e ∷ []) same ∙ sym right

pub are_same-returns-in-Concat-Concat : goal.are_same-returns-in-Concat-Concat
are_same-returns-in-Concat-Concat t c =
    let left = ap regex_of c.in-Concat-Concat.is-0 ∙ regex_of-Concat c.in-Concat-Concat.left in
    let right = ap regex_of c.in-Concat-Concat.is-1 ∙ regex_of-Concat c.in-Concat-Concat.right in
    OnTrue-along c.are_all_same.result _ _
    (λ h. left ∙ ap cat_all (ap (map regex_of) (sym c.deref.ensures.value) ∙ h ∙ ap (map regex_of) c.deref-in-Concat-Concat.ensures.value)
    ∙ sym right) c.are_all_same.ensures

pub are_same-returns-in-Sum-Sum : goal.are_same-returns-in-Sum-Sum
are_same-returns-in-Sum-Sum t c =
    let left = ap regex_of c.in-Sum-Sum.is-0 ∙ regex_of-Sum c.in-Sum-Sum.left in
    let right = ap regex_of c.in-Sum-Sum.is-1 ∙ regex_of-Sum c.in-Sum-Sum.right in
    OnTrue-along c.are_all_same-in-Sum-Sum.result _ _
    (λ h. left ∙ ap alt_all (ap (map regex_of) (sym c.deref-in-Sum-Sum.ensures.value) ∙ h
    ∙ ap (map regex_of) c.deref-in-Sum-Sum-2.ensures.value) ∙ sym right) c.are_all_same-in-Sum-Sum.ensures

pub are_same-returns-in-Star-Star : goal.are_same-returns-in-Star-Star
are_same-returns-in-Star-Star t c =
    let left = ap regex_of c.in-Star-Star.is-0 ∙ regex_of-Star c.in-Star-Star.left in
    let right = ap regex_of c.in-Star-Star.is-1 ∙ regex_of-Star c.in-Star-Star.right in
    OnTrue-along c.are_same.result _ _
    (λ h. left ∙ ap star (ap regex_of (sym c.deref-in-Star-Star.ensures) ∙ h ∙ ap regex_of c.deref-in-Star-Star-2.ensures) ∙ sym right) c.are_same.ensures

pub are_same-returns-in-Action-Action : goal.are_same-returns-in-Action-Action
are_same-returns-in-Action-Action t c =
    let left = ap regex_of c.in-Action-Action.is-0 ∙ regex_of-Action c.in-Action-Action.left in
    let right = ap regex_of c.in-Action-Action.is-1 ∙ regex_of-Action c.in-Action-Action.right in
    OnTrue-along c.are_same_actions.result _ _ (λ h. left ∙ ap one h ∙ sym right) c.are_same_actions.ensures

pub are_all_same-returns-then-left-right : goal.are_all_same-returns-then-left-right
are_all_same-returns-then-left-right t c = tt

pub are_all_same-returns-then-not-are_same : goal.are_all_same-returns-then-not-are_same
are_all_same-returns-then-not-are_same t c = tt

pub are_all_same-loop-at-init : goal.are_all_same-loop-at-init
are_all_same-loop-at-init t c = refl

pub are_all_same-returns : goal.are_all_same-returns
are_all_same-returns t c =
    let xs = map regex_of c.args.left.now in
    let ys = map regex_of c.args.right.now in
    let left = length-map c.args.left.now regex_of in
    let right = length-map c.args.right.now regex_of in
    sym (take_all c.loop-at.at xs (omega (arith, left, c.loop-at-test.false))) ∙ c.loop-at.invariant
    ∙ take_all c.loop-at.at ys (omega (arith, right, c.loop-at-test.false, c.if-left-right.false))
