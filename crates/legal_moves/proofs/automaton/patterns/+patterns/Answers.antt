use Rattle.std.proofs.Common.{◌++◌, map, take, flat_map, ap, sym, ◌∙◌, arith}
use Rattle.std.proofs.lemmas.Result.{on_ok_weaker}
use Rattle.std.proofs.lemmas.List.{flat_map_more, take_all, length-map}
use Rattle.legal_moves.proofs.automata.AlikeLemmas.{take_map-more}
use Rattle.rbg_game.specs.Meaning.{regex_of}
use Rattle.rbg_game.proofs.MeaningLemmas.{regex_of-Concat, regex_of-Sum, regex_of-Star}
use Rattle.legal_moves.specs.Tables.{inner_of}
use Rattle.legal_moves.proofs.Exits.{refused}
use Rattle.legal_moves.proofs.automata.PatternLemmas.{inner_of-cat_all, inner_of-alt_all}
use Rattle.legal_moves.proofs.automaton.patterns.+patterns.Goals as goal

pub list_patterns-returns-in-Concat : goal.list_patterns-returns-in-Concat
list_patterns-returns-in-Concat t c =
    let is = ap inner_of (ap regex_of c.in-Concat.is ∙ regex_of-Concat c.in-Concat.parts) ∙ inner_of-cat_all (map regex_of c.in-Concat.parts.items) in
    on_ok_weaker c.list_patterns_of.result (λ now. now ∙ ap (λ es. map (λ r. regex_of r.now) c.args.list.now.items ++ es)
    (ap (λ ps. flat_map inner_of (map regex_of ps)) c.deref-in-Concat.ensures.value ∙ sym is)) c.list_patterns_of.ensures

pub list_patterns-returns-in-Sum : goal.list_patterns-returns-in-Sum
list_patterns-returns-in-Sum t c =
    let is = ap inner_of (ap regex_of c.in-Sum.is ∙ regex_of-Sum c.in-Sum.branches) ∙ inner_of-alt_all (map regex_of c.in-Sum.branches.items) in
    on_ok_weaker c.list_patterns_of-in-Sum.result (λ now. now ∙ ap (λ es. map (λ r. regex_of r.now) c.args.list.now.items ++ es)
    (ap (λ ps. flat_map inner_of (map regex_of ps)) c.deref-in-Sum.ensures.value ∙ sym is)) c.list_patterns_of-in-Sum.ensures

pub list_patterns_of-loop-part-preserved : goal.list_patterns_of-loop-part-preserved
list_patterns_of-loop-part-preserved t c =
    let xs = c.args.parts.now in
    let before = map (λ r. regex_of r.now) c.args.list.now.items in
    let es = take c.loop-part.part-index (map regex_of xs) in
    let more = take_map-more regex_of xs c.loop-part.part-index c.part-item.result c.loop-part-test.true c.part-item.is in
    c.in_ok-list_patterns.ensures ∙ ap (λ ys. ys ++ inner_of (regex_of c.part-item.result)) c.loop-part.invariant
    ∙ flat_map_more inner_of before es (regex_of c.part-item.result) ∙ ap (λ ys. before ++ flat_map inner_of ys) (sym more)

pub list_patterns-returns-in-Star : goal.list_patterns-returns-in-Star
list_patterns-returns-in-Star t c =
    let is = ap inner_of (ap regex_of c.in-Star.is ∙ regex_of-Star c.in-Star.part) in
    on_ok_weaker c.list_patterns-in-Star.result (λ now. now ∙ ap (λ es. map (λ r. regex_of r.now) c.args.list.now.items ++ es)
    (ap (λ r. inner_of (regex_of r)) c.deref-in-Star.ensures ∙ sym is)) c.list_patterns-in-Star.ensures

pub list_patterns-returns-in_err-list_patterns-in-Action-Pattern : goal.list_patterns-returns-in_err-list_patterns-in-Action-Pattern
list_patterns-returns-in_err-list_patterns-in-Action-Pattern t c = refused _ c.from_residual.result _ c.from_residual.ensures.1

pub list_patterns-returns-in_err-push-in-Action-Pattern : goal.list_patterns-returns-in_err-push-in-Action-Pattern
list_patterns-returns-in_err-push-in-Action-Pattern t c =
    refused _ c.from_residual-in_err-push-in-Action-Pattern.result _ c.from_residual-in_err-push-in-Action-Pattern.ensures.1

pub list_patterns_of-returns-in_err-list_patterns : goal.list_patterns_of-returns-in_err-list_patterns
list_patterns_of-returns-in_err-list_patterns t c = refused _ c.from_residual.result _ c.from_residual.ensures.1

pub list_patterns_of-returns : goal.list_patterns_of-returns
list_patterns_of-returns t c =
    let es = map regex_of c.args.parts.now in
    let whole = take_all c.loop-part.part-index es (omega (arith, length-map c.args.parts.now regex_of, c.loop-part-test.false)) in
    c.loop-part.invariant ∙ ap (λ xs. map (λ r. regex_of r.now) c.args.list.now.items ++ flat_map inner_of xs) whole
