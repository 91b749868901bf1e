use Rattle.std.proofs.Common.{◌≡◌, ◌-◌, [], ◌∷◌, ap, ◌∙◌, rules, arith, map}
use Rattle.std.proofs.lemmas.Grind.{common_steps}
use Rattle.rbg_text.specs.lemmas.ParseSections.{items, listed}
use Rattle.rbg_text.specs.lemmas.Parse.{turns}
use Rattle.rbg_text.proofs.Exits.{err_on, memory_on}
use Rattle.rbg_text.proofs.Turns.{one_more}
use Rattle.rbg_text.proofs.parser.Parser.listed.Goals as goal

pub loop-turn-preserved : goal.loop-turn-preserved
unfolding items
loop-turn-preserved g c =
    let e = one_more (λ n. items g.T.Item.grammar n
    (map g.T.Item.said c.loop-turn.all.items) c.loop-turn.self) _ c.loop-turn._turn c.loop-turn-test.true c.loop-turn.invariant in
    first_of (search rules, grind (arith, common_steps))

pub returns-in_err-parse : goal.returns-in_err-parse
unfolding listed
returns-in_err-parse g c =
    err_on g.T.Item.said (λ all. map g.T.Item.said all.items) (g.T.Item.grammar c.args.self.now) (λ x i. items g.T.Item.grammar (turns i) (x ∷ []) i)
    c.in_err-parse.field-0.0 c.from_residual.result c.parse.new.parser c.parse.new.parser c.from_residual.ensures c.in_err-parse.ensures

pub returns-in_err-push : goal.returns-in_err-push
returns-in_err-push g c =
    memory_on (λ all. map g.T.Item.said all.items) _ c.from_residual-in_err-push.result _ c.from_residual-in_err-push.ensures

pub returns-in_err-push-2 : goal.returns-in_err-push-2
returns-in_err-push-2 g c =
    memory_on (λ all. map g.T.Item.said all.items) _ c.from_residual-in_err-push-2.result _ c.from_residual-in_err-push-2.ensures

pub returns : goal.returns
unfolding items
returns g c =
    let ended : c.turns-turn-end.result - c.loop-turn._turn ≡ 0 = omega (arith, c.loop-turn-test.false) in
    c.loop-turn.invariant ∙ ap (λ n. items g.T.Item.grammar n (map g.T.Item.said c.loop-turn.all.items) c.loop-turn.self) ended
