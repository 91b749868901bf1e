use Rattle.std.proofs.Common.{rules, arith, map}
use Rattle.std.proofs.lemmas.Grind.{common_steps}
use Rattle.rbg_text.specs.lemmas.ParseSections.{vertices}
use Rattle.rbg_text.specs.Said.{vertex_view}
use Rattle.rbg_text.proofs.Exits.{memory_on}
use Rattle.rbg_text.proofs.Turns.{one_more}
use Rattle.rbg_text.proofs.parser.Parser.vertices.Goals as goal

pub loop-turn-preserved : goal.loop-turn-preserved
unfolding vertices
loop-turn-preserved c =
    let e = one_more (λ n. vertices n
    (map vertex_view c.loop-turn.all.items) c.loop-turn.self) _ c.loop-turn._turn c.loop-turn-test.true c.loop-turn.invariant in
    first_of (search rules, grind (arith, common_steps))

pub returns-in_err-push : goal.returns-in_err-push
returns-in_err-push c =
    memory_on (λ all. map vertex_view all.items) _ c.from_residual-in_err-push.result _ c.from_residual-in_err-push.ensures

pub returns-in_err-push-2 : goal.returns-in_err-push-2
returns-in_err-push-2 c =
    memory_on (λ all. map vertex_view all.items) _ c.from_residual-in_err-push-2.result _ c.from_residual-in_err-push-2.ensures
