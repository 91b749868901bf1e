use Rattle.std.proofs.Common.{rules, arith}
use Rattle.std.proofs.lemmas.Grind.{common_steps}
use Rattle.rbg_text.specs.lemmas.Parse.{assignments, expr}
use Rattle.rbg_text.proofs.Turns.{one_more}
use Rattle.rbg_text.proofs.parser.Parser.assignments.Goals as goal

pub loop-turn-preserved : goal.loop-turn-preserved
unfolding assignments
loop-turn-preserved c =
    let e = one_more (λ n. assignments (expr c.args.depth) n c.loop-turn.self) _ c.loop-turn._turn c.loop-turn-test.true c.loop-turn.invariant in
    first_of (search rules, grind (arith, common_steps))
