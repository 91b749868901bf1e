use Rattle.std.proofs.Common.{rules, ◌-◌, arith}
use Rattle.std.proofs.lemmas.Grind.{common_steps}
use Rattle.rbg_text.specs.lemmas.Parse.{factors, terms, expr}
use Rattle.rbg_text.proofs.Turns.{one_more}
use Rattle.rbg_text.proofs.parser.Parser.+expr.Goals as goal
use Rattle.rbg_text.proofs.parser.Parser.+expr.Goals.{expr-then-eat, expr-else-eat+then-eat-2}

pub term-loop-turn-preserved : goal.term-loop-turn-preserved
unfolding factors
term-loop-turn-preserved t c =
    let e = one_more (λ n. factors (expr c.args.depth) n c.loop-turn.self) _ c.loop-turn._turn c.loop-turn-test.true c.loop-turn.invariant in
    first_of (search rules, grind (arith, common_steps))

pub expr-loop-turn-preserved : goal.expr-loop-turn-preserved
unfolding terms
expr-loop-turn-preserved t c =
    let e = one_more (λ n. terms (expr (c.args.depth - 1)) n c.loop-turn.self) _ c.loop-turn._turn c.loop-turn-test.true c.loop-turn.invariant in
    elim c.if-eat.branch [
      | expr-then-eat w ↦ first_of (search rules, grind (arith, common_steps))
      | expr-else-eat+then-eat-2 w ↦ first_of (search rules, grind (arith, common_steps))
    ]
