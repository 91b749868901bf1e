use Rattle.std.proofs.Common.{rules, ◌-◌, arith}
use Rattle.std.proofs.lemmas.Grind.{common_steps}
use Rattle.rbg_text.specs.lemmas.Parse.{expr, elements, branches, rules_to}
use Rattle.rbg_text.proofs.Turns.{one_more}
use Rattle.rbg_text.proofs.parser.Parser.+rules.Goals as goal

pub concat-loop-turn-preserved : goal.concat-loop-turn-preserved
unfolding elements
concat-loop-turn-preserved t c =
    let e = one_more (λ n. elements (rules_to c.args.depth)
    (expr c.args.depth) n c.loop-turn.self) _ c.loop-turn._turn c.loop-turn-test.true c.loop-turn.invariant in
    first_of (search rules, grind (arith, common_steps))

pub rules-loop-turn-preserved : goal.rules-loop-turn-preserved
unfolding branches
rules-loop-turn-preserved t c =
    let e = one_more (λ n. branches (rules_to (c.args.depth - 1))
    (expr (c.args.depth - 1)) n c.loop-turn.self) _ c.loop-turn._turn c.loop-turn-test.true c.loop-turn.invariant in
    first_of (search rules, grind (arith, common_steps))
