use Rattle.std.proofs.Common.{rules, arith, map}
use Rattle.std.proofs.lemmas.Grind.{common_steps}
use Rattle.rbg_text.specs.lemmas.ParseSections.{sections}
use Rattle.rbg_text.specs.Said.{section_view}
use Rattle.rbg_text.proofs.Turns.{one_more}
use Rattle.rbg_text.proofs.parser.Parser.sections.Goals as goal

pub loop-turn-preserved : goal.loop-turn-preserved
unfolding sections
loop-turn-preserved c =
    let e = one_more (λ n. sections n
    (map section_view c.loop-turn.all.items) c.loop-turn.self) _ c.loop-turn._turn c.loop-turn-test.true c.loop-turn.invariant in
    first_of (search rules, grind (arith, common_steps))
