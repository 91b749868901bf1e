use Rattle.std.proofs.Common.{sym, subst}
use Rattle.numbered_actions.specs.Placed.{Stand}
use Rattle.numbered_actions.proofs.FoundStretches.{spelled_by}
use Rattle.numbered_actions.proofs.list.lines_of_actions.Goals as goal

pub lines_among-requires-clause-spelled : goal.lines_among-requires-clause-spelled
lines_among-requires-clause-spelled c =
    let text = c.args.text.now in
    let stand = subst (λ ls. Stand text ls text) (sym c.as_slice.ensures.value) c.in_ok-tokens.ensures.placed in
    (c.requires.0, spelled_by text c.as_slice.result.now c.requires.0 stand c.requires.1)

pub returns-clause-lines : goal.returns-clause-lines
returns-clause-lines c = λ all parses.
    let text = c.args.text.now in
    let stand = subst (λ ls. Stand text ls text) (sym c.as_slice.ensures.value) c.in_ok-tokens.ensures.placed in
    c.in_ok-lines_among.ensures all (spelled_by text c.as_slice.result.now all stand parses)
