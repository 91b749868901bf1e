use Rattle.numbered_actions.proofs.FoundStretches.{sections_of}
use Rattle.numbered_actions.proofs.list.action_lines.Goals as goal

pub lines_of_actions-requires : goal.lines_of_actions-requires
lines_of_actions-requires c =
    let game = c.in_ok-expect_game.ensures.reads in
    let sections = sections_of c.args.text.now game.0 game.1 in
    (sections.0, sections.1)

pub returns-clause-listed : goal.returns-clause-listed
returns-clause-listed c =
    let game = c.in_ok-expect_game.ensures.reads in
    let sections = sections_of c.args.text.now game.0 game.1 in
    (game.0, game.1, (sections.0, sections.1, sections.2, c.in_ok-lines_of_actions.ensures.lines sections.0 sections.1))
