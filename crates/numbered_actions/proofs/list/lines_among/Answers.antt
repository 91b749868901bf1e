use Rattle.std.proofs.Common.{map, ap, subst, ◌∙◌}
use Rattle.numbered_actions.specs.Listed.{AreActionLines}
use Rattle.numbered_actions.specs.Tokens.{cut_of}
use Rattle.numbered_actions.specs.Written.{spots_of}
use Rattle.numbered_actions.proofs.ActionLines.{map_ok}
use Rattle.numbered_actions.proofs.list.lines_among.Goals as goal

pub lines_of-requires-clause-cut : goal.lines_of-requires-clause-cut
lines_of-requires-clause-cut c =
    let all = c.requires.spelled in
    (spots_of all.0, ap (map (cut_of c.args.tokens.now)) c.as_slice.ensures.value ∙ c.in_ok-actions.ensures.actions all.0 all.1)

pub returns : goal.returns
returns c =
    let cuts = map (cut_of c.args.tokens.now) in
    map_ok c.lines_of.result (λ lines are. λ all spelled.
    subst (λ cs. AreActionLines c.args.text.now cs 1 lines.items) (ap cuts c.as_slice.ensures.value ∙ c.in_ok-actions.ensures.actions all spelled) are)
    c.lines_of.ensures
