use Rattle.std.proofs.Common.{◌≡◌, ◌<◌, length, map, take, get_or, arith, subst}
use Rattle.std.proofs.lemmas.List.{length-map, take_all, get_or_default}
use Rattle.numbered_actions.specs.declared.stretches.Stretch.{Stretch}
use Rattle.numbered_actions.specs.Listed.{AreActionLines}
use Rattle.numbered_actions.specs.Tokens.{cut_of}
use Rattle.numbered_actions.proofs.FoundStretches.{each_begins}
use Rattle.numbered_actions.proofs.ActionLines.{one_line_more}
use Rattle.numbered_actions.proofs.list.lines_of.Goals as goal

pub put_action-requires-clause-some : goal.put_action-requires-clause-some
put_action-requires-clause-some c =
    let actions = c.args.actions.now in
    let i = c.loop-index.index in
    let lt : i < length actions = omega arith in
    let action : Stretch = get_or actions i (record { from = 0; to = 0 }) in
    (each_begins c.args.tokens.now actions c.requires.cut.0 c.requires.cut.1 i action lt (get_or_default actions i (record { from = 0; to = 0 }) action lt)).0

pub loop-index-preserved : goal.loop-index-preserved
loop-index-preserved c =
    let actions = c.args.actions.now in
    let i = c.loop-index.index in
    let lt : i < length actions = omega arith in
    let action : Stretch = get_or actions i (record { from = 0; to = 0 }) in
    one_line_more c.args.text.now c.args.tokens.now actions c.requires.cut.0 i c.loop-index.lines.items c.put_action.new.lines.items action c.requires.placed
    c.requires.cut.1 c.requires.within (get_or_default actions i (record { from = 0; to = 0 }) action lt) lt c.loop-index.invariant c.in_ok-put_action.ensures

pub returns : goal.returns
returns c =
    let cuts = map (cut_of c.args.tokens.now) c.args.actions.now in
    let all : take c.loop-index.index cuts ≡ cuts =
    take_all c.loop-index.index cuts (omega (arith, length-map c.args.actions.now (cut_of c.args.tokens.now))) in
    subst (λ cs. AreActionLines c.args.text.now cs 1 c.loop-index.lines.items) all c.loop-index.invariant
