use Rattle.std.proofs.Common.{◌≡◌, ◌∙◌, sym, ap, subst, Option, true, false}
use Rattle.rbg_game.specs.declared.roles.Player.{Player}
use Rattle.rbg_game.specs.declared.roles.Role.{Role}
use Rattle.retrograde.specs.Local.{end_value}
use Rattle.audit.specs.lemmas.Records.{IsDueByRecords}
use Rattle.audit.proofs.Lists.{is_nil, not_nil}
use Rattle.audit.proofs.LowestLemmas.{ended_so, not_ended_so, moves_so, not_moves_so}
use Rattle.audit.proofs.values.value_failing.Goals as goal

pub returns-then-is_ended_so : goal.returns-then-is_ended_so
returns-then-is_ended_so g c = λ stored i table has within it.
    ended_so (g.M.GameGraph.graph c.args.source.now) stored i c.args.at.now.items table c.args.kept has within c.args.successors.now it
    (is_nil c.is_empty.result c.args.successors.now c.is_empty.ensures c.if-is_empty.true)
    (c.is_ended_so.ensures.0 c.if-is_ended_so.true ∙ ap (λ (o : Option Player). end_value o) c.ahead.ensures)

pub returns-then-is_empty : goal.returns-then-is_empty
returns-then-is_empty g c = λ stored i table has within it.
    not_ended_so (g.M.GameGraph.graph c.args.source.now) stored i c.args.at.now.items table c.args.kept has within c.args.successors.now it
    (is_nil c.is_empty.result c.args.successors.now c.is_empty.ensures c.if-is_empty.true)
    (λ so. let is : c.is_ended_so.result ≡ true = c.is_ended_so.ensures.1 (so ∙ ap (λ (o : Option Player). end_value o) (sym c.ahead.ensures)) in
    let no : c.is_ended_so.result ≡ false = c.if-is_ended_so.false in cc)

pub returns-then-has_this : goal.returns-then-has_this
returns-then-has_this g c = λ stored i table has within it.
    moves_so (g.M.GameGraph.graph c.args.source.now) stored i c.args.at.now.items table c.args.kept has within c.args.successors.now it
    (not_nil c.is_empty.result c.args.successors.now c.is_empty.ensures c.if-is_empty.false)
    c.due.result (subst (λ (role : Role). IsDueByRecords role c.args.successors.now c.due.result) c.mover.ensures c.due.ensures)
    (c.has_this.ensures.0 c.if-has_this.true)

pub returns : goal.returns
returns g c = λ stored i table has within it.
    not_moves_so (g.M.GameGraph.graph c.args.source.now) stored i c.args.at.now.items table c.args.kept has within c.args.successors.now it
    (not_nil c.is_empty.result c.args.successors.now c.is_empty.ensures c.if-is_empty.false)
    c.due.result (subst (λ (role : Role). IsDueByRecords role c.args.successors.now c.due.result) c.mover.ensures c.due.ensures)
    (λ so. let is : c.has_this.result ≡ true = c.has_this.ensures.1 so in let no : c.has_this.result ≡ false = c.if-has_this.false in cc)
