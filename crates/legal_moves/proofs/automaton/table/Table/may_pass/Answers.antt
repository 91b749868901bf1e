use Rattle.std.proofs.Common.{◌≡◌, ◌-◌, Some, ap, ◌∙◌, arith, get_or}
use Rattle.legal_moves.proofs.automata.ReadyLemmas.{read_at}
use Rattle.legal_moves.proofs.automata.SetLemmas.{tested_bit}
use Rattle.legal_moves.proofs.automaton.table.Table.may_pass.Goals as goal

pub returns-in-Some : goal.returns-in-Some
returns-in-Some c =
    let t = c.args.self.now in
    let k = c.args.number - 1 in
    let o = c.index.result.now in
    let is : o ≡ get_or t.sets.items k o = c.index.ensures ∙ ap (λ m. get_or t.sets.items (m - 1) o) c.from.ensures in
    let at = read_at t.sets.items k o (omega (arith, c.requires.from, c.requires.upto, t.sets_are.as_many)) is in
    tested_bit t.steps.items t.sets.items k c.in-Some.set c.args.piece t.sets_are (at ∙ ap Some c.in-Some.is) c.if-piece-lt64.true
