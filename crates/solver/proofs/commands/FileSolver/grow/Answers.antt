use Rattle.std.proofs.Common.{ap, rules}
use Rattle.game_file.specs.declared.fault.FileFault.TheVariants.{Closed, TooSmall}
use Rattle.solver.proofs.Frames.{left_kept}
use Rattle.solver.proofs.Exits.{fault_so}
use Rattle.solver.proofs.commands.FileSolver.grow.Goals as goal

pub returns-clause-left : goal.returns-clause-left
returns-clause-left g c =
    left_kept c.args.self.now c.grow.new.self c.grow.ensures.lasts c.grow.ensures.ahead
    (λ ready. let grown = c.in_ok-grow.ensures.ok ready.0 in (c.grow.ensures.whole ready.0, (grown.text, grown.packing, grown.goal, grown.kept)))

pub returns-in_err-grow-clause-left : goal.returns-in_err-grow-clause-left
returns-in_err-grow-clause-left g c =
    left_kept c.args.self.now c.grow.new.self c.grow.ensures.lasts c.grow.ensures.ahead
    (λ ready. let left = c.in_err-grow.ensures.err ready.0 in (c.grow.ensures.whole ready.0, (left.text, left.packing, left.goal, left.kept)))

pub returns-in_err-grow-clause-err : goal.returns-in_err-grow-clause-err
returns-in_err-grow-clause-err g c = record {
  refused = search rules;
  cause = search rules;
  closed = λ is.
      let (same, kept) = c.in_err-grow.ensures.closed is in
      (fault_so c.from_residual.result _ Closed c.from_residual.ensures same, ap (λ (file : g.row.F.Denot). record c.args.self.now { file = file }) kept);
  small = λ is_open small.
      let (same, kept) = c.in_err-grow.ensures.small is_open small in
      (fault_so c.from_residual.result _ TooSmall c.from_residual.ensures same, ap (λ (file : g.row.F.Denot). record c.args.self.now { file = file }) kept);
  still = search rules;
}
