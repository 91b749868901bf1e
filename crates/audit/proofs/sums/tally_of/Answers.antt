use Rattle.table.proofs.Exits.{passed_on}
use Rattle.audit.proofs.Exits.{of_table, table_since, cause_since}
use Rattle.table.proofs.Frames.{read_then}
use Rattle.audit.proofs.sums.tally_of.Goals as goal

pub returns-in_err-edges-clause-err : goal.returns-in_err-edges-clause-err
returns-in_err-edges-clause-err g c =
    passed_on _ c.from_residual.result _ c.from_residual.ensures (of_table c.in_err-edges.ensures.room c.in_err-edges.ensures.fault)

pub returns-in_err-moves-clause-read : goal.returns-in_err-moves-clause-read
returns-in_err-moves-clause-read g c = read_then g.met.T.Table.stays_then c.in_ok-edges.ensures.read c.in_err-moves.ensures.read

pub returns-in_err-moves-clause-err : goal.returns-in_err-moves-clause-err
returns-in_err-moves-clause-err g c = table_since g.met.T.Table.stays_goes_on g.met.T.Table.fails_since
    c.in_ok-edges.ensures.read _ c.from_residual-in_err-moves.result c.from_residual-in_err-moves.ensures
    c.in_err-moves.ensures.room c.in_err-moves.ensures.fault

pub returns-in_err-own_failing-clause-read : goal.returns-in_err-own_failing-clause-read
returns-in_err-own_failing-clause-read g c =
    read_then g.met.T.Table.stays_then
    (read_then g.met.T.Table.stays_then c.in_ok-edges.ensures.read c.in_ok-moves.ensures.read)
    c.in_err-own_failing.ensures.read

pub returns-in_err-own_failing-clause-err : goal.returns-in_err-own_failing-clause-err
returns-in_err-own_failing-clause-err g c =
    passed_on _ c.from_residual-in_err-own_failing.result _ c.from_residual-in_err-own_failing.ensures
    (cause_since g.met.T.Table.stays_goes_on g.met.T.Table.fails_since
    (read_then g.met.T.Table.stays_then c.in_ok-edges.ensures.read c.in_ok-moves.ensures.read) c.in_err-own_failing.ensures.err)

pub returns-then-is_some-clause-read : goal.returns-then-is_some-clause-read
returns-then-is_some-clause-read g c =
    read_then g.met.T.Table.stays_then
    (read_then g.met.T.Table.stays_then c.in_ok-edges.ensures.read c.in_ok-moves.ensures.read)
    c.in_ok-own_failing.ensures.read

pub returns-clause-read : goal.returns-clause-read
returns-clause-read g c =
    read_then g.met.T.Table.stays_then
    (read_then g.met.T.Table.stays_then c.in_ok-edges.ensures.read c.in_ok-moves.ensures.read)
    c.in_ok-own_failing.ensures.read
