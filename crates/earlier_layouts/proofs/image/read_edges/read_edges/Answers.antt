use Rattle.std.proofs.Common.{◌≡◌, ◌++◌, [], ap, length, subst, List, ℕ, refl, arith, Err}
use Rattle.game_file.specs.Bytes.{IsEdge}
use Rattle.earlier_layouts.specs.Spelled.{AreSpelled}
use Rattle.earlier_layouts.specs.declared.image.fault.BytesFault.{BytesFault}
use Rattle.table.proofs.Exits.{none_done}
use Rattle.earlier_layouts.proofs.ImageExits.{fault_is, done_whole}
use Rattle.earlier_layouts.proofs.EdgeLemmas.{none_so_far, one_more_edge, edge_changes, edge_refused}
use Rattle.earlier_layouts.proofs.Splits.{split_on, split_between}
use Rattle.earlier_layouts.proofs.image.read_edges.read_edges.Goals as goal

pub loop-edge-init : goal.loop-edge-init
loop-edge-init g c = record {
  honest = c.requires.honest;
  long = omega (arith, c.requires.long);
  done = [];
  split = refl;
  so_far = none_so_far (g.T.Table.stored c.args.table.now) c.requires.none.edges;
  kept = record { positions = refl; records = refl; order = refl };
}

pub returns-in_err-read_edge-clause-damaged : goal.returns-in_err-read_edge-clause-damaged
returns-in_err-read_edge-clause-damaged g c = λ is all spelled long sorted within.
    let before = c.loop-edge.invariant in
    let front = c.split_at.result.0.now in
    let back = c.split_at.result.1.now in
    let known : length (g.T.Table.stored c.loop-edge.table).positions ≡ length
    (g.T.Table.stored c.args.table.now).positions = ap length before.kept.positions in
    let parts = split_between c.args.bytes.now before.done c.loop-edge.rest.now front back 8 before.split c.split_at.ensures.front c.split_at.ensures.back in
    edge_refused before.done front back c.loop-edge._edge (length (g.T.Table.stored c.args.table.now).positions) c.loop-edge.before
    (g.T.Table.stored c.loop-edge.table) all before.so_far
    (subst (λ (b : List ℕ). AreSpelled IsEdge b all) parts spelled) (omega (arith, long, c.loop-edge-test.true)) c.split_at.ensures.front_len sorted within
    (λ e of past first second. c.in_err-read_edge.ensures.damaged
    (ap (λ (f : BytesFault). Err f) (fault_is c.from_residual.result _ c.from_residual.ensures is)) e of past
    (omega (arith, first, known)) (omega (arith, second, known)))

pub loop-edge-preserved : goal.loop-edge-preserved
loop-edge-preserved g c =
    let before = c.loop-edge.invariant in
    let front = c.split_at.result.0.now in
    let back = c.split_at.result.1.now in
    let read = c.in_ok-read_edge.ensures in
    let old = g.T.Table.stored c.loop-edge.table in
    let new = g.T.Table.stored c.read_edge.new.table in
    record {
      honest = read.honest;
      long = omega (arith, before.long, c.split_at.ensures.back_len);
      done = before.done ++ front;
      split = split_on c.args.bytes.now before.done c.loop-edge.rest.now front back 8 before.split c.split_at.ensures.front c.split_at.ensures.back;
      so_far = one_more_edge before.done front c.loop-edge._edge c.loop-edge.before c.in_ok-read_edge.field-0 old new before.so_far read.edge read.past read.added;
      kept = edge_changes (g.T.Table.stored c.args.table.now) old new c.in_ok-read_edge.field-0 before.kept read.added;
    }

pub returns-in_err-read_edge-clause-honest : goal.returns-in_err-read_edge-clause-honest
returns-in_err-read_edge-clause-honest g c = none_done _ c.from_residual.result c.from_residual.ensures.0

pub returns-in_err-read_edge-clause-edges : goal.returns-in_err-read_edge-clause-edges
returns-in_err-read_edge-clause-edges g c = none_done _ c.from_residual.result c.from_residual.ensures.0

pub returns-in_err-read_edge-clause-others : goal.returns-in_err-read_edge-clause-others
returns-in_err-read_edge-clause-others g c = none_done _ c.from_residual.result c.from_residual.ensures.0

pub returns-clause-damaged : goal.returns-clause-damaged
returns-clause-damaged g c = λ is. absurd (done_whole _ is)

pub returns-clause-honest : goal.returns-clause-honest
returns-clause-honest g c = c.loop-edge.invariant.honest
