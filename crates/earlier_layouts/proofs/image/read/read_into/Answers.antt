use Rattle.std.proofs.Common.{List, ℕ, subst, refl, ap, Err}
use Rattle.earlier_layouts.specs.Spelled.{SpellsTable}
use Rattle.earlier_layouts.specs.declared.image.fault.BytesFault.{BytesFault}
use Rattle.table.proofs.Exits.{none_done}
use Rattle.earlier_layouts.proofs.ImageExits.{fault_is}
use Rattle.earlier_layouts.proofs.Outcomes.{on_ok}
use Rattle.earlier_layouts.proofs.TableLemmas.{split_table, whole_cells, whole_edges, edges_within, spells}
use Rattle.earlier_layouts.proofs.image.read.read_into.Goals as goal

pub returns-in_err-read_cells-clause-damaged : goal.returns-in_err-read_cells-clause-damaged
returns-in_err-read_cells-clause-damaged g c = λ is text stored table s.
    let split = split_table c.args.sizes.now c.args.bytes.now c.split_at.result.0.now c.split_at.result.1.now c.split_at-2.result.0.now c.split_at-2.result.1.now c.split_at-3.result.0.now c.split_at-3.result.1.now _ refl
    c.split_at.ensures.front c.split_at.ensures.back c.split_at-2.ensures.front c.split_at-2.ensures.back c.split_at-3.ensures.front c.split_at-3.ensures.back
    c.split_at.ensures.front_len c.split_at-2.ensures.front_len c.split_at-3.ensures.front_len in
    c.in_err-read_cells.ensures.damaged
    (ap (λ (f : BytesFault). Err f) (fault_is c.from_residual.result _ c.from_residual.ensures is)) stored table s.known
    (whole_cells _ _ _ _ _ _ text stored split s)

pub returns-in_err-read_edges-clause-damaged : goal.returns-in_err-read_edges-clause-damaged
returns-in_err-read_edges-clause-damaged g c = λ is text stored table s.
    let split = split_table c.args.sizes.now c.args.bytes.now c.split_at.result.0.now c.split_at.result.1.now c.split_at-2.result.0.now c.split_at-2.result.1.now c.split_at-3.result.0.now c.split_at-3.result.1.now _ refl
    c.split_at.ensures.front c.split_at.ensures.back c.split_at-2.ensures.front c.split_at-2.ensures.back c.split_at-3.ensures.front c.split_at-3.ensures.back
    c.split_at.ensures.front_len c.split_at-2.ensures.front_len c.split_at-3.ensures.front_len in
    c.in_err-read_edges.ensures.damaged
    (ap (λ (f : BytesFault). Err f)
    (fault_is c.from_residual-in_err-read_edges.result _ c.from_residual-in_err-read_edges.ensures is)) s.edges
    (whole_edges _ _ _ _ _ _ text stored split s) s.edge_count s.ascending
    (edges_within _ _ _ _ _ _ text stored split s _ c.in_ok-read_cells.ensures.known table)

pub returns-clause-spelled : goal.returns-clause-spelled
returns-clause-spelled g c =
    let split = split_table c.args.sizes.now c.args.bytes.now c.split_at.result.0.now c.split_at.result.1.now c.split_at-2.result.0.now c.split_at-2.result.1.now c.split_at-3.result.0.now c.split_at-3.result.1.now _ refl
    c.split_at.ensures.front c.split_at.ensures.back c.split_at-2.ensures.front c.split_at-2.ensures.back c.split_at-3.ensures.front c.split_at-3.ensures.back
    c.split_at.ensures.front_len c.split_at-2.ensures.front_len c.split_at-3.ensures.front_len in
    on_ok _ _ c.read_order.result
    (λ added.
    subst (λ (front : List ℕ). SpellsTable c.args.sizes.now c.args.bytes.now front (g.T.Table.stored c.read_order.new.table)) c.split_at.ensures.front
    (spells c.args.sizes.now c.args.bytes.now c.split_at.result.0.now c.split_at-2.result.0.now c.split_at-3.result.0.now c.split_at-3.result.1.now
    (g.T.Table.stored c.read_cells.new.table) (g.T.Table.stored c.read_edges.new.table) (g.T.Table.stored c.read_order.new.table)
    split c.in_ok-read_cells.ensures.cells c.in_ok-read_cells.ensures.known c.in_ok-read_edges.ensures.others c.in_ok-read_edges.ensures.edges added))
    c.read_order.ensures.order

pub returns-in_err-read_cells-clause-spelled : goal.returns-in_err-read_cells-clause-spelled
returns-in_err-read_cells-clause-spelled g c = none_done _ c.from_residual.result c.from_residual.ensures.0

pub returns-in_err-read_edges-clause-spelled : goal.returns-in_err-read_edges-clause-spelled
returns-in_err-read_edges-clause-spelled g c = none_done _ c.from_residual-in_err-read_edges.result c.from_residual-in_err-read_edges.ensures.0

pub returns-clause-damaged : goal.returns-clause-damaged
returns-clause-damaged g c = λ is. absurd (c.read_order.ensures.whole is)
