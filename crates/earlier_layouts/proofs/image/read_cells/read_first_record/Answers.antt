use Rattle.std.proofs.Common.{List, ℕ, subst, arith, ◌∙◌, ap, length}
use Rattle.game_file.specs.Bytes.{IsRecord}
use Rattle.retrograde.specs.declared.records.Counts.{Counts}
use Rattle.retrograde.specs.Stored.{Stored}
use Rattle.table.proofs.Exits.{none_done}
use Rattle.earlier_layouts.proofs.ImageExits.{not_damaged, done_whole, not_none, front_within, rest_long}
use Rattle.earlier_layouts.proofs.ReadLemmas.{not_read, read_is, not_a_cell}
use Rattle.earlier_layouts.proofs.CellLemmas.{first_cell}
use Rattle.earlier_layouts.proofs.image.read_cells.read_first_record.Goals as goal

pub returns-clause-first : goal.returns-clause-first
returns-clause-first g c =
    let is : IsRecord c.split_at.result.1.now c.in_ok-kept.kept =
    read_is c.read_record.result c.ok_or.result _ c.split_at.result.1.now c.ok_or.ensures.value c.in_ok-kept.kept c.in_ok-kept.was c.read_record.ensures.some in
    first_cell c.args.packed c.args.cell.now c.in_ok-kept.kept (g.T.Table.stored c.args.table.now) (g.T.Table.stored c.set_record.new.self)
    (omega (arith, c.requires.long)) (subst (λ (b : List ℕ). IsRecord b c.in_ok-kept.kept) c.split_at.ensures.back is)
    c.requires.first (c.in_ok-set_record.ensures.set c.requires.honest)

pub returns-in_err-kept-clause-first : goal.returns-in_err-kept-clause-first
returns-in_err-kept-clause-first g c = none_done _ c.from_residual.result c.from_residual.ensures.0

pub returns-in_err-set_record-clause-first : goal.returns-in_err-set_record-clause-first
returns-in_err-set_record-clause-first g c = none_done _ c.from_residual-in_err-set_record.result c.from_residual-in_err-set_record.ensures.0

pub returns-in_err-set_record-clause-damaged : goal.returns-in_err-set_record-clause-damaged
returns-in_err-set_record-clause-damaged g c = λ is. absurd (not_damaged c.from_residual-in_err-set_record.result c.from_residual-in_err-set_record.ensures is)

pub returns-clause-damaged : goal.returns-clause-damaged
returns-clause-damaged g c = λ is. absurd (done_whole _ is)

pub set_record-requires : goal.set_record-requires
set_record-requires g c =
    not_none _
    (ap (λ (k : Counts). k.known) (g.met.T.Table.counts_are c.args.table.now c.requires.honest)
    ∙ ap (λ (s : Stored (List ℕ)). length s.positions) c.requires.first)

pub split_at-requires : goal.split_at-requires
split_at-requires g c = front_within _ _ _ c.requires.long

pub read_record-requires : goal.read_record-requires
read_record-requires g c = rest_long _ _ _ _ c.split_at.ensures.back_len c.requires.long

pub returns-in_err-kept-clause-damaged : goal.returns-in_err-kept-clause-damaged
returns-in_err-kept-clause-damaged g c = λ is x of.
    absurd (not_a_cell c.args.packed c.args.cell.now c.split_at.result.0.now c.split_at.result.1.now c.split_at.ensures.front c.split_at.ensures.back c.split_at.ensures.front_len
    (not_read c.read_record.result c.ok_or.result _ c.split_at.result.1.now c.ok_or.ensures.value _ c.in_err-kept.was c.read_record.ensures.none) x of)
