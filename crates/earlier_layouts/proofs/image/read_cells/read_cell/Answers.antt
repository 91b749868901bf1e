use Rattle.std.proofs.Common.{◌∙◌, ◌≡◌, ap, length, List, Some, slice_get, sym, subst, ℕ, ◌<◌, ◌^◌}
use Rattle.retrograde.specs.declared.records.Counts.{Counts}
use Rattle.retrograde.specs.Stored.{Stored}
use Rattle.table.proofs.Exits.{none_done}
use Rattle.earlier_layouts.proofs.ImageExits.{not_damaged, done_whole, one_more, at_most, front_within, rest_long}
use Rattle.earlier_layouts.proofs.ReadLemmas.{not_read, read_is, not_a_cell, cell_position, known_already, unknown_still}
use Rattle.earlier_layouts.proofs.CellLemmas.{cell_added}
use Rattle.earlier_layouts.proofs.Splits.{both_parts}
use Rattle.earlier_layouts.proofs.image.read_cells.read_cell.Goals as goal

pub returns-clause-added : goal.returns-clause-added
returns-clause-added g c =
    let honest = c.in_ok-number_of.ensures.read.honest.0 c.requires.honest in
    let known = ap (λ (k : Counts). k.known) (g.met.T.Table.counts_are c.number_of.new.self honest) in
    record {
      cell = (c.position_of-position.result.items, c.in_ok-kept.kept);
      is_cell = record {
        long = ap length c.position_of-position.ensures ∙ c.split_at.ensures.front_len;
        behind = c.split_at.result.1.now;
        is =
            both_parts c.args.cell.now c.position_of-position.result.items c.split_at.result.1.now c.args.packed
            (c.position_of-position.ensures ∙ c.split_at.ensures.front) c.split_at.ensures.back;
        is_record =
            read_is c.read_record.result c.ok_or.result _ c.split_at.result.1.now c.ok_or.ensures.value c.in_ok-kept.kept c.in_ok-kept.was c.read_record.ensures.some;
      };
      added =
          cell_added (g.T.Table.stored c.args.table.now) (g.T.Table.stored c.number_of.new.self) (g.T.Table.stored c.add.new.self)
          (g.T.Table.stored c.set_record.new.self)
          c.position_of-position.result.items c.in_ok-kept.kept c.in_ok-number.number (c.in_ok-number_of.ensures.read.same c.requires.honest)
          (c.in_ok-number.ensures.added honest) (c.in_ok-set_record.ensures.set (c.in_ok-number.ensures.honest.0 honest))
          (c.in_ok-number.ensures.number ∙ known);
    }

pub returns-in_err-kept-clause-honest : goal.returns-in_err-kept-clause-honest
returns-in_err-kept-clause-honest g c = none_done _ c.from_residual.result c.from_residual.ensures.0

pub returns-in_err-kept-clause-added : goal.returns-in_err-kept-clause-added
returns-in_err-kept-clause-added g c = none_done _ c.from_residual.result c.from_residual.ensures.0

pub returns-in_err-number_of-clause-honest : goal.returns-in_err-number_of-clause-honest
returns-in_err-number_of-clause-honest g c = none_done _ c.from_residual-in_err-number_of.result c.from_residual-in_err-number_of.ensures.0

pub returns-in_err-number_of-clause-added : goal.returns-in_err-number_of-clause-added
returns-in_err-number_of-clause-added g c = none_done _ c.from_residual-in_err-number_of.result c.from_residual-in_err-number_of.ensures.0

pub returns-in_err-number_of-clause-damaged : goal.returns-in_err-number_of-clause-damaged
returns-in_err-number_of-clause-damaged g c = λ is. absurd (not_damaged c.from_residual-in_err-number_of.result c.from_residual-in_err-number_of.ensures is)

pub returns-in_err-number-clause-honest : goal.returns-in_err-number-clause-honest
returns-in_err-number-clause-honest g c = none_done _ c.from_residual-in_err-number.result c.from_residual-in_err-number.ensures.0

pub returns-in_err-number-clause-added : goal.returns-in_err-number-clause-added
returns-in_err-number-clause-added g c = none_done _ c.from_residual-in_err-number.result c.from_residual-in_err-number.ensures.0

pub returns-in_err-number-clause-damaged : goal.returns-in_err-number-clause-damaged
returns-in_err-number-clause-damaged g c = λ is. absurd (not_damaged c.from_residual-in_err-number.result c.from_residual-in_err-number.ensures is)

pub returns-in_err-set_record-clause-honest : goal.returns-in_err-set_record-clause-honest
returns-in_err-set_record-clause-honest g c = none_done _ c.from_residual-in_err-set_record.result c.from_residual-in_err-set_record.ensures.0

pub returns-in_err-set_record-clause-added : goal.returns-in_err-set_record-clause-added
returns-in_err-set_record-clause-added g c = none_done _ c.from_residual-in_err-set_record.result c.from_residual-in_err-set_record.ensures.0

pub returns-in_err-set_record-clause-damaged : goal.returns-in_err-set_record-clause-damaged
returns-in_err-set_record-clause-damaged g c = λ is. absurd (not_damaged c.from_residual-in_err-set_record.result c.from_residual-in_err-set_record.ensures is)

pub returns-then-is_some-clause-honest : goal.returns-then-is_some-clause-honest
returns-then-is_some-clause-honest g c = tt

pub returns-then-is_some-clause-added : goal.returns-then-is_some-clause-added
returns-then-is_some-clause-added g c = tt

pub returns-clause-honest : goal.returns-clause-honest
returns-clause-honest g c =
    c.in_ok-set_record.ensures.wrote.honest.0 (c.in_ok-number.ensures.honest.0 (c.in_ok-number_of.ensures.read.honest.0 c.requires.honest))

pub returns-clause-damaged : goal.returns-clause-damaged
returns-clause-damaged g c = λ is. absurd (done_whole _ is)

pub position_of-position-requires : goal.position_of-position-requires
position_of-position-requires g c = at_most _ _ _ c.split_at.ensures.front_len c.requires.packed

pub add-requires-clause-room : goal.add-requires-clause-room
add-requires-clause-room g c =
    let counts = ap (λ (k : Counts). k.known) (c.in_ok-number_of.ensures.read.counts ∙ g.met.T.Table.counts_are c.args.table.now c.requires.honest) in
    subst (λ (n : ℕ). n < 2 ^ 24) (sym counts) c.requires.room

pub set_record-requires : goal.set_record-requires
set_record-requires g c = one_more _ _ _ c.in_ok-number.ensures.number c.in_ok-number.ensures.known

pub split_at-requires : goal.split_at-requires
split_at-requires g c = front_within _ _ _ c.requires.long

pub read_record-requires : goal.read_record-requires
read_record-requires g c = rest_long _ _ _ _ c.split_at.ensures.back_len c.requires.long

pub returns-in_err-kept-clause-damaged : goal.returns-in_err-kept-clause-damaged
returns-in_err-kept-clause-damaged g c = λ is x of.
    absurd (not_a_cell c.args.packed c.args.cell.now c.split_at.result.0.now c.split_at.result.1.now c.split_at.ensures.front c.split_at.ensures.back c.split_at.ensures.front_len
    (not_read c.read_record.result c.ok_or.result _ c.split_at.result.1.now c.ok_or.ensures.value _ c.in_err-kept.was c.read_record.ensures.none) x of)

pub returns-then-is_some-clause-damaged : goal.returns-then-is_some-clause-damaged
returns-then-is_some-clause-damaged g c = λ is x of.
    let same = c.position_of-position.ensures ∙ cell_position c.args.packed c.args.cell.now c.split_at.result.0.now c.split_at.result.1.now c.split_at.ensures.front c.split_at.ensures.back c.split_at.ensures.front_len x of in
    let (j, at) =
    known_already c.in_ok-number_of.field-0 c.is_some.result
    (g.T.Table.stored c.args.table.now).positions c.position_of-position.result.items c.is_some.ensures c.if-is_some.true
    (c.in_ok-number_of.ensures.found c.requires.honest) in
    (j, at ∙ ap (λ (b : List ℕ). Some b) same)

pub add-requires-clause-unknown : goal.add-requires-clause-unknown
add-requires-clause-unknown g c = λ h i at.
    unknown_still c.in_ok-number_of.field-0 c.is_some.result
    (g.T.Table.stored c.args.table.now).positions c.position_of-position.result.items c.is_some.ensures c.if-is_some.false
    (c.in_ok-number_of.ensures.unknown c.requires.honest) i
    (subst (λ (s : Stored (List ℕ)). slice_get s.positions i ≡ Some c.position_of-position.result.items)
    (c.in_ok-number_of.ensures.read.same c.requires.honest) at)
