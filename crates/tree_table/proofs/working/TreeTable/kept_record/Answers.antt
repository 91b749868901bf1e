use Rattle.tree_table.specs.WorkTable.{work_of}
use Rattle.tree_table.proofs.Faults.{passed_on}
use Rattle.tree_table.proofs.HeldTable.{only_read, still_held, still_seen}
use Rattle.tree_table.proofs.Versions.{version_there}
use Rattle.tree_table.specs.lemmas.Readers.{near_stays}
use Rattle.tree_table.proofs.working.TreeTable.kept_record.Goals as goal

pub invariant_of-self : goal.invariant_of-self
invariant_of-self g c =
    let self = c.args.self.now in
    let old = g.P.Pages.store self.store in
    let new = g.P.Pages.store c.cell_into.new.store in
    let stays = only_read self.slot self.text.items self.torn old new c.cell_into.ensures.read.works c.cell_into.ensures.read.unchanged in
    record {
      reads = near_stays self.slot old new self.near c.cell_into.ensures.read.works c.cell_into.ensures.read.unchanged self.reads;
      some = self.some;
      short = self.short;
      few = self.few;
      points = self.points;
      holds = still_held (work_of self.slot self.text.items self.torn old) (work_of self.slot self.text.items self.torn new) stays self.holds;
      long = self.long;
      last = still_seen (work_of self.slot self.text.items self.torn old) (work_of self.slot self.text.items self.torn new) self.seen stays self.last;
    }

pub returns-in_err-cell_into-clause-cause : goal.returns-in_err-cell_into-clause-cause
returns-in_err-cell_into-clause-cause g c = passed_on _ c.from_residual.result _ c.from_residual.ensures c.in_err-cell_into.ensures.cause

pub returns-clause-record : goal.returns-clause-record
returns-clause-record g c = λ honest place table it.
    c.in_ok-cell_into.ensures.cell.kept honest it.text table (version_there place c.args.slot.now table (g.P.Pages.store c.args.self.now.store) it)
