use Rattle.std.proofs.Common.{Some}
use mathlib.Core.Logic.{∥∥₁_elim}
use Rattle.std.specs.Prelude.{slice_get}
use Rattle.tree_table.specs.InTrees.{work_in}
use Rattle.tree_table.specs.WorkTable.{work_of, table_now, work_there, HoldsWork}
use Rattle.tree_table.proofs.HeldTable.{only_read, reads_so, still_held, still_seen, read_refused, read_without_page, number_prop, ok_prop}
use Rattle.tree_table.specs.lemmas.Readers.{near_stays}
use Rattle.tree_table.proofs.working.TreeTableTable.settled_at.Goals as goal

pub invariant_of-self : goal.invariant_of-self
invariant_of-self g c =
    let self = c.args.self.now in
    let old = g.P.Pages.store self.store in
    let new = g.P.Pages.store c.settled_at.new.store in
    let stays = only_read self.slot self.text.items self.torn old new c.settled_at.ensures.read.works c.settled_at.ensures.read.unchanged in
    record {
      reads = near_stays self.slot old new self.near c.settled_at.ensures.read.works c.settled_at.ensures.read.unchanged self.reads;
      some = self.some;
      short = self.short;
      few = self.few;
      points = self.points;
      holds = still_held (work_of self.slot self.text.items self.torn old) (work_of self.slot self.text.items self.torn new) stays self.holds;
      long = self.long;
      last = still_seen (work_of self.slot self.text.items self.torn old) (work_of self.slot self.text.items self.torn new) self.seen stays self.last;
    }

pub returns-clause-number : goal.returns-clause-number
returns-clause-number g c = λ honest.
    let self = c.args.self.now in
    let old = work_of self.slot self.text.items self.torn (g.P.Pages.store self.store) in
    ∥∥₁_elim (self.holds honest) (ok_prop _ c.settled_at.result (λ i. number_prop (slice_get (table_now old).order c.args.place) (Some i)))
    (λ (h : HoldsWork old). c.settled_at.ensures.number honest.disk self.text.items (table_now old) (work_there old h))

pub returns-clause-fault : goal.returns-clause-fault
returns-clause-fault g c =
    let self = c.args.self.now in
    let old = g.P.Pages.store self.store in
    let new = g.P.Pages.store c.settled_at.new.store in
    read_refused (work_of self.slot self.text.items self.torn old) (work_of self.slot self.text.items self.torn new) c.settled_at.result
    (only_read self.slot self.text.items self.torn old new c.settled_at.ensures.read.works c.settled_at.ensures.read.unchanged) c.settled_at.ensures.cause

pub returns-clause-room : goal.returns-clause-room
returns-clause-room g c =
    read_without_page c.args.self.now.slot (g.P.Pages.store c.args.self.now.store)
    (g.P.Pages.store c.settled_at.new.store) c.settled_at.result c.settled_at.ensures.cause

pub returns-clause-read : goal.returns-clause-read
returns-clause-read g c =
    let self = c.args.self.now in
    reads_so work_in _ _
    (only_read self.slot self.text.items self.torn (g.P.Pages.store self.store) (g.P.Pages.store c.settled_at.new.store)
    c.settled_at.ensures.read.works c.settled_at.ensures.read.unchanged)
