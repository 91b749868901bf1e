use mathlib.Core.Logic.{∥∥₁_elim}
use Rattle.tree_table.specs.InTrees.{work_in}
use Rattle.tree_table.specs.WorkTable.{work_of, table_now, work_there, HoldsWork}
use Rattle.tree_table.proofs.HeldTable.{each_some, only_read, reads_so, still_held, still_seen, read_refused, read_without_page, ok_prop, none_prop}
use Rattle.tree_table.specs.lemmas.Last.{if_prop}
use Rattle.tree_table.proofs.HeldTable.{each_some, next_prop, no_more_prop}
use Rattle.tree_table.specs.lemmas.Readers.{near_stays}
use Rattle.tree_table.proofs.working.TreeTableTable.next_edge.Goals as goal

pub invariant_of-self : goal.invariant_of-self
invariant_of-self g c =
    let self = c.args.self.now in
    let old = g.P.Pages.store self.store in
    let new = g.P.Pages.store c.edge_after.new.store in
    let stays = only_read self.slot self.text.items self.torn old new c.edge_after.ensures.read.works c.edge_after.ensures.read.unchanged in
    record {
      reads = near_stays self.slot old new self.near c.edge_after.ensures.read.works c.edge_after.ensures.read.unchanged self.reads;
      some = self.some;
      short = self.short;
      few = self.few;
      points = self.points;
      holds = still_held (work_of self.slot self.text.items self.torn old) (work_of self.slot self.text.items self.torn new) stays self.holds;
      long = self.long;
      last = still_seen (work_of self.slot self.text.items self.torn old) (work_of self.slot self.text.items self.torn new) self.seen stays self.last;
    }

pub returns-clause-next : goal.returns-clause-next
returns-clause-next g c = λ honest.
    let self = c.args.self.now in
    let old = work_of self.slot self.text.items self.torn (g.P.Pages.store self.store) in
    ∥∥₁_elim (self.holds honest) (ok_prop _ c.edge_after.result
    (λ r. if_prop _ r (λ p. next_prop (table_now old) c.args.successor c.args.after p)))
    (λ (h : HoldsWork old). c.edge_after.ensures.next honest.disk self.text.items (table_now old) (work_there old h))

pub returns-clause-none : goal.returns-clause-none
returns-clause-none g c = λ honest.
    let self = c.args.self.now in
    let old = work_of self.slot self.text.items self.torn (g.P.Pages.store self.store) in
    ∥∥₁_elim (self.holds honest) (ok_prop _ c.edge_after.result
    (λ r. none_prop _ r (no_more_prop (table_now old) c.args.successor c.args.after)))
    (λ (h : HoldsWork old). c.edge_after.ensures.none honest.disk self.text.items (table_now old) (work_there old h))

pub returns-clause-fault : goal.returns-clause-fault
returns-clause-fault g c =
    let self = c.args.self.now in
    let old = g.P.Pages.store self.store in
    let new = g.P.Pages.store c.edge_after.new.store in
    read_refused (work_of self.slot self.text.items self.torn old) (work_of self.slot self.text.items self.torn new) c.edge_after.result
    (only_read self.slot self.text.items self.torn old new c.edge_after.ensures.read.works c.edge_after.ensures.read.unchanged) c.edge_after.ensures.cause

pub returns-clause-room : goal.returns-clause-room
returns-clause-room g c =
    read_without_page c.args.self.now.slot (g.P.Pages.store c.args.self.now.store)
    (g.P.Pages.store c.edge_after.new.store) c.edge_after.result c.edge_after.ensures.cause

pub returns-clause-read : goal.returns-clause-read
returns-clause-read g c =
    let self = c.args.self.now in
    reads_so work_in _ _
    (only_read self.slot self.text.items self.torn (g.P.Pages.store self.store) (g.P.Pages.store c.edge_after.new.store)
    c.edge_after.ensures.read.works c.edge_after.ensures.read.unchanged)

pub returns-clause-within : goal.returns-clause-within
returns-clause-within g c = each_some c.edge_after.result (λ p it. it.within) c.edge_after.ensures.bounds

pub returns-clause-later : goal.returns-clause-later
returns-clause-later g c = each_some c.edge_after.result (λ p it. it.later) c.edge_after.ensures.bounds
