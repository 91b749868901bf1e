use Rattle.std.proofs.Common.{◌≡◌, ℕ, Some}
use mathlib.Core.Logic.{∥∥₁_elim}
use Rattle.std.specs.Prelude.{slice_get}
use Rattle.tree_table.specs.InTrees.{work_in}
use Rattle.tree_table.specs.WorkTable.{work_of, table_now, work_there, HoldsWork}
use Rattle.tree_table.proofs.HeldTable.{only_read, reads_so, still_held, still_seen, read_refused, read_without_page, ok_prop, none_prop}
use Rattle.tree_table.specs.lemmas.Last.{if_prop, position_prop}
use denote.Struct.Props.{props}
use Rattle.tree_table.specs.lemmas.Readers.{near_stays}
use Rattle.tree_table.proofs.working.TreeTableTable.number_of.Goals as goal

pub invariant_of-self : goal.invariant_of-self
invariant_of-self g c =
    let self = c.args.self.now in
    let old = g.P.Pages.store self.store in
    let new = g.P.Pages.store c.number_of.new.store in
    let stays = only_read self.slot self.text.items self.torn old new c.number_of.ensures.read.works c.number_of.ensures.read.unchanged in
    record {
      reads = near_stays self.slot old new self.near c.number_of.ensures.read.works c.number_of.ensures.read.unchanged self.reads;
      some = self.some;
      short = self.short;
      few = self.few;
      points = self.points;
      holds = still_held (work_of self.slot self.text.items self.torn old) (work_of self.slot self.text.items self.torn new) stays self.holds;
      long = self.long;
      last = still_seen (work_of self.slot self.text.items self.torn old) (work_of self.slot self.text.items self.torn new) self.seen stays self.last;
    }

pub returns-clause-found : goal.returns-clause-found
returns-clause-found g c = λ honest.
    let self = c.args.self.now in
    let old = work_of self.slot self.text.items self.torn (g.P.Pages.store self.store) in
    ∥∥₁_elim (self.holds honest) (ok_prop _ c.number_of.result
    (λ r. if_prop _ r (λ i. position_prop (slice_get (table_now old).positions i) (Some c.args.packed.now.items))))
    (λ (h : HoldsWork old). c.number_of.ensures.found honest.disk self.text.items (table_now old) (work_there old h))

pub returns-clause-unknown : goal.returns-clause-unknown
returns-clause-unknown g c = λ honest.
    let self = c.args.self.now in
    let old = work_of self.slot self.text.items self.torn (g.P.Pages.store self.store) in
    ∥∥₁_elim (self.holds honest) (ok_prop _ c.number_of.result
    (λ r. none_prop ((i : ℕ) → slice_get (table_now old).positions i ≡ Some c.args.packed.now.items → ⊥) r (hlevel props)))
    (λ (h : HoldsWork old). c.number_of.ensures.unknown honest.disk self.text.items (table_now old) (work_there old h))

pub returns-clause-fault : goal.returns-clause-fault
returns-clause-fault g c =
    let self = c.args.self.now in
    let old = g.P.Pages.store self.store in
    let new = g.P.Pages.store c.number_of.new.store in
    read_refused (work_of self.slot self.text.items self.torn old) (work_of self.slot self.text.items self.torn new) c.number_of.result
    (only_read self.slot self.text.items self.torn old new c.number_of.ensures.read.works c.number_of.ensures.read.unchanged) c.number_of.ensures.cause

pub returns-clause-room : goal.returns-clause-room
returns-clause-room g c =
    read_without_page c.args.self.now.slot (g.P.Pages.store c.args.self.now.store)
    (g.P.Pages.store c.number_of.new.store) c.number_of.result c.number_of.ensures.cause

pub returns-clause-read : goal.returns-clause-read
returns-clause-read g c =
    let self = c.args.self.now in
    reads_so work_in _ _
    (only_read self.slot self.text.items self.torn (g.P.Pages.store self.store) (g.P.Pages.store c.number_of.new.store)
    c.number_of.ensures.read.works c.number_of.ensures.read.unchanged)
