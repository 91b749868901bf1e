use Rattle.std.proofs.Common.{◌≡◌, ℕ, List, Option, length, sym, subst}
use mathlib.Core.Logic.{∥∥₁_elim}
use Rattle.std.specs.Option.{IfSome}
use Rattle.retrograde.specs.Stored.{Stored}
use Rattle.tree_table.specs.declared.last.Seen.{Seen}
use Rattle.tree_table.specs.Last.{IsSeenIn, IsLastSeen}
use Rattle.tree_table.specs.WorkTable.{work_of, table_now, work_there, HoldsWork}
use Rattle.tree_table.specs.lemmas.Frames.{honest_before, stays_here, table_same}
use Rattle.tree_table.proofs.Faults.{passed_on}
use Rattle.tree_table.proofs.HeldTable.{only_read, read_fails_so, still_held, still_seen}
use Rattle.tree_table.specs.lemmas.Last.{if_prop, seen_prop}
use Rattle.tree_table.proofs.working.TreeTable.see.Goals as goal

pub returns-then-has_seen-clause-stays : goal.returns-then-has_seen-clause-stays
returns-then-has_seen-clause-stays g c = stays_here _

pub invariant_of-self : goal.invariant_of-self
invariant_of-self g c =
    let self = c.args.self.now in
    let old = work_of self.slot self.text.items self.torn (g.P.Pages.store self.store) in
    let new = work_of self.slot self.text.items self.torn (g.P.Pages.store c.see_near.new.store) in
    let stays = only_read self.slot self.text.items self.torn old.store new.store c.see_near.ensures.read.works c.see_near.ensures.read.unchanged in
    let same : c.see_near.new.seen ≡ self.seen = c.in_err-see_near.ensures.same in
    record {
      reads = c.see_near.ensures.near;
      some = self.some;
      short = self.short;
      few = self.few;
      points = self.points;
      holds = still_held old new stays self.holds;
      long = subst (λ (o : Option Seen). IfSome o (λ s. length s.cell.position.items ≡ self.slot.sizes.packed)) (sym same) self.long;
      last = subst (IsLastSeen new) (sym same) (still_seen old new self.seen stays self.last);
    }

pub returns-in_err-see_near-clause-fault : goal.returns-in_err-see_near-clause-fault
returns-in_err-see_near-clause-fault g c =
    let self = c.args.self.now in
    let old = g.P.Pages.store self.store in
    let new = g.P.Pages.store c.see_near.new.store in
    passed_on _ c.from_residual.result _ c.from_residual.ensures
    (read_fails_so (work_of self.slot self.text.items self.torn old) (work_of self.slot self.text.items self.torn new) _
    (only_read self.slot self.text.items self.torn old new c.see_near.ensures.read.works c.see_near.ensures.read.unchanged) c.in_err-see_near.ensures.cause)

pub invariant_of-self-2 : goal.invariant_of-self-2
invariant_of-self-2 g c =
    let self = c.args.self.now in
    let old = work_of self.slot self.text.items self.torn (g.P.Pages.store self.store) in
    let new = work_of self.slot self.text.items self.torn (g.P.Pages.store c.see_near.new.store) in
    let found = c.in_ok-see_near.ensures in
    let seen = c.see_near.new.seen in
    let stays = only_read self.slot self.text.items self.torn old.store new.store found.read.works found.read.unchanged in
    record {
      reads = c.see_near.ensures.near;
      some = self.some;
      short = self.short;
      few = self.few;
      points = self.points;
      holds = still_held old new stays self.holds;
      long = found.seen.long;
      last = λ honest.
          let before = honest_before {a = old} {b = new} stays.works stays.torn honest in
          subst (λ (t : Stored (List ℕ)). IfSome seen (IsSeenIn t)) (sym (table_same old new stays before.disk))
          (∥∥₁_elim (self.holds before) (if_prop (IsSeenIn (table_now old)) seen (seen_prop (table_now old)))
          (λ (h : HoldsWork old). found.seen.cell before.disk self.text.items (table_now old) (work_there old h)));
    }
