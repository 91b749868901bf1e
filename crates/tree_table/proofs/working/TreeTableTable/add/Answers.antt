use Rattle.std.proofs.Common.{◌≤◌, ◌^◌, refl, arith, ◌≡◌, ℕ, length, sym, subst, true, false, Option}
use Rattle.btree.specs.declared.find.reader.Reader.{Reader}
use Rattle.tree_table.specs.Readers.{IsNear}
use Rattle.retrograde.specs.Changes.{with_position}
use Rattle.tree_table.specs.WorkTable.{work_of, table_now, HoldsTable, HoldsWork, IsHonestWork}
use Rattle.tree_table.specs.lemmas.Frames.{memory_fails, stays_goes_on, stays_here}
use Rattle.std.specs.Option.{IfSome}
use Rattle.tree_table.proofs.LastCell.{seen_with_position}
use Rattle.tree_table.proofs.Faults.{passed_on}
use Rattle.tree_table.proofs.HeldTable.{writes_fail, now_held, now_stored, now_seen, now_goes_on}
use Rattle.tree_table.proofs.working.TreeTableTable.add.Goals as goal

pub returns-then-len-self-clause-fault : goal.returns-then-len-self-clause-fault
returns-then-len-self-clause-fault g c = memory_fails (stays_goes_on (stays_here _))

pub invariant_of-self-2 : goal.invariant_of-self-2
invariant_of-self-2 g c =
    let self = c.args.self.now in
    let text = self.text.items in
    let old = work_of self.slot text self.torn (g.P.Pages.store self.store) in
    let new = work_of c.in_ok-self.field-0 text self.torn (g.P.Pages.store c.add_position.new.store) in
    let done = c.in_ok-self.ensures.ok in
    let now = with_position (table_now old) c.args.packed.now.items in
    let few : c.in_ok-self.field-0.sizes.counts.known ≤ 2 ^ 24 = omega (arith, done.known, c.requires.room) in
    let changed : IsHonestWork old → HoldsWork old → HoldsTable c.in_ok-self.field-0 text now (g.P.Pages.store c.add_position.new.store) =
    λ honest h. done.table honest.disk text (table_now old) h (c.requires.unknown honest) in
    record {
      reads = subst (λ (near : Option Reader). IsNear c.in_ok-self.field-0 (g.P.Pages.store c.add_position.new.store) near) (sym c.forget.ensures) tt;
      some = omega (arith, self.some, done.slot.packed);
      short = omega (arith, self.short, done.slot.packed);
      few = few;
      points = omega (arith, self.points, done.slot.goal);
      holds = now_held old new now few done.written.works refl refl changed self.holds;
      long = subst (λ (n : ℕ). IfSome self.seen (λ s. length s.cell.position.items ≡ n)) (sym done.slot.packed) self.long;
      last = now_seen old new now few done.written.works refl refl changed self.seen
          (seen_with_position (table_now old) c.args.packed.now.items) self.holds self.last;
    }

pub returns-clause-added : goal.returns-clause-added
returns-clause-added g c = λ honest.
    let self = c.args.self.now in
    let text = self.text.items in
    let old = work_of self.slot text self.torn (g.P.Pages.store self.store) in
    let new = work_of c.in_ok-self.field-0 text self.torn (g.P.Pages.store c.add_position.new.store) in
    let done = c.in_ok-self.ensures.ok in
    let now = with_position (table_now old) c.args.packed.now.items in
    let few : c.in_ok-self.field-0.sizes.counts.known ≤ 2 ^ 24 = omega (arith, done.known, c.requires.room) in
    let changed : IsHonestWork old → HoldsWork old → HoldsTable c.in_ok-self.field-0 text now (g.P.Pages.store c.add_position.new.store) =
    λ honest h. done.table honest.disk text (table_now old) h (c.requires.unknown honest) in
    now_stored old new now few done.written.works refl refl changed self.holds honest

pub returns-clause-ahead : goal.returns-clause-ahead
returns-clause-ahead g c =
    let self = c.args.self.now in
    let text = self.text.items in
    let old = work_of self.slot text self.torn (g.P.Pages.store self.store) in
    let new = work_of c.in_ok-self.field-0 text self.torn (g.P.Pages.store c.add_position.new.store) in
    let done = c.in_ok-self.ensures.ok in
    let now = with_position (table_now old) c.args.packed.now.items in
    let few : c.in_ok-self.field-0.sizes.counts.known ≤ 2 ^ 24 = omega (arith, done.known, c.requires.room) in
    let changed : IsHonestWork old → HoldsWork old → HoldsTable c.in_ok-self.field-0 text now (g.P.Pages.store c.add_position.new.store) =
    λ honest h. done.table honest.disk text (table_now old) h (c.requires.unknown honest) in
    now_goes_on old new now few done.written.works refl refl changed done.written.still done.slot.text done.slot.packing done.slot.goal

pub invariant_of-self : goal.invariant_of-self
invariant_of-self g c =
    let self = c.args.self.now in
    record {
      some = self.some;
      short = self.short;
      few = self.few;
      points = self.points;
      holds = λ honest. let never : true ≡ false = honest.whole in absurd (cc);
      long = self.long;
      last = λ honest. let never : true ≡ false = honest.whole in absurd (cc);
      reads = subst (λ (near : Option Reader). IsNear self.slot (g.P.Pages.store c.add_position.new.store) near) (sym c.forget.ensures) tt;
    }

pub returns-in_err-self-clause-fault : goal.returns-in_err-self-clause-fault
returns-in_err-self-clause-fault g c =
    let self = c.args.self.now in
    passed_on _ c.from_residual.result _ c.from_residual.ensures
    (writes_fail self.slot self.text.items self.torn true (g.P.Pages.store self.store) (g.P.Pages.store c.add_position.new.store) c.in_err-self.ensures.err)
