use Rattle.std.proofs.Common.{◌≡◌, ◌≤◌, ◌^◌, ℕ, List, refl, sym, ◌∙◌, subst, arith, true, false, Option}
use Rattle.btree.specs.declared.find.reader.Reader.{Reader}
use Rattle.tree_table.specs.Readers.{IsNear}
use Rattle.retrograde.specs.Changes.{with_record}
use Rattle.retrograde.specs.Stored.{Stored}
use Rattle.tree_table.specs.declared.last.Seen.{Seen}
use Rattle.tree_table.specs.Last.{IsSeenIn}
use Rattle.tree_table.specs.WorkTable.{Work, work_of, table_now, HoldsTable, HoldsWork, IsHonestWork}
use Rattle.tree_table.specs.lemmas.Frames.{honest_before}
use Rattle.tree_table.proofs.HeldTable.{writes_fail, now_held, now_stored, now_goes_on, writes_so}
use Rattle.tree_table.proofs.LastCell.{IsCellAt, was_seen, long_seen, seen_with_record}
use Rattle.tree_table.proofs.working.TreeTable.set_seen.Goals as goal

pub invariant_of-self-2 : goal.invariant_of-self-2
invariant_of-self-2 g c =
    let self = c.args.self.now in
    let text = self.text.items in
    let old = work_of self.slot text self.torn (g.P.Pages.store self.store) in
    let new = work_of c.in-Ok.slot text self.torn (g.P.Pages.store c.set_record.new.store) in
    let done = c.in-Ok.ensures.ok in
    let now = with_record (table_now old) c.args.number c.args.kept in
    let few : c.in-Ok.slot.sizes.counts.known ≤ 2 ^ 24 = omega (arith, done.known, self.few) in
    let was : IsHonestWork old → IsCellAt (table_now old) c.args.number c.in-Some.seen.cell = was_seen
    (table_now old) self.seen c.in-Some.seen c.args.number old (c.in-Some.is) c.requires.seen self.last in
    let changed : IsHonestWork old → HoldsWork old → HoldsTable c.in-Ok.slot text now (g.P.Pages.store c.set_record.new.store) =
    λ honest h. done.table honest.disk text (table_now old) h (record { position = (was honest).0; kept = (was honest).1 }) in
    let seen : Seen = record { number = c.args.number; cell = record { position = c.in-Some.seen.cell.position; kept = c.args.kept } } in
    record {
      reads = subst (λ (near : Option Reader). IsNear c.in-Ok.slot (g.P.Pages.store c.set_record.new.store) near) (sym c.forget.ensures) tt;
      some = omega (arith, self.some, done.slot.packed);
      short = omega (arith, self.short, done.slot.packed);
      few = few;
      points = omega (arith, self.points, done.slot.goal);
      holds = now_held old new now few done.written.works refl refl changed self.holds;
      long = long_seen self.seen c.in-Some.seen self.slot.sizes.packed (c.in-Some.is) self.long ∙ sym done.slot.packed;
      last = λ honest.
          let before = honest_before {a = old} {b = new} done.written.works refl honest in
          subst (λ (t : Stored (List ℕ)). IsSeenIn t seen) (sym (now_stored old new now few done.written.works refl refl changed self.holds before))
          (seen_with_record (table_now old) c.args.number c.in-Some.seen.cell c.args.kept (was before));
    }

pub returns-clause-set : goal.returns-clause-set
returns-clause-set g c = λ honest.
    let self = c.args.self.now in
    let text = self.text.items in
    let old = work_of self.slot text self.torn (g.P.Pages.store self.store) in
    let new = work_of c.in-Ok.slot text self.torn (g.P.Pages.store c.set_record.new.store) in
    let done = c.in-Ok.ensures.ok in
    let now = with_record (table_now old) c.args.number c.args.kept in
    let few : c.in-Ok.slot.sizes.counts.known ≤ 2 ^ 24 = omega (arith, done.known, self.few) in
    let was : IsHonestWork old → IsCellAt (table_now old) c.args.number c.in-Some.seen.cell = was_seen
    (table_now old) self.seen c.in-Some.seen c.args.number old (c.in-Some.is) c.requires.seen self.last in
    let changed : IsHonestWork old → HoldsWork old → HoldsTable c.in-Ok.slot text now (g.P.Pages.store c.set_record.new.store) =
    λ honest h. done.table honest.disk text (table_now old) h (record { position = (was honest).0; kept = (was honest).1 }) in
    now_stored old new now few done.written.works refl refl changed self.holds honest

pub returns-clause-wrote : goal.returns-clause-wrote
returns-clause-wrote g c =
    let self = c.args.self.now in
    let text = self.text.items in
    let old = work_of self.slot text self.torn (g.P.Pages.store self.store) in
    let new = work_of c.in-Ok.slot text self.torn (g.P.Pages.store c.set_record.new.store) in
    let done = c.in-Ok.ensures.ok in
    let now = with_record (table_now old) c.args.number c.args.kept in
    let few : c.in-Ok.slot.sizes.counts.known ≤ 2 ^ 24 = omega (arith, done.known, self.few) in
    let was : IsHonestWork old → IsCellAt (table_now old) c.args.number c.in-Some.seen.cell = was_seen
    (table_now old) self.seen c.in-Some.seen c.args.number old (c.in-Some.is) c.requires.seen self.last in
    let changed : IsHonestWork old → HoldsWork old → HoldsTable c.in-Ok.slot text now (g.P.Pages.store c.set_record.new.store) =
    λ honest h. done.table honest.disk text (table_now old) h (record { position = (was honest).0; kept = (was honest).1 }) in
    writes_so (λ (w : Work). w) old new
    (now_goes_on old new now few done.written.works refl refl changed done.written.still done.slot.text done.slot.packing done.slot.goal) done.known

pub invariant_of-self : goal.invariant_of-self
invariant_of-self g c =
    let self = c.args.self.now in
    record {
      some = self.some;
      short = self.short;
      few = self.few;
      points = self.points;
      holds = λ honest. let never : true ≡ false = honest.whole in absurd (cc);
      long = tt;
      last = λ honest. let never : true ≡ false = honest.whole in absurd (cc);
      reads = subst (λ (near : Option Reader). IsNear self.slot (g.P.Pages.store c.set_record.new.store) near) (sym c.forget.ensures) tt;
    }

pub returns-in-Err-clause-fault : goal.returns-in-Err-clause-fault
returns-in-Err-clause-fault g c =
    let self = c.args.self.now in
    writes_fail self.slot self.text.items self.torn true (g.P.Pages.store self.store) (g.P.Pages.store c.set_record.new.store) c.in-Err.ensures.err
