use Rattle.std.proofs.Common.{rules, arith, ◌≡◌, ◌<◌, length, None}
use Rattle.file_disk.specs.WaitingSectors.{place_of}
use Rattle.file_disk.proofs.PagePlaces.{added_same, added_slots, added_distinct, added_noted, added_placed, has_none}
use Rattle.file_disk.proofs.waiting_writes.WaitingWrites.place_for.Goals as goal

pub invariant_of-self : goal.invariant_of-self
invariant_of-self c =
    let room : c.args.self.now.count < length c.args.self.now.pages.items = search rules in
    let none : place_of c.args.self.now.pages.items c.args.self.now.count c.args.page ≡ None = search rules in
    record {
      few = search rules;
      sized = search rules;
      distinct = added_distinct _ _ _ room none c.args.self.now.distinct;
      placed = added_placed _ _ _ room c.requires c.args.self.now.placed;
      hinted = search rules;
      noted = added_noted _ _ _ _ _ _ c.note_of.ensures room c.hint_of.ensures (omega (arith, c.hint_of.ensures, c.args.self.now.hinted)) c.args.self.now.noted;
    }

pub returns-clause-same : goal.returns-clause-same
returns-clause-same c =
    let room : c.args.self.now.count < length c.args.self.now.pages.items = search rules in
    let none : place_of c.args.self.now.pages.items c.args.self.now.count c.args.page ≡ None = search rules in
    λ content k. added_same _ _ _ room (λ s lt. has_none s) none _ content k

pub returns-clause-slots : goal.returns-clause-slots
returns-clause-slots c =
    let room : c.args.self.now.count < length c.args.self.now.pages.items = search rules in
    let none : place_of c.args.self.now.pages.items c.args.self.now.count c.args.page ≡ None = search rules in
    λ k. added_slots _ _ _ room (λ s lt. has_none s) none k
