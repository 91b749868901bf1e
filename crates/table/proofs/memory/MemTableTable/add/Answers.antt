use Rattle.std.proofs.Common.{◌∙◌, length, ◌≤◌, refl, true, arith}
use Rattle.retrograde.specs.Stored.{is_expanded, is_processed}
use Rattle.table.proofs.CountLemmas.{count_fresh}
use Rattle.table.proofs.EdgeLemmas.{known_in_more}
use Rattle.table.proofs.NumberLemmas.{numbered_more}
use Rattle.table.proofs.memory.MemTableTable.add.Goals as goal

pub invariant_of-self-2-clause-numbered : goal.invariant_of-self-2-clause-numbered
invariant_of-self-2-clause-numbered c =
    rw (c.push_reserved.ensures.items, c.in_ok-reserve.ensures.items)
    (numbered_more c.args.self.now.positions.items c.args.self.now.numbers c.args.self.now.numbered c.insert.new.self c.copied-2.result c.copied.result
    c.args.packed.now.items c.copied-2.ensures c.copied.ensures (c.requires.unknown tt) c.len-number.result (omega arith) c.in_ok-insert.ensures.updates)

pub invariant_of-self-2-clause-known : goal.invariant_of-self-2-clause-known
invariant_of-self-2-clause-known c =
    let longer : length c.args.self.now.positions.items ≤ length c.push_reserved.new.self.items = omega
    (arith, c.push_reserved.ensures.len, c.in_ok-reserve.ensures.len) in
    known_in_more (length c.args.self.now.positions.items) (length c.push_reserved.new.self.items) c.args.self.now.edges longer c.args.self.now.known

pub invariant_of-self-2-clause-expanded_is : goal.invariant_of-self-2-clause-expanded_is
invariant_of-self-2-clause-expanded_is c =
    c.args.self.now.expanded_is
    ∙ count_fresh (λ r. is_expanded r.state) refl c.args.self.now.records.items c.reserve-2.new.self.items c.push_reserved-2.new.self.items c.fresh.result true
    c.in_ok-reserve-2.ensures.items c.fresh.ensures c.push_reserved-2.ensures.items

pub invariant_of-self-2-clause-processed_is : goal.invariant_of-self-2-clause-processed_is
invariant_of-self-2-clause-processed_is c =
    c.args.self.now.processed_is
    ∙ count_fresh (λ r. is_processed r.state) refl c.args.self.now.records.items c.reserve-2.new.self.items c.push_reserved-2.new.self.items c.fresh.result true
    c.in_ok-reserve-2.ensures.items c.fresh.ensures c.push_reserved-2.ensures.items
