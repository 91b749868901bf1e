use Rattle.table.proofs.Whole.{whole_fits, both_true, either_way}
use Rattle.table.proofs.memory.MemTable.fits.Goals as goal

pub returns : goal.returns
returns c =
    let t = c.args.self.now in
    either_way (both_true c.in_ok-fit.fit c.are_long-long.result)
    (whole_fits t.positions.items t.numbers t.records.items t.edges t.order.items t.expanded t.processed t.numbered t.recorded t.known t.expanded_is t.processed_is c.args.packed c.in_ok-fit.fit c.are_long-long.result
    (rw (← c.deref-2.ensures.value, ← c.deref-3.ensures.value) c.in_ok-fit.ensures) (rw (← c.deref.ensures.value) c.are_long-long.ensures))
