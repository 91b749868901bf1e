use Rattle.tree_table.specs.lemmas.Readers.{near_stays}
use Rattle.tree_table.proofs.read.cell_near.Goals as goal

pub returns-then-not-follows-clause-near : goal.returns-then-not-follows-clause-near
returns-then-not-follows-clause-near g c =
    near_stays c.args.slot.now (g.P.Pages.store c.args.store.now)
    (g.P.Pages.store c.cell_into.new.store) c.args.near.now c.cell_into.ensures.read.works c.cell_into.ensures.read.unchanged
    c.requires.near

pub returns-in-None-clause-near : goal.returns-in-None-clause-near
returns-in-None-clause-near g c = (c.reader_of.ensures.is, c.reader_of.ensures.reading (g.P.Pages.store c.cell_into-in-None.new.store))
