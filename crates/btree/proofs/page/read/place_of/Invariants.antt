use Rattle.std.proofs.Common.{◌-◌}
use Rattle.btree.specs.Page.{count_in, items_in}
use Rattle.btree.proofs.pages.KeyPlaces.{IsNarrowed}
use Rattle.btree.proofs.page.read.place_of.Given as goal

abbrev pub invariant-loop-low : goal.invariant-loop-low
invariant-loop-low l = IsNarrowed (items_in l.fn.widths l.fn.kind l.fn.bytes) (count_in l.fn.bytes) l.fn.key l.low l.high

abbrev pub decreases-loop-low : goal.decreases-loop-low
decreases-loop-low l = l.high - l.low
