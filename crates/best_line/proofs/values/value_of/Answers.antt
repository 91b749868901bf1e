use Rattle.std.proofs.Common.{◌≡◌, None, refl}
use Rattle.retrograde.specs.Stored.{view_of}
use Rattle.best_line.proofs.FinishLemmas.{unsettled_value}
use Rattle.best_line.proofs.values.value_of.Goals as goal

pub returns : goal.returns
returns c = λ stored number table has counts.
    let none : (view_of stored).value number ≡ None = rw (has, c.in_default.is) refl in
    unsettled_value stored c.args.counts counts table number none c.unsettled.result c.unsettled.ensures
