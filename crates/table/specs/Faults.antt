-- What a fault of a table may be.
use Rattle.std.specs.Prelude.{◌≡◌}
use Rattle.table.specs.declared.fault.TableFault.{TableFault}
use Rattle.table.specs.declared.fault.TableFault.TheVariants.{TableFull}

-- a call that only reads needs no page
abbrev pub NeedsNoPage : TableFault → Type 0
NeedsNoPage fault = ¬ (fault ≡ TableFull)
