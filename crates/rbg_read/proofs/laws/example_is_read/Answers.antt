use Rattle.rbg_read.proofs.ExampleReads.{example_read}
use Rattle.rbg_read.proofs.laws.example_is_read.Goals as goal

pub returns : goal.returns
returns c = example_read
