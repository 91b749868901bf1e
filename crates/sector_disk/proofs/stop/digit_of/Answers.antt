use Rattle.sector_disk.proofs.Stops.{digit_shifted}
use Rattle.sector_disk.proofs.stop.digit_of.Goals as goal

pub returns : goal.returns
returns c = digit_shifted c.args.pick c.args.number c.requires
