use Rattle.std.proofs.Common.{arith, sym, ◌∙◌}
use Rattle.std.proofs.lemmas.List.{length-take-le}
use Rattle.sector_disk.proofs.stop.half_of_each.Goals as goal

pub slice_bounds-copy_from_slice-end : goal.slice_bounds-copy_from_slice-end
slice_bounds-copy_from_slice-end c = sym (length-take-le 256 c.args.second.now (omega (arith, c.told-second)))

pub copy_from_slice-requires : goal.copy_from_slice-requires
copy_from_slice-requires c = length-take-le 256 c.args.second.now (omega (arith, c.told-second))
    ∙ sym (length-take-le 256 c.args.first.now (omega (arith, c.told-first)))
