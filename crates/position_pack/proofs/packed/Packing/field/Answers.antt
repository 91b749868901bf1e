use Rattle.std.proofs.Common.{take, ap, ◌∙◌, arith}
use Rattle.std.specs.List.{sum_by}
use Rattle.std.proofs.lemmas.List.Sums.{sum_by-take-le}
use Rattle.position_pack.specs.Bits.{width, greatest_of}
use Rattle.position_pack.proofs.ShapeLemmas.{shape}
use Rattle.position_pack.proofs.PartFields.{few_bits}
use Rattle.position_pack.proofs.packed.Packing.field.Goals as goal

pub number_at-requires-clause-place : goal.number_at-requires-clause-place
number_at-requires-clause-place c =
    let s = shape c.self.inside.pieces c.self.inside.bounds.items c.self.inside.vertices c.self.inside.actions in
    let same = ap (λ g. sum_by width (take c.args.field g)) (c.deref.ensures.0 ∙ c.self.inside.greatest_are) in
    omega (arith, c.bits_in-place.ensures, same, sum_by-take-le width (greatest_of s) c.args.field, few_bits s c.self.inside.small)
