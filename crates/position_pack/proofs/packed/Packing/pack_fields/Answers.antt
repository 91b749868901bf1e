use Rattle.std.proofs.Common.{◌≤◌, sym, ◌∙◌, subst}
use Rattle.std.specs.List.{sum_by}
use Rattle.position_pack.specs.Bits.{width}
use Rattle.position_pack.proofs.PartFields.{few_bits}
use Rattle.position_pack.proofs.packed.Packing.pack_fields.Goals as goal

pub bytes_of_fields-requires : goal.bytes_of_fields-requires
bytes_of_fields-requires c = subst (λ g. sum_by width g ≤ 1920) (sym (c.deref.ensures.0 ∙ c.self.inside.greatest_are)) (few_bits _ c.self.inside.small)
