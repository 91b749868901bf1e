use Rattle.position_pack.specs.Bits.{greatest_of, field_bits}
use Rattle.position_pack.specs.Fields.{fields_of}
use Rattle.position_pack.proofs.ByteLemmas.{zeros_behind, few_zeros, padded}
use Rattle.position_pack.proofs.FieldLemmas.{fields_are_bits}
use Rattle.position_pack.proofs.laws.bits_are_padded.Goals as goal

pub returns : goal.returns
returns c = λ shape at. (
  zeros_behind (field_bits (greatest_of shape) (fields_of at)),
  few_zeros _,
  padded _ (fields_are_bits (greatest_of shape) (fields_of at)),
)
