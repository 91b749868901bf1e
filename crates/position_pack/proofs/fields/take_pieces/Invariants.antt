use Rattle.std.proofs.Common.{◌≡◌, take}
use Rattle.position_pack.proofs.fields.take_pieces.Given as goal

abbrev pub invariant-loop-field : goal.invariant-loop-field
invariant-loop-field l = l.pieces.items ≡ take l.field-index l.fields
