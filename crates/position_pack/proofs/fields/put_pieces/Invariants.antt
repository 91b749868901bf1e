use Rattle.std.proofs.Common.{◌≡◌, ◌+◌, ◌++◌, take}
use Rattle.arrayvec.specs.ArrayVec.{array_vec_len}
use Rattle.position_pack.proofs.fields.put_pieces.Given as goal

abbrev pub invariant-loop-piece : goal.invariant-loop-piece
invariant-loop-piece l =
    (l.fields.items ≡ l.fn.fields.items ++ take l.piece-index l.pieces)
    × (array_vec_len l.fields ≡ array_vec_len l.fn.fields + l.piece-index)
