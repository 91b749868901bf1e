use Rattle.std.proofs.Common.{◌≡◌, ◌-◌, ◌++◌, length, ap, ◌∙◌, arith}
use Rattle.std.specs.List.{flat_map, sum_by}
use Rattle.position_pack.specs.Fields.{role_code}
use Rattle.position_pack.specs.Bits.{width, bits_of, field_bits, bytes_of_bits, bytes_by_bits}
use Rattle.position_pack.specs.lemmas.Streams.{written}
use Rattle.position_pack.proofs.ShapeLemmas.{shape}
use Rattle.position_pack.proofs.PieceBits.{by_parts}
use Rattle.position_pack.proofs.PackedRoom.{parts_fit, pieces_long, fields_long, last_long}
use Rattle.position_pack.proofs.packed.Packing.put_position_bits.Goals as goal

pub put_piece_bits-requires-clause-room : goal.put_piece_bits-requires-clause-room
put_piece_bits-requires-clause-room c =
    let pieces : length c.deref.result.now ≡ c.self.inside.vertices = omega
    (arith, ap length c.deref.ensures.0, c.len.ensures.value, c.from.ensures, c.if-len-from.false) in
    let fits = parts_fit c.self.inside.small pieces (c.width_of-piece.ensures.is ∙ ap width c.from-2.ensures) in
    omega (arith, fits, ap length c.requires.empty)

pub put_fields-requires-clause-room : goal.put_fields-requires-clause-room
put_fields-requires-clause-room c =
    let pieces : length c.deref.result.now ≡ c.self.inside.vertices = omega
    (arith, ap length c.deref.ensures.0, c.len.ensures.value, c.from.ensures, c.if-len-from.false) in
    let fits = parts_fit c.self.inside.small pieces (c.width_of-piece.ensures.is ∙ ap width c.from-2.ensures) in
    omega (
      arith,
      fits,
      ap length c.requires.empty,
      pieces_long (written c.args.writer.now) c.deref.result.now c.width_of-piece.result c.put_piece_bits.ensures.bits,
      ap (sum_by width) c.deref-2.ensures.0,
    )

pub put_last_fields-requires-clause-room : goal.put_last_fields-requires-clause-room
put_last_fields-requires-clause-room c =
    let pieces : length c.deref.result.now ≡ c.self.inside.vertices = omega
    (arith, ap length c.deref.ensures.0, c.len.ensures.value, c.from.ensures, c.if-len-from.false) in
    let fits = parts_fit c.self.inside.small pieces (c.width_of-piece.ensures.is ∙ ap width c.from-2.ensures) in
    omega (
      arith,
      fits,
      ap length c.requires.empty,
      pieces_long (written c.args.writer.now) c.deref.result.now c.width_of-piece.result c.put_piece_bits.ensures.bits,
      ap (sum_by width) c.deref-2.ensures.0,
      fields_long (written c.put_piece_bits.new.writer) c.deref-2.result.now c.deref-3.result.now c.put_fields.ensures.bits,
    )

pub finish-requires-clause-room : goal.finish-requires-clause-room
finish-requires-clause-room c =
    let pieces : length c.deref.result.now ≡ c.self.inside.vertices = omega
    (arith, ap length c.deref.ensures.0, c.len.ensures.value, c.from.ensures, c.if-len-from.false) in
    let fits = parts_fit c.self.inside.small pieces (c.width_of-piece.ensures.is ∙ ap width c.from-2.ensures) in
    omega (
      arith,
      fits,
      ap length c.requires.empty,
      pieces_long (written c.args.writer.now) c.deref.result.now c.width_of-piece.result c.put_piece_bits.ensures.bits,
      ap (sum_by width) c.deref-2.ensures.0,
      fields_long (written c.put_piece_bits.new.writer) c.deref-2.result.now c.deref-3.result.now c.put_fields.ensures.bits,
      last_long (written c.put_fields.new.writer) (width (c.self.inside.vertices - 1)) (width 2) (width c.self.inside.actions)
          c.args.at.now.state.vertex (role_code c.args.at.now.state.mover) c.args.at.now.place c.put_last_fields.ensures.bits,
    )

pub returns : goal.returns
returns c =
    let s = shape c.self.inside.pieces c.self.inside.bounds.items c.self.inside.vertices c.self.inside.actions in
    let at = c.args.at.now in
    let ps = at.state.pieces.items in
    let vs = at.state.values.items in
    let pieces : length ps ≡ s.vertices = omega (arith, c.len.ensures.value, c.from.ensures, c.if-len-from.false) in
    let values : length vs ≡ length s.bounds = omega (arith, c.len-else-len-from.ensures.value, c.len-else-len-from-2.ensures.value, c.if-len.false) in
    let piece : c.width_of-piece.result ≡ width (s.pieces - 1) = c.width_of-piece.ensures.is ∙ ap width c.from-2.ensures in
    let first : written c.put_piece_bits.new.writer ≡ flat_map (bits_of (width (s.pieces - 1))) ps =
    c.put_piece_bits.ensures.bits ∙ ap (λ xs. xs ++ flat_map (bits_of c.width_of-piece.result) c.deref.result.now) c.requires.empty
    ∙ ap (λ xs. flat_map (bits_of c.width_of-piece.result) xs) c.deref.ensures.0 ∙ ap (λ w. flat_map (bits_of w) ps) piece in
    let second = c.put_fields.ensures.bits ∙ ap (λ xs. xs ++ field_bits c.deref-2.result.now c.deref-3.result.now) first
    ∙ ap (λ bs. flat_map (bits_of (width (s.pieces - 1))) ps ++ field_bits bs c.deref-3.result.now) c.deref-2.ensures.0
    ∙ ap (λ xs. flat_map (bits_of (width (s.pieces - 1))) ps ++ field_bits s.bounds xs) c.deref-3.ensures.0 in
    let third = c.put_last_fields.ensures.bits
    ∙ ap (λ xs. ((xs ++ bits_of (width (s.vertices - 1)) at.state.vertex) ++ bits_of (width 2) (role_code at.state.mover)) ++ bits_of (width s.actions) at.place) second in
    c.finish.ensures ∙ ap bytes_of_bits (third ∙ by_parts s at pieces values) ∙ ap (λ f. bytes_by_bits f.shape at) c.self.view_is
