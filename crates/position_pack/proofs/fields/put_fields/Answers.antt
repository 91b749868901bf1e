use Rattle.std.proofs.Common.{◌++◌, length, take, get_or, ap, sym, ◌∙◌, subst, append_assoc, arith}
use Rattle.std.proofs.lemmas.List.{length-append}
use Rattle.std.proofs.lemmas.List.Sums.{sum_by_more_le}
use Rattle.position_pack.specs.Bits.{width, bits_of, field_bits}
use Rattle.position_pack.specs.lemmas.Streams.{written, IsWriter}
use Rattle.position_pack.proofs.ReadLemmas.{field_more, field_none, length-field_bits}
use Rattle.position_pack.proofs.fields.put_fields.Goals as goal
use Rattle.position_pack.proofs.fields.put_fields.Goals.{then-index-fields, else-index-fields}

pub put-requires-clause-room : goal.put-requires-clause-room
put-requires-clause-room c =
    let k = c.loop-index.index in
    let so_far = length-field_bits (take k c.args.greatest.now) c.args.fields.now in
    let one = sum_by_more_le width c.args.greatest.now k 0 c.loop-index-test.true in
    let bits = ap length c.loop-index.invariant.bits ∙ length-append (written c.args.writer.now) (field_bits (take k c.args.greatest.now) c.args.fields.now) in
    omega (arith, so_far, one, bits, c.width_of.ensures.is, c.requires.room)

pub loop-index-preserved : goal.loop-index-preserved
loop-index-preserved c =
    let k = c.loop-index.index in
    let greatest = c.args.greatest.now in
    let fields = c.args.fields.now in
    let old = written c.args.writer.now in
    elim c.if-index-fields.branch [
      | then-index-fields w ↦
          let more = field_more greatest fields k c.loop-index-test.true w.if-index-fields.true in
          record {
            writer = subst IsWriter (sym w.writer-is) w.put.ensures.writer;
            bits = ap written w.writer-is ∙ w.put.ensures.bits ∙ ap (λ xs. xs ++ bits_of w.width_of.result (get_or fields k 0)) c.loop-index.invariant.bits
                ∙ append_assoc old (field_bits (take k greatest) fields) (bits_of w.width_of.result (get_or fields k 0))
                ∙ ap (λ n. old ++ (field_bits (take k greatest) fields ++ bits_of n (get_or fields k 0))) w.width_of.ensures.is
                ∙ ap (λ xs. old ++ xs) (sym more);
          }
      | else-index-fields w ↦ record {
        writer = subst IsWriter (sym w.writer-is) c.loop-index.invariant.writer;
        bits = ap written w.writer-is ∙ c.loop-index.invariant.bits ∙ ap (λ xs. old ++ xs) (sym (field_none greatest fields k w.if-index-fields.false));
      }
    ]
