use Rattle.std.proofs.Common.{◌%◌, ◌^◌, ◌<◌, ◌++◌, ap, ◌∙◌, sym, subst, arith}
use Rattle.position_pack.specs.Bits.{bits_of}
use Rattle.position_pack.specs.lemmas.Streams.{written}
use Rattle.position_pack.proofs.ShiftLemmas.{one_shifted, below_power, bits_low}
use Rattle.position_pack.proofs.writer.put.Goals as goal

pub put_low-requires-clause-low : goal.put_low-requires-clause-low
put_low-requires-clause-low c =
    let one = one_shifted c.args.width (omega (arith, c.requires.width)) in
    subst (λ n. c.from.result % n < 2 ^ c.args.width) (sym one) (below_power c.from.result c.args.width)

pub returns-clause-bits : goal.returns-clause-bits
returns-clause-bits c =
    let one = one_shifted c.args.width (omega (arith, c.requires.width)) in
    c.put_low.ensures.bits
    ∙ ap (λ n. written c.args.writer.now ++ bits_of c.args.width (c.from.result % n)) one
    ∙ ap (λ xs. written c.args.writer.now ++ xs) (bits_low c.args.width c.from.result)
    ∙ ap (λ n. written c.args.writer.now ++ bits_of c.args.width n) c.from.ensures
