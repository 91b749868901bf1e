use Rattle.std.proofs.Common.{append_assoc, ◌≡◌, ℕ, ◌+◌, ◌*◌, ◌%◌, ◌^◌, ◌<◌, ◌≤◌, ◌++◌, ap, ◌∙◌, sym, subst, arith}
use Rattle.std.proofs.Math.Pow.{pow_mono}
use Rattle.position_pack.specs.Bits.{bits_of}
use Rattle.position_pack.specs.lemmas.Streams.{written, IsWriter}
use Rattle.position_pack.specs.declared.writer.Writer.{Writer}
use Rattle.position_pack.proofs.ByteLemmas.{all_bits}
use Rattle.position_pack.proofs.ShiftLemmas.{high_low, shifted, length-written}
use Rattle.position_pack.proofs.BitLemmas.{bits_more}
use Rattle.position_pack.proofs.writer.put_low.Goals as goal

-- the number that holds the value's bits too
record Held (W : Writer) (w value n : ℕ) : Type 0 where
  low : n < 2 ^ (W.count + w)
  bits : all_bits W.bytes.items ++ bits_of (W.count + w) n ≡ written W ++ bits_of w value

held : (W : Writer) (w value h : ℕ) → h ≡ W.held → value < 2 ^ w → IsWriter W → w ≤ 32
    → Held W w value (h * 2 ^ w % 18446744073709551616 + value)
held W w value h kept small writer few =
    let number = ap (λ n. n * 2 ^ w % 18446744073709551616 + value) kept
    ∙ ap (λ n. n + value) (shifted W.held W.count w writer.low (omega (arith, few, writer.few))) in
    record {
      low = subst (λ n. n < 2 ^ (W.count + w)) (sym number) (high_low W.held value W.count w writer.low small);
      bits = ap (λ n. all_bits W.bytes.items ++ bits_of (W.count + w) n) number
          ∙ ap (λ xs. all_bits W.bytes.items ++ xs) (bits_more W.count w W.held value small)
          ∙ sym (append_assoc (all_bits W.bytes.items) (bits_of W.count W.held) (bits_of w value));
    }

pub put_four-requires-clause-low : goal.put_four-requires-clause-low
put_four-requires-clause-low c =
    (held c.args.writer.now c.args.width c.args.value c.from.result c.from.ensures c.requires.low c.requires.writer c.requires.width).low

pub put_four-requires-clause-room : goal.put_four-requires-clause-room
put_four-requires-clause-room c =
    let long = length-written c.args.writer.now.bytes.items c.args.writer.now.count c.args.writer.now.held in
    omega (arith, long, c.requires.room)

pub overflow_cast-writer : goal.overflow_cast-writer
overflow_cast-writer c =
    let now = (held c.args.writer.now c.args.width c.args.value c.from.result c.from.ensures c.requires.low c.requires.writer c.requires.width).low in
    let most : 2 ^ (c.args.writer.now.count + c.args.width) ≤ 2 ^ 31 =
    pow_mono {i = c.args.writer.now.count + c.args.width} {j = 31} (omega (arith, c.if-count-ge32.false)) in
    omega (arith, now, most)

pub returns-then-count-ge32-clause-bits : goal.returns-then-count-ge32-clause-bits
returns-then-count-ge32-clause-bits c = c.put_four.ensures.bits
    ∙ (held c.args.writer.now c.args.width c.args.value c.from.result c.from.ensures c.requires.low c.requires.writer c.requires.width).bits

pub returns-else-count-ge32-clause-writer : goal.returns-else-count-ge32-clause-writer
returns-else-count-ge32-clause-writer c =
    let now = held c.args.writer.now c.args.width c.args.value c.from.result c.from.ensures c.requires.low c.requires.writer c.requires.width in
    record { few = omega (arith, c.if-count-ge32.false); low = now.low; bytes = c.requires.writer.bytes }

pub returns-else-count-ge32-clause-bits : goal.returns-else-count-ge32-clause-bits
returns-else-count-ge32-clause-bits c =
    (held c.args.writer.now c.args.width c.args.value c.from.result c.from.ensures c.requires.low c.requires.writer c.requires.width).bits
