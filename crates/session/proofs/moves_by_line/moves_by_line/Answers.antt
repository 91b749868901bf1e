use Rattle.std.proofs.Common.{[], ◌++◌, ap, take, arith}
use Rattle.legal_moves.specs.Compiled.{compiled_game}
use Rattle.session.specs.ByLine.{AreMovesByLine}
use Rattle.session.proofs.InputLemmas.{consumes_nothing, consumes_none, consumes_then, consumes_and_keeps}
use Rattle.session.proofs.MovesOnInput.{none_read, not_read}
use Rattle.session.proofs.moves_by_line.moves_by_line.Goals as goal

pub loop-turn-init : goal.loop-turn-init
loop-turn-init g c = (
  [],
  consumes_nothing (g.R.Read.remaining c.args.input.now),
  none_read (compiled_game c.args.book.now) (g.W.Write.contents c.args.out.now) c.new-line.ensures,
)

pub returns-in-Ok-eq0 : goal.returns-in-Ok-eq0
returns-in-Ok-eq0 g c =
    let (bytes, consumed, way) = c.loop-turn.invariant in
    let got = rw c.in-Ok-eq0.is at c.read.ensures.bytes in (
      bytes,
      consumes_none (g.R.Read.remaining c.args.input.now) (g.R.Read.remaining c.loop-turn.input) (g.R.Read.remaining c.read.new.self) bytes _ consumed got.0
          (ap (λ n. take n c.read.new.buf) c.in-Ok-eq0.field-0-test),
      c.put_last.ensures bytes _ _ way (got.1 c.in-Ok-eq0.field-0-test (omega (arith, c.read.auto.buf))),
    )

pub returns-in-Err-2 : goal.returns-in-Err-2
returns-in-Err-2 g c =
    let (bytes, consumed, way) = c.loop-turn.invariant in (
      bytes,
      consumes_and_keeps (g.R.Read.remaining c.args.input.now) (g.R.Read.remaining c.loop-turn.input) (g.R.Read.remaining c.read.new.self) bytes consumed
          c.in-Err.ensures.bytes,
      not_read (compiled_game c.args.book.now) way,
    )

pub returns-in-Some : goal.returns-in-Some
returns-in-Some g c =
    let (bytes, consumed, way) = c.loop-turn.invariant in (
      bytes ++ take c.in-Ok.count c.read.new.buf,
      consumes_then (g.R.Read.remaining c.args.input.now) (g.R.Read.remaining c.loop-turn.input) (g.R.Read.remaining c.read.new.self) bytes _ consumed
          c.in-Ok.ensures.bytes.0,
      AreMovesByLine.within (c.in-Some.ensures bytes _ way),
    )

pub loop-turn-preserved : goal.loop-turn-preserved
loop-turn-preserved g c =
    let (bytes, consumed, way) = c.loop-turn.invariant in (
      bytes ++ take c.in-Ok.count c.read.new.buf,
      consumes_then (g.R.Read.remaining c.args.input.now) (g.R.Read.remaining c.loop-turn.input) (g.R.Read.remaining c.read.new.self) bytes _ consumed
          c.in-Ok.ensures.bytes.0,
      c.in_default.ensures bytes _ way,
    )

pub returns : goal.returns
returns g c = let (bytes, consumed, way) = c.loop-turn.invariant in (bytes, consumed, not_read (compiled_game c.args.book.now) way)
