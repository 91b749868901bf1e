use Rattle.std.proofs.Common.{[], ◌++◌, ap, take, ◌∙◌, arith}
use Rattle.std.specs.Option.{unwrap_or}
use Rattle.solver.specs.Solvers.{state}
use Rattle.session.specs.Seen.{seen}
use Rattle.session.specs.Sessions.{IsSession}
use Rattle.session.proofs.InputLemmas.{consumes_nothing, consumes_none, consumes_then, consumes_and_keeps}
use Rattle.session.proofs.UnderWay.{nothing_read, last_answered, input_failed}
use Rattle.session.proofs.line_by_line.answer_all.Goals as goal

pub loop-turn-init : goal.loop-turn-init
loop-turn-init g c = (
  λ ready. ready,
  λ ready honest. honest,
  λ ready honest come. (
    [],
    consumes_nothing (g.R.Read.remaining c.args.input.now),
    nothing_read _ _ _ _ _ _ (seen state g.W.Write.contents c.args.out.now c.args.moments.now) come,
  ),
)

pub returns-in-Ok-eq0-clause-came : goal.returns-in-Ok-eq0-clause-came
returns-in-Ok-eq0-clause-came g c = λ ready honest come.
    let (bytes, consumed, way) = c.loop-turn.invariant.2 ready honest come in
    let got = rw c.in-Ok-eq0.is at c.read.ensures.bytes in (
      bytes,
      consumes_none (g.R.Read.remaining c.args.input.now) (g.R.Read.remaining c.loop-turn.input) (g.R.Read.remaining c.read.new.self) bytes _ consumed got.0
          (ap (λ n. take n c.read.new.buf) c.in-Ok-eq0.field-0-test),
      last_answered _ _ _ _ _ _ way (got.1 c.in-Ok-eq0.field-0-test (omega (arith, c.read.auto.buf)))
          (c.answer_last-ended.ensures.came (c.loop-turn.invariant.0 ready) (c.loop-turn.invariant.1 ready honest) way.rest way.come)
          (λ is. c.unwrap_or.ensures ∙ ap (λ o. unwrap_or o 0) is)
          (λ status is. c.unwrap_or.ensures ∙ ap (λ o. unwrap_or o 0) is),
    )

pub returns-in-Err-2-clause-came : goal.returns-in-Err-2-clause-came
returns-in-Err-2-clause-came g c = λ ready honest come.
    let (bytes, consumed, way) = c.loop-turn.invariant.2 ready honest come in (
      bytes,
      consumes_and_keeps (g.R.Read.remaining c.args.input.now) (g.R.Read.remaining c.loop-turn.input)
          (g.R.Read.remaining c.read.new.self) bytes consumed c.in-Err.ensures.bytes,
      input_failed _ _ _ _ _ _ way,
    )

pub returns-in-Some-clause-came : goal.returns-in-Some-clause-came
returns-in-Some-clause-came g c = λ ready honest come.
    let (bytes, consumed, way) = c.loop-turn.invariant.2 ready honest come in (
      bytes ++ take c.in-Ok.count c.read.new.buf,
      consumes_then (g.R.Read.remaining c.args.input.now) (g.R.Read.remaining c.loop-turn.input)
          (g.R.Read.remaining c.read.new.self) bytes _ consumed c.in-Ok.ensures.bytes.0,
      IsSession.within c.in-Some.status (c.in-Some.ensures.came (c.loop-turn.invariant.0 ready) (c.loop-turn.invariant.1 ready honest) bytes _ _ way),
    )

pub loop-turn-preserved : goal.loop-turn-preserved
loop-turn-preserved g c = (
  λ ready. c.in_default.ensures.ready (c.loop-turn.invariant.0 ready),
  λ ready honest. c.in_default.ensures.honest (c.loop-turn.invariant.0 ready) (c.loop-turn.invariant.1 ready honest),
  λ ready honest come.
      let (bytes, consumed, way) = c.loop-turn.invariant.2 ready honest come in (
        bytes ++ take c.in-Ok.count c.read.new.buf,
        consumes_then (g.R.Read.remaining c.args.input.now) (g.R.Read.remaining c.loop-turn.input)
            (g.R.Read.remaining c.read.new.self) bytes _ consumed c.in-Ok.ensures.bytes.0,
        c.in_default.ensures.came (c.loop-turn.invariant.0 ready) (c.loop-turn.invariant.1 ready honest) bytes _ _ way,
      ),
)

pub returns-clause-came : goal.returns-clause-came
returns-clause-came g c = λ ready honest come.
    let (bytes, consumed, way) = c.loop-turn.invariant.2 ready honest come in (bytes, consumed, input_failed _ _ _ _ _ _ way)
