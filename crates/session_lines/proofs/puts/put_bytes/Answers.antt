use Rattle.std.proofs.Common.{arith}
use Rattle.session_lines.proofs.Appends.{appends_and_keeps}
use Rattle.session_lines.proofs.PartLemmas.{taken_part, taken_kept, taken_more}
use Rattle.session_lines.proofs.puts.put_bytes.Goals as goal
use Rattle.session_lines.proofs.puts.put_bytes.Goals.{in-Ok, in-Err}

pub returns-in-Ok-eq0-clause-part : goal.returns-in-Ok-eq0-clause-part
returns-in-Ok-eq0-clause-part g c =
    let wrote = rw c.in-Ok-eq0.is at c.write.ensures.bytes in
    let more = taken_more _ _ _ c.args.bytes.now c.loop-turn.done c.in-Ok-eq0.field-0 c.loop-turn.invariant.0
    (omega (arith, c.in-Ok-eq0.field-0-test)) c.loop-turn.invariant.1 wrote in
    taken_part _ _ c.args.bytes.now _ more.1

pub returns-in-Err-2-clause-part : goal.returns-in-Err-2-clause-part
returns-in-Err-2-clause-part g c =
    taken_kept _ _ _ c.args.bytes.now c.loop-turn.done c.loop-turn.invariant.1 c.in-Err.ensures.bytes

pub loop-turn-preserved : goal.loop-turn-preserved
loop-turn-preserved g c = elim c.match-write.branch [
  | in-Ok w ↦ rw w.done-is
      (taken_more _ _ _ c.args.bytes.now c.loop-turn.done w.in-Ok.count c.loop-turn.invariant.0 w.in-Ok.ensures.bound c.loop-turn.invariant.1 w.in-Ok.ensures.bytes)
  | in-Err w ↦ rw w.done-is (c.loop-turn.invariant.0, appends_and_keeps _ _ _ _ c.loop-turn.invariant.1 w.in-Err.ensures.bytes)
]

pub returns-clause-part : goal.returns-clause-part
returns-clause-part g c = taken_part _ _ c.args.bytes.now c.loop-turn.done c.loop-turn.invariant.1
