use Rattle.session_lines.proofs.AskLemmas.{trimmed_at, all_spaces}
use Rattle.session_lines.proofs.input.trimmed.Goals as goal

-- src/input.rt
pub returns-then-byte-ne32 : goal.returns-then-byte-ne32
returns-then-byte-ne32 c = trimmed_at c.args.line.now c.loop-index.index c.loop-index-test.true c.loop-index.invariant c.if-byte-ne32.true

pub returns : goal.returns
returns c = all_spaces c.args.line.now c.loop-index.index c.loop-index-test.false c.loop-index.invariant
