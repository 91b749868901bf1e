use Rattle.legal_moves.specs.Compiled.{compiled_game}
use Rattle.rbg_read.proofs.ProperNames.{proper}
use Rattle.session_lines.proofs.rulebook.Rulebook.read.Goals as goal

pub invariant_of-result : goal.invariant_of-result
invariant_of-result c = (proper c.args.text.now (compiled_game c.in-Ok.compiled) c.in-Ok.ensures.reads, tt)
