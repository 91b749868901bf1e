use Rattle.std.proofs.Common.{rules, inl, inr}
use Rattle.session_lines.specs.Parts.{IsTextWritten}
use Rattle.in_process.proofs.texts.rbg_moves_at.Goals as goal

pub returns : goal.returns
returns c = elim c.moves_at-status.ensures [
  | IsTextWritten.whole written is more ↦ inr (written, is, search rules)
  | IsTextWritten.part own written is more four ↦ inl four
]
