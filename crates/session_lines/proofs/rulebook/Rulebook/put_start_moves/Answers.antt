use Rattle.std.proofs.Common.{◌∙◌, ap, subst}
use Rattle.legal_moves.specs.Compiled.{compiled_game}
use Rattle.legal_moves.specs.Moves.{start_of}
use Rattle.session_lines.specs.Answers.{TellsMoves}
use Rattle.session_lines.specs.Parts.{IsTextWritten}
use Rattle.session_lines.proofs.rulebook.Rulebook.put_start_moves.Goals as goal

pub returns : goal.returns
returns g c =
    subst (λ at. IsTextWritten (TellsMoves (compiled_game c.args.self.now) at) (g.W.Write.contents c.args.out.now) (g.W.Write.contents c.put_moves.new.out)
    c.put_moves.result) (c.start-start.ensures.start ∙ ap (λ s. start_of (compiled_game s)) c.self.view_is) c.put_moves.ensures
