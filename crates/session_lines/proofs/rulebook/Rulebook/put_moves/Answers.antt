use Rattle.std.proofs.Common.{subst, refl}
use Rattle.std.specs.Io.KnownBytes.{Appends}
use Rattle.legal_moves.specs.Compiled.{compiled_game}
use Rattle.session_lines.specs.Answers.{TellsMoves}
use Rattle.session_lines.specs.Parts.{AppendsPart, IsTextWritten}
use Rattle.session_lines.specs.lemmas.Stops.{IsStopped}
use Rattle.session_lines.proofs.AnswerLemmas.{refused_behind}
use Rattle.session_lines.proofs.rulebook.Rulebook.put_moves.Goals as goal

pub returns-in-Err-Refused : goal.returns-in-Err-Refused
returns-in-Err-Refused g c =
    let contents = g.W.Write.contents in
    let game = compiled_game c.args.self.now in
    let at = c.args.at.now in
    let Written = Appends (contents c.args.out.now) (contents c.write_moves.new.out) in
    let Part = AppendsPart (contents c.args.out.now) (contents c.write_moves.new.out) in
    let told = c.in-Err-Refused.ensures in
    let moved = subst (λ s. IsStopped (compiled_game s) at Written Part c.in-Err-Refused.field-0) c.self.view_is told.stopped in
    let stopped = subst (IsStopped game at Written Part) c.in-Err-Refused.field-0-is moved in
    refused_behind game at c.in-Err-Refused.fault stopped.0 c.write_refused.result stopped.1 stopped.2 c.write_refused.ensures

pub returns-in-Ok : goal.returns-in-Ok
returns-in-Ok g c =
    let w = c.in-Ok.ensures.ok in
    subst (λ s. IsTextWritten (TellsMoves (compiled_game s) c.args.at.now) (g.W.Write.contents c.args.out.now) (g.W.Write.contents c.write_moves.new.out) 0)
    c.self.view_is (IsTextWritten.whole w.0 w.1 w.2)

pub returns-in-Err-Output : goal.returns-in-Err-Output
returns-in-Err-Output g c =
    let contents = g.W.Write.contents in
    let Written = Appends (contents c.args.out.now) (contents c.write_moves.new.out) in
    let Part = AppendsPart (contents c.args.out.now) (contents c.write_moves.new.out) in
    let moved = subst (λ s. IsStopped (compiled_game s) c.args.at.now Written Part c.in-Err-Output.field-0) c.self.view_is c.in-Err-Output.ensures.stopped in
    let of = subst (IsStopped (compiled_game c.args.self.now) c.args.at.now Written Part) c.in-Err-Output.field-0-is moved in
    IsTextWritten.part 0 of.0 of.1 of.2 refl
