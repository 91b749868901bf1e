use Rattle.legal_moves.specs.Compiled.{compiled_game}
use Rattle.session_lines.proofs.Asked.{told_of, refused_of}
use Rattle.session_lines.proofs.moves.moves_to.Goals as goal

pub returns-in-Ok : goal.returns-in-Ok
returns-in-Ok g c =
    told_of c.args.text.now _ (compiled_game c.in-Ok.book) c.put_start_moves.result _ _ c.in-Ok.ensures.reads c.put_start_moves.ensures

pub returns-in-Err : goal.returns-in-Err
returns-in-Err g c = refused_of c.args.text.now _ c.in-Err.fault c.write_refused.result _ _ c.in-Err.ensures.refused c.write_refused.ensures
