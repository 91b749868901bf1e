use Rattle.std.proofs.Common.{IfSome, refl, subst, arith}
use Rattle.rbg_game.specs.Meaning.{game_of}
use Rattle.legal_moves.specs.lemmas.Configurations.{expression_at}
use Rattle.legal_moves.specs.lemmas.Walks.{IsClosure}
use Rattle.legal_moves.proofs.automata.RowLemmas.{row_by_walk}
use Rattle.legal_moves.proofs.automaton.jumps.row_from.Goals as goal

pub returns : goal.returns
returns c =
    let game = game_of c.args.game.now in
    let e = expression_at game c.args.index in
    let whole = subst (λ o. IfSome o (IsClosure game e c.args.start.number c.args.start.vertex)) c.in-Some.is c.in_ok-walk.ensures in
    row_by_walk game e c.args.start.number c.args.start.vertex c.in-Some.walk whole _ refl refl
    (omega (arith, c.len-met.ensures, c.in-Some.walk.met.ok.0))
