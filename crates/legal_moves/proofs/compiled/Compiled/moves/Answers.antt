use Rattle.std.proofs.Common.{◌≤◌, Err, ap, sym, subst, length, All}
use Rattle.legal_moves.specs.lemmas.Stands.{configurations_of}
use Rattle.legal_moves.specs.Compiled.{compiled_game}
use Rattle.legal_moves.specs.Listed.{AreMoves, IsShortestMove}
use Rattle.legal_moves.proofs.Exits.{refused, not_ok, no_error}
use Rattle.legal_moves.proofs.searches.FoundLemmas.{own_bytes}
use Rattle.legal_moves.proofs.answers.ShownLemmas.{before_by_found}
use Rattle.legal_moves.proofs.searches.WidthLemmas.{narrow_by_search}
use Rattle.legal_moves.proofs.answers.ListedLemmas.{are_moves, shortest_moves, few_moves}
use Rattle.legal_moves.proofs.Faults.{passed, for_want}
use Rattle.legal_moves.proofs.compiled.Compiled.moves.Goals as goal

pub of-requires : goal.of-requires
of-requires c =
    let game = compiled_game c.args.self.now in
    let cs = configurations_of c.in_ok-found.found in
    let found = c.in_ok-found.ensures.found.found in
    record {
      before = before_by_found _ _ _ _ cs found;
      kept = c.in_ok-found.ensures.kept;
      apart = own_bytes game game.rules c.args.at.now.place c.args.at.now.state cs c.in_ok-found.ensures.sound c.in_ok-found.ensures.sound.few_actions found;
    }

pub returns-clause-exact : goal.returns-clause-exact
returns-clause-exact c =
    let game = compiled_game c.args.self.now in
    let cs = configurations_of c.in_ok-found.found in
    subst (AreMoves game c.args.at.now) (sym c.in_ok-moves.ensures.moves_are)
    (are_moves game c.args.at.now cs c.in_ok-moves.ensures.ends c.in_ok-found.ensures.found c.in_ok-moves.ensures.ends_are)

pub returns-clause-shortest : goal.returns-clause-shortest
returns-clause-shortest c =
    let game = compiled_game c.args.self.now in
    let cs = configurations_of c.in_ok-found.found in
    subst (All (IsShortestMove game c.args.at.now)) (sym c.in_ok-moves.ensures.moves_are)
    (shortest_moves game c.args.at.now cs c.in_ok-moves.ensures.ends c.in_ok-found.ensures.found c.in_ok-moves.ensures.ends_are)

pub returns-clause-few : goal.returns-clause-few
returns-clause-few c =
    let game = compiled_game c.args.self.now in
    let cs = configurations_of c.in_ok-found.found in
    subst (λ ms. length ms ≤ 65536) (sym c.in_ok-moves.ensures.moves_are)
    (few_moves game c.args.at.now cs c.in_ok-moves.ensures.ends c.in_ok-found.ensures.found c.in_ok-moves.ensures.ends_are)

pub returns-clause-narrow : goal.returns-clause-narrow
returns-clause-narrow c =
    let game = compiled_game c.args.self.now in
    λ ok. narrow_by_search game game.rules c.args.at.now.place c.args.at.now.state (configurations_of c.in_ok-found.found) c.in_ok-found.ensures.found

pub returns-clause-wide : goal.returns-clause-wide
returns-clause-wide c = no_error

pub returns-in_err-found-clause-exact : goal.returns-in_err-found-clause-exact
returns-in_err-found-clause-exact c = refused _ c.from_residual.result _ c.from_residual.ensures.1

pub returns-in_err-found-clause-few : goal.returns-in_err-found-clause-few
returns-in_err-found-clause-few c = refused _ c.from_residual.result _ c.from_residual.ensures.1

pub returns-in_err-found-clause-shortest : goal.returns-in_err-found-clause-shortest
returns-in_err-found-clause-shortest c = refused _ c.from_residual.result _ c.from_residual.ensures.1

pub returns-in_err-found-clause-narrow : goal.returns-in_err-found-clause-narrow
returns-in_err-found-clause-narrow c = not_ok _ c.from_residual.result c.from_residual.ensures.1

pub returns-in_err-found-clause-wide : goal.returns-in_err-found-clause-wide
returns-in_err-found-clause-wide c = λ wide. c.in_err-found.ensures.wide
    (ap Err (passed c.from_residual.result c.in_err-found.field-0.0 c.from_residual.ensures.1 wide))

pub returns-in_err-moves-clause-exact : goal.returns-in_err-moves-clause-exact
returns-in_err-moves-clause-exact c = refused _ c.from_residual-in_err-moves.result _ c.from_residual-in_err-moves.ensures.1

pub returns-in_err-moves-clause-few : goal.returns-in_err-moves-clause-few
returns-in_err-moves-clause-few c = refused _ c.from_residual-in_err-moves.result _ c.from_residual-in_err-moves.ensures.1

pub returns-in_err-moves-clause-shortest : goal.returns-in_err-moves-clause-shortest
returns-in_err-moves-clause-shortest c = refused _ c.from_residual-in_err-moves.result _ c.from_residual-in_err-moves.ensures.1

pub returns-in_err-moves-clause-narrow : goal.returns-in_err-moves-clause-narrow
returns-in_err-moves-clause-narrow c = not_ok _ c.from_residual-in_err-moves.result c.from_residual-in_err-moves.ensures.1

pub returns-in_err-moves-clause-wide : goal.returns-in_err-moves-clause-wide
returns-in_err-moves-clause-wide c = for_want c.from_residual-in_err-moves.result c.from_residual-in_err-moves.ensures.1
