use Rattle.std.proofs.lemmas.Result.{IfOk-weaker}
use Rattle.rbg_game.specs.Meaning.{game_of}
use Rattle.legal_moves.specs.lemmas.Configurations.{expression_at}
use Rattle.legal_moves.specs.lemmas.Stands.{configurations_of}
use Rattle.legal_moves.proofs.searches.HopEndLemmas.{reached_by_search}
use Rattle.legal_moves.proofs.search.hop.Hopper.ends.Goals as goal

pub returns-in-Ok-None-clause-reached : goal.returns-in-Ok-None-clause-reached
returns-in-Ok-None-clause-reached c =
    let game = game_of c.args.self.now.searcher.game.now in
    let e = expression_at game c.args.index in
    IfOk-weaker c.search.result _ _
    (λ found is. reached_by_search game e c.args.place c.args.state.now (configurations_of found) is) c.search.ensures.found
