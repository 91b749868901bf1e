use Rattle.std.proofs.Common.{◌-◌}
use Rattle.rbg_game.specs.Meaning.{game_of}
use Rattle.legal_moves.specs.lemmas.Configurations.{expression_at}
use Rattle.legal_moves.specs.lemmas.Hops.{IsHopping, AreListedUpto}
use Rattle.legal_moves.specs.lemmas.Stands.{configurations_of, AreKept, ShowsOne}
use Rattle.legal_moves.proofs.search.hop.Hopper.hop.Given as goal

abbrev pub invariant-loop-at : goal.invariant-loop-at
invariant-loop-at l =
    let game = game_of l.self.searcher.game.now in
    let e = expression_at game l.index in
    let cs = configurations_of l.found in
    record {
      kept : AreKept l.found;
      shown : ShowsOne l.found l.here;
      hopping : IsHopping game e l.place l.state cs l.at;
      listed : AreListedUpto game e l.place l.state cs l.at l.left;
    }

abbrev pub decreases-loop-at : goal.decreases-loop-at
decreases-loop-at l = 65536 - l.at
