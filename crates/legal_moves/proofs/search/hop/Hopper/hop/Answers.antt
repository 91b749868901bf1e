use Rattle.std.proofs.Common.{◌≡◌, ◌+◌, ◌-◌, ◌≤◌, length, sym, ap, ◌∙◌, subst, arith}
use Rattle.std.proofs.lemmas.List.{length-map}
use Rattle.rbg_game.specs.Meaning.{game_of}
use Rattle.legal_moves.specs.lemmas.Boards.{boards_in}
use Rattle.legal_moves.specs.lemmas.Configurations.{expression_at}
use Rattle.legal_moves.specs.lemmas.Hops.{IsHopping}
use Rattle.legal_moves.specs.lemmas.Progress.{began, state_at}
use Rattle.legal_moves.specs.lemmas.Stands.{stood, configurations_of}
use Rattle.legal_moves.proofs.GetLemmas.{slice_get-there}
use Rattle.legal_moves.proofs.searches.HopLemmas.{hopping_begun, began_hopping}
use Rattle.legal_moves.proofs.searches.HopEndLemmas.{listed_begun, listed_next, reached_by_hops}
use Rattle.legal_moves.proofs.search.hop.Hopper.hop.Goals as goal

pub loop-at-init : goal.loop-at-init
loop-at-init c =
    let game = game_of c.args.self.now.searcher.game.now in
    let e = expression_at game c.args.index in
    let place = c.args.place in
    let S = c.args.state.now in
    let found = c.in_ok-found.found in
    record {
      kept = c.in_ok-found.ensures.kept;
      shown = record {
        at_one = omega (arith, ap length c.in_ok-found.ensures.opening, length-map found.stands.items (stood (boards_in found.boards)));
        state_is = c.copied_state.ensures ∙ ap (λ cs. state_at cs 0) (sym c.in_ok-found.ensures.opening);
      };
      hopping = subst (λ cs. IsHopping game e place S cs 0) (sym c.in_ok-found.ensures.opening) (hopping_begun game e place S c.requires.state);
      listed = listed_begun game e place S (configurations_of found);
    }

pub hop_from-requires-clause-hopping : goal.hop_from-requires-clause-hopping
hop_from-requires-clause-hopping c =
    let game = game_of c.args.self.now.searcher.game.now in
    let e = expression_at game c.args.index in
    let place = c.args.place in
    let S = c.args.state.now in
    let at = c.loop-at.at in
    let now = c.loop-at.found in
    let cs = configurations_of now in
    let began_same : began cs ≡ S = began_hopping game e place S cs at c.loop-at.invariant.hopping in
    subst (λ T. IsHopping game e place T cs at) (sym began_same) c.loop-at.invariant.hopping

pub loop-at-preserved : goal.loop-at-preserved
loop-at-preserved c =
    let game = game_of c.args.self.now.searcher.game.now in
    let e = expression_at game c.args.index in
    let place = c.args.place in
    let S = c.args.state.now in
    let at = c.loop-at.at in
    let now = c.loop-at.found in
    let cs = configurations_of now in
    let began_same : began cs ≡ S = began_hopping game e place S cs at c.loop-at.invariant.hopping in
    let there = slice_get-there cs at (omega (arith, c.loop-at-test.true, c.len.ensures, now.stands.ok.0, length-map now.stands.items (stood (boards_in now.boards)))) in
    let new = configurations_of c.hop_from.new.found in
    let left = c.loop-at.left in
    let met = c.in_ok-met.met in
    record {
      kept = c.in_ok-met.ensures.kept;
      shown = c.in_ok-met.ensures.shown;
      hopping = subst (λ T. IsHopping game e place T new (at + 1)) began_same c.in_ok-met.ensures.hopping;
      listed = listed_next game e place S cs new at left (left - met) met there.0 c.loop-at.invariant.listed c.in_ok-met.ensures.still there.1
          (c.in_ok-met.ensures.counted there.0 there.1) (omega (arith, c.if-met-left.false));
    }

pub returns-clause-reached : goal.returns-clause-reached
returns-clause-reached c =
    let game = game_of c.args.self.now.searcher.game.now in
    let e = expression_at game c.args.index in
    let place = c.args.place in
    let S = c.args.state.now in
    let at = c.loop-at.at in
    let now = c.loop-at.found in
    let cs = configurations_of now in
    let began_same : began cs ≡ S = began_hopping game e place S cs at c.loop-at.invariant.hopping in
    let ended : length cs ≤ at = omega (arith, c.loop-at-test.false, c.len.ensures, now.stands.ok.0, length-map now.stands.items (stood (boards_in now.boards))) in
    reached_by_hops game e place S cs at c.loop-at.invariant.hopping ended c.loop-at.left c.loop-at.invariant.listed
