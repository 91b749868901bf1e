use Rattle.std.proofs.Common.{◌≡◌, inl, false, refl, sym, ap, subst, arith}
use Rattle.std.proofs.lemmas.Result.{on_ok_weaker}
use Rattle.rbg_game.specs.Meaning.{game_of}
use Rattle.legal_moves.specs.lemmas.Boards.{at_turn, board_at, boards_in}
use Rattle.legal_moves.specs.lemmas.Configurations.{expression_at}
use Rattle.legal_moves.specs.lemmas.Progress.{state_at}
use Rattle.legal_moves.specs.lemmas.Stands.{configurations_of}
use Rattle.legal_moves.specs.lemmas.VertexSearch.{at_vertex, TellsAt}
use Rattle.legal_moves.specs.declared.search.found.Stand.{Stand}
use Rattle.legal_moves.proofs.Exits.{refused, not_ok}
use Rattle.legal_moves.proofs.automata.ReadyLemmas.{read_at}
use Rattle.legal_moves.proofs.searches.AttemptLemmas.{state_there, attempted, still_shown_from}
use Rattle.legal_moves.proofs.search.hop.Hopper.hop_on.Goals as goal

pub returns-in-Fails-clause-tried : goal.returns-in-Fails-clause-tried
returns-in-Fails-clause-tried c =
    let game = game_of c.args.self.now.searcher.game.now in
    let e = expression_at game c.args.index in
    let k = c.args.jump.number in
    let S = at_vertex (state_at (configurations_of c.args.found.now) c.args.at) c.args.jump.vertex in
    inl (refl, λ U. (subst (TellsAt game e k S) c.in-Fails.is c.in_ok-glance_over.ensures.tells U))

pub index-requires : goal.index-requires
index-requires c = omega (arith, c.args.found.now.stands.ok.0, c.requires.at)

pub add-requires-clause-board : goal.add-requires-clause-board
add-requires-clause-board c =
    let old = c.args.found.now in
    let s = c.index.result.now in
    c.requires.kept.within c.args.at s (read_at old.stands.items c.args.at s c.requires.at c.index.ensures)

pub returns-in-At-clause-tried : goal.returns-in-At-clause-tried
returns-in-At-clause-tried c =
    let game = game_of c.args.self.now.searcher.game.now in
    let e = expression_at game c.args.index in
    let k = c.args.jump.number in
    let S = at_vertex (state_at (configurations_of c.args.found.now) c.args.at) c.args.jump.vertex in
    let old = c.args.found.now in
    let stands = old.stands.items in
    let boards = boards_in old.boards in
    let s = c.index.result.now in
    let at_s = read_at stands c.args.at s c.requires.at c.index.ensures in
    let on = c.requires.kept.within c.args.at s at_s in
    let told = subst (TellsAt game e k S) c.in-At.is c.in_ok-glance_over.ensures.tells in
    let v = c.in-At.vertex in
    let t : Stand = record {
      board = s.board;
      mover = s.mover;
      vertex = v;
      place = k;
      parent = c.args.at;
      shows = false;
      ends = false;
    } in
    let U = at_vertex S v in
    let is : at_turn (board_at boards s.board) s.mover v ≡ U =
    ap (λ A. at_vertex A v) (sym (state_there boards stands c.args.at s at_s)) in
    on_ok_weaker c.add.result (λ added. attempted game e k c.args.at old old t S U refl c.requires.kept on is told.0 refl refl
    (sym told.1.1) (sym told.1.0) c.add.new.self c.add.ensures.boards added) c.add.ensures.added

pub returns-in-At-clause-kept : goal.returns-in-At-clause-kept
returns-in-At-clause-kept c = c.add.ensures.kept

pub returns-in-At-clause-known : goal.returns-in-At-clause-known
returns-in-At-clause-known c = on_ok_weaker c.add.result (λ kept. c.in_ok-glance_over.ensures.known) c.add.ensures.kept

pub returns-in-At-clause-narrow : goal.returns-in-At-clause-narrow
returns-in-At-clause-narrow c = λ ok. c.in_ok-glance_over.ensures.narrow refl

pub returns-in-Fails-clause-narrow : goal.returns-in-Fails-clause-narrow
returns-in-Fails-clause-narrow c = λ ok. c.in_ok-glance_over.ensures.narrow refl

pub write-requires-clause-state : goal.write-requires-clause-state
write-requires-clause-state c = c.requires.state

pub write-requires-clause-writes : goal.write-requires-clause-writes
write-requires-clause-writes c =
    let game = game_of c.args.self.now.searcher.game.now in
    let e = expression_at game c.args.index in
    let k = c.args.jump.number in
    let S = at_vertex (state_at (configurations_of c.args.found.now) c.args.at) c.args.jump.vertex in
    subst (TellsAt game e k S) c.in-Writes.is c.in_ok-glance_over.ensures.tells

pub returns-in-Writes-clause-kept : goal.returns-in-Writes-clause-kept
returns-in-Writes-clause-kept c = c.write.ensures.kept

pub returns-in-Writes-clause-known : goal.returns-in-Writes-clause-known
returns-in-Writes-clause-known c = on_ok_weaker c.write.result (λ kept. c.in_ok-glance_over.ensures.known) c.write.ensures.kept

pub returns-in-Writes-clause-narrow : goal.returns-in-Writes-clause-narrow
returns-in-Writes-clause-narrow c = λ ok. c.in_ok-glance_over.ensures.narrow refl

pub returns-in-Writes-clause-tried : goal.returns-in-Writes-clause-tried
returns-in-Writes-clause-tried c = c.write.ensures.tried

pub returns-in-Writes-clause-shown : goal.returns-in-Writes-clause-shown
returns-in-Writes-clause-shown c =
    let game = game_of c.args.self.now.searcher.game.now in
    on_ok_weaker c.write.result (λ tried. still_shown_from _ _ _ c.in_ok-glance_over.ensures.shown game (expression_at game c.args.index) c.args.jump.number
    (at_vertex (state_at (configurations_of c.args.found.now) c.args.at) c.args.jump.vertex) c.args.at tried) c.write.ensures.tried

pub returns-in-At-clause-shown : goal.returns-in-At-clause-shown
returns-in-At-clause-shown c =
    let game = game_of c.args.self.now.searcher.game.now in
    on_ok_weaker c.add.result (λ tried. still_shown_from _ _ _ c.in_ok-glance_over.ensures.shown game (expression_at game c.args.index) c.args.jump.number
    (at_vertex (state_at (configurations_of c.args.found.now) c.args.at) c.args.jump.vertex) c.args.at tried) (returns-in-At-clause-tried c)

pub returns-in-Fails-clause-shown : goal.returns-in-Fails-clause-shown
returns-in-Fails-clause-shown c = c.in_ok-glance_over.ensures.shown

pub returns-in_err-glance_over-clause-shown : goal.returns-in_err-glance_over-clause-shown
returns-in_err-glance_over-clause-shown c = refused _ c.from_residual.result _ c.from_residual.ensures.1

pub returns-in_err-glance_over-clause-kept : goal.returns-in_err-glance_over-clause-kept
returns-in_err-glance_over-clause-kept c = refused _ c.from_residual.result _ c.from_residual.ensures.1

pub returns-in_err-glance_over-clause-known : goal.returns-in_err-glance_over-clause-known
returns-in_err-glance_over-clause-known c = refused _ c.from_residual.result _ c.from_residual.ensures.1

pub returns-in_err-glance_over-clause-tried : goal.returns-in_err-glance_over-clause-tried
returns-in_err-glance_over-clause-tried c = refused _ c.from_residual.result _ c.from_residual.ensures.1

pub returns-in_err-glance_over-clause-narrow : goal.returns-in_err-glance_over-clause-narrow
returns-in_err-glance_over-clause-narrow c = not_ok _ c.from_residual.result c.from_residual.ensures.1
