use Rattle.std.proofs.Common.{◌≡◌, ◌+◌, ◌*◌, ◌<◌, length, Some, slice_get, sym, subst, arith}
use Rattle.rbg_game.specs.Meaning.{game_of}
use Rattle.legal_moves.specs.lemmas.Configurations.{expression_at}
use Rattle.legal_moves.proofs.GetLemmas.{slice_get-there}
use Rattle.legal_moves.proofs.searches.LeapLemmas.{row_inside}
use Rattle.legal_moves.proofs.automata.ReadyLemmas.{read_at, expression_there}
use Rattle.legal_moves.proofs.search.searcher.Searcher.row.Goals as goal

pub row-requires-clause-inside : goal.row-requires-clause-inside
row-requires-clause-inside c =
    let game = game_of c.args.self.now.game.now in
    let tables = c.args.self.now.tables.now in
    let jumps = c.args.self.now.jumps.now in
    let index = c.args.index in
    let J = c.index-self-index.result in
    let at_J = read_at jumps index J (omega (arith, c.requires.ready.within, c.requires.jumps.as_many)) c.index-self-index.is in
    let t = slice_get-there tables index c.requires.ready.within in
    let e = expression_at game index in
    let rows = (c.requires.jumps.each index t.0 e J t.1 (expression_there game tables index c.requires.ready) at_J).rows_are in
    let n = length game.vertices in
    subst (λ x. c.args.number * n + c.args.vertex < length x.rows.items) c.index-self-index.is
    (row_inside game e J rows (c.requires.rows J at_J) c.args.number c.args.vertex c.requires.number c.requires.vertex)

pub returns : goal.returns
returns c =
    let game = game_of c.args.self.now.game.now in
    let tables = c.args.self.now.tables.now in
    let jumps = c.args.self.now.jumps.now in
    let index = c.args.index in
    let J = c.index-self-index.result in
    let at_J = read_at jumps index J (omega (arith, c.requires.ready.within, c.requires.jumps.as_many)) c.index-self-index.is in
    let t = slice_get-there tables index c.requires.ready.within in
    let e = expression_at game index in
    let rows = (c.requires.jumps.each index t.0 e J t.1 (expression_there game tables index c.requires.ready) at_J).rows_are in
    rows.each c.args.number c.args.vertex c.row.result.now c.requires.vertex
    (subst (λ x. slice_get x.rows.items (c.args.number * length game.vertices + c.args.vertex) ≡ Some c.row.result.now) (sym c.index-self-index.is) c.row.ensures)
