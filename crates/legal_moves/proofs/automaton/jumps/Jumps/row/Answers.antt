use Rattle.std.proofs.Common.{◌≡◌, ◌+◌, ◌*◌, ◌<◌, length, Some, slice_get, sym, ap, ◌∙◌, subst, arith}
use Rattle.std.proofs.lemmas.List.{length-map}
use Rattle.rbg_game.specs.Meaning.{game_of, vertex_of}
use Rattle.legal_moves.proofs.automata.ReadyLemmas.{read_at}
use Rattle.legal_moves.proofs.automaton.jumps.Jumps.row.Goals as goal

pub index-requires : goal.index-requires
index-requires c =
    let own = c.args.game.now in
    let n = length (game_of own).vertices in
    let rows = c.args.self.now.rows in
    let many : c.len.result ≡ n = omega (arith, c.len.ensures, length-map own.vertices.items vertex_of, own.vertices.ok.0) in
    let number = c.args.number in
    let vertex = c.args.vertex in
    let place = c.from.result * c.len.result + c.from-2.result in
    let place_is : place ≡ number * n + vertex = ap (λ k. k * c.len.result + c.from-2.result) c.from.ensures
    ∙ ap (λ k. number * k + c.from-2.result) many ∙ ap (λ k. number * n + k) c.from-2.ensures in
    let inside : place < length rows.items = subst (λ k. k < length rows.items) (sym place_is) c.requires.inside in
    omega (arith, inside, rows.ok.0)

pub returns : goal.returns
returns c =
    let own = c.args.game.now in
    let n = length (game_of own).vertices in
    let rows = c.args.self.now.rows in
    let many : c.len.result ≡ n = omega (arith, c.len.ensures, length-map own.vertices.items vertex_of, own.vertices.ok.0) in
    let number = c.args.number in
    let vertex = c.args.vertex in
    let place = c.from.result * c.len.result + c.from-2.result in
    let place_is : place ≡ number * n + vertex = ap (λ k. k * c.len.result + c.from-2.result) c.from.ensures
    ∙ ap (λ k. number * k + c.from-2.result) many ∙ ap (λ k. number * n + k) c.from-2.ensures in
    let inside : place < length rows.items = subst (λ k. k < length rows.items) (sym place_is) c.requires.inside in
    let row = c.index.result.now in
    let at_row = read_at rows.items place row inside c.index.ensures in
    subst (λ k. slice_get rows.items k ≡ Some row) place_is at_row
