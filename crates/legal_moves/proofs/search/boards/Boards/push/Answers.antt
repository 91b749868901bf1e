use Rattle.std.proofs.Common.{◌≡◌, suc, ◌+◌, ◌++◌, ◌∙◌, ap, arith}
use Rattle.legal_moves.specs.lemmas.Boards.{boards_from}
use Rattle.legal_moves.proofs.searches.BoardLemmas.{boards_push}
use Rattle.legal_moves.proofs.search.boards.Boards.push.Goals as goal

pub returns-clause-pushed : goal.returns-clause-pushed
returns-clause-pushed c =
    let b = c.args.self.now in
    let S = c.args.state.now in
    let v = b.vertices in
    let w = b.variables in
    let one : b.count + 1 ≡ suc b.count = omega arith in
    let pieces = c.in_ok-extend_from_slice.ensures.items ∙ ap (λ ys. b.pieces.items ++ ys) c.deref.ensures.0 in
    let values = c.in_ok-extend_from_slice-2.ensures.items ∙ ap (λ ys. b.values.items ++ ys) c.deref-2.ensures.0 in
    ap (λ n. boards_from v w n c.extend_from_slice.new.self.items c.extend_from_slice-2.new.self.items) one
    ∙ ap (λ ys. boards_from v w (suc b.count) ys c.extend_from_slice-2.new.self.items) pieces
    ∙ ap (λ ys. boards_from v w (suc b.count) (b.pieces.items ++ S.pieces.items) ys) values
    ∙ boards_push v w b.count b.pieces.items b.values.items S.pieces.items S.values.items c.requires.whole.pieces_are c.requires.whole.values_are c.requires.large.pieces_are c.requires.large.values_are
