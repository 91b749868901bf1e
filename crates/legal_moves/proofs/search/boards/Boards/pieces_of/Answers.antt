use Rattle.std.proofs.Common.{◌+◌, ◌*◌, slice_range, ◌∙◌, ap}
use Rattle.legal_moves.proofs.searches.BoardLemmas.{pieces_here}
use Rattle.legal_moves.proofs.search.boards.Boards.pieces_of.Goals as goal

pub returns-clause-are : goal.returns-clause-are
returns-clause-are c =
    let b = c.args.self.now in
    let from = c.args.board * b.vertices in
    ap (λ xs. slice_range xs from (from + b.vertices)) c.deref.ensures.value ∙ pieces_here b c.requires.whole c.args.board c.requires.board
