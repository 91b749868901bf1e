use Rattle.std.proofs.Common.{◌+◌, ◌*◌, slice_range, ◌∙◌, ap}
use Rattle.legal_moves.proofs.searches.BoardLemmas.{values_here}
use Rattle.legal_moves.proofs.search.boards.Boards.values_of.Goals as goal

pub returns-clause-are : goal.returns-clause-are
returns-clause-are c =
    let b = c.args.self.now in
    let from = c.args.board * b.variables in
    ap (λ xs. slice_range xs from (from + b.variables)) c.deref.ensures.value ∙ values_here b c.requires.whole c.args.board c.requires.board
