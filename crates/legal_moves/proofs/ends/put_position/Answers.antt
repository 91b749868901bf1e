use Rattle.std.proofs.Common.{arith}
use Rattle.legal_moves.proofs.searches.BoardLemmas.{many_boards}
use Rattle.legal_moves.proofs.ends.put_position.Goals as goal

pub put-requires-clause-board : goal.put-requires-clause-board
put-requires-clause-board c = omega (arith, many_boards c.args.boards.now, c.requires.board)
