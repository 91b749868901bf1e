use Rattle.std.proofs.Common.{sym, ap, ◌∙◌, arith}
use Rattle.legal_moves.specs.lemmas.Boards.{at_turn, board_at, boards_in}
use Rattle.legal_moves.proofs.searches.AttemptLemmas.{state_there}
use Rattle.legal_moves.proofs.searches.BoardLemmas.{many_boards}
use Rattle.legal_moves.proofs.automata.ReadyLemmas.{read_at}
use Rattle.legal_moves.proofs.search.found.Found.show.Goals as goal
use Rattle.legal_moves.proofs.search.found.Found.show.Goals.{then-before-board, else-before-board}

pub index-requires : goal.index-requires
index-requires c = omega (arith, c.args.self.now.stands.ok.0, c.requires.at)

pub index-requires-2 : goal.index-requires-2
index-requires-2 c = omega (arith, c.args.self.now.stands.ok.0, c.requires.shown.at_one)

pub put-requires-clause-board : goal.put-requires-clause-board
put-requires-clause-board c =
    omega (
      arith,
      many_boards c.args.self.now.boards,
      c.requires.kept.within c.args.at _
          (read_at c.args.self.now.stands.items c.args.at c.index.result.now c.requires.at c.index.ensures),
    )

pub returns-clause-state : goal.returns-clause-state
returns-clause-state c =
    let bs = boards_in c.args.self.now.boards in
    let stands = c.args.self.now.stands.items in
    let s = c.index.result.now in
    let b = c.index-2.result.now in
    let there = state_there bs stands c.args.at s (read_at stands c.args.at s c.requires.at c.index.ensures) in
    let before = c.requires.shown.state_is ∙ state_there bs stands c.args.shown.now.at b
    (read_at stands c.args.shown.now.at b c.requires.shown.at_one c.index-2.ensures) in
    elim c.if-before-board.branch [
      | then-before-board w ↦
          ap (λ x. x.state) w.shown-is
          ∙ ap (λ A. at_turn A s.mover s.vertex) before
          ∙ ap (λ n. at_turn (board_at bs n) s.mover s.vertex) w.if-before-board.true
          ∙ sym there
      | else-before-board w ↦ ap (λ x. x.state) w.shown-is ∙ w.put.ensures ∙ sym there
    ]
