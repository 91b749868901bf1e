use Rattle.std.proofs.Common.{◌≡◌, ◌-◌, ◌<◌, true, false, sym, ap, ◌∙◌, subst, arith, slice_index, length}
use Rattle.legal_moves.specs.lemmas.Boards.{board_at, boards_in, IsSameBoard}
use Rattle.legal_moves.specs.lemmas.Buckets.{bucket_of_board}
use Rattle.std.proofs.lemmas.List.{length-map}
use Rattle.std.proofs.lemmas.Option.{get_or_from_slice_get}
use Rattle.legal_moves.proofs.searches.BoardLemmas.{many_boards}
use Rattle.legal_moves.proofs.automata.ReadyLemmas.{read_at}
use Rattle.legal_moves.proofs.searches.ChainLemmas.{IsAlong, along_first, along_next}
use Rattle.legal_moves.proofs.searches.StandLemmas.{same_board_bucket, board_there}
use Rattle.legal_moves.proofs.search.found.Found.like.Goals as goal

pub loop-at-init : goal.loop-at-init
loop-at-init c =
    let boards = boards_in c.args.self.now.boards in
    let state = c.args.state.now in
    subst (IsAlong bucket_of_board boards (λ A. IsSameBoard A state) (bucket_of_board state))
    (ap (slice_index c.args.self.now.board_chains.heads.items) (sym c.requires.bucket) ∙ sym c.latest-at.ensures)
    (along_first bucket_of_board boards (λ A. IsSameBoard A state) (bucket_of_board state)
    (λ A same. same_board_bucket A state same) c.args.self.now.board_chains c.requires.kept.boards_are
    (subst (λ b. b < 512) c.requires.bucket c.requires.small))

pub is_same-requires-clause-board : goal.is_same-requires-clause-board
is_same-requires-clause-board c = omega (arith, many_boards c.args.self.now.boards, c.loop-at.invariant.inside, c.loop-at-test.true)

pub returns-then-is_same-clause-some : goal.returns-then-is_same-clause-some
returns-then-is_same-clause-some c =
    (omega (arith, c.loop-at.invariant.inside, c.loop-at-test.true), c.is_same.ensures.0 c.if-is_same.true)

pub loop-at-smaller : goal.loop-at-smaller
loop-at-smaller c =
    let items = boards_in c.args.self.now.boards in
    let wanted = c.args.state.now in
    let some = c.loop-at-test.true in
    let chains = c.args.self.now.board_chains in
    let at = board_there items (c.loop-at.at - 1) (omega (arith, c.loop-at.invariant.inside, some)) in
    let unwanted : ¬ IsSameBoard (board_at items (c.loop-at.at - 1)) wanted = λ same. let never : true ≡ false = sym
    (c.is_same.ensures.1 same) ∙ c.if-is_same.false in cc in
    let next = along_next bucket_of_board items (λ A. IsSameBoard A wanted) (bucket_of_board wanted)
    (λ A same. same_board_bucket A wanted same) chains c.loop-at.at
    (board_at items (c.loop-at.at - 1)) c.requires.kept.boards_are some c.loop-at.invariant at unwanted in
    let many : length chains.befores.items ≡ length items = c.requires.kept.boards_are.as_many ∙ length-map items bucket_of_board in
    let is = get_or_from_slice_get chains.befores.items (c.loop-at.at - 1) c.index.result.now 0
    (read_at chains.befores.items (c.loop-at.at - 1) c.index.result.now (omega (arith, many, c.loop-at.invariant.inside, some)) c.index.ensures) in
    subst (λ n. n < c.loop-at.at) is next.1

pub loop-at-preserved : goal.loop-at-preserved
loop-at-preserved c =
    let items = boards_in c.args.self.now.boards in
    let wanted = c.args.state.now in
    let some = c.loop-at-test.true in
    let chains = c.args.self.now.board_chains in
    let at = board_there items (c.loop-at.at - 1) (omega (arith, c.loop-at.invariant.inside, some)) in
    let unwanted : ¬ IsSameBoard (board_at items (c.loop-at.at - 1)) wanted = λ same. let never : true ≡ false = sym
    (c.is_same.ensures.1 same) ∙ c.if-is_same.false in cc in
    let next = along_next bucket_of_board items (λ A. IsSameBoard A wanted) (bucket_of_board wanted)
    (λ A same. same_board_bucket A wanted same) chains c.loop-at.at
    (board_at items (c.loop-at.at - 1)) c.requires.kept.boards_are some c.loop-at.invariant at unwanted in
    let many : length chains.befores.items ≡ length items = c.requires.kept.boards_are.as_many ∙ length-map items bucket_of_board in
    let is = get_or_from_slice_get chains.befores.items (c.loop-at.at - 1) c.index.result.now 0
    (read_at chains.befores.items (c.loop-at.at - 1) c.index.result.now (omega (arith, many, c.loop-at.invariant.inside, some)) c.index.ensures) in
    subst (IsAlong bucket_of_board items (λ A. IsSameBoard A wanted) (bucket_of_board wanted)) is next.0
