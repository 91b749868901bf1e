use Rattle.std.proofs.Common.{false, get_or, map, ap, ◌∙◌, arith}
use Rattle.std.proofs.lemmas.Option.{slice_get-get_or}
use Rattle.rbg_game.specs.declared.roles.Role.TheVariants.{Keeper}
use Rattle.rbg_game.specs.declared.position.Position.{Position}
use Rattle.position_pack.specs.Bytes.{bytes_of}
use Rattle.legal_moves.specs.lemmas.Boards.{boards_in}
use Rattle.legal_moves.specs.lemmas.VertexSearch.{at_vertex}
use Rattle.legal_moves.specs.lemmas.Stands.{stood}
use Rattle.legal_moves.specs.declared.search.found.Stand.{Stand}
use Rattle.legal_moves.proofs.searches.BoardLemmas.{many_boards}
use Rattle.legal_moves.proofs.searches.StandLemmas.{stood_at}
use Rattle.legal_moves.proofs.answers.EndsByBytes.{ends_skip, ends_more}
use Rattle.legal_moves.proofs.moves.ends_by_bytes.Goals as goal

pub loop-index-preserved-then-not-stand : goal.loop-index-preserved-then-not-stand
loop-index-preserved-then-not-stand c =
    let boards = boards_in c.args.boards.now in
    let stands = c.args.stands.now in
    let there = slice_get-get_or stands c.loop-index.index _ c.loop-index-test.true in
    ends_skip (map (stood boards) stands) c.loop-index.index c.loop-index.ends _ c.loop-index.invariant
    (stood_at boards stands c.loop-index.index _ there) c.if-not-stand.true

pub put-requires-clause-board : goal.put-requires-clause-board
put-requires-clause-board c =
    let none : Stand = record { board = 0; mover = Keeper; vertex = 0; place = 0; parent = 0; shows = false; ends = false } in
    omega (
      arith,
      many_boards c.args.boards.now,
      c.requires.within c.loop-index.index (get_or c.args.stands.now c.loop-index.index none)
          (slice_get-get_or c.args.stands.now c.loop-index.index none c.loop-index-test.true),
    )

pub loop-index-preserved : goal.loop-index-preserved
loop-index-preserved c =
    let boards = boards_in c.args.boards.now in
    let stands = c.args.stands.now in
    let there = slice_get-get_or stands c.loop-index.index _ c.loop-index-test.true in
    let s = get_or stands c.loop-index.index _ in
    let bytes = c.pack_bytes_at.ensures ∙ ap (λ S. let at : Position = record { state = at_vertex S s.vertex; place = s.place } in bytes_of at) c.put.ensures in
    ends_more (map (stood boards) stands) c.loop-index.index c.loop-index.ends _ c.loop-index.invariant (stood_at boards stands c.loop-index.index _ there) c.insert.new.self c.pack_bytes_at.result c.requires.apart c.if-not-stand.false bytes c.in_ok-insert.ensures.updates c.in_ok-insert.ensures.ordered
