use Rattle.std.proofs.Common.{ℕ, ◌∷◌, ◌++◌, [], map, take, sym, ap, ◌∙◌}
use Rattle.std.proofs.lemmas.List.{map-append}
use Rattle.std.proofs.lemmas.Option.{slice_get-get_or}
use Rattle.arrayvec.specs.ArrayVec.{ArrayVec}
use Rattle.position_pack.specs.Packings.{packed_by}
use Rattle.legal_moves.specs.lemmas.Boards.{boards_in}
use Rattle.legal_moves.specs.lemmas.Ends.{ends_packed}
use Rattle.legal_moves.specs.lemmas.Stands.{stood}
use Rattle.legal_moves.proofs.searches.StandLemmas.{stood_at}
use Rattle.legal_moves.proofs.answers.PackedEnds.{packed_skip, packed_more}
use Rattle.legal_moves.proofs.ends.packed_ends.Goals as goal

pub loop-stand-preserved-then-not-stand : goal.loop-stand-preserved-then-not-stand
loop-stand-preserved-then-not-stand c =
    let boards = boards_in c.args.boards.now in
    let stands = c.args.stands.now in
    let i = c.loop-stand.stand-index in
    let there = slice_get-get_or stands i _ c.loop-stand-test.true in
    c.loop-stand.invariant ∙ sym (packed_skip c.args.packing.now (map (stood boards) stands) i _ (stood_at boards stands i _ there) c.if-not-stand.true)

pub put_position-requires-clause-board : goal.put_position-requires-clause-board
put_position-requires-clause-board c =
    c.requires.within c.loop-stand.stand-index _ (slice_get-get_or c.args.stands.now c.loop-stand.stand-index _ c.loop-stand-test.true)

pub loop-stand-preserved : goal.loop-stand-preserved
loop-stand-preserved c =
    let form = c.args.packing.now in
    let boards = boards_in c.args.boards.now in
    let stands = c.args.stands.now in
    let cs = map (stood boards) stands in
    let i = c.loop-stand.stand-index in
    let there = slice_get-get_or stands i _ c.loop-stand-test.true in
    let bytes = c.pack.ensures ∙ ap (packed_by form.kind form.shape) c.put_position.ensures in
    ap (map (λ (p : ArrayVec ℕ). p.items)) (c.push_reserved.ensures.items ∙ ap (λ ends. ends ++ c.pack.result ∷ []) c.in_ok-reserve.ensures.items)
    ∙ map-append (λ (p : ArrayVec ℕ). p.items) c.loop-stand.ends.items (c.pack.result ∷ [])
    ∙ ap (λ xs. xs ++ c.pack.result.items ∷ []) c.loop-stand.invariant
    ∙ ap (λ b. ends_packed form (take i cs) ++ b ∷ []) bytes
    ∙ sym (packed_more form cs i _ (stood_at boards stands i _ there) c.if-not-stand.false)
