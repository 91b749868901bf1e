use Rattle.std.proofs.Common.{map, sym, subst, length}
use Rattle.std.proofs.lemmas.List.{length-map}
use Rattle.legal_moves.specs.lemmas.Boards.{boards_in}
use Rattle.legal_moves.specs.lemmas.Configurations.{AreEnds, HaveOwnBytes}
use Rattle.legal_moves.specs.lemmas.Stands.{stood, AllStand}
use Rattle.legal_moves.proofs.answers.EndsByBytes.{ends_shown, ends_inside}
use Rattle.legal_moves.proofs.moves.Moves.of.Goals as goal

pub ends_by_bytes-requires-clause-whole : goal.ends_by_bytes-requires-clause-whole
ends_by_bytes-requires-clause-whole c = c.requires.kept.whole

pub ends_by_bytes-requires-clause-within : goal.ends_by_bytes-requires-clause-within
ends_by_bytes-requires-clause-within c = subst (AllStand (boards_in c.args.found.boards)) (sym c.deref.ensures.value) c.requires.kept.within

pub ends_by_bytes-requires-clause-apart : goal.ends_by_bytes-requires-clause-apart
ends_by_bytes-requires-clause-apart c = subst (λ ss. HaveOwnBytes (map (stood (boards_in c.args.found.boards)) ss)) (sym c.deref.ensures.value) c.requires.apart

pub invariant_of-result : goal.invariant_of-result
invariant_of-result c =
    let boards = boards_in c.args.found.boards in
    let stands = c.args.found.stands.items in
    let index = subst (λ ss. AreEnds (map (stood boards) ss) (length ss) c.in_ok-ends.ends) c.deref.ensures.value c.in_ok-ends.ensures in
    let kept = c.in_ok-successors.ensures in (
      c.requires.before,
      ends_inside (map (stood boards) stands) (length stands)
          (sym (length-map stands (stood boards))) c.in_ok-ends.ends index c.in_ok-successors.successors.items kept,
    )

pub returns : goal.returns
returns c =
    let boards = boards_in c.args.found.boards in
    let stands = c.args.found.stands.items in
    let index = subst (λ ss. AreEnds (map (stood boards) ss) (length ss) c.in_ok-ends.ends) c.deref.ensures.value c.in_ok-ends.ensures in
    let kept = c.in_ok-successors.ensures in
    ends_shown (map (stood boards) stands) (length stands)
    (sym (length-map stands (stood boards))) c.in_ok-ends.ends index c.in_ok-successors.successors.items kept
