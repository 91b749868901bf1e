use Rattle.std.proofs.Common.{◌≡◌, ◌<◌, ◌++◌, map, reverse, subst, sym, ap, ◌∙◌, length, refl, arith}
use Rattle.legal_moves.specs.declared.moves.Modifier.{Modifier}
use Rattle.std.proofs.lemmas.List.{length-map}
use Rattle.legal_moves.specs.Shown.{shown_to, shown_of}
use Rattle.legal_moves.specs.lemmas.Boards.{boards_in}
use Rattle.legal_moves.specs.lemmas.Stands.{stood}
use Rattle.legal_moves.proofs.automata.ReadyLemmas.{read_at}
use Rattle.legal_moves.proofs.searches.StandLemmas.{stood_at}
use Rattle.legal_moves.proofs.answers.MovesLemmas.{parent_before, back_hidden, back_shown, whole_word}
use Rattle.legal_moves.proofs.moves.Moves.word.Goals as goal

pub loop-at-smaller : goal.loop-at-smaller
loop-at-smaller c =
    let boards = boards_in c.self.inside.boards in
    let stands = c.self.inside.stands.items in
    let cs = map (stood boards) stands in
    let s = c.index-in-loop-at.result.now in
    let at = stood_at boards stands c.loop-at.at s (read_at stands c.loop-at.at s c.loop-at.invariant.within c.index-in-loop-at.ensures) in
    let less : s.parent < c.loop-at.at = parent_before cs c.self.invariant.0 c.loop-at.at (stood boards s) c.loop-at-test.true at in
    less

pub loop-at-smaller-then-not-shows : goal.loop-at-smaller-then-not-shows
loop-at-smaller-then-not-shows c =
    let boards = boards_in c.self.inside.boards in
    let stands = c.self.inside.stands.items in
    let cs = map (stood boards) stands in
    let s = c.index-in-loop-at.result.now in
    let at = stood_at boards stands c.loop-at.at s (read_at stands c.loop-at.at s c.loop-at.invariant.within c.index-in-loop-at.ensures) in
    let less : s.parent < c.loop-at.at = parent_before cs c.self.invariant.0 c.loop-at.at (stood boards s) c.loop-at-test.true at in
    less

pub index-requires-in-loop-at-2 : goal.index-requires-in-loop-at-2
index-requires-in-loop-at-2 c =
    let boards = boards_in c.self.inside.boards in
    let stands = c.self.inside.stands.items in
    let cs = map (stood boards) stands in
    let s = c.index-in-loop-at.result.now in
    let at = stood_at boards stands c.loop-at.at s (read_at stands c.loop-at.at s c.loop-at.invariant.within c.index-in-loop-at.ensures) in
    let less : s.parent < c.loop-at.at = parent_before cs c.self.invariant.0 c.loop-at.at (stood boards s) c.loop-at-test.true at in
    omega (arith, less, c.loop-at.invariant.within)

pub loop-at-preserved-then-not-shows : goal.loop-at-preserved-then-not-shows
loop-at-preserved-then-not-shows c =
    let boards = boards_in c.self.inside.boards in
    let stands = c.self.inside.stands.items in
    let cs = map (stood boards) stands in
    let s = c.index-in-loop-at.result.now in
    let at = stood_at boards stands c.loop-at.at s (read_at stands c.loop-at.at s c.loop-at.invariant.within c.index-in-loop-at.ensures) in
    let less : s.parent < c.loop-at.at = parent_before cs c.self.invariant.0 c.loop-at.at (stood boards s) c.loop-at-test.true at in
    record {
      shown = back_hidden cs c.self.invariant.0 c.loop-at.at (stood boards s) _ _ c.loop-at-test.true at c.if-not-shows.true c.loop-at.invariant.shown;
      within = omega (arith, less, c.loop-at.invariant.within);
    }

pub loop-at-preserved : goal.loop-at-preserved
loop-at-preserved c =
    let boards = boards_in c.self.inside.boards in
    let stands = c.self.inside.stands.items in
    let cs = map (stood boards) stands in
    let s = c.index-in-loop-at.result.now in
    let at = stood_at boards stands c.loop-at.at s (read_at stands c.loop-at.at s c.loop-at.invariant.within c.index-in-loop-at.ensures) in
    let less : s.parent < c.loop-at.at = parent_before cs c.self.invariant.0 c.loop-at.at (stood boards s) c.loop-at-test.true at in
    let t = c.index-in-loop-at-2.result.now in
    let at_before = stood_at boards stands s.parent t
    (read_at stands s.parent t (omega (arith, less, c.loop-at.invariant.within)) c.index-in-loop-at-2.ensures) in
    record {
      shown = back_shown (λ (m : Modifier). (m.number, m.vertex)) cs c.self.invariant.0 c.loop-at.at (stood boards s) (stood boards t) c.loop-at.word.items c.push.new.self.items _ _ c.loop-at-test.true at at_before c.if-not-shows.false refl c.in_ok-push.ensures.ok c.loop-at.invariant.shown;
      within = omega (arith, less, c.loop-at.invariant.within);
    }

pub returns : goal.returns
returns c =
    let cs = map (stood (boards_in c.self.inside.boards)) c.self.inside.stands.items in
    let successors = c.self.inside.successors.items in
    let many : length c.args.self.now ≡ length successors = ap length (sym c.self.view_is) ∙ length-map successors (shown_of cs) in
    let at = read_at successors c.args.k c.index.result.now (omega (arith, many, c.requires)) c.index.ensures in
    let turned = c.reverse.ensures.after ∙ ap reverse c.as_mut_slice.ensures.value in
    let shown = subst (λ i. shown_to cs i i ++ reverse
    (map (λ (m : Modifier). (
      m.number,
      m.vertex,
    )) c.loop-at.word.items) ≡ shown_to cs c.index.result.now.index c.index.result.now.index) c.loop-at-test.false c.loop-at.invariant.shown in
    whole_word (λ (m : Modifier). (
      m.number,
      m.vertex,
    )) cs successors c.args.k c.index.result.now c.args.self.now c.loop-at.word.items c.reverse.new.self (sym c.self.view_is) at turned shown
