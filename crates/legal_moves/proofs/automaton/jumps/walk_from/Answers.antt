use Rattle.std.proofs.Common.{◌≡◌, ℕ, ◌+◌, ◌<◌, ◌≤◌, ◌⊎◌, inl, inr, false, [], ◌∷◌, ◌++◌, length, refl, ap, ◌∙◌, subst, arith}
use Rattle.std.proofs.lemmas.Bool.{cases_lt}
use Rattle.rbg_game.specs.Meaning.{game_of}
use Rattle.legal_moves.specs.lemmas.Configurations.{expression_at}
use Rattle.legal_moves.specs.lemmas.Walks.{IsGoneOn}
use Rattle.legal_moves.specs.declared.automaton.jumps.ShiftClosure.{ShiftClosure}
use Rattle.legal_moves.proofs.automata.RowLemmas.{first_begun, led_begun, led_inside, gone_kept}
use Rattle.legal_moves.proofs.automaton.jumps.walk_from.Goals as goal

pub loop-at-init : goal.loop-at-init
loop-at-init c =
    let game = game_of c.args.game.now in
    let e = expression_at game c.args.index in
    let walk : ShiftClosure = record { met = c.push.new.self; to = c.new-2.result; ends = false } in
    let one = c.in_ok-push.ensures.items ∙ ap (λ xs. xs ++ c.args.start ∷ []) c.new.ensures.items in
    record {
      first = first_begun game e c.args.start walk one;
      led = led_begun game e c.args.start walk one c.new-2.ensures.items refl;
      gone = λ j less. absurd (omega (arith, less));
    }

pub returns-then-at-len : goal.returns-then-at-len
returns-then-at-len c =
    let walk = c.loop-at.walk in
    record {
      first = (0, c.args.start, c.loop-at.invariant.first, refl, refl);
      led = c.loop-at.invariant.led;
      gone = λ j less. c.loop-at.invariant.gone j (omega (arith, less, c.if-at-len.true, c.len.ensures, walk.met.ok.0));
    }

pub go_on-requires-clause-inside : goal.go_on-requires-clause-inside
go_on-requires-clause-inside c =
    let game = game_of c.args.game.now in
    led_inside game (expression_at game c.args.index) c.requires.ready.sound c.args.start.number c.args.start.vertex c.requires.inside c.loop-at.walk c.loop-at.invariant.led

pub loop-at-preserved : goal.loop-at-preserved
loop-at-preserved c =
    let game = game_of c.args.game.now in
    let e = expression_at game c.args.index in
    let walk = c.loop-at.walk in
    let new = c.go_on.new.walk in
    let at = c.loop-at.at in
    let inside : at < length walk.met.items = omega (arith, c.if-at-len.false, c.len.ensures, walk.met.ok.0) in
    let gone : (j : ℕ) → (j < at) ⊎ (at ≤ j) → j < at + 1 → IsGoneOn game e new j = λ j either less. elim either [
      | inl low ↦ gone_kept game e walk new c.in_ok-go_on.ensures.kept j (omega (arith, low, inside)) (c.loop-at.invariant.gone j low)
      | inr high ↦ let same : at ≡ j = omega (arith, high, less) in subst (IsGoneOn game e new) same c.in_ok-go_on.ensures.gone
    ] in
    record {
      first = c.in_ok-go_on.ensures.kept.met 0 c.args.start c.loop-at.invariant.first;
      led = c.in_ok-go_on.ensures.led c.args.start.number c.args.start.vertex c.loop-at.invariant.led;
      gone = λ j less. gone j (cases_lt j at) less;
    }
