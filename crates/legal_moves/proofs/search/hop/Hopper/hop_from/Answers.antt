use Rattle.std.proofs.Common.{◌≡◌, false, sym, ◌∙◌, subst, arith}
use Rattle.rbg_game.specs.Rules.{action_at, is_switch}
use Rattle.rbg_game.specs.Meaning.{game_of}
use Rattle.legal_moves.specs.lemmas.Boards.{boards_in}
use Rattle.legal_moves.specs.lemmas.Configurations.{expression_at}
use Rattle.legal_moves.specs.lemmas.Hops.{AreCounted}
use Rattle.legal_moves.specs.lemmas.Progress.{began}
use Rattle.legal_moves.specs.lemmas.Stands.{stood, configurations_of}
use Rattle.legal_moves.proofs.automata.ReadyLemmas.{read_at}
use Rattle.legal_moves.proofs.searches.FoundLemmas.{same_at}
use Rattle.legal_moves.proofs.searches.HopLemmas.{hopping_next, hopped_end, counted_end}
use Rattle.legal_moves.proofs.searches.StandLemmas.{stood_at}
use Rattle.legal_moves.proofs.search.hop.Hopper.hop_from.Goals as goal

pub index-requires : goal.index-requires
index-requires c = omega (arith, c.args.found.now.stands.ok.0, c.requires.at)

pub returns-then-ends-clause-kept : goal.returns-then-ends-clause-kept
returns-then-ends-clause-kept c = c.requires.kept

pub returns-then-ends-clause-shown : goal.returns-then-ends-clause-shown
returns-then-ends-clause-shown c = c.requires.shown

pub returns-then-ends-clause-still : goal.returns-then-ends-clause-still
returns-then-ends-clause-still c = λ i x at_x. at_x

pub returns-then-ends-clause-hopping : goal.returns-then-ends-clause-hopping
returns-then-ends-clause-hopping c =
    let game = game_of c.args.self.now.searcher.game.now in
    let e = expression_at game c.args.index in
    let place = c.args.place in
    let at = c.args.at in
    let old = c.args.found.now in
    let bs = boards_in old.boards in
    let cs = configurations_of old in
    let s = c.index.result.now in
    let at_s = read_at old.stands.items at s c.requires.at c.index.ensures in
    let b = stood bs s in
    let at_b = stood_at bs old.stands.items at s at_s in
    let ends_is = c.requires.hopping.ends_are at b at_b in
    hopping_next game e place (began cs) cs at c.requires.hopping b at_b (hopped_end game e place (began cs) cs b (sym ends_is ∙ c.if-ends.true))

pub returns-then-ends-clause-counted : goal.returns-then-ends-clause-counted
returns-then-ends-clause-counted c =
    let game = game_of c.args.self.now.searcher.game.now in
    let e = expression_at game c.args.index in
    let place = c.args.place in
    let at = c.args.at in
    let old = c.args.found.now in
    let bs = boards_in old.boards in
    let cs = configurations_of old in
    let s = c.index.result.now in
    let at_s = read_at old.stands.items at s c.requires.at c.index.ensures in
    let b = stood bs s in
    let at_b = stood_at bs old.stands.items at s at_s in
    let ends_is = c.requires.hopping.ends_are at b at_b in
    λ d at_d. subst (λ x. AreCounted game e place x 1) (same_at cs at b d at_b at_d) (counted_end game e place (began cs) b (sym ends_is ∙ c.if-ends.true))

pub hop_over-requires-clause-plain : goal.hop_over-requires-clause-plain
hop_over-requires-clause-plain c =
    let game = game_of c.args.self.now.searcher.game.now in
    let e = expression_at game c.args.index in
    let place = c.args.place in
    let at = c.args.at in
    let old = c.args.found.now in
    let bs = boards_in old.boards in
    let cs = configurations_of old in
    let s = c.index.result.now in
    let at_s = read_at old.stands.items at s c.requires.at c.index.ensures in
    let b = stood bs s in
    let at_b = stood_at bs old.stands.items at s at_s in
    let ends_is = c.requires.hopping.ends_are at b at_b in
    λ d at_d. subst (λ x. is_switch (action_at e 1 x.at.place) ≡ false) (same_at cs at b d at_b at_d) (sym ends_is ∙ c.if-ends.false)
