use Rattle.std.proofs.Common.{ap, ◌∙◌}
use Rattle.position_pack.specs.declared.kind.PackingKind.TheVariants.{Bytes}
use Rattle.position_pack.specs.Packings.{form_of}
use Rattle.legal_moves.specs.Compiled.{compiled_game}
use Rattle.best_line.proofs.FoundLemmas.{is_packed, leads_to}
use Rattle.best_line.proofs.found.successor_of.Goals as goal

pub unreachable-requires : goal.unreachable-requires
unreachable-requires c =
    let game = compiled_game c.args.compiled.now in
    let form = c.new-rows.ensures ∙ ap (λ g. form_of Bytes g) c.game.ensures in
    let there = is_packed game c.args.moves.now c.args.k c.successor.result.now.items c.deref.result.now c.new-rows.result c.requires.positions c.requires.index c.successor.ensures c.deref.ensures.0 form in
    c.in_default.ensures there.0 there.1

pub returns : goal.returns
returns c =
    let game = compiled_game c.args.compiled.now in
    let form = c.new-rows.ensures ∙ ap (λ g. form_of Bytes g) c.game.ensures in
    leads_to game _ c.successor.result.now.items c.deref.result.now c.new-rows.result c.in-Some.next c.successor.ensures c.deref.ensures.0 form c.in-Some.ensures
