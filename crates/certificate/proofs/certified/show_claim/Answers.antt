use Rattle.std.proofs.Common.{sym, subst}
use Rattle.rbg_game.specs.Goals.{points_of}
use Rattle.rbg_game.specs.Meaning.{game_of}
use Rattle.position_pack.specs.Packings.{packed_by}
use Rattle.position_pack.specs.Shape.{shape_of}
use Rattle.position_pack.specs.declared.kind.PackingKind.TheVariants.{Bits}
use Rattle.legal_moves.specs.Compiled.{compiled_game, compiled_goal, packing_kind}
use Rattle.legal_moves.specs.Sources.{graph_of}
use Rattle.certificate.specs.Claims.{IsClaimSo}
use Rattle.certificate.specs.Refusals.{AreUnread as unread}
use Rattle.certificate.specs.lemmas.Reasons.{AreTheLists, IsNotShown}
use Rattle.certificate.specs.lemmas.Reasons.{IsNotShown as cause}
use Rattle.certificate.proofs.ClaimLemmas.{same_claim, same_lists, same_refusal}
use Rattle.certificate.proofs.ListLoops.{if_err, on_ok, turned}
use Rattle.certificate.proofs.certified.show_claim.Goals as goal

pub returns-in_err-compiled-clause-fault : goal.returns-in_err-compiled-clause-fault
returns-in_err-compiled-clause-fault c =
    turned _ _ c.from_residual.result c.from_residual.ensures
    (λ refusal is. subst (IsNotShown (game_of c.args.game) (points_of c.args.goal) c.args.claim.now.claimed
    (packed_by Bits (shape_of (game_of c.args.game)) c.args.claim.now.at) c.args.lists.now) (sym is) (cause.unread _ unread.no_memory))

pub returns-clause-so : goal.returns-clause-so
returns-clause-so c =
    let source = c.in_ok-compiled.compiled in
    let claim = c.args.claim.now in
    let goal_is = points_of c.args.goal in
    let game = game_of c.args.game in
    on_ok c.show_value.result
    (IsClaimSo (graph_of (packing_kind source) (compiled_goal source) (compiled_game source)) claim.claimed c.pack-at.result.items)
    (IsClaimSo (graph_of Bits goal_is game) claim.claimed (packed_by Bits (shape_of game) claim.at))
    (λ so. same_claim claim.claimed (packing_kind source) (compiled_goal source) goal_is (compiled_game source) game c.packing.result.now claim.at
    c.pack-at.result.items c.in_ok-compiled.ensures.kind c.in_ok-compiled.ensures.goal c.in_ok-compiled.ensures.game c.packing.ensures c.pack-at.ensures so)
    c.show_value.ensures.so

pub returns-clause-fault : goal.returns-clause-fault
returns-clause-fault c =
    let source = c.in_ok-compiled.compiled in
    let claim = c.args.claim.now in
    let goal_is = points_of c.args.goal in
    let game = game_of c.args.game in
    if_err c.show_value.result
    (λ refusal. IsNotShown (compiled_game source) (compiled_goal source) claim.claimed c.pack-at.result.items c.args.lists.now refusal.fault)
    (λ refusal. IsNotShown game goal_is claim.claimed (packed_by Bits (shape_of game) claim.at) c.args.lists.now refusal.fault)
    (λ refusal is. same_refusal claim.claimed refusal.fault c.args.lists.now (packing_kind source) (compiled_goal source) goal_is (compiled_game source) game
    c.packing.result.now claim.at c.pack-at.result.items c.in_ok-compiled.ensures.kind c.in_ok-compiled.ensures.goal c.in_ok-compiled.ensures.game
    c.packing.ensures c.pack-at.ensures is)
    c.show_value.ensures.fault

pub returns-clause-shown : goal.returns-clause-shown
returns-clause-shown c =
    let source = c.in_ok-compiled.compiled in
    let claim = c.args.claim.now in
    let goal_is = points_of c.args.goal in
    let game = game_of c.args.game in
    on_ok c.show_value.result
    (AreTheLists (compiled_game source) (compiled_goal source) claim.claimed c.pack-at.result.items c.args.lists.now)
    (AreTheLists game goal_is claim.claimed (packed_by Bits (shape_of game) claim.at) c.args.lists.now)
    (λ shown. same_lists claim.claimed c.args.lists.now (packing_kind source) (compiled_goal source) goal_is (compiled_game source) game c.packing.result.now
    claim.at c.pack-at.result.items c.in_ok-compiled.ensures.kind c.in_ok-compiled.ensures.goal c.in_ok-compiled.ensures.game c.packing.ensures c.pack-at.ensures
    shown)
    c.show_value.ensures.shown
