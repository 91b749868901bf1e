use Rattle.std.proofs.Common.{◌≡◌, ◌↔◌, true, suc, ℕ, ◌-◌, Bool, subst, arith}
use Rattle.certificate.specs.Lists.{HasRankedLine}
use Rattle.certificate.specs.Strategies.{IsHeld, IsHeldFor, RanksFrom}
use Rattle.certificate.proofs.ListLoops.{if_ok}
use Rattle.certificate.proofs.whole.is_held_for.Goals as goal

pub returns-clause-is : goal.returns-clause-is
returns-clause-is g c =
    let graph = g.M.GameGraph.graph c.args.source.now in
    let Ranks = HasRankedLine c.args.list.now in
    let less = c.args.rank - 1 in
    let one_more : suc less ≡ c.args.rank = omega arith in
    if_ok c.is_held.result
    (λ (b : Bool). (b ≡ true) ↔ IsHeld graph c.args.player (RanksFrom Ranks less) c.args.at.now.items)
    (λ (b : Bool). (b ≡ true) ↔ IsHeldFor graph c.args.player Ranks c.args.at.now.items c.args.rank)
    (λ b is. subst (λ (n : ℕ). (b ≡ true) ↔ IsHeldFor graph c.args.player Ranks c.args.at.now.items n) one_more is) c.is_held.ensures.is
