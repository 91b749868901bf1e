use Rattle.std.proofs.Common.{◌∙◌}
use Rattle.earlier_layouts.proofs.Exits.{passed_on, ok_more, err_more}
use Rattle.earlier_layouts.proofs.ChainReads.{chain_cause, table_cause, game_read}
use Rattle.earlier_layouts.proofs.read.read_game.Goals as goal

pub returns-in_err-chain-clause-cause : goal.returns-in_err-chain-clause-cause
returns-in_err-chain-clause-cause g c =
    passed_on _ c.from_residual.result _ c.from_residual.ensures
    (chain_cause (g.P.Pages.store c.args.store.now) c.args.slot.now c.requires
    (g.P.Pages.store c.read_chain.new.store) c.length_of.result _ c.length_of.ensures c.in_err-chain.ensures.cause)

pub returns-clause-read : goal.returns-clause-read
returns-clause-read g c =
    ok_more
    (game_read (g.P.Pages.store c.args.store.now) c.args.slot.now c.requires _ _ c.in_ok-chain.ensures.ok.chain
    (g.P.Pages.store c.read_chain.new.store) c.in_ok-chain.ensures.ok.waited c.in_ok-chain.ensures.ok.marked)
    c.game_of.result c.game_of.ensures.game

pub returns-clause-cause : goal.returns-clause-cause
returns-clause-cause g c =
    err_more
    (λ fault. table_cause (g.P.Pages.store c.args.store.now) c.args.slot.now c.requires _ _ c.in_ok-chain.ensures.ok.chain
    (g.P.Pages.store c.read_chain.new.store) fault (c.in_ok-chain.ensures.ok.long ∙ c.length_of.ensures))
    c.game_of.result c.game_of.ensures.cause
