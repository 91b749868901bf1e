use Rattle.std.proofs.Common.{List, ℕ, sym, subst}
use Rattle.rbg_game.specs.Meaning.{game_of, action_of}
use Rattle.rbg_game.specs.Positions.{IsStateOf}
use Rattle.rbg_game.specs.declared.position.SemiState.{SemiState}
use Rattle.legal_moves.specs.Plain.{IsPlain}
use Rattle.legal_moves.specs.lemmas.VertexSearch.{GlanceTells}
use Rattle.legal_moves.proofs.effect.at_a_glance.Goals as goal

-- the semi-state with these pieces and values, at this vertex
abbrev laid_out : SemiState → List ℕ → List ℕ → ℕ → SemiState
laid_out S ps vs v = record { mover = S.mover; pieces = record { items = ps }; values = record { items = vs }; vertex = v }

pub glance_where_seen-requires-clause-state : goal.glance_where_seen-requires-clause-state
glance_where_seen-requires-clause-state c =
    let game = game_of c.args.game.now in
    let S = c.args.state.now in
    subst (λ ps. IsStateOf game (laid_out S ps c.deref-2.result.now c.args.vertex)) (sym c.deref.ensures.0)
    (subst (λ vs. IsStateOf game (laid_out S S.pieces.items vs c.args.vertex)) (sym c.deref-2.ensures.0) c.requires.state)

pub glance_where_seen-requires-clause-plain : goal.glance_where_seen-requires-clause-plain
glance_where_seen-requires-clause-plain c = subst (λ vs. IsPlain vs (action_of c.args.action.now)) (sym c.deref-2.ensures.0) c.requires.plain

pub returns : goal.returns
returns c =
    let game = game_of c.args.game.now in
    let S = c.args.state.now in
    let a = action_of c.args.action.now in
    subst (λ vs. GlanceTells game a (laid_out S S.pieces.items vs c.args.vertex) c.glance_where_seen.result) c.deref-2.ensures.0
    (subst (λ ps. GlanceTells game a
    (laid_out S ps c.deref-2.result.now c.args.vertex) c.glance_where_seen.result) c.deref.ensures.0 c.glance_where_seen.ensures)
