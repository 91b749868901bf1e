use Rattle.position_pack.proofs.WordLemmas.{no_role, no_place, no_vertex, no_pieces, refused}
use Rattle.position_pack.proofs.words.words_of.Goals as goal

pub returns-in_err-role : goal.returns-in_err-role
returns-in_err-role c =
    refused _ _ c.from_residual.result c.from_residual.ensures
    (λ u v w x y. no_role c.args.text.now u v w x y c.in_err-role.ensures)

pub returns-in_err-place : goal.returns-in_err-place
returns-in_err-place c =
    refused _ _ c.from_residual-in_err-place.result c.from_residual-in_err-place.ensures
    (λ u v w x y. no_place c.args.text.now _ _ u v w x y c.in_ok-role.ensures c.in_err-place.ensures)

pub returns-in_err-vertex : goal.returns-in_err-vertex
returns-in_err-vertex c =
    refused _ _ c.from_residual-in_err-vertex.result c.from_residual-in_err-vertex.ensures
    (λ u v w x y. no_vertex c.args.text.now _ _ _ _ u v w x y c.in_ok-role.ensures c.in_ok-place.ensures c.in_err-vertex.ensures)

pub returns-in_err-pieces : goal.returns-in_err-pieces
returns-in_err-pieces c =
    refused _ _ c.from_residual-in_err-pieces.result c.from_residual-in_err-pieces.ensures
    (λ u v w x y. no_pieces c.args.text.now _ _ _ _ _ _ u v w x y c.in_ok-role.ensures c.in_ok-place.ensures c.in_ok-vertex.ensures c.in_err-pieces.ensures)
