use Rattle.std.proofs.Common.{subst}
use Rattle.legal_moves.specs.lemmas.Answers.{IsAnswerAt}
use Rattle.legal_moves.specs.lemmas.VertexSearch.{at_vertex}
use Rattle.legal_moves.proofs.search.hop.ask_at.Goals as goal

pub returns-then-asked-vertex-clause-known : goal.returns-then-asked-vertex-clause-known
returns-then-asked-vertex-clause-known c =
    λ game S h. subst (λ v. IsAnswerAt game (at_vertex S v) c.args.known.now) c.if-asked-vertex.true h

pub returns-clause-known : goal.returns-clause-known
returns-clause-known c = λ game S h. tt
