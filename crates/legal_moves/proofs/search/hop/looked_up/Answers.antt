use Rattle.legal_moves.proofs.searches.ExpandLemmas.{place_first, place_last}
use Rattle.legal_moves.proofs.search.hop.looked_up.Goals as goal

pub returns-then-last-eq0 : goal.returns-then-last-eq0
returns-then-last-eq0 c = place_first c.args.place c.args.last c.if-last-eq0.true

pub returns-else-last-eq0 : goal.returns-else-last-eq0
returns-else-last-eq0 c = place_last c.args.place c.args.last c.if-last-eq0.false
