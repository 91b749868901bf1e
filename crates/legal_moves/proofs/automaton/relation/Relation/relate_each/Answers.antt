use Rattle.std.proofs.Common.{get_or, arith}
use Rattle.std.proofs.lemmas.List.{get_or_default}
use Rattle.legal_moves.specs.lemmas.Relations.{IsRelated}
use Rattle.legal_moves.proofs.automata.RelationLemmas.{each_more, each_all}
use Rattle.legal_moves.proofs.automaton.relation.Relation.relate_each.Goals as goal

pub loop-right-preserved : goal.loop-right-preserved
loop-right-preserved c =
    let xs = c.args.rights.now in
    let n = c.loop-right.right-index in
    each_more (IsRelated c.args.self.now) (IsRelated c.loop-right.self) (IsRelated c.relate.new.self) c.args.left xs n
    (get_or xs n 0) c.loop-right-test.true (get_or_default xs n 0 (get_or xs n 0) c.loop-right-test.true) c.loop-right.invariant c.in_ok-relate.ensures

pub returns : goal.returns
returns c =
    each_all (IsRelated c.args.self.now) (IsRelated c.loop-right.self) c.args.left c.args.rights.now c.loop-right.right-index
    (omega arith) c.loop-right.invariant
