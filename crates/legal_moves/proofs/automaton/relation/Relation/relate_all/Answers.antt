use Rattle.std.proofs.Common.{get_or, Contains, arith}
use Rattle.std.proofs.lemmas.List.{get_or_default}
use Rattle.legal_moves.specs.lemmas.Relations.{IsRelated}
use Rattle.legal_moves.proofs.automata.RelationLemmas.{all_more, all_all}
use Rattle.legal_moves.proofs.automaton.relation.Relation.relate_all.Goals as goal

pub loop-left-preserved : goal.loop-left-preserved
loop-left-preserved c =
    let xs = c.args.lefts.now in
    let n = c.loop-left.left-index in
    all_more (IsRelated c.args.self.now) (IsRelated c.loop-left.self) (IsRelated c.relate_each.new.self) (Contains c.args.rights.now) xs n
    (get_or xs n 0) c.loop-left-test.true (get_or_default xs n 0 (get_or xs n 0) c.loop-left-test.true) c.loop-left.invariant c.in_ok-relate_each.ensures

pub returns : goal.returns
returns c =
    all_all (IsRelated c.args.self.now) (IsRelated c.loop-left.self) (Contains c.args.rights.now) c.args.lefts.now c.loop-left.left-index
    (omega arith) c.loop-left.invariant
