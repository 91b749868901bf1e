use Rattle.std.proofs.Common.{rules}
use Rattle.std.proofs.lemmas.Fn.{always_returns_same}
use Rattle.std.proofs.lemmas.List.Sorted.{IsNonDecreasingBy-from_sort_by_key}
use Rattle.best_line.specs.Order.{rank_of}
use Rattle.best_line.proofs.known.KnownMoves.into_best_first.Goals as goal

pub returns : goal.returns
returns c = record {
  same = c.in_ok-sort_by_key.ensures.permutation;
  best = IsNonDecreasingBy-from_sort_by_key (λ move. rank_of c.args.self.mover move.value) _ c.in_ok-sort_by_key.ensures.sorted (λ a r q k. search rules);
  stable = c.in_ok-sort_by_key.ensures.stable (λ move. rank_of c.args.self.mover move.value) (always_returns_same _ _ _ (λ a r q k. search rules));
}
