use Rattle.std.proofs.Common.{◌≡◌, ◌≤◌, ◌++◌, map, length}
use Rattle.std.specs.Prelude.{All}
use Rattle.numbered_actions.specs.Tokens.{tokens_of, tokens_from, cut_of}
use Rattle.numbered_actions.specs.lemmas.Walk.{elsewhere, within_at, depth_of, found_from}
use Rattle.numbered_actions.proofs.stretches.numbered_actions.Given as goal

abbrev pub invariant-loop-place : goal.invariant-loop-place
invariant-loop-place l = record {
  walked : map (cut_of l.tokens) l.found.items ++ found_from (within_at l.tokens l.within) (tokens_from l.tokens l.place)
      ≡ found_from elsewhere (tokens_of l.tokens);
  shallow : depth_of l.within ≤ l.place;
  fits : All (λ stretch. stretch.to ≤ length l.tokens) l.found.items;
}
