use Rattle.std.proofs.Common.{◌≡◌, ◌≤◌, max, map, drop}
use Rattle.rbg_text.specs.NestingCount.{nesting_from}
use Rattle.rbg_text.specs.View.{token_view}
use Rattle.rbg_text.proofs.nesting.nesting.Given as goal

abbrev pub invariant-loop-token : goal.invariant-loop-token
invariant-loop-token l =
    (nesting_from 0 (map token_view l.tokens) ≡ max l.greatest (nesting_from l.count (map token_view (drop l.token-index l.tokens))))
    × (l.count ≤ l.greatest) × (l.count ≤ l.token-index)
