-- A file that was asked no more than a question has not grown.
use Rattle.std.proofs.Common.{inl, ℕ, sym, ◌∙◌, arith}
use Rattle.sector_disk.specs.lemmas.Moments.{leaves_more}
use Rattle.game_file.specs.Calls.{IsAsked}
use Rattle.game_file.specs.Growth.{GrowsAhead, IsNotGrown}
use Rattle.game_file.specs.Kept.{Layout}
use Rattle.game_file.specs.State.{State, GoesAhead}

-- a later state of a file of as many pages is one of a file that may have become larger
pub grows_no_more : {old new : State} → GoesAhead old new → GrowsAhead old new
grows_no_more ahead = record {
  goes_on = ahead.goes_on;
  no_shorter = omega (arith, ahead.same_size);
  failures = ahead.failures;
  no_fewer = omega (arith, ahead.capacity);
  closes = ahead.closes;
}

pub asked_not_grown : (Stores : ℕ → Layout) (pages : ℕ) (old new : State) → IsAsked Stores old new → IsNotGrown Stores pages old new
asked_not_grown Stores pages old new asked = record {
  commits = asked.commits;
  counts = asked.counts;
  text = asked.text;
  packing = asked.packing;
  goal = asked.goal;
  kept = asked.kept;
  capacity = asked.ahead.capacity;
  leaves = λ honest is_open. asked.since honest (sym asked.closed ∙ is_open);
  either = λ honest is_open. leaves_more (λ image left. inl left) (asked.since honest is_open);
}
