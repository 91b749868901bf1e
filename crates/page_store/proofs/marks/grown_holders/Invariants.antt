use Rattle.std.proofs.Common.{◌≡◌, ◌<◌, ℕ, length}
use Rattle.page_store.specs.Holds.{holders_at}
use Rattle.page_store.proofs.marks.grown_holders.Given as goal

abbrev pub invariant-loop-page : goal.invariant-loop-page
invariant-loop-page l = record {
  size : length l.grown.items ≡ l.page;
  each : (p : ℕ) → p < l.page → holders_at l.grown.items p ≡ holders_at l.holders p;
}
