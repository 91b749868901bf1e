use Rattle.std.proofs.Common.{◌≡◌, ◌≤◌, ◌<◌, ℕ, false, length}
use Rattle.page_store.specs.Holds.{holders_at, with_need}
use Rattle.page_store.proofs.marks.end_hold.Given as goal

abbrev pub invariant-loop-page : goal.invariant-loop-page
invariant-loop-page l = record {
  same_length : length l.holders.items ≡ length l.fn.holders.items;
  done : (p : ℕ) → p < l.page → holders_at l.holders.items p ≡ with_need (holders_at l.fn.holders.items p) l.place false;
  ahead : (p : ℕ) → l.page ≤ p → holders_at l.holders.items p ≡ holders_at l.fn.holders.items p;
}
