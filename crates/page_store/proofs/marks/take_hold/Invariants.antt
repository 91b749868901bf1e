use Rattle.std.proofs.Common.{◌≡◌, ◌≤◌, ◌<◌, ℕ, length}
use Rattle.page_store.specs.Holds.{holders_at, with_need}
use Rattle.page_store.specs.Marks.{mark, is_rooted}
use Rattle.page_store.proofs.marks.take_hold.Given as goal

abbrev pub invariant-loop-page : goal.invariant-loop-page
invariant-loop-page l = record {
  same_length : length l.holders.items ≡ length l.fn.holders.items;
  done : (p : ℕ) → p < l.page → holders_at l.holders.items p ≡ with_need (holders_at l.fn.holders.items p) l.place (is_rooted (mark l.marks p));
  ahead : (p : ℕ) → l.page ≤ p → holders_at l.holders.items p ≡ holders_at l.fn.holders.items p;
}
