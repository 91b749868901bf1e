use Rattle.std.proofs.Common.{◌≡◌, ◌≤◌, ◌<◌, ℕ, length}
use Rattle.page_store.specs.declared.marks.Mark.TheVariants.{Free}
use Rattle.page_store.specs.Holds.{holders_at}
use Rattle.page_store.specs.Marks.{mark, committed}
use Rattle.page_store.proofs.marks.grown_marks.Given as goal

abbrev pub invariant-loop-page : goal.invariant-loop-page
invariant-loop-page l = record {
  size : length l.grown.items ≡ l.page;
  each : (p : ℕ) → p < l.page → p < length l.marks → mark l.grown.items p ≡ committed (holders_at l.holders p) (mark l.marks p);
  added : (p : ℕ) → p < l.page → length l.marks ≤ p → mark l.grown.items p ≡ Free;
}
