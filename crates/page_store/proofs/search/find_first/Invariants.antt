use Rattle.std.proofs.Common.{◌≢◌, ◌<◌, ℕ}
use Rattle.page_store.specs.declared.marks.Mark.TheVariants.{Free}
use Rattle.page_store.specs.Marks.{mark}
use Rattle.page_store.proofs.search.find_first.Given as goal

abbrev pub invariant-loop-page : goal.invariant-loop-page
invariant-loop-page l = (p : ℕ) → p < l.page → mark l.marks p ≢ Free
