use Rattle.page_store.specs.Frames.{PagesRead}
use Rattle.std.proofs.Common.{ℕ, ◌<◌}
use Rattle.btree.specs.Readers.{IsReading}
use Rattle.tree_table.specs.declared.tree.Tree.TheVariants.{Records}
use Rattle.tree_table.specs.Readers.{IsReaderOf}
use Rattle.tree_file.specs.lemmas.EntryReads.{TellsOfEntries}
use Rattle.tree_file.specs.lemmas.Right.{IsRightNumber}
use Rattle.tree_file.proofs.check.check_entries.Given as goal

abbrev pub invariant-loop-number : goal.invariant-loop-number
invariant-loop-number g l = record {
  of : IsReaderOf l.fn.slot Records l.reader;
  reading : IsReading l.reader (g.P.Pages.store l.store);
  read : PagesRead (g.P.Pages.store l.fn.store) (g.P.Pages.store l.store);
  numbers : TellsOfEntries l.fn.slot (g.P.Pages.store l.fn.store) (λ entries. (i : ℕ) → i < l.number → IsRightNumber l.fn.slot.sizes entries i);
}
