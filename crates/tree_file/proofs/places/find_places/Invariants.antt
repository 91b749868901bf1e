use Rattle.page_store.specs.Frames.{PagesRead}
use Rattle.std.proofs.Common.{◌≡◌, length}
use Rattle.btree.specs.Readers.{IsReading}
use Rattle.tree_table.specs.declared.tree.Tree.TheVariants.{Order}
use Rattle.tree_table.specs.Readers.{IsReaderOf}
use Rattle.tree_file.specs.lemmas.EntryReads.{TellsOfEntries}
use Rattle.tree_file.specs.lemmas.Right.{AreMarkedByPlaces}
use Rattle.tree_file.proofs.places.find_places.Given as goal

abbrev pub invariant-loop-place : goal.invariant-loop-place
invariant-loop-place g l = record {
  of : IsReaderOf l.fn.slot Order l.reader;
  reading : IsReading l.reader (g.P.Pages.store l.store);
  read : PagesRead (g.P.Pages.store l.fn.store) (g.P.Pages.store l.store);
  long : length l.placed.items ≡ l.fn.slot.sizes.counts.known;
  so_far : TellsOfEntries l.fn.slot (g.P.Pages.store l.fn.store) (λ entries. AreMarkedByPlaces l.fn.slot.sizes entries l.place l.placed.items);
}
