-- What is stated of a table on trees.
use Rattle.page_store.specs.declared.pages.Pages.{Ghosts as OfPages}
use Rattle.tree_table.specs.declared.working.TreeTable.{TreeTable}
use Rattle.tree_table.specs.WorkTable.{Work, work_of}

module _ {P : Type 0} {pages : OfPages P} where
  -- what its slot says, its text, whether a call that writes has stopped half way, and its pages
  abbrev pub work_in : TreeTable P pages → Work
  work_in t = work_of t.slot t.text.items t.torn (pages.store t.store)
