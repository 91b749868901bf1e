-- A game is read from the pages that its slot names, or it is not there.
use Rattle.std.proofs.Common.{◌≡◌, ◌⊎◌, inl, inr, ℕ, ◌≤◌, ◌<◌, ◌^◌, List, length, Option, None, Some, Contains, IsTrue, refl, sym, ◌∙◌, ap, subst, arith}
use Rattle.sector_disk.specs.lemmas.Moments.{still_honest}
use Rattle.page_store.specs.declared.fault.PageFault.{PageFault}
use Rattle.page_store.specs.declared.fault.PageFault.TheVariants as page
use Rattle.page_store.specs.declared.marks.Mark.{Mark}
use Rattle.page_store.specs.declared.marks.Mark.TheVariants.{Committed, Waiting}
use Rattle.page_store.specs.Marks.{mark}
use Rattle.page_store.specs.Store.{Store, reads}
use Rattle.page_chain.specs.Causes.{ChainReadCause}
use Rattle.page_chain.specs.Chain.{IsChain}
use Rattle.page_store.specs.Frames.{OnlyMarks}
use Rattle.page_chain.specs.lemmas.EveryChain.{a_chain_has_one_content}
use Rattle.retrograde.specs.Changes.{counts_of}
use Rattle.retrograde.specs.Stored.{Stored, IsTable}
use Rattle.table.specs.declared.fault.TableFault.{TableFault}
use Rattle.table.specs.declared.fault.TableFault.TheVariants as table
use Rattle.game_file.specs.Fields.{goal_numbered}
use Rattle.game_file.specs.lemmas.Packings.{some_number}
use Rattle.game_file.specs.Faults.{of_pages, of_table}
use Rattle.game_file.specs.Kept.{Kept, kept_as}
use Rattle.btree.specs.Entries.{Ascend}
use Rattle.btree.specs.Tree.{IsMap}
use Rattle.btree.specs.lemmas.Laws.{none_contained}
use Rattle.btree.specs.lemmas.Order.{ascend_none}
use Rattle.btree.specs.lemmas.Unchanged.{grew_before}
use Rattle.btree.specs.Page.{Item}
use Rattle.btree.specs.declared.page.widths.Widths.{Widths}
use Rattle.tree_table.specs.declared.slot.TreeSlot.{TreeSlot}
use Rattle.tree_table.specs.declared.tree.Tree.{Tree}
use Rattle.tree_table.specs.Entries.{AreEntriesOf}
use Rattle.tree_table.specs.Forest.{IsForest, IsTreeOf}
use Rattle.tree_table.specs.Held.{KeepsGameTrees, KeepsTrees}
use Rattle.tree_table.specs.KeptTrees.{IsOneOf}
use Rattle.tree_table.specs.Slot.{slot_in, SaysTrees}
use Rattle.tree_table.specs.Trees.{root_of}
use Rattle.tree_table.specs.WorkTable.{HoldsForest}
use Rattle.tree_file.specs.Causes.{CheckEntriesCause}
use Rattle.tree_file.specs.Counted.{AreAsMany}
use Rattle.tree_file.specs.Spelled.{SpellTable}
use Rattle.tree_file.specs.lemmas.AsMany.{spelled_as_many}
use Rattle.tree_file.specs.Walked.{AreWalked, CanBeWalked, ForestCause}
use Rattle.tree_file.specs.lemmas.MarkedPages.{reads_as_before}
use Rattle.tree_file.specs.lemmas.OneTree.{one_tree}
use Rattle.page_store.specs.Pages.{AllWait}
use Rattle.tree_file.specs.lemmas.GameReads.{NoGameReadCause, IsReadGame}

waits_apart : (m : Mark) → m ≡ Committed → m ≡ Waiting → ⊥
waits_apart m one other = cc

-- the entries of a map ascend, and its pages are pages of the store
map_ascends : (w : Widths) (capacity root : ℕ) (pages : List ℕ) (es : List Item) (bytes : ℕ → List ℕ) → IsMap w capacity root pages es bytes → Ascend es
map_ascends w capacity root pages es bytes (inl none) = subst Ascend (sym none.no_entry) ascend_none
map_ascends w capacity root pages es bytes (inr map) = map.ascending

pub map_within : (w : Widths) (capacity root : ℕ) (pages : List ℕ) (es : List Item) (bytes : ℕ → List ℕ) → IsMap w capacity root pages es bytes
    → (p : ℕ) → Contains pages p → (1 ≤ p) × (p < capacity)
map_within w capacity root pages es bytes (inl none) p here = absurd (none_contained p (subst (λ (ps : List ℕ). Contains ps p) none.no_page here))
map_within w capacity root pages es bytes (inr map) p here = map.within p here

-- the four trees in another store with the same pages
moved : (slot : TreeSlot) (one other : Store) (t : Tree) (pages : List ℕ) (es : List Item) → length other.marks ≡ length one.marks → reads other ≡ reads one
    → IsTreeOf slot.sizes.packed t (length one.marks) (root_of slot.roots t) pages es (reads one)
    → IsTreeOf slot.sizes.packed t (length other.marks) (root_of slot.roots t) pages es (reads other)
moved slot one other t pages es long same tree =
    subst (λ (n : ℕ). IsTreeOf slot.sizes.packed t n (root_of slot.roots t) pages es (reads other)) (sym long)
    (subst (λ (bytes : ℕ → List ℕ). IsTreeOf slot.sizes.packed t (length one.marks) (root_of slot.roots t) pages es bytes) (sym same) tree)

-- where the slot names a game nothing but a game is kept
game_alone : (root : List ℕ) (slot : TreeSlot) (capacity : ℕ) (bytes : ℕ → List ℕ) → SaysTrees root (Some slot)
    → ((kept : Kept) → KeepsGameTrees root capacity kept bytes → ⊥) → (kept : Option Kept) → ¬ KeepsTrees root capacity kept bytes
game_alone root slot capacity bytes says none None keeps = omega (arith, keeps.packing, says.0.packing, some_number slot.packing)
game_alone root slot capacity bytes says none (Some kept) keeps = none kept keeps

-- a game that is kept, in the words of its slot
pub record IsGame (slot : TreeSlot) (kept : Kept) (old : Store) : Type 0 where
  pub text_pages : List ℕ
  pub pages : Tree → List ℕ
  pub entries : Tree → List Item
  pub forest : IsForest slot.sizes.packed (length old.marks) slot.first slot.roots kept.text text_pages pages entries (reads old)
  pub long : length kept.text ≡ slot.sizes.text
  pub spelled : AreEntriesOf slot.sizes entries kept.table
  pub fits : IsTable kept.table
  pub counts : counts_of kept.table ≡ slot.sizes.counts

a_game : (slot : TreeSlot) (kept : Kept) (old : Store) → slot_in old.root ≡ slot → KeepsGameTrees old.root (length old.marks) kept (reads old)
    → IsGame slot kept old
a_game slot kept old same it = subst (λ (s : TreeSlot). IsGame s kept old) same (record {
  text_pages = it.text_pages;
  pages = it.pages;
  entries = it.keeps.entries;
  forest = it.keeps.forest;
  long = it.keeps.text;
  spelled = it.keeps.spelled;
  fits = it.keeps.table;
  counts = it.keeps.counts;
})

module _ (old : Store) (slot : TreeSlot) (says : SaysTrees old.root (Some slot)) where
  -- as much as the slot tells
  game_many : (kept : Kept) (game : IsGame slot kept old) → AreAsMany slot.sizes game.entries
  game_many kept game =
      let limits = subst (λ (s : TreeSlot). (s.sizes.counts.known ≤ 2 ^ 24) × (s.sizes.counts.settled ≤ s.sizes.counts.known)) (sym says.1)
      (says.0.limits.known, omega (arith, says.0.limits.settled, says.0.limits.expanded)) in
      spelled_as_many slot.sizes game.entries kept.table
      (λ t. let tree = game.forest.trees t in map_ascends tree.widths (length old.marks) (root_of slot.roots t) (game.pages t) (game.entries t) (reads old)
      tree.map)
      limits.0 limits.1 game.spelled game.fits

  -- why its chain is not read is why no game is
  pub chain_cause : (new : Store) (long : ℕ) (fault : PageFault) → long ≡ slot.sizes.text → ChainReadCause slot.first long old new fault
      → NoGameReadCause old new (of_pages fault)
  chain_cause new long page.Disk is grew = grew
  chain_cause new long page.NotATable is never = never
  chain_cause new long page.Damaged is none = λ honest wait.
      game_alone old.root slot (length old.marks) (reads old) says (λ kept it.
      let game = a_game slot kept old (sym says.1) it in
      none honest game.text_pages kept.text (game.long ∙ sym is)
      (λ p here. let (some, low) = game.forest.chain.within p here in wait p some low) game.forest.chain)
  chain_cause new long page.TableFull is never = never
  chain_cause new long page.OutOfMemory is any = tt
  chain_cause new long page.Closed is shut = shut

  module _ (mid : Store) (text_pages content : List ℕ) (only : OnlyMarks old mid)
      (chain : IsTrue old.disk.honest → IsChain (length old.marks) slot.first text_pages content (reads old)) (long : length content ≡ slot.sizes.text)
      (text_marked : (p : ℕ) → Contains text_pages p → mark mid.marks p ≡ Committed)
      (kept_marks : (p : ℕ) → (mark mid.marks p ≡ mark old.marks p) ⊎ Contains text_pages p) where
    -- the chain is that of the game
    one_chain : IsTrue old.disk.honest → (kept : Kept) (game : IsGame slot kept old) → game.text_pages ≡ text_pages
    one_chain honest kept game =
        (a_chain_has_one_content (length old.marks) slot.first game.text_pages text_pages kept.text content (reads old) game.forest.chain (chain honest)
        (game.long ∙ sym long)).0

    -- the trees of a game can be walked once its chain is marked
    game_walked : IsTrue old.disk.honest → AllWait old → (kept : Kept) (game : IsGame slot kept old) → CanBeWalked slot game.pages game.entries mid
    game_walked honest wait kept game = record {
      trees = λ t. moved slot old mid t (game.pages t) (game.entries t) only.works.same_pages (reads_as_before old mid honest only) (game.forest.trees t);
      apart = game.forest.apart;
      many = game_many kept game;
      waiting = λ t p here.
          let tree = game.forest.trees t in
          let (some, low) = map_within tree.widths (length old.marks) (root_of slot.roots t) (game.pages t) (game.entries t) (reads old) tree.map p here in
          elim (kept_marks p) [
            | inl same ↦ same ∙ wait p some low
            | inr in_text ↦ absurd (game.forest.text_apart t p (subst (λ (ps : List ℕ). Contains ps p) (sym (one_chain honest kept game)) in_text) here)
          ];
    }

    -- why its trees are not walked is why no game is read
    pub forest_cause : (new : Store) (fault : PageFault) → ForestCause slot mid new fault → NoGameReadCause old new (of_pages fault)
    forest_cause new page.Disk grew = grew_before old.failures mid.failures new.failures only.works.failures grew
    forest_cause new page.NotATable never = absurd never
    forest_cause new page.Damaged none = λ honest wait.
        game_alone old.root slot (length old.marks) (reads old) says (λ kept it.
        let game = a_game slot kept old (sym says.1) it in
        none (still_honest only.works.goes_on honest) game.pages game.entries (game_walked honest wait kept game))
    forest_cause new page.TableFull never = absurd never
    forest_cause new page.OutOfMemory any = tt
    forest_cause new page.Closed shut = sym only.closed ∙ shut

    module _ (far : Store) (walked_on : OnlyMarks mid far) where
      far_reads : IsTrue old.disk.honest → reads far ≡ reads old
      far_reads honest = reads_as_before mid far (still_honest only.works.goes_on honest) walked_on ∙ reads_as_before old mid honest only

      far_long : length far.marks ≡ length old.marks
      far_long = walked_on.works.same_pages ∙ only.works.same_pages

      far_text : (p : ℕ) → Contains text_pages p → mark far.marks p ≡ Committed
      far_text p here = elim (walked_on.others p) [ inl same ↦ same ∙ text_marked p here | inr is ↦ is ]

      module _ (pages : Tree → List ℕ) (entries : Tree → List Item) (walked : AreWalked slot pages entries mid far) where
        read_forest : IsTrue old.disk.honest → IsForest slot.sizes.packed (length old.marks) slot.first slot.roots content text_pages pages entries (reads old)
        read_forest honest = record {
          chain = chain honest;
          trees = λ t. moved slot mid old t (pages t) (entries t) (sym only.works.same_pages) (sym (reads_as_before old mid honest only))
              (walked.could.trees t);
          text_apart = λ t p in_text in_tree. waits_apart (mark mid.marks p) (text_marked p in_text) (walked.could.waiting t p in_tree);
          apart = walked.could.apart;
        }

        far_forest : (text : List ℕ) (es : Tree → List Item) (its : List ℕ) (trees : Tree → List ℕ)
            → IsForest slot.sizes.packed (length old.marks) slot.first slot.roots text its trees es (reads old)
            → its ≡ text_pages → ((t : Tree) → trees t ≡ pages t) → IsTrue old.disk.honest → HoldsForest slot text es far
        far_forest text es its trees forest same_text same_trees honest = record {
          text_pages = its;
          pages = trees;
          forest = subst (λ (n : ℕ). IsForest slot.sizes.packed n slot.first slot.roots text its trees es (reads far)) (sym far_long)
              (subst (λ (bytes : ℕ → List ℕ). IsForest slot.sizes.packed (length old.marks) slot.first slot.roots text its trees es bytes)
              (sym (far_reads honest)) forest);
          text_held = λ p here. inl (far_text p (subst (λ (ps : List ℕ). Contains ps p) same_text here));
          held = λ t p here. inl (walked.marked t p (subst (λ (ps : List ℕ). Contains ps p) (same_trees t) here));
        }

        -- what was walked is held
        pub read_held : IsTrue old.disk.honest → HoldsForest slot content entries far
        read_held honest = far_forest content entries text_pages pages (read_forest honest) refl (λ t. refl) honest

        -- and so is a game that is there
        pub game_held : IsTrue old.disk.honest → (kept : Kept) (game : IsGame slot kept old) → HoldsForest slot kept.text game.entries far
        game_held honest kept game =
            far_forest kept.text game.entries game.text_pages game.pages game.forest (one_chain honest kept game)
            (λ t. (one_tree slot.sizes.packed t (length old.marks) (root_of slot.roots t) (game.pages t) (pages t) (game.entries t) (entries t) (reads old)
            (game.forest.trees t) ((read_forest honest).trees t)).0) honest

        -- a table that its entries spell is read
        pub game_read : (new : Store) → new.marks ≡ far.marks → IsTrue old.disk.honest → (stored : Stored (List ℕ)) → SpellTable slot.sizes entries stored
            → IsReadGame content old new
        game_read new same honest stored spell = record {
          kept = kept_as content slot.packing (goal_numbered slot.goal) stored;
          text_is = refl;
          text_pages = text_pages;
          pages = pages;
          keeps = record {
            slot = says.0;
            entries = entries;
            forest = subst (λ (s : TreeSlot). IsForest s.sizes.packed (length old.marks) s.first s.roots content text_pages pages entries (reads old))
                says.1 (read_forest honest);
            text = subst (λ (s : TreeSlot). length content ≡ s.sizes.text) says.1 long;
            spelled = subst (λ (s : TreeSlot). AreEntriesOf s.sizes entries stored) says.1 spell.spelled;
            table = spell.fits;
            counts = subst (λ (s : TreeSlot). counts_of stored ≡ s.sizes.counts) says.1 spell.counts;
          };
          marked = λ p here. ap (λ (ms : List Mark). mark ms p) same ∙ each p here;
          others = λ p out. ap (λ (ms : List Mark). mark ms p) same ∙ not_named p out;
        }
          where
            each : (p : ℕ) → IsOneOf text_pages pages p → mark far.marks p ≡ Committed
            each p (inl here) = far_text p here
            each p (inr (t, here)) = walked.marked t p here

            not_named : (p : ℕ) → ¬ IsOneOf text_pages pages p → mark far.marks p ≡ mark old.marks p
            not_named p out = walked.kept p (λ t here. out (inr (t, here))) ∙ elim (kept_marks p) [ inl still ↦ still | inr here ↦ absurd (out (inl here)) ]

      -- why its entries are not found right is why no game is read
      pub entries_cause : (IsTrue mid.disk.honest → (pages : Tree → List ℕ) × (entries : Tree → List Item) × AreWalked slot pages entries mid far)
          → (new : Store) (fault : TableFault) → CheckEntriesCause slot far new fault → NoGameReadCause old new (of_table fault)
      entries_cause trees new table.Disk grew =
          grew_before old.failures far.failures new.failures (omega (arith, only.works.failures, walked_on.works.failures)) grew
      entries_cause trees new table.Damaged none = λ honest wait.
          game_alone old.root slot (length old.marks) (reads old) says (λ kept it.
          let game = a_game slot kept old (sym says.1) it in
          let here = still_honest only.works.goes_on honest in
          let (pages, entries, walked) = trees here in
          none (still_honest walked_on.works.goes_on here) kept.text game.entries (game_held pages entries walked honest kept game) (game_many kept game)
          kept.table
          (record { spelled = game.spelled; fits = game.fits; counts = game.counts }))
      entries_cause trees new table.TableFull never = absurd never
      entries_cause trees new table.OutOfMemory any = tt
      entries_cause trees new table.Closed shut = sym only.closed ∙ sym walked_on.closed ∙ shut

      -- the table that the entries were found to spell is read
      pub table_read : (IsTrue mid.disk.honest → (pages : Tree → List ℕ) × (entries : Tree → List Item) × AreWalked slot pages entries mid far)
          → (new : Store) → new.marks ≡ far.marks
          → (IsTrue far.disk.honest → (text : List ℕ) (entries : Tree → List Item) → HoldsForest slot text entries far → AreAsMany slot.sizes entries
          → (stored : Stored (List ℕ)) × SpellTable slot.sizes entries stored)
          → IsTrue old.disk.honest → IsReadGame content old new
      table_read trees new same right honest =
          let here = still_honest only.works.goes_on honest in
          let (pages, entries, walked) = trees here in
          let (stored, spell) = right (still_honest walked_on.works.goes_on here) content entries (read_held pages entries walked honest) walked.could.many in
          game_read pages entries walked new same honest stored spell
