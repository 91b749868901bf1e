-- What was read is what the sealed store keeps.
use Rattle.std.proofs.Common.{◌≡◌, ◌⊎◌, inl, inr, ℕ, ◌≤◌, ◌<◌, Bool, List, [], length, Option, None, Some, IsTrue, refl, sym, ◌∙◌, ap, subst, arith}
use Rattle.std.proofs.lemmas.Bool.{cases_lt}
use Rattle.std.proofs.lemmas.List.{get_or_past}
use Rattle.sector_disk.specs.Disk.{Disk, Shown}
use Rattle.page_store.specs.declared.marks.Mark.{Mark}
use Rattle.page_store.specs.declared.marks.Mark.TheVariants.{Committed, Waiting, Fresh, Released, Free}
use Rattle.page_store.specs.Marks.{mark, needs, rests, turned, AreSealed}
use Rattle.page_store.specs.Page.{page}
use Rattle.page_store.specs.Spelled.{IsCalm}
use Rattle.page_store.specs.Store.{Store, IsSoundStore, IsRemarked, reads}
use Rattle.page_store.specs.Frames.{OnlyMarks}
use Rattle.game_file.specs.Fields.{commits_in, goal_numbered, layout_in}
use Rattle.game_file.specs.lemmas.Packings.{one_packing}
use Rattle.game_file.specs.Kept.{Kept, kept_as}
use Rattle.btree.specs.lemmas.Laws.{none_contained}
use Rattle.tree_table.specs.declared.slot.TreeSlot.{TreeSlot}
use Rattle.tree_table.specs.declared.tree.Tree.{Tree}
use Rattle.tree_table.specs.Entries.{AreEntriesOf}
use Rattle.tree_table.specs.Forest.{IsForest}
use Rattle.tree_table.specs.Held.{KeepsOnPages, KeepsTrees}
use Rattle.tree_table.specs.KeptTrees.{AreSized, IsKeptInTrees, IsOneOf, KeepsOn, StandsFor}
use Rattle.tree_table.specs.Slot.{slot_in, IsEmptyTreeSlot, IsGameTreeSlot, IsNoTreeSlot, SaysTrees}
use Rattle.tree_table.specs.Spelled.{table_in}
use Rattle.tree_table.specs.Trees.{root_of}
use Rattle.tree_table.specs.lemmas.KeptPages.{keeps_as}
use Rattle.tree_table.specs.lemmas.SpelledTable.{forest_spells}
use Rattle.tree_file.specs.File.{NamesSlot, kept_with}
use Rattle.tree_file.specs.Opened.{IsFoundInFile, RootCause}
use Rattle.game_file.specs.declared.fault.FileFault.TheVariants.{Damaged}
use Rattle.page_store.specs.Pages.{AllWait}
use Rattle.tree_file.specs.lemmas.GameReads.{IsReadFor, IsReadGame}
use Rattle.tree_file.proofs.FoundGame.{map_within}

-- the slot that a root tells is of a size that a table may have
pub said_sized : (root : List ℕ) (game : Option TreeSlot) → SaysTrees root game → AreSized game
said_sized root None says = tt
said_sized root (Some slot) says =
    let named = says.0 in
    subst (λ (s : TreeSlot). AreSized (Some s)) (sym says.1)
    (record { some = named.some; short = named.limits.packed; few = named.limits.known; points = named.points })

said_names : (root : List ℕ) (game : Option TreeSlot) → SaysTrees root game → NamesSlot root game
said_names root None says = says
said_names root (Some slot) says = says.1

-- a page of what is kept lies in the store
named_within : (root : List ℕ) (capacity : ℕ) (kept : Kept) (text_pages : List ℕ) (pages : Tree → List ℕ) (bytes : ℕ → List ℕ)
    → KeepsOnPages root capacity kept text_pages pages bytes → (p : ℕ) → IsOneOf text_pages pages p → (1 ≤ p) × (p < capacity)
named_within root capacity kept text_pages pages bytes keeps p (inl here) = keeps.forest.chain.within p here
named_within root capacity kept text_pages pages bytes keeps p (inr (t, here)) =
    let tree = keeps.forest.trees t in
    map_within tree.widths capacity (root_of (slot_in root).roots t) (pages t) (keeps.entries t) bytes tree.map p here

module _ (old mid new : Store) (only : OnlyMarks old mid) (sealed : AreSealed mid.marks new.marks) (others : IsRemarked mid new) where
  pub sealed_long : length new.marks ≡ length old.marks
  sealed_long = sealed.same_length ∙ only.works.same_pages

  pub sealed_root : new.root ≡ old.root
  sealed_root = others.root ∙ only.works.root

  sealed_reads : IsTrue old.disk.honest → reads new ≡ reads old
  sealed_reads honest =
      ap (λ (d : Disk). λ (p : ℕ). page d.now.contents p) others.disk ∙ ap (λ (s : Shown). λ (p : ℕ). page s.contents p) (only.shown honest)

  was_honest : IsTrue new.disk.honest → IsTrue old.disk.honest
  was_honest honest = subst (λ (b : Bool). IsTrue b) (ap (λ (d : Disk). d.honest) others.disk ∙ only.works.goes_on.honest) honest

  -- a page that waits or is marked is sealed
  sealed_each : (p : ℕ) → (mark mid.marks p ≡ Waiting) ⊎ (mark mid.marks p ≡ Committed) → IsTrue (rests (mark new.marks p))
  sealed_each p (inl waits) = ap rests (sealed.each p ∙ ap (turned Fresh Released Free) waits)
  sealed_each p (inr marked) = ap rests (sealed.each p ∙ ap (turned Fresh Released Free) marked)

  module _ (sound : IsSoundStore old) (wait : AllWait old) where
    was_each : (p : ℕ) → (mark old.marks p ≡ Waiting) ⊎ (mark old.marks p ≡ Committed)
    was_each p = elim (cases_lt 0 p) [
      | inr none ↦ let zero_is : p ≡ 0 = omega (arith, none) in inr (ap (mark old.marks) zero_is ∙ sound.system)
      | inl some ↦ elim (cases_lt p (length old.marks)) [
        | inl within ↦ inl (wait p some within)
        | inr past ↦ inr (get_or_past old.marks p Committed past)
      ]
    ]

    mid_each : (p : ℕ) → (mark mid.marks p ≡ Waiting) ⊎ (mark mid.marks p ≡ Committed)
    mid_each p = elim (only.others p) [
      | inr is ↦ inr is
      | inl same ↦ elim (was_each p) [
        | inl waits ↦ inl (same ∙ waits)
        | inr marked ↦ inr (same ∙ marked)
      ]
    ]

    calm : IsCalm new
    calm = record { each = λ p. sealed_each p (mid_each p) }

    all_free : mid.marks ≡ old.marks → (p : ℕ) → 1 ≤ p → p < length new.marks → mark new.marks p ≡ Free
    all_free same p some low =
        sealed.each p ∙ ap (λ (ms : List Mark). turned Fresh Released Free (mark ms p)) same
        ∙ ap (turned Fresh Released Free) (wait p some (omega (arith, low, sealed_long)))

    -- a game that was read is kept
    game_kept : (slot : TreeSlot) (text : List ℕ) → SaysTrees old.root (Some slot) → IsTrue old.disk.honest → IsReadGame text old mid
        → IsKeptInTrees new (Some (kept_as text slot.packing (goal_numbered slot.goal) (table_in slot (reads new))))
    game_kept slot text says honest it =
        let spells : table_in (slot_in old.root) (reads old) ≡ it.kept.table =
        forest_spells (slot_in old.root) (length old.marks) it.pages it.keeps.entries (reads old) it.kept.table says.0.limits.known it.keeps.forest.trees
        it.keeps.spelled in
        let table : table_in slot (reads new) ≡ it.kept.table =
        ap (λ (s : TreeSlot). table_in s (reads new)) says.1 ∙ ap (λ (bytes : ℕ → List ℕ). table_in (slot_in old.root) bytes) (sealed_reads honest) ∙ spells in
        let text_back : text ≡ it.kept.text = sym it.text_is in
        let packing : slot.packing ≡ it.kept.packing = one_packing old.root slot.packing it.kept.packing says.0.packing it.keeps.slot.packing in
        let goal : goal_numbered slot.goal ≡ it.kept.goal = sym says.0.goal ∙ it.keeps.slot.goal in
        let same : Some (kept_as text slot.packing (goal_numbered slot.goal) (table_in slot (reads new))) ≡ Some it.kept =
        λ i. Some (kept_as (text_back i) (packing i) (goal i) (table i)) in
        record {
          text_pages = it.text_pages;
          pages = it.pages;
          keeps = subst (λ (k : Option Kept). KeepsOn it.text_pages it.pages new.root (length new.marks) k (reads new)) (sym same)
              (keeps_as it.text_pages it.pages old.root new.root (length old.marks) (length new.marks) (Some it.kept) (reads new) (sym sealed_root)
              (sym sealed_long)
              (subst (λ (bytes : ℕ → List ℕ). KeepsOnPages old.root (length old.marks) it.kept it.text_pages it.pages bytes) (sym (sealed_reads honest))
              it.keeps));
          needed = λ p here.
              let (some, low) = named_within old.root (length old.marks) it.kept it.text_pages it.pages (reads old) it.keeps p here in
              let marked : mark new.marks p ≡ Committed = sealed.each p ∙ ap (turned Fresh Released Free) (it.marked p here) in
              (some, omega (arith, low, sealed_long), subst (λ (m : Mark). IsTrue (needs m)) (sym marked) refl);
        }

    kept_found : (game : Option TreeSlot) (text : List ℕ) → SaysTrees old.root game → IsReadFor game text old mid → IsTrue new.disk.honest
        → IsKeptInTrees new (kept_with game text (reads new))
    kept_found None text says read honest = record {
      text_pages = [];
      pages = λ t. [];
      keeps = subst (λ (r : List ℕ). SaysTrees r None) (sym sealed_root) says;
      needed = λ p here. absurd (no_page p here);
    }
      where
        no_page : (p : ℕ) → IsOneOf [] (λ t. []) p → ⊥
        no_page p (inl here) = none_contained p here
        no_page p (inr here) = none_contained p here.1
    kept_found (Some slot) text says read honest = let before = was_honest honest in game_kept slot text says before (read before)

    -- and no other page is in use
    alone_found : (game : Option TreeSlot) (text : List ℕ) (says : SaysTrees old.root game) (read : IsReadFor game text old mid)
        (honest : IsTrue new.disk.honest)
        (p : ℕ) → 1 ≤ p → p < length new.marks
        → ¬ IsOneOf (kept_found game text says read honest).text_pages (kept_found game text says read honest).pages p → mark new.marks p ≡ Free
    unfolding game_kept kept_found
    alone_found None text says read honest p some low out = all_free read.1 p some low
    alone_found (Some slot) text says read honest p some low out =
        sealed.each p ∙ ap (turned Fresh Released Free) ((read (was_honest honest)).others p out)
        ∙ ap (turned Fresh Released Free) (wait p some (omega (arith, low, sealed_long)))

    none_free : (game : Option TreeSlot) (text : List ℕ) → IsReadFor game text old mid → game ≡ None → (p : ℕ) → 1 ≤ p → p < length new.marks
        → mark new.marks p ≡ Free
    none_free None text read none = all_free read.1
    none_free (Some slot) text read none = absurd (cc)

    none_text : (game : Option TreeSlot) (text : List ℕ) → IsReadFor game text old mid → game ≡ None → text ≡ []
    none_text None text read none = read.0
    none_text (Some slot) text read none = absurd (cc)

    -- what was read is found
    pub read_found : (game : Option TreeSlot) (text : List ℕ) (commits : ℕ) → SaysTrees old.root game → commits ≡ commits_in old.root → 16 ≤ length old.marks
        → IsReadFor game text old mid → IsFoundInFile commits game text new
    read_found game text commits says counted room read = record {
      room = omega (arith, room, sealed_long);
      counted = counted ∙ ap commits_in (sym sealed_root);
      names = subst (λ (r : List ℕ). NamesSlot r game) (sym sealed_root) (said_names old.root game says);
      sized = said_sized old.root game says;
      calm = calm;
      free = none_free game text read;
      text = none_text game text read;
      kept = kept_found game text says read;
      alone = alone_found game text says read;
    }

-- what is found stands
pub found_stands : (commits : ℕ) (game : Option TreeSlot) (text : List ℕ) (store : Store) → IsFoundInFile commits game text store → IsTrue store.disk.honest
    → StandsFor game text store
found_stands commits None text store found honest = found.text refl
found_stands commits (Some slot) text store found honest =
    let it = found.kept honest in
    record {
      table = table_in slot (reads store);
      text_pages = it.text_pages;
      pages = it.pages;
      entries = it.keeps.entries;
      forest = subst (λ (s : TreeSlot). IsForest s.sizes.packed (length store.marks) s.first s.roots text it.text_pages it.pages it.keeps.entries
          (reads store)) (sym found.names) it.keeps.forest;
      spelled = subst (λ (s : TreeSlot). AreEntriesOf s.sizes it.keeps.entries (table_in slot (reads store))) (sym found.names) it.keeps.spelled;
      counts = it.keeps.counts ∙ ap (λ (s : TreeSlot). s.sizes.counts) (sym found.names);
      needed = it.needed;
    }

-- a root of this layout whose slot says nothing is no root of a table
pub no_root : (layout : ℕ) (old : Store) (root : List ℕ) → root ≡ old.root → IsNoTreeSlot root → layout_in old.root ≡ layout
    → RootCause layout old Damaged
no_root layout old root same none named = (
  λ older. omega (arith, older.1, named),
  λ pages kept bytes of_layout said enough room keeps. by_kept pages kept bytes keeps,
)
  where
    by_kept : (pages : ℕ) (kept : Option Kept) (bytes : ℕ → List ℕ) → ¬ KeepsTrees old.root pages kept bytes
    by_kept pages None bytes it = none.not_empty (subst IsEmptyTreeSlot (sym same) it)
    by_kept pages (Some kept) bytes it =
        none.no_game kept.packing kept.goal (subst (λ (r : List ℕ). IsGameTreeSlot r kept.packing kept.goal) (sym same) it.keeps.slot)
