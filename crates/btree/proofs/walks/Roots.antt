-- The map below a root is walked.
use Rattle.std.proofs.Common.{◌≡◌, ◌≢◌, inl, inr, ℕ, zero, suc, ◌+◌, ◌*◌, ◌≤◌, ◌<◌, List, [], ◌∷◌, ◌++◌, Some, All, length, take, drop, IsTrue, refl, sym, ◌∙◌, subst, arith, append-nil, length-drop}
use Rattle.std.proofs.lemmas.List.Elements.{All-head, All-tail, All-weaker}
use Rattle.std.specs.declared.cmp.Ordering.TheVariants.{Less}
use Rattle.std.specs.List.{flat_map}
use Rattle.sector_disk.specs.lemmas.Moments.{still_honest}
use Rattle.page_store.specs.declared.fault.PageFault.{PageFault}
use Rattle.page_store.specs.declared.fault.PageFault.TheVariants.{Disk, NotATable, Damaged, TableFull, OutOfMemory, Closed}
use Rattle.page_store.specs.Marks.{mark}
use Rattle.page_store.specs.Store.{Store as StoreStated, reads, StoreWorks, IsUnchanged}
use Rattle.btree.specs.declared.page.kind.Kind.TheVariants.{Inner}
use Rattle.btree.specs.declared.page.widths.Widths.{Widths}
use Rattle.btree.specs.Page.{Item, items_in, items_of, child_of, key_cmp, count_in}
use Rattle.btree.specs.Changes.{HoldsMap, MapReadCause}
use Rattle.btree.specs.Entries.{first_key}
use Rattle.btree.specs.Tree.{entries_below, pages_below, IsTree, IsRooted}
use Rattle.btree.specs.lemmas.Laws.{none_contained}
use Rattle.btree.specs.lemmas.Order.{Past, all_both}
use Rattle.btree.specs.lemmas.Unchanged.{unchanged_reads, grew_before}
use Rattle.btree.specs.declared.walk.fault.WalkFault.{WalkFault}
use Rattle.btree.specs.declared.walk.fault.WalkFault.TheVariants.{Store, Refused}
use Rattle.btree.specs.Walks.{MarksPages, IsRefusedAmong, WalkCause}
use Rattle.page_store.specs.Pages.{AreWaiting}
use Rattle.btree.specs.lemmas.WalkedPages.{AreReady, IsWalked, WalkBelowCause}
use Rattle.btree.proofs.walks.Visits.{ascends_from, from_ascends}

-- the empty key is below each key of a tree

past_cut : (key : ℕ) (xs : List ℕ) → 1 ≤ key → key ≤ length xs → key_cmp [] (take key xs) ≡ Less
past_cut zero xs some long = absurd (omega (arith, some))
past_cut (suc key) [] some long = absurd (omega (arith, long))
past_cut (suc key) (x ∷ xs) some long = refl

past_items : (key behind n : ℕ) (xs : List ℕ) → 1 ≤ key → n * (key + behind) ≤ length xs → Past (items_of key behind n xs) []
past_items key behind zero xs some long = tt
past_items key behind (suc n) xs some long = (
  past_cut key xs some (omega (arith, long)),
  past_items key behind n (drop (key + behind) xs) some (omega (arith, long, length-drop (key + behind) xs)),
)

past_flat : (f : Item → List Item) (cs : List Item) → All (λ c. Past (f c) []) cs → Past (flat_map f cs) []
past_flat f [] all = tt
past_flat f (c ∷ cs) all = all_both (λ e. key_cmp [] e.0 ≡ Less) (f c) (flat_map f cs) (All-head (λ i. Past (f i) []) c cs all)
    (past_flat f cs (All-tail (λ i. Past (f i) []) c cs all))

pub past_tree : (w : Widths) (bytes : ℕ → List ℕ) (d page : ℕ) → IsTree w bytes d page → Past (entries_below w bytes d page) []
past_tree w bytes zero page leaf = past_items w.key w.value (count_in (bytes page)) (drop 4 (bytes page)) w.some
    (omega (arith, leaf.fits, leaf.long, length-drop 4 (bytes page)))
past_tree w bytes (suc d) page tree =
    past_flat (λ c. entries_below w bytes d (child_of c)) (items_in w Inner (bytes page))
    (All-weaker (λ c. IsTree w bytes d (child_of c) × (first_key (entries_below w bytes d (child_of c)) ≡ Some c.0))
    (λ c. Past (entries_below w bytes d (child_of c)) []) (λ c t. past_tree w bytes d (child_of c) t.0)
    (items_in w Inner (bytes page)) tree.1)

-- root 0 has no page and no entry
pub none_walked : (w : Widths) (root : ℕ) (store : StoreStated) (told : List Item → Type 0) → root ≡ 0
    → (pages : List ℕ) × (es : List Item) × HoldsMap w store root pages es × MarksPages pages store store
    × ((before : List Item) → told before → told (before ++ es))
none_walked w root store told none = (
  [],
  [],
  inl (record { at_none = none; no_page = refl; no_entry = refl }),
  record { waited = λ p here. absurd (none_contained p here); marked = λ p here. absurd (none_contained p here); kept = λ p not. refl },
  (λ before was. subst told (sym (append-nil before)) was),
)

-- the depth is not found
pub no_depth : (w : Widths) (root : ℕ) (refuses : List Item → Item → Type 0) (told : List Item → Type 0) (old new : StoreStated)
    (fault : PageFault) → MapReadCause w root old new fault → WalkCause w root refuses told old new (Store fault)
no_depth w root refuses told old new Disk grew = grew
no_depth w root refuses told old new NotATable never = absurd never
no_depth w root refuses told old new Damaged none = λ honest pages es holds waiting. none honest pages es holds
no_depth w root refuses told old new TableFull never = absurd never
no_depth w root refuses told old new OutOfMemory never = absurd never
no_depth w root refuses told old new Closed closed = closed

module _ (w : Widths) (root depth : ℕ) (old mid new : StoreStated) (some : root ≢ 0) (unchanged : IsUnchanged old mid) (works : StoreWorks old mid)
    (deep : IsTrue old.disk.honest → (d : ℕ) → IsTree w (reads old) d root → d ≡ depth) where
  -- what is said of the tree of this depth as it reads after the way down holds of each map below the root
  at_map : IsTrue old.disk.honest → (P : List ℕ → List Item → Type 0)
      → P (pages_below w (reads mid) depth root) (entries_below w (reads mid) depth root) → (pages : List ℕ) (es : List Item)
      → IsRooted w (length old.marks) root pages es (reads old) → P pages es
  at_map honest P holds pages es map =
      let same : reads mid ≡ reads old = unchanged_reads old mid honest unchanged in
      let is : map.depth ≡ depth = deep honest map.depth map.tree in
      let pages_are : pages_below w (reads mid) depth root ≡ pages = (λ i. pages_below w (same i) (sym is i) root) ∙ map.pages_are in
      let entries_are : entries_below w (reads mid) depth root ≡ es = (λ i. entries_below w (same i) (sym is i) root) ∙ map.entries_are in
      subst (P pages) entries_are (subst (λ (ps : List ℕ). P ps (entries_below w (reads mid) depth root)) pages_are holds)

  of_map : IsTrue old.disk.honest → (P : List ℕ → List Item → Type 0)
      → P (pages_below w (reads mid) depth root) (entries_below w (reads mid) depth root) → (pages : List ℕ) (es : List Item)
      → HoldsMap w old root pages es → P pages es
  of_map honest P holds pages es (inl empty) = absurd (some empty.at_none)
  of_map honest P holds pages es (inr map) = at_map honest P holds pages es map

  tree_now : IsTrue old.disk.honest → (pages : List ℕ) (es : List Item) → IsRooted w (length old.marks) root pages es (reads old)
      → IsTree w (reads mid) depth root
  tree_now honest pages es map =
      subst (λ (bytes : ℕ → List ℕ). IsTree w bytes depth root) (sym (unchanged_reads old mid honest unchanged))
      (subst (λ (d : ℕ). IsTree w (reads old) d root) (deep honest map.depth map.tree) map.tree)

  refuted : IsTrue old.disk.honest →
      (IsTree w (reads mid) depth root → AreReady (pages_below w (reads mid) depth root) (entries_below w (reads mid) depth root) mid [] → ⊥)
      → (pages : List ℕ) (es : List Item) → HoldsMap w old root pages es → AreWaiting pages old → ⊥
  refuted honest not pages es (inl empty) waiting = some empty.at_none
  refuted honest not pages es (inr map) waiting =
      let tree = tree_now honest pages es map in
      let both = at_map honest (λ ps fs. Past fs [] × (AreReady ps fs mid [] → ⊥)) (past_tree w (reads mid) depth root tree, not tree) pages es map in
      both.1 (record {
        waiting = λ p here. (λ i. mark (unchanged.marks i) p) ∙ waiting p here;
        once = map.once;
        ascending = ascends_from [] es both.0 map.ascending;
      })

  pub below_fails : (refuses : List Item → Item → Type 0) (told : List Item → Type 0) (last : List ℕ) → last ≡ [] → (fault : WalkFault)
      → WalkBelowCause w depth root last refuses told mid new fault → WalkCause w root refuses told old new fault
  below_fails refuses told last none (Store Disk) grew = grew_before old.failures mid.failures new.failures works.failures grew
  below_fails refuses told last none (Store NotATable) never = absurd never
  below_fails refuses told last none (Store Damaged) not = λ honest.
      refuted honest (λ tree ready. not (still_honest works.goes_on honest) tree
      (subst (λ (l : List ℕ). AreReady (pages_below w (reads mid) depth root) (entries_below w (reads mid) depth root) mid l) (sym none) ready))
  below_fails refuses told last none (Store TableFull) never = absurd never
  below_fails refuses told last none (Store OutOfMemory) never = absurd never
  below_fails refuses told last none (Store Closed) closed = sym unchanged.closed ∙ closed
  below_fails refuses told last none Refused refused = λ honest before was.
      let same : reads mid ≡ reads old = unchanged_reads old mid honest unchanged in record {
        depth = depth;
        refused = subst (λ (bytes : ℕ → List ℕ). IsRefusedAmong refuses before (entries_below w bytes depth root)) same
            (refused (still_honest works.goes_on honest) before was);
        of_map = of_map honest (λ ps fs. fs ≡ entries_below w (reads old) depth root) (λ i. entries_below w (same i) depth root);
      }

  pub map_walked : (first last now : List ℕ) (told more : List Item → Type 0) → depth < 24 → IsTrue old.disk.honest
      → (IsTrue mid.disk.honest → IsWalked w (reads mid) depth root first mid new last now told more)
      → (pages : List ℕ) × (es : List Item) × HoldsMap w old root pages es × MarksPages pages old new
      × ((before : List Item) → told before → more (before ++ es))
  map_walked first last now told more shallow honest walked_mid =
      let walked : IsWalked w (reads old) depth root first mid new last now told more =
      subst (λ (bytes : ℕ → List ℕ). IsWalked w bytes depth root first mid new last now told more)
      (unchanged_reads old mid honest unchanged) (walked_mid (still_honest works.goes_on honest)) in (
        pages_below w (reads old) depth root,
        entries_below w (reads old) depth root,
        inr (record {
          depth = depth;
          shallow = shallow;
          tree = walked.tree;
          pages_are = refl;
          entries_are = refl;
          ascending = from_ascends last (entries_below w (reads old) depth root) walked.passed.entries.ascending;
          within = λ p here. let known = walked.passed.there p here in (known.0, omega (arith, known.1, works.same_pages));
          once = walked.passed.once;
        }),
        record {
          waited = λ p here. sym (same_mark p) ∙ walked.passed.marked.waited p here;
          marked = walked.passed.marked.marked;
          kept = λ p none. walked.passed.marked.kept p none ∙ same_mark p;
        },
        walked.passed.entries.told_is,
      )
    where
      same_mark : (p : ℕ) → mark mid.marks p ≡ mark old.marks p
      same_mark p = λ i. mark (unchanged.marks i) p
