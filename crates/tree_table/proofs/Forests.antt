-- Four trees and a text in a store: what is read of them, and what an entry that is put into one leaves.
use Rattle.std.proofs.Common.{◌≡◌, ◌≢◌, ◌⊎◌, inl, inr, ℕ, ◌+◌, List, length, Contains, IsTrue, refl, sym, ◌∙◌, ap, subst}
use Rattle.page_store.specs.Store.{Store, reads, StoreWorks}
use Rattle.page_store.specs.declared.fault.PageFault.{PageFault}
use Rattle.page_store.specs.declared.fault.PageFault.TheVariants as page
use Rattle.page_store.specs.declared.marks.Mark.{Mark}
use Rattle.page_store.specs.declared.marks.Mark.TheVariants.{Committed, Fresh, Free}
use Rattle.page_store.specs.Frames.{PagesWritten}
use Rattle.page_store.specs.Marks.{mark, free_count}
use Rattle.page_store.specs.lemmas.Frames.{open_still}
use Rattle.btree.specs.Entries.{put_entry}
use Rattle.tree_table.specs.Frames.{IsPutIn}
use Rattle.btree.specs.Page.{Item}
use Rattle.btree.specs.declared.page.widths.Widths.{Widths}
use Rattle.btree.specs.Changes.{HoldsMap, AreHeld, TakePlace, MapReadCause, MapPutCause}
use Rattle.tree_table.specs.declared.slot.TreeSlot.{TreeSlot}
use Rattle.tree_table.specs.declared.tree.Tree.{Tree}
use Rattle.tree_table.specs.Trees.{key_width, value_width, root_of}
use Rattle.tree_table.specs.Causes.{IsNoForest, HasNoForest, ReadCause, ChangeCause}
use Rattle.tree_table.specs.WorkTable.{HasForest, HoldsForest, forest_there}
use Rattle.tree_table.specs.lemmas.Faults.{fault_of}
use Rattle.page_chain.specs.lemmas.EveryChain.{a_chain_rests_on_its_pages}
use Rattle.page_chain.specs.Chain.{IsChain}
use Rattle.btree.specs.lemmas.PutFrame.{another_map_stays, not_taken}
use Rattle.tree_table.specs.declared.tree.Tree.TheVariants.{Positions, Records, Edges, Order}
use Rattle.tree_table.specs.declared.tree.Roots.{Roots}
use Rattle.tree_table.specs.Forest.{AreApart, IsTreeOf}
use Rattle.tree_table.specs.Trees.{with_root, with_at}
use Rattle.tree_table.proofs.Rooted.{map_of}

-- the root of the tree that has this one
pub root_with : (roots : Roots) (tree : Tree) (root : ℕ) → root_of (with_root roots tree root) tree ≡ root
root_with roots Positions root = refl
root_with roots Records root = refl
root_with roots Edges root = refl
root_with roots Order root = refl

-- the map of one of the trees
pub map_in : (slot : TreeSlot) (text : List ℕ) (entries : Tree → List Item) (store : Store) (w : Widths) (tree : Tree) (root : ℕ)
    → w.key ≡ key_width slot.sizes.packed tree → w.value ≡ value_width slot.sizes.packed tree → root ≡ root_of slot.roots tree
    → (h : HasForest slot text entries store) → HoldsMap w store root (h.pages tree) (entries tree)
map_in slot text entries store w tree root keys values is h =
    subst (λ (r : ℕ). HoldsMap w store r (h.pages tree) (entries tree)) (sym is)
    (map_of slot.sizes.packed tree (length store.marks) (root_of slot.roots tree) (h.pages tree) (entries tree) (reads store) w keys values
    (h.forest.trees tree))

-- why nothing is read
pub read_fails : (slot : TreeSlot) (old new : Store) (w : Widths) (tree : Tree) (root : ℕ) (fault : PageFault)
    → w.key ≡ key_width slot.sizes.packed tree → w.value ≡ value_width slot.sizes.packed tree → root ≡ root_of slot.roots tree
    → MapReadCause w root old new fault → ReadCause IsNoForest slot old new (fault_of fault)
read_fails slot old new w tree root page.Disk keys values is cause = cause
read_fails slot old new w tree root page.NotATable keys values is cause = absurd cause
read_fails slot old new w tree root page.Damaged keys values is cause =
    λ honest text entries h. cause honest (h.pages tree) (entries tree) (map_in slot text entries old w tree root keys values is h)
read_fails slot old new w tree root page.TableFull keys values is cause = absurd cause
read_fails slot old new w tree root page.OutOfMemory keys values is cause = absurd cause
read_fails slot old new w tree root page.Closed keys values is cause = cause

-- the trees are four
pub same_or_other : (t u : Tree) → (t ≡ u) ⊎ (t ≢ u)
same_or_other Positions Positions = inl refl
same_or_other Positions Records = inr (λ e. cc)
same_or_other Positions Edges = inr (λ e. cc)
same_or_other Positions Order = inr (λ e. cc)
same_or_other Records Positions = inr (λ e. cc)
same_or_other Records Records = inl refl
same_or_other Records Edges = inr (λ e. cc)
same_or_other Records Order = inr (λ e. cc)
same_or_other Edges Positions = inr (λ e. cc)
same_or_other Edges Records = inr (λ e. cc)
same_or_other Edges Edges = inl refl
same_or_other Edges Order = inr (λ e. cc)
same_or_other Order Positions = inr (λ e. cc)
same_or_other Order Records = inr (λ e. cc)
same_or_other Order Edges = inr (λ e. cc)
same_or_other Order Order = inl refl

pub at_same : {A : Type 0} (f : Tree → A) (t : Tree) (x : A) → with_at f t x t ≡ x
at_same f Positions x = refl
at_same f Records x = refl
at_same f Edges x = refl
at_same f Order x = refl

pub at_other : {A : Type 0} (f : Tree → A) (t u : Tree) (x : A) → t ≢ u → with_at f t x u ≡ f u
at_other f Positions Positions x other = absurd (other refl)
at_other f Positions Records x other = refl
at_other f Positions Edges x other = refl
at_other f Positions Order x other = refl
at_other f Records Positions x other = refl
at_other f Records Records x other = absurd (other refl)
at_other f Records Edges x other = refl
at_other f Records Order x other = refl
at_other f Edges Positions x other = refl
at_other f Edges Records x other = refl
at_other f Edges Edges x other = absurd (other refl)
at_other f Edges Order x other = refl
at_other f Order Positions x other = refl
at_other f Order Records x other = refl
at_other f Order Edges x other = refl
at_other f Order Order x other = absurd (other refl)

root_same : (roots : Roots) (t : Tree) (root : ℕ) → root_of (with_root roots t root) t ≡ root
root_same roots Positions root = refl
root_same roots Records root = refl
root_same roots Edges root = refl
root_same roots Order root = refl

root_other : (roots : Roots) (t u : Tree) (root : ℕ) → t ≢ u → root_of (with_root roots t root) u ≡ root_of roots u
root_other roots Positions Positions root other = absurd (other refl)
root_other roots Positions Records root other = refl
root_other roots Positions Edges root other = refl
root_other roots Positions Order root other = refl
root_other roots Records Positions root other = refl
root_other roots Records Records root other = absurd (other refl)
root_other roots Records Edges root other = refl
root_other roots Records Order root other = refl
root_other roots Edges Positions root other = refl
root_other roots Edges Records root other = refl
root_other roots Edges Edges root other = absurd (other refl)
root_other roots Edges Order root other = refl
root_other roots Order Positions root other = refl
root_other roots Order Records root other = refl
root_other roots Order Edges root other = refl
root_other roots Order Order root other = absurd (other refl)

free_not_held : (m : Mark) → (m ≡ Committed) ⊎ (m ≡ Fresh) → m ≡ Free → ⊥
free_not_held m (inl is) free = cc
free_not_held m (inr is) free = cc

-- the same tree
tree_as : (packed : ℕ) (t : Tree) (capacity root root_now : ℕ) (pages pages_now : List ℕ) (es es_now : List Item) (bytes : ℕ → List ℕ)
    → root ≡ root_now → pages ≡ pages_now → es ≡ es_now
    → IsTreeOf packed t capacity root pages es bytes → IsTreeOf packed t capacity root_now pages_now es_now bytes
tree_as packed t capacity root root_now pages pages_now es es_now bytes roots lists entries is =
    subst (λ (x : ℕ). IsTreeOf packed t capacity x pages_now es_now bytes) roots
    (subst (λ (x : List ℕ). IsTreeOf packed t capacity root x es_now bytes) lists
    (subst (λ (x : List Item). IsTreeOf packed t capacity root pages x bytes) entries is))

-- an entry is put into one of the trees: the other trees and the text stay
module _ (slot : TreeSlot) (text : List ℕ) (entries : Tree → List Item) (old new : Store) (honest : IsTrue old.disk.honest) (works : StoreWorks old new)
    (h : HoldsForest slot text entries old) (t : Tree) (root : ℕ) (w : Widths) (keys : w.key ≡ key_width slot.sizes.packed t)
    (values : w.value ≡ value_width slot.sizes.packed t)
    (others : List ℕ) (es : List Item) (holds : HoldsMap w new root others es) (change : TakePlace (h.pages t) others old new) where
  -- another of the trees
  stays : (u : Tree) → t ≢ u → IsTreeOf slot.sizes.packed u (length new.marks) (root_of slot.roots u) (h.pages u) (entries u) (reads new)
      × AreHeld new.marks (h.pages u)
      × AreApart others (h.pages u)
  stays u other =
      let tree = h.forest.trees u in
      let kept = another_map_stays tree.widths old new (h.pages t) others honest works change (root_of slot.roots u) (h.pages u)
      (entries u) tree.map (h.held u) (h.forest.apart t u other) in
      (record { widths = tree.widths; keys = tree.keys; values = tree.values; map = kept.0 }, kept.1, kept.2)

  -- the tree that has the entry now
  changed : IsTreeOf slot.sizes.packed t (length new.marks) root others es (reads new)
  changed = record { widths = w; keys = keys; values = values; map = holds }

  trees_now : (u : Tree) → IsTreeOf slot.sizes.packed u (length new.marks) (root_of (with_root slot.roots t root) u)
      (with_at h.pages t others u) (with_at entries t es u) (reads new)
  trees_now u = elim (same_or_other t u) [
    | inl same ↦ subst (λ (v : Tree). IsTreeOf slot.sizes.packed v (length new.marks) (root_of (with_root slot.roots t root) v)
        (with_at h.pages t others v) (with_at entries t es v) (reads new)) same
        (tree_as slot.sizes.packed t (length new.marks) root (root_of (with_root slot.roots t root) t) others
        (with_at h.pages t others t) es (with_at entries t es t) (reads new)
        (sym (root_same slot.roots t root)) (sym (at_same h.pages t others)) (sym (at_same entries t es)) changed)
    | inr other ↦ tree_as slot.sizes.packed u (length new.marks) (root_of slot.roots u) (root_of (with_root slot.roots t root) u)
        (h.pages u) (with_at h.pages t others u) (entries u) (with_at entries t es u)
        (reads new) (sym (root_other slot.roots t u root other)) (sym (at_other h.pages t u others other))
        (sym (at_other entries t u es other)) (stays u other).0
  ]

  held_now : (u : Tree) → AreHeld new.marks (with_at h.pages t others u)
  held_now u = elim (same_or_other t u) [
    | inl same ↦ subst (λ (v : Tree). AreHeld new.marks (with_at h.pages t others v)) same
        (subst (λ (x : List ℕ). AreHeld new.marks x) (sym (at_same h.pages t others)) change.held)
    | inr other ↦ subst (λ (x : List ℕ). AreHeld new.marks x) (sym (at_other h.pages t u others other)) (stays u other).1
  ]

  -- the text
  text_apart_now : (p : ℕ) → Contains h.text_pages p → Contains others p → ⊥
  text_apart_now p here there = not_taken (h.pages t) others old new change p (h.text_held p here) (λ inside. h.forest.text_apart t p here inside) there

  chain_now : IsChain (length new.marks) slot.first h.text_pages text (reads new)
  chain_now =
      subst (λ (n : ℕ). IsChain n slot.first h.text_pages text (reads new)) (sym works.same_pages)
      ((a_chain_rests_on_its_pages (length old.marks) slot.first h.text_pages text (reads old) h.forest.chain).anywhere (reads new)
      (λ p here. change.reads honest p (λ inside. h.forest.text_apart t p here inside) (free_not_held (mark old.marks p) (h.text_held p here))))

  text_held_now : AreHeld new.marks h.text_pages
  text_held_now p here =
      subst (λ (m : Mark). (m ≡ Committed) ⊎ (m ≡ Fresh))
      (sym (change.kept p (λ inside. h.forest.text_apart t p here inside) (text_apart_now p here))) (h.text_held p here)

  in_others : (u : Tree) (p : ℕ) → t ≡ u → Contains (with_at h.pages t others u) p → Contains others p
  in_others u p same here =
      subst (λ (x : List ℕ). Contains x p) (at_same h.pages t others) (subst (λ (v : Tree). Contains (with_at h.pages t others v) p) (sym same) here)

  in_old : (u : Tree) (p : ℕ) → t ≢ u → Contains (with_at h.pages t others u) p → Contains (h.pages u) p
  in_old u p other here = subst (λ (x : List ℕ). Contains x p) (at_other h.pages t u others other) here

  pages_apart : (u v : Tree) → u ≢ v → AreApart (with_at h.pages t others u) (with_at h.pages t others v)
  pages_apart u v differ p here there = elim (same_or_other t u) [
    | inl one ↦ elim (same_or_other t v) [
      | inl two ↦ differ (sym one ∙ two)
      | inr two ↦ (stays v two).2 p (in_others u p one here) (in_old v p two there)
    ]
    | inr one ↦ elim (same_or_other t v) [
      | inl two ↦ (stays u one).2 p (in_others v p two there) (in_old u p one here)
      | inr two ↦ h.forest.apart u v differ p (in_old u p one here) (in_old v p two there)
    ]
  ]

  text_and_trees : (u : Tree) → AreApart h.text_pages (with_at h.pages t others u)
  text_and_trees u p here there = elim (same_or_other t u) [
    | inl same ↦ text_apart_now p here (in_others u p same there)
    | inr other ↦ h.forest.text_apart u p here (in_old u p other there)
  ]

  pub put_holds : HoldsForest (record slot { roots = with_root slot.roots t root }) text (with_at entries t es) new
  put_holds = record {
    text_pages = h.text_pages;
    pages = with_at h.pages t others;
    forest = record {
      chain = chain_now;
      trees = trees_now;
      text_apart = text_and_trees;
      apart = pages_apart;
    };
    text_held = text_held_now;
    held = held_now;
  }

-- why an entry is not put
pub put_fails : (slot : TreeSlot) (old new : Store) (w : Widths) (tree : Tree) (root : ℕ) (fault : PageFault)
    → w.key ≡ key_width slot.sizes.packed tree → w.value ≡ value_width slot.sizes.packed tree → root ≡ root_of slot.roots tree
    → MapPutCause w root old new fault → ChangeCause HasNoForest slot old new (fault_of fault)
put_fails slot old new w tree root page.Disk keys values is cause = cause
put_fails slot old new w tree root page.NotATable keys values is cause = absurd cause
put_fails slot old new w tree root page.Damaged keys values is cause =
    λ honest text entries h. cause honest (h.pages tree) (entries tree)
    (map_in slot text entries old w tree root keys values is (forest_there slot text entries old h))
put_fails slot old new w tree root page.TableFull keys values is cause = cause
put_fails slot old new w tree root page.OutOfMemory keys values is cause = absurd cause
put_fails slot old new w tree root page.Closed keys values is cause = cause

-- the slot with a tree's new root, once an entry was put into the tree
pub put_is : (slot : TreeSlot) (tree : Tree) (key value : List ℕ) (old new : Store) (w : Widths) (at root : ℕ)
    → w.key ≡ key_width slot.sizes.packed tree → w.value ≡ value_width slot.sizes.packed tree → at ≡ root_of slot.roots tree
    → (IsTrue old.disk.honest → (pages : List ℕ) (es : List Item) → HoldsMap w old at pages es → AreHeld old.marks pages
    → (others : List ℕ) × HoldsMap w new root others (put_entry es key value) × TakePlace pages others old new)
    → PagesWritten 49 old new → (at ≡ 0 → free_count new.marks + 1 ≡ free_count old.marks)
    → IsPutIn slot tree key value old new (record slot { roots = with_root slot.roots tree root })
put_is slot tree key value old new w at root keys values is map put first = record {
  slot = record { packing = refl; goal = refl; first = refl; sizes = refl };
  roots = ap (λ (n : ℕ). with_root slot.roots tree n) (sym (root_with slot.roots tree root));
  map = λ honest text entries h.
      let other = map honest (h.pages tree) (entries tree)
      (map_in slot text entries old w tree at keys values is (forest_there slot text entries old h)) (h.held tree) in
      put_holds slot text entries old new honest put.works h tree root w keys values other.0 (put_entry (entries tree) key value) other.1 other.2;
  first = λ none. first (is ∙ none);
  written = record { works = put.works; still = open_still put.works put.open; takes = put.takes };
}
