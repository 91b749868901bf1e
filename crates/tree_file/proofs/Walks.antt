-- One tree is walked, and its entries are such as they have to be.
use Rattle.std.proofs.Common.{◌≡◌, ℕ, Result, List, [], ◌∷◌, ◌++◌, length, sym, ◌∙◌, subst}
use Rattle.std.specs.Result.{IfErr}
use Rattle.page_store.specs.declared.fault.PageFault.{PageFault}
use Rattle.page_store.specs.declared.fault.PageFault.TheVariants as page
use Rattle.page_store.specs.Store.{Store as StoreStated, reads}
use Rattle.btree.specs.Page.{Item}
use Rattle.btree.specs.declared.page.widths.Widths.{Widths}
use Rattle.btree.specs.Changes.{HoldsMap}
use Rattle.btree.specs.lemmas.Laws.{a_root_has_one_map}
use Rattle.btree.specs.declared.walk.fault.WalkFault.{WalkFault}
use Rattle.btree.specs.declared.walk.fault.WalkFault.TheVariants.{Store, Refused}
use Rattle.btree.specs.Walks.{MarksPages, WalkCause}
use Rattle.page_store.specs.Pages.{AreWaiting}
use Rattle.tree_table.specs.declared.slot.TreeSlot.{TreeSlot}
use Rattle.tree_table.specs.declared.tree.Tree.{Tree}
use Rattle.tree_table.specs.Trees.{key_width, value_width, root_of}
use Rattle.tree_file.specs.lemmas.OneTree.{map_of}
use Rattle.tree_file.specs.lemmas.One.{CountIs, HoldsTree, IsAsMany, IsWalkedTree, TreeCause, fault_of}

module _ (slot : TreeSlot) (tree : Tree) (w : Widths) (root : ℕ) (keys : w.key ≡ key_width slot.sizes.packed tree)
    (values : w.value ≡ value_width slot.sizes.packed tree) (at : root ≡ root_of slot.roots tree) (old new : StoreStated) (Such : List Item → Type 0) where
  holds : (pages : List ℕ) (es : List Item) → HoldsTree slot tree old pages es → HoldsMap w old root pages es
  holds pages es is = subst (λ (r : ℕ). HoldsMap w old r pages es) (sym at)
      (map_of slot.sizes.packed tree (length old.marks) (root_of slot.roots tree) pages es (reads old) w keys values is)

  held : (pages : List ℕ) (es : List Item) → HoldsMap w old root pages es → HoldsTree slot tree old pages es
  held pages es is = record { widths = w; keys = keys; values = values; map = subst (λ (r : ℕ). HoldsMap w old r pages es) at is }

  -- the store refused a call
  pub store_fails : (refuses : List Item → Item → Type 0) (told : List Item → Type 0) (fault : PageFault) → WalkCause w root refuses told old new (Store fault)
      → TreeCause slot tree Such old new fault
  store_fails refuses told page.Disk grew = grew
  store_fails refuses told page.NotATable never = never
  store_fails refuses told page.Damaged none = λ honest pages es is waiting such. none honest pages es (holds pages es is) waiting
  store_fails refuses told page.TableFull never = never
  store_fails refuses told page.OutOfMemory never = never
  store_fails refuses told page.Closed closed = closed

  -- an entry was refused that none of such entries is
  pub refused : (refuses : List Item → Item → Type 0) (told : List Item → Type 0) → told [] → WalkCause w root refuses told old new Refused
      → ((front back : List Item) (entry : Item) → refuses front entry → Such (front ++ entry ∷ back) → ⊥) → TreeCause slot tree Such old new page.Damaged
  refused refuses told none cause not = λ honest pages es is waiting such.
      let below = cause honest [] none in
      not below.refused.front below.refused.back below.refused.entry below.refused.refused
      (subst Such (below.of_map pages es (holds pages es is) ∙ below.refused.is) such)

  -- the walk failed
  pub walk_fails : (refuses : List Item → Item → Type 0) (told : List Item → Type 0) → told []
      → ((front back : List Item) (entry : Item) → refuses front entry → Such (front ++ entry ∷ back) → ⊥)
      → (fault : WalkFault) → WalkCause w root refuses told old new fault → TreeCause slot tree Such old new (fault_of fault)
  walk_fails refuses told none not (Store fault) cause = store_fails refuses told fault cause
  walk_fails refuses told none not Refused cause = refused refuses told none cause not

  module _ (told more : List Item → Type 0) (none : told [])
      (walked : (pages : List ℕ) × (es : List Item) × HoldsMap w old root pages es × MarksPages pages old new
      × ((before : List Item) → told before → more (before ++ es))) where
    -- the entries are not such
    pub unlike : ((es : List Item) → more es → Such es → ⊥) → (pages : List ℕ) (es : List Item) → HoldsTree slot tree old pages es → AreWaiting pages old
        → Such es → ⊥
    unlike not pages es is waiting such =
        let (its, fs, map, marked, tells) = walked in
        let same = a_root_has_one_map w (length old.marks) root pages its es fs (reads old) (holds pages es is) map in
        not fs (tells [] none) (subst Such same.1 such)

    -- they are
    pub alike : ((es : List Item) → more es → Such es) → (pages : List ℕ) × (es : List Item) × IsWalkedTree slot tree Such pages es old new
    alike fits =
        let (its, fs, map, marked, tells) = walked in
        (its, fs, record { holds = held its fs map; marked = marked; such = fits fs (tells [] none) })

-- what is said of a tree is said of the one that it is
pub as_tree : (slot : TreeSlot) (t u : Tree) (old new : StoreStated) (r : Result (Unit {0}) PageFault) → t ≡ u
    → IfErr r (TreeCause slot u (IsAsMany slot.sizes u) old new) → IfErr r (TreeCause slot t (IsAsMany slot.sizes t) old new)
as_tree slot t u old new r is cause = subst (λ (v : Tree). IfErr r (TreeCause slot v (IsAsMany slot.sizes v) old new)) (sym is) cause

-- and what is said of this many entries of as many
pub as_count : (slot : TreeSlot) (t : Tree) (old new : StoreStated) (r : Result (Unit {0}) PageFault) (m n : ℕ) → m ≡ n
    → IfErr r (TreeCause slot t (CountIs m) old new) → IfErr r (TreeCause slot t (CountIs n) old new)
as_count slot t old new r m n is cause = subst (λ (k : ℕ). IfErr r (TreeCause slot t (CountIs k) old new)) is cause
