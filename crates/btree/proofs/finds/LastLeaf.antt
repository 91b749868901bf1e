-- The leaf that was reached last, and what is found on it.
use Rattle.std.proofs.Common.{◌≡◌, inl, inr, ℕ, suc, ◌+◌, List, ◌∷◌, ◌++◌, Option, None, length, take, drop, IsTrue, sym, ◌∙◌, ap, subst, arith, append_assoc}
use Rattle.std.specs.Prelude.{slice_index}
use Rattle.std.specs.List.{slice_get}
use Rattle.std.specs.Option.{option_map}
use Rattle.sector_disk.specs.lemmas.Moments.{still_honest}
use Rattle.page_store.specs.Causes.{PageReadCause}
use Rattle.page_store.specs.declared.fault.PageFault.{PageFault}
use Rattle.page_store.specs.declared.fault.PageFault.TheVariants.{Disk, NotATable, Damaged, TableFull, OutOfMemory, Closed}
use Rattle.page_store.specs.Store.{Store, reads, StoreWorks, IsUnchanged}
use Rattle.btree.specs.declared.page.kind.Kind.{Kind}
use Rattle.btree.specs.declared.page.kind.Kind.TheVariants.{Leaf, Inner}
use Rattle.btree.specs.declared.page.widths.Widths.{Widths}
use Rattle.btree.specs.Page.{Item, IsPage, items_in}
use Rattle.btree.specs.Changes.{HoldsMap, MapReadCause}
use Rattle.btree.specs.Entries.{Ascend, find_entry}
use Rattle.btree.specs.LeafRead.{AreFoundIn, HasKey, IsFoundBelow}
use Rattle.btree.specs.lemmas.Found.{split_got}
use Rattle.btree.specs.lemmas.Leaves.{IsLeafFor, held_before, honest_before}
use Rattle.btree.specs.lemmas.Order.{Below, ascend_seam, find_below, find_here}
use Rattle.btree.specs.lemmas.Seen.{LeadsOn, SeenCause}
use Rattle.btree.specs.lemmas.Unchanged.{unchanged_reads}
use Rattle.btree.specs.lemmas.Way.{BelongsHere, reached_ascends, reached_finds, way_ends}
use Rattle.btree.proofs.finds.ValueDescent.{IsGoing, goes_on_to, unseen}

-- a page that is not read is not seen
pub as_seen : (w : Widths) (mid new : Store) (page : ℕ) (fault : PageFault) → PageReadCause mid page new fault → SeenCause w page mid new fault
as_seen w mid new page Disk grew = grew
as_seen w mid new page NotATable never = never
as_seen w mid new page Damaged outside = inl outside
as_seen w mid new page TableFull never = never
as_seen w mid new page OutOfMemory never = never
as_seen w mid new page Closed closed = closed

-- on the way down a page was read
module _ (w : Widths) (old mid new : Store) (root : ℕ) (key : List ℕ) (level page : ℕ) (so_far : IsGoing w old mid root key level page)
    (same : IsUnchanged mid new) (works : StoreWorks mid new)
    (body : List ℕ) (read : IsTrue mid.disk.honest → body ≡ reads mid page) where
  pub no_page : ((kind : Kind) → IsPage w kind body → ⊥) → MapReadCause w root old new Damaged
  no_page none = unseen w old mid new root key level page so_far same works Damaged
      (inr (λ honest kind is. none kind (subst (λ (b : List ℕ). IsPage w kind b) (sym (read honest)) is)))

  pub leaf_for : IsPage w Leaf body → IsTrue old.disk.honest → IsLeafFor w old root key body
  leaf_for leaf honest = λ pages es holds.
      let (next, way) = so_far.way honest pages es holds in
      let is : body ≡ reads old page = read (still_honest so_far.works.goes_on honest)
      ∙ ap (λ (f : ℕ → List ℕ). f page) (unchanged_reads old mid honest so_far.unchanged) in (
        next,
        subst (λ (b : List ℕ). BelongsHere es key (items_in w Leaf b) next) (sym is)
            (way_ends w (reads old) (length old.marks) es key level page next way (subst (λ (b : List ℕ). IsPage w Leaf b) is leaf)),
      )

  pub leads_down : (child : ℕ) → IsPage w Inner body → LeadsOn w body key child → IsGoing w old new root key (level + 1) child
  leads_down child inner leads = goes_on_to w old mid new root key level page so_far same works child
      (λ honest. subst (λ (b : List ℕ). IsPage w Inner b × LeadsOn w b key child) (read honest) (inner, leads))

-- where a key belongs stands what the map has
pub belongs_found : (es : List Item) (key : List ℕ) (here : List Item) (next : Option (List ℕ)) → BelongsHere es key here next → AreFoundIn here es
belongs_found es key here next belongs k item got =
    let front = belongs.before ++ take k here in
    let back = drop (suc k) here ++ belongs.after in
    let whole : es ≡ front ++ item ∷ back =
    belongs.is ∙ ap (λ (fs : List Item). belongs.before ++ (fs ++ belongs.after)) (split_got here k item got)
    ∙ ap (λ (fs : List Item). belongs.before ++ fs) (append_assoc (take k here) (item ∷ drop (suc k) here) belongs.after)
    ∙ sym (append_assoc belongs.before (take k here) (item ∷ back)) in
    let below : Below front item.0 = ascend_seam front item back (subst Ascend whole belongs.ascending) in
    ap (λ (fs : List Item). find_entry fs item.0) whole ∙ find_below front (item ∷ back) item.0 below ∙ find_here item back

pub found_on : (w : Widths) (leaf : List ℕ) (place : ℕ) (key : List ℕ) → HasKey w leaf place key → (es : List Item) → AreFoundIn (items_in w Leaf leaf) es
    → option_map (λ (e : Item). e.1) (slice_get (items_in w Leaf leaf) place) ≡ find_entry es key
found_on w leaf place key h es found = ap (option_map (λ (e : Item). e.1)) h.got ∙ sym (found place (key, h.value) h.got)

pub not_on : (w : Widths) (store : Store) (root : ℕ) (key leaf : List ℕ) → IsLeafFor w store root key leaf
    → (Ascend (items_in w Leaf leaf) → None ≡ find_entry (items_in w Leaf leaf) key) → (pages : List ℕ) (es : List Item)
    → HoldsMap w store root pages es → None ≡ find_entry es key
not_on w store root key leaf is none pages es holds =
    let (next, belongs) = is pages es holds in
    none (reached_ascends es key (items_in w Leaf leaf) next belongs) ∙ sym (reached_finds es key (items_in w Leaf leaf) next belongs)

-- so it is after reads
pub found_after : (w : Widths) (old new : Store) (root : ℕ) (leaf key : List ℕ) → IsUnchanged old new → StoreWorks old new
    → (IsTrue old.disk.honest → IsLeafFor w old root key leaf)
    → IsFoundBelow w new root leaf
found_after w old new root leaf key same works is = λ honest page pages es holds.
    let (next, belongs) = is (honest_before old new works honest) pages es (held_before w old new root same works honest pages es holds) in
    belongs_found es key (items_in w Leaf leaf) next belongs

-- bytes that begin with a zero are no leaf
pub none_found_on : (w : Widths) (store : Store) (root : ℕ) (leaf : List ℕ) → slice_index leaf 0 ≡ 0 → IsFoundBelow w store root leaf
none_found_on w store root leaf zeroed = λ honest page pages es holds. absurd (omega (arith, page.first, zeroed))
