-- An entry is put on its leaf alone.
use Rattle.std.proofs.Common.{◌≡◌, ◌≢◌, inl, inr, ℕ, zero, suc, ◌-◌, ◌^◌, ◌<◌, ◌≤◌, Bool, Result, Ok, Err, IfOk, IfErr, OnOk, List, [], ◌∷◌, ◌++◌, None, Some, All}
use Rattle.std.proofs.Common.{Contains, length, take, drop, IsTrue, refl, sym, ◌∙◌, ap, subst, arith}
use Rattle.std.proofs.lemmas.Result.{IfOk-weaker}
use Rattle.std.proofs.lemmas.List.Elements.{All-weaker, Contains-append_left, Contains-append_right}
use Rattle.std.specs.List.{flat_map, slice_get}
use Rattle.byteorder.specs.Endian.{big_bytes}
use Rattle.page_store.specs.declared.marks.Mark.TheVariants.{Fresh}
use Rattle.page_store.specs.declared.fault.PageFault.{PageFault}
use Rattle.page_store.specs.declared.fault.PageFault.TheVariants.{Disk}
use Rattle.page_store.specs.Causes.{PageWriteCause}
use Rattle.page_store.specs.Frames.{PagesRefused}
use Rattle.page_store.specs.Marks.{mark}
use Rattle.page_store.specs.Pages.{IsOnce}
use Rattle.page_store.specs.Store.{Store, reads, StoreWorks}
use Rattle.page_store.specs.lemmas.Works.{works_refl}
use Rattle.btree.specs.declared.page.kind.Kind.TheVariants.{Leaf, Inner}
use Rattle.btree.specs.declared.page.widths.Widths.{Widths}
use Rattle.btree.specs.Page.{Item, IsPage, count_in, items_in, child_of}
use Rattle.btree.specs.Changes.{AreHeld, HoldsMap, TakePlace}
use Rattle.btree.specs.Entries.{Ascend, find_entry, first_key, put_entry}
use Rattle.btree.specs.Tree.{entries_below, pages_below, IsTree}
use Rattle.btree.specs.lemmas.Once.{once_first}
use Rattle.btree.specs.lemmas.Parts.{HasFirst, all_got, first_below}
use Rattle.btree.specs.lemmas.Growth.{AreWritten, IsGrowing, IsGrownTree}
use Rattle.btree.specs.lemmas.Spots.{LeadsTo}
use Rattle.btree.specs.lemmas.Causes.{WriteCause}
use Rattle.btree.proofs.puts.Faults.{not_written, refused_after}
use Rattle.btree.proofs.puts.Replacements.{held_not_free, stays}
use Rattle.btree.proofs.puts.Levels.{entries_at, IsBranch, first_got, pages_left, pages_right, pages_parts, find_parts, growing_child, items_ascend}
use Rattle.btree.proofs.puts.Levels.{page_stays, leaf_grown, inner_grown}
use Rattle.btree.proofs.puts.Roots.{put_one}
use Rattle.btree.proofs.puts.WrittenItems.{first_of, leads_back, written_one}

-- the first key below an inner page is that of its first item
first_inner : (w : Widths) (bytes : ℕ → List ℕ) (d q : ℕ) → IsTree w bytes (suc d) q
    → first_key (entries_below w bytes (suc d) q) ≡ first_key (items_in w Inner (bytes q))
first_inner w bytes d q tree =
    let items : List Item = items_in w Inner (bytes q) in
    let f : Item → List Item = entries_at w bytes d in
    let firsts : All (HasFirst f) items = All-weaker (IsBranch w bytes d) (HasFirst f) (λ e b. b.1) items tree.1 in
    first_below f items firsts ∙ sym (first_got items)

-- and below any page the key that stands there first
pub own_first : (w : Widths) (bytes : ℕ → List ℕ) (d q : ℕ) → IsTree w bytes d q
    → first_key (entries_below w bytes d q) ≡ Some (take w.key (drop 4 (bytes q)))
own_first w bytes zero q tree = first_of w.key w.value (count_in (bytes q)) (drop 4 (bytes q)) tree.enough
own_first w bytes (suc d) q tree =
    first_inner w bytes d q tree ∙ first_of w.key 4 (count_in (bytes q)) (drop 4 (bytes q)) (omega (arith, tree.0.enough))

-- the first of some items stays where others are put after it
pub first_kept : (from : ℕ) (es fs : List Item) (k : List ℕ) → 1 ≤ from → first_key es ≡ Some k → first_key (take from es ++ fs) ≡ Some k
first_kept zero es fs k some first = absurd (omega (arith, some))
first_kept (suc n) [] fs k some first = absurd (cc)
first_kept (suc n) (e ∷ es) fs k some first = first

-- what two clauses say of an answer
pub of_both : {X E : Type 0} (A B C : X → Type 0) (r : Result X E) → ((x : X) → A x → B x → C x) → IfOk r A → IfOk r B → IfOk r C
of_both A B C (Ok x) both a b = both x a b
of_both A B C (Err e) both a b = tt

-- what is said where it was done
pub of_done : {E A B : Type 0} (r : Result Bool E) → (A → B) → IfOk r (λ done. IsTrue done → A) → IfOk r (λ done. IsTrue done → B)
of_done (Ok done) gives is = λ so. gives (is so)
of_done (Err e) gives is = tt

-- what an answer says of each tree, taken together
pub grown_by : {E W : Type 0} (r : Result Bool E) (C : Type 0) (G H : ℕ → Item → Type 0) → ((e : ℕ) (t : Item) → G e t → IfOk r (λ done. IsTrue done → H e t))
    → (((e : ℕ) (t : Item) → G e t → H e t) → W → C) → IfOk r (λ done. IsTrue done → W) → IfOk r (λ done. IsTrue done → C)
grown_by (Ok done) C G H given make wrote = λ is. make (λ e t g. given e t g is) (wrote is)
grown_by (Err fault) C G H given make wrote = tt

-- an item in its own place
put_back : (es : List Item) (i : ℕ) (c : Item) → slice_get es i ≡ Some c → take i es ++ (c ∷ drop (suc i) es) ≡ es
put_back [] i c got = absurd (cc)
put_back (e ∷ es) zero c got = let same : e ≡ c = cc in λ k. sym same k ∷ es
put_back (e ∷ es) (suc i) c got = ap (λ (fs : List Item). e ∷ fs) (put_back es i c got)

module _ (w : Widths) (key value : List ℕ) (q : ℕ) (top : Item) (old new : Store) (honest : IsTrue old.disk.honest) (leads : child_of top ≡ q) where
  -- the leaf
  pub leaf_in_place : (d : ℕ) → IsGrowing w d q old → first_key (entries_below w (reads old) d q) ≡ Some top.0 → IsPage w Leaf (reads old q)
      → (Ascend (items_in w Leaf (reads old q)) → first_key (items_in w Leaf (reads old q)) ≡ Some top.0
      → AreWritten w Leaf q (put_entry (items_in w Leaf (reads old q)) key value) (top ∷ []) old new)
      → IsGrownTree w key value d q (top ∷ []) old new
  leaf_in_place zero growing first leaf written =
      leaf_grown w key value q (put_entry (items_in w Leaf (reads old q)) key value) (top ∷ []) old new honest growing refl (written growing.ascending first)
  leaf_in_place (suc d) growing first leaf written = absurd (omega (arith, leaf.first, growing.tree.0.first))

  -- a page above it, which stays as it is
  module _ (child : ℕ) (works : StoreWorks old new) (fresh : mark old.marks q ≡ Fresh) (is_page : 1 ≤ q) (there : q < length old.marks)
      (way : LeadsTo w (reads old q) key child)
      (grow : (e : ℕ) (t : Item) → IsGrowing w e child old → child_of t ≡ child → first_key (entries_below w (reads old) e child) ≡ Some t.0
      → IsGrownTree w key value e child (t ∷ []) old new) where
    abbrev i : ℕ
    i = way.place - 1

    abbrev c : Item
    c = way.item

    abbrev its : List Item
    its = items_in w Inner (reads old q)

    below_grown : (d : ℕ) → IsGrowing w (suc d) q old → IsGrownTree w key value d (child_of c) (c ∷ []) old new
    below_grown d growing =
        let branch : IsBranch w (reads old) d c = all_got (IsBranch w (reads old) d) its i c growing.tree.1 way.got in
        subst (λ (n : ℕ). IsGrownTree w key value d n (c ∷ []) old new) way.leads
        (grow d c (subst (λ (n : ℕ). IsGrowing w d n old) (sym way.leads) (growing_child w d q i c old way.got growing)) (sym way.leads)
        (subst (λ (n : ℕ). first_key (entries_below w (reads old) d n) ≡ Some c.0) (sym way.leads) branch.1))

    page_written : (d : ℕ) → IsGrowing w (suc d) q old → first_key (entries_below w (reads old) (suc d) q) ≡ Some top.0
        → AreWritten w Inner q (take i its ++ ((c ∷ []) ++ drop (suc i) its)) (top ∷ []) new new
    page_written d growing first =
        let left : List ℕ = pages_left w d q i c old way.got growing in
        let below : List ℕ = pages_below w (reads old) d (child_of c) in
        let right : List ℕ = pages_right w d q i c old way.got growing in
        let others : List ℕ = flat_map (λ e. pages_below w (reads new) d (child_of e)) (c ∷ []) in
        let grown : IsGrownTree w key value d (child_of c) (c ∷ []) old new = below_grown d growing in
        let not_below : Contains below q → ⊥ = λ here.
        once_first q (left ++ (below ++ right)) (subst IsOnce (pages_parts w d q i c old way.got growing) growing.once)
        (Contains-append_right left (below ++ right) q (Contains-append_left below right q here)) in
        let not_new : Contains others q → ⊥ = λ here. elim (grown.place.from q here) [
          | inl was ↦ not_below was
          | inr free ↦ held_not_free (mark old.marks q) (inr fresh) free
        ] in
        let same : reads new q ≡ reads old q = page_stays w d q i c others old new honest way.got growing grown.place in
        let back : take i its ++ (c ∷ drop (suc i) its) ≡ its = put_back its i c way.got in
        written_one w Inner q new (take i its ++ (c ∷ drop (suc i) its)) q top new new leads
        (ap first_key back ∙ sym (first_inner w (reads old) d q growing.tree) ∙ first)
        (stays q new (grown.place.kept q not_below not_new ∙ fresh)) (works_refl new) is_page (omega (arith, there, works.same_pages))
        (λ h. subst (IsPage w Inner) (sym same) growing.tree.0)
        (λ h. ap (items_in w Inner) same ∙ sym back)
        (λ h p other. refl) refl

    pub inner_in_place : (d : ℕ) → IsGrowing w d q old → first_key (entries_below w (reads old) d q) ≡ Some top.0 → IsPage w Inner (reads old q)
        → IsGrownTree w key value d q (top ∷ []) old new
    inner_in_place zero growing first inner = absurd (omega (arith, inner.first, growing.tree.first))
    inner_in_place (suc d) growing first inner =
        inner_grown w key value d q i way.place c (c ∷ []) (top ∷ []) old new new honest works way.got growing refl
        (way.fits (items_ascend w d q i c old way.got growing)) (below_grown d growing) (page_written d growing first)

-- a key that was not there before
module _ (w : Widths) (key : List ℕ) (q : ℕ) (old : Store) where
  pub leaf_new : (d : ℕ) → IsGrowing w d q old → IsPage w Leaf (reads old q)
      → (Ascend (items_in w Leaf (reads old q)) → None ≡ find_entry (items_in w Leaf (reads old q)) key)
      → None ≡ find_entry (entries_below w (reads old) d q) key
  leaf_new zero growing leaf none = none growing.ascending
  leaf_new (suc d) growing leaf none = absurd (omega (arith, leaf.first, growing.tree.0.first))

  pub inner_new : {E : Type 0} (only_new : Bool) (r : Result Bool E) (child d : ℕ) → IsGrowing w d q old → IsPage w Inner (reads old q)
      → LeadsTo w (reads old q) key child
      → ((e : ℕ) → IsGrowing w e child old
      → IfOk r (λ done. IsTrue done → IsTrue only_new → None ≡ find_entry (entries_below w (reads old) e child) key))
      → IfOk r (λ done. IsTrue done → IsTrue only_new → None ≡ find_entry (entries_below w (reads old) d q) key)
  inner_new only_new r child zero growing inner way none = absurd (omega (arith, inner.first, growing.tree.first))
  inner_new only_new r child (suc d) growing inner way none =
      let i : ℕ = way.place - 1 in
      let c : Item = way.item in
      let below : IsGrowing w d child old =
      subst (λ (n : ℕ). IsGrowing w d n old) (sym way.leads) (growing_child w d q i c old way.got growing) in
      let same : find_entry (entries_below w (reads old) d child) key ≡ find_entry (entries_below w (reads old) (suc d) q) key =
      ap (λ (n : ℕ). find_entry (entries_below w (reads old) d n) key) way.leads
      ∙ sym (find_parts w d q i c old way.got growing key way.place refl (way.fits (items_ascend w d q i c old way.got growing))) in
      IfOk-weaker r (λ done. IsTrue done → IsTrue only_new → None ≡ find_entry (entries_below w (reads old) d child) key)
      (λ done. IsTrue done → IsTrue only_new → None ≡ find_entry (entries_below w (reads old) (suc d) q) key)
      (λ done none is only. none is only ∙ same) (none d below)

-- a map in which an entry was put so
pub put_there : (w : Widths) (key value : List ℕ) (root : ℕ) (pages : List ℕ) (es : List Item) (old new : Store) → StoreWorks old new → (root ≡ 0 → ⊥)
    → length old.marks ≤ 1048576 → root < 2 ^ 32 → HoldsMap w old root pages es → AreHeld old.marks pages
    → ((d : ℕ) (top : Item) → IsGrowing w d root old → child_of top ≡ root → first_key (entries_below w (reads old) d root) ≡ Some top.0
    → IsGrownTree w key value d root (top ∷ []) old new)
    → (others : List ℕ) × HoldsMap w new root others (put_entry es key value) × TakePlace pages others old new
put_there w key value root pages es old new works some few fits holds held grow =
    let top : Item = (take w.key (drop 4 (reads old root)), big_bytes 4 root) in
    let leads : child_of top ≡ root = leads_back root fits in
    put_one w key value root pages es (top ∷ []) old new works some few holds held
    (λ d growing. grow d top growing leads (own_first w (reads old) d root growing.tree)) root refl
    (λ c got. let same : top ≡ c = cc in sym leads ∙ ap child_of same)

-- what is said of an answer, and of each answer alike
pub of_ok : {X E B : Type 0} (A C : X → Type 0) (r : Result X E) → ((x : X) → A x → B → C x) → IfOk r A → OnOk r B → IfOk r C
of_ok A C (Ok x) both a b = both x a b
of_ok A C (Err e) both a b = tt

-- what is so of each answer is so where it was done
pub if_done : {E A B : Type 0} (r : Result Bool E) → (A → B) → OnOk r A → IfOk r (λ done. IsTrue done → B)
if_done (Ok done) gives a = λ is. gives a
if_done (Err e) gives a = tt

-- a page is not edited
pub edit_refused : {X : Type 0} {old new : Store} (r : Result X PageFault) → StoreWorks old new → new.marks ≡ old.marks
    → IfErr r (λ fault. fault ≢ Disk → new ≡ old)
    → IfErr r (PageWriteCause old new) → IfErr r (PagesRefused Disk WriteCause 0 old new)
edit_refused (Ok x) works marks untouched cause = tt
edit_refused {old = old} (Err fault) works marks untouched cause =
    refused_after 0 (works_refl old) refl (omega arith) (omega arith) (not_written works marks untouched cause)
