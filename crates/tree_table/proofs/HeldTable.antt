-- A table at work after a call.
use Rattle.std.proofs.Common.{◌≡◌, ◌≢◌, ℕ, ◌^◌, ◌≤◌, Bool, true, List, Option, Some, None, Result, Ok, Err, refl, sym, ap, subst}
use Rattle.std.specs.Result.{IfOk, IfErr}
use Rattle.std.specs.Option.{IfSome, IfNone}
use mathlib.Core.Logic.{∥∥₁_elim, ∥∥₁_prop}
use mathlib.Core.HLevel.{Unit-prop}
use denote.Struct.Props.{props}
use Rattle.page_store.specs.Frames.{PagesRefused}
use Rattle.page_store.specs.Store.{Store, StoreWorks, IsUnchanged, reads}
use Rattle.retrograde.specs.Edges.{IsAfter, IsNextEdge, HasNoMoreEdges}
use Rattle.retrograde.specs.Stored.{Stored}
use Rattle.table.specs.Faults.{NeedsNoPage}
use Rattle.table.specs.Frames.{IsRead, IsWritten}
use Rattle.table.specs.declared.fault.TableFault.{TableFault}
use Rattle.table.specs.declared.fault.TableFault.TheVariants.{Disk, Damaged, TableFull, OutOfMemory, Closed}
use Rattle.tree_table.specs.declared.slot.TreeSlot.{TreeSlot}
use Rattle.tree_table.specs.Causes.{HasNoTable, IsNoTable, ReadCause, ChangeCause}
use Rattle.tree_table.specs.declared.last.Seen.{Seen}
use Rattle.tree_table.specs.Last.{IsSeenIn}
use Rattle.tree_table.specs.Spelled.{table_in}
use Rattle.tree_table.specs.WorkTable.{Work, work_of, table_now, IsHonestWork, HoldsTable, HoldsWork, table_there, WorkStays, WorkGoesOn, NoAnswerCause, WorkFails}
use Rattle.tree_table.specs.lemmas.Frames.{honest_on, honest_before, holds_still, table_same}
use Rattle.tree_table.specs.lemmas.SpelledTable.{table_is}

-- a table in memory is a set of one value: two ways in which two are the same are one
stored_prop : (s t : Stored (List ℕ)) → IsProp (s ≡ t)
stored_prop s t = hlevel props

-- pages that hold a table hold the one that they spell
pub holds_itself : (slot : TreeSlot) (text : List ℕ) (table : Stored (List ℕ)) (store : Store) → slot.sizes.counts.known ≤ 2 ^ 24
    → HoldsTable slot text table store
    → HoldsTable slot text (table_in slot (reads store)) store
holds_itself slot text table store few h = subst (λ (t : Stored (List ℕ)). HoldsTable slot text t store) (sym (table_is slot text table store few h)) h

-- what holds of what is there, if anything is
kept_some : {X : Type 0} {P Q : X → Type 0} (o : Option X) → ((x : X) → P x → Q x) → IfSome o P → IfSome o Q
kept_some (Some x) keeps is = keeps x is
kept_some None keeps is = tt

-- a call that writes
module _ (a b : Work) (now : Stored (List ℕ)) (few : b.slot.sizes.counts.known ≤ 2 ^ 24) (works : StoreWorks a.store b.store)
    (torn : b.torn ≡ a.torn) (text : b.text ≡ a.text)
    (changed : IsHonestWork a → HoldsWork a → HoldsTable b.slot b.text now b.store) where
  now_holds : IsHonestWork a → HoldsWork a → HoldsWork b
  now_holds honest h = holds_itself b.slot b.text now b.store few (changed honest h)

  pub now_held : (IsHonestWork a → ∥ HoldsWork a ∥₁) → IsHonestWork b → ∥ HoldsWork b ∥₁
  now_held holds honest =
      let before = honest_before {a = a} {b = b} works torn honest in
      ∥∥₁_elim (holds before) ∥∥₁_prop (λ (h : HoldsWork a). ∣ now_holds before h ∣₁)

  pub now_stored : (IsHonestWork a → ∥ HoldsWork a ∥₁) → IsHonestWork a → table_now b ≡ now
  now_stored holds honest = ∥∥₁_elim (holds honest) (stored_prop (table_now b) now)
      (λ (h : HoldsWork a). table_is b.slot b.text now b.store few (changed honest h))

  -- the cell that was seen last is still that of its number
  pub now_seen : (o : Option Seen) → ((s : Seen) → IsSeenIn (table_now a) s → IsSeenIn now s) → (IsHonestWork a → ∥ HoldsWork a ∥₁)
      → (IsHonestWork a → IfSome o (IsSeenIn (table_now a))) → IsHonestWork b → IfSome o (IsSeenIn (table_now b))
  now_seen o keeps holds last honest =
      let before = honest_before {a = a} {b = b} works torn honest in
      subst (λ (t : Stored (List ℕ)). IfSome o (IsSeenIn t)) (sym (now_stored holds before)) (kept_some o keeps (last before))

  pub now_goes_on : b.store.closed ≡ a.store.closed → b.slot.sizes.text ≡ a.slot.sizes.text → b.slot.packing ≡ a.slot.packing → b.slot.goal ≡ a.slot.goal
      → WorkGoesOn a b
  now_goes_on still long packing goal =
      record { works = works; still = still; text = text; torn = torn; long = long; packing = packing; goal = goal; holds = now_holds }

-- a call that reads
pub still_held : (a b : Work) → WorkStays a b → (IsHonestWork a → ∥ HoldsWork a ∥₁) → IsHonestWork b → ∥ HoldsWork b ∥₁
still_held a b stays holds honest =
    let before = honest_before {a = a} {b = b} stays.works stays.torn honest in
    ∥∥₁_elim (holds before) ∥∥₁_prop (λ (h : HoldsWork a). ∣ holds_still a b stays before.disk h ∣₁)

-- the cell that was seen last is the one that it was
pub still_seen : (a b : Work) (o : Option Seen) → WorkStays a b → (IsHonestWork a → IfSome o (IsSeenIn (table_now a))) → IsHonestWork b
    → IfSome o (IsSeenIn (table_now b))
still_seen a b o stays last honest =
    let before = honest_before {a = a} {b = b} stays.works stays.torn honest in
    subst (λ (t : Stored (List ℕ)). IfSome o (IsSeenIn t)) (sym (table_same a b stays before.disk)) (last before)

-- why one fails
pub read_fails_so : (a b : Work) (fault : TableFault) → WorkStays a b → ReadCause IsNoTable a.slot a.store b.store fault → WorkFails a b fault
read_fails_so a b fault stays cause = record { works = stays.works; still = λ other. stays.unchanged.closed; text = stays.text; cause = so fault cause }
  where
    so : (f : TableFault) → ReadCause IsNoTable a.slot a.store b.store f → NoAnswerCause a b f
    so Disk grew = grew
    so Damaged none = λ is. none is.0.disk a.text (table_now a) (table_there a.slot a.text (table_now a) a.store is.1)
    so TableFull never = absurd never
    so OutOfMemory never = absurd never
    so Closed shut = shut

pub needs_no_page : (slot : TreeSlot) (old new : Store) (fault : TableFault) → ReadCause IsNoTable slot old new fault → NeedsNoPage fault
needs_no_page slot old new fault cause = λ is. subst (λ (f : TableFault). ReadCause IsNoTable slot old new f) is cause

pub change_fails_so : (a b : Work) (fault : TableFault) → StoreWorks a.store b.store → (fault ≢ Disk → b.store.closed ≡ a.store.closed)
    → b.text ≡ a.text → ChangeCause HasNoTable a.slot a.store b.store fault → WorkFails a b fault
change_fails_so a b fault works still text cause = record { works = works; still = still; text = text; cause = so fault cause }
  where
    so : (f : TableFault) → ChangeCause HasNoTable a.slot a.store b.store f → NoAnswerCause a b f
    so Disk grew = grew
    so Damaged none = λ is. none is.0.disk a.text (table_now a) is.1
    so TableFull none = none
    so OutOfMemory cause = tt
    so Closed shut = shut

-- answers of which there is one proof
pub ok_prop : {X E : Type 0} (P : X → Type 0) (r : Result X E) → ((x : X) → IsProp (P x)) → IsProp (IfOk r P)
ok_prop P (Ok x) each = each x
ok_prop P (Err e) each = Unit-prop

pub none_prop : {X : Type 0} (P : Type 0) (o : Option X) → IsProp P → IsProp (IfNone o P)
none_prop P (Some x) is = Unit-prop
none_prop P None is = is

-- numbers that were or were not there
pub number_prop : (o p : Option ℕ) → IsProp (o ≡ p)
number_prop o p = hlevel props

pub never_prop : {A : Type 0} → IsProp (A → ⊥)
never_prop = hlevel props

-- a call that only read
pub only_read : (slot : TreeSlot) (text : List ℕ) (torn : Bool) (old new : Store) → StoreWorks old new → IsUnchanged old new
    → WorkStays (work_of slot text torn old) (work_of slot text torn new)
only_read slot text torn old new works same = record { works = works; unchanged = same; slot = refl; text = refl; torn = refl }

-- what a call leaves of a table, by what it leaves of the work in it
module _ {T : Type 0} (work : T → Work) (old new : T) where
  pub reads_so : WorkStays (work old) (work new)
      → IsRead (λ t. table_now (work t)) (λ t. IsHonestWork (work t)) (λ t. (work t).slot.sizes.counts) (λ a b. WorkStays (work a) (work b)) old new
  reads_so stays = record {
    same = λ honest. table_same (work old) (work new) stays honest.disk;
    honest = (honest_on stays.works stays.torn, honest_before stays.works stays.torn);
    counts = ap (λ (s : TreeSlot). s.sizes.counts) stays.slot;
    stays = stays;
  }

  pub writes_so : WorkGoesOn (work old) (work new) → (work new).slot.sizes.counts.known ≡ (work old).slot.sizes.counts.known
      → IsWritten (λ t. IsHonestWork (work t)) (λ t. (work t).slot.sizes.counts) (λ a b. WorkGoesOn (work a) (work b)) old new
  writes_so ahead known = record { honest = (honest_on ahead.works ahead.torn, honest_before ahead.works ahead.torn); known = known; ahead = ahead }

-- a call that reads, and was refused
pub read_refused : {X : Type 0} (a b : Work) (r : Result X TableFault) → WorkStays a b
    → IfErr r (ReadCause IsNoTable a.slot a.store b.store) → IfErr r (WorkFails a b)
read_refused a b (Ok x) stays cause = tt
read_refused a b (Err fault) stays cause = read_fails_so a b fault stays cause

pub read_without_page : {X : Type 0} (slot : TreeSlot) (old new : Store) (r : Result X TableFault)
    → IfErr r (ReadCause IsNoTable slot old new) → IfErr r NeedsNoPage
read_without_page slot old new (Ok x) cause = tt
read_without_page slot old new (Err fault) cause = needs_no_page slot old new fault cause

-- whether there is one more edge
after_prop : (after : Option ℕ) (p : ℕ) → IsProp (IsAfter after p)
after_prop None p = Unit-prop
after_prop (Some q) p = hlevel props

pub next_prop : (table : Stored (List ℕ)) (i : ℕ) (after : Option ℕ) (p : ℕ) → IsProp (IsNextEdge table i after p)
next_prop table i after p x y =
    let edge : IsProp (table.has_edge i p ≡ true) = hlevel props in
    let least : IsProp ((q : ℕ) → table.has_edge i q ≡ true → IsAfter after q → p ≤ q) = hlevel props in
    λ k. record { edge = edge x.edge y.edge k; later = after_prop after p x.later y.later k; least = least x.least y.least k }

pub no_more_prop : (table : Stored (List ℕ)) (i : ℕ) (after : Option ℕ) → IsProp (HasNoMoreEdges table i after)
no_more_prop table i after = hlevel props

-- what is so of each answer that is there
pub each_some : {X E : Type 0} {P Q : X → Type 0} (r : Result (Option X) E) → ((x : X) → P x → Q x) → IfOk r (λ o. IfSome o P) → IfOk r (λ o. IfSome o Q)
each_some (Ok (Some x)) gives it = gives x it
each_some (Ok None) gives it = tt
each_some (Err e) gives it = tt

-- a call that writes, and was refused
pub writes_fail : {most : ℕ} {fault : TableFault} (slot : TreeSlot) (text : List ℕ) (torn later : Bool) (old new : Store)
    → PagesRefused Disk (ChangeCause HasNoTable slot) most old new fault → WorkFails (work_of slot text torn old) (work_of slot text later new) fault
writes_fail {fault = fault} slot text torn later old new it =
    change_fails_so (work_of slot text torn old) (work_of slot text later new) fault it.works it.still refl it.cause
