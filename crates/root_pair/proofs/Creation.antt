-- What a stop within the parts of `create` leaves.
use Rattle.std.proofs.Common.{◌≡◌, ◌≢◌, inl, inr, ℕ, ◌<◌, ◌≤◌, List, length, take, slice_index, IsTrue, refl, sym, ◌∙◌, ap, arith}
use Rattle.sector_disk.specs.Disk.{Image, sector, Shown, MayLeave, Keeps, AllSynced, SyncedMore, Disk, size, GoesOn, Steps, LeavesOnly}
use Rattle.sector_disk.specs.lemmas.Disk.{KeepsThroughout}
use Rattle.sector_disk.specs.lemmas.Moments.{goes_on_refl, goes_on_trans, throughout_start, throughout_next, leaves_then, leaves_more, keeps_fewer, keeps_trans, sync_keeps, still_honest}
use Rattle.std.specs.Prelude.{Result, Ok, Err, IfErr}
use Rattle.root_pair.specs.Root.{BeginsAsTable, IsTableImage, IsUnwritten, picked, root_of, OldOrNoneOrNew, blank_gate}
use Rattle.root_pair.specs.Frames.{IsCreating, IsOnlyRead}
use Rattle.root_pair.specs.lemmas.Root.{IsClosed, IsLaid}
use Rattle.root_pair.specs.lemmas.Frames.{IsWrittenElsewhere}

-- a write of the gate or of a slot keeps the rest
pub closed : {old new : Shown} (at : ℕ) → 1 ≤ at → at < 4 → Keeps (λ k. k ≢ at) old new → Keeps IsClosed old new
closed at low high keeps = keeps_fewer (λ k is_closed is. omega (arith, is_closed, is, low, high)) keeps

-- before the first write
pub nothing_written : (disk : Disk) → IsWrittenElsewhere IsClosed disk disk
nothing_written disk = record { kept = λ honest. throughout_start IsClosed disk; time = goes_on_refl disk; same_size = refl }

-- one call more
written_on : {old mid new : Disk} → IsWrittenElsewhere IsClosed old mid → Steps mid new → (IsTrue mid.honest → Keeps IsClosed mid.now new.now)
    → IsWrittenElsewhere IsClosed old new
written_on so_far step keeps = record {
  kept = λ honest. throughout_next honest (so_far.kept honest) step keeps;
  time = goes_on_trans so_far.time step.goes_on;
  same_size = step.same_size ∙ so_far.same_size;
}

-- a write of the gate or of a slot
pub put_on : {old mid new : Disk} (at : ℕ) → (1 ≤ at) × (at < 4) → IsWrittenElsewhere IsClosed old mid → Steps mid new
    → (IsTrue mid.honest → Keeps (λ k. k ≢ at) mid.now new.now) → IsWrittenElsewhere IsClosed old new
put_on at within so_far step keeps = written_on so_far step (λ honest. closed at within.0 within.1 (keeps honest))

-- a sync
pub synced_on : {old mid new : Disk} → IsWrittenElsewhere IsClosed old mid → Steps mid new → (IsTrue mid.honest → SyncedMore mid.now new.now)
    → IsWrittenElsewhere IsClosed old new
synced_on so_far step same = written_on so_far step (λ honest. sync_keeps IsClosed (same honest))

-- the sectors after the slots are kept while the table is looked for and laid
pub pages_laid : (old fresh laid : Shown) → SyncedMore old fresh → Keeps IsClosed fresh laid → Keeps (λ k. 4 ≤ k) old laid
pages_laid old fresh laid more keeps = keeps_trans (sync_keeps (λ k. 4 ≤ k) more) (keeps_fewer (λ k le low. le) keeps)

-- and while the header is written
pub pages_signed : (old laid signed : Shown) → Keeps (λ k. 4 ≤ k) old laid → Keeps (λ k. k ≢ 0) laid signed → Keeps (λ k. 4 ≤ k) old signed
pages_signed old laid signed so_far keeps = keeps_trans so_far (keeps_fewer (λ k le is. omega (arith, le, is)) keeps)

-- the first byte of a new table's gate
first_of_blank : slice_index blank_gate 0 ≡ 0
unfolding blank_gate
first_of_blank = refl

module _ (root : List ℕ) (old fresh laid : Disk) (honest : IsTrue old.honest) (goes_on : GoesOn old fresh)
    (none : BeginsAsTable old.now.contents → ⊥) (synced : AllSynced fresh.now) (more : SyncedMore old.now fresh.now)
    (at_first : LeavesOnly old fresh (MayLeave old.now)) (kept : IsTrue fresh.honest → KeepsThroughout IsClosed fresh laid) where
  -- the header does not begin as a table's while the slots and the gate are written
  pub while_laid : LeavesOnly old laid (OldOrNoneOrNew old.now root)
  while_laid =
      let lay = kept (still_honest goes_on honest) in
      leaves_then lay.goes_on (leaves_more (λ image left table. inl left) at_first)
      (leaves_more (λ image left table. absurd (none (begins image (left.same 0 ((λ le. omega (arith, le)), synced.synced 0)) table))) lay.leaves)
    where
      begins : (image : Image) → sector image 0 ≡ sector fresh.now.contents 0 → IsTableImage image → BeginsAsTable old.now.contents
      begins image same table = ap (λ (s : List ℕ). take 8 s) (ap (λ (p : Image). sector p 0) (sym more.contents) ∙ sym same) ∙ table.begins

  -- whatever the header is, a table has the root
  pub while_signed : (signed : Disk) → 128 ≤ size laid → IsLaid root fresh.now laid.now
      → (IsTrue laid.honest → KeepsThroughout (λ k. k ≢ 0) laid signed) → LeavesOnly old signed (OldOrNoneOrNew old.now root)
  while_signed signed room is_laid kept_2 =
      let sign = kept_2 (still_honest (kept (still_honest goes_on honest)).goes_on (still_honest goes_on honest)) in
      let lay = kept (still_honest goes_on honest) in
      leaves_then sign.goes_on while_laid (leaves_more (λ image left table. inr (record {
        holds = record {
          table = table;
          is = root_is image (left.same 1 ((omega arith), is_laid.synced.synced 1))
              ∙ left.same 2 ((omega arith), is_laid.synced.synced 2) ∙ is_laid.slot;
        };
        room = omega (arith, room, lay.keeps.same_size, ap (λ (p : Image). length p) more.contents);
        no_shorter = omega (arith, is_laid.synced.lasting, left.no_shorter, lay.keeps.same_size, ap (λ (p : Image). length p) more.contents);
      })) sign.leaves)
    where
      root_is : (image : Image) → sector image 1 ≡ sector laid.now.contents 1 → root_of image ≡ sector image 2
      root_is image gate =
          let zero : slice_index (sector image 1) 0 ≡ 0 = ap (λ (s : List ℕ). slice_index s 0) (gate ∙ is_laid.gate) ∙ first_of_blank in
          let slot : picked image ≡ 2 = omega (arith, zero) in
          ap (λ (k : ℕ). sector image k) slot

-- where nothing was written, whatever fault is told
pub told_unwritten : {X E : Type 0} (Such : E → Type 0) {P : Type 0} (r : Result X E) → P → IfErr r (λ e. Such e → P)
told_unwritten Such (Ok x) holds = tt
told_unwritten Such (Err e) holds = λ such. holds

-- a disk that was only read is not written
pub unwritten : {old new : Disk} {before now : ℕ} → IsOnlyRead old new before now → IsTrue old.honest → IsUnwritten old new
unwritten looked honest = record { same = looked.same honest; leaves = looked.moments honest }

module _ {root : List ℕ} {old fresh : Disk} {before then : ℕ} (looked : IsOnlyRead old fresh before then) where
  -- `create` as far as the search for a table
  pub looked_for : IsCreating root old fresh before then
  looked_for = record {
    moments = λ honest. leaves_more (λ image left table. inl left) (looked.moments honest);
    pages = λ honest. sync_keeps _ (looked.same honest);
    time = looked.time;
    same_size = looked.same_size;
    failures = looked.failures;
  }

  module _ {laid : Disk} {now : ℕ} (none : IsTrue old.honest → BeginsAsTable old.now.contents → ⊥) (synced : IsTrue old.honest → AllSynced fresh.now)
      (lay : IsWrittenElsewhere IsClosed fresh laid) (later : then ≤ now) where
    -- as far as the slots and the gate
    pub laid_then : IsCreating root old laid before now
    laid_then = record {
      moments = λ honest. while_laid root old fresh laid honest looked.time (none honest) (synced honest) (looked.same honest)
          (looked.moments honest) lay.kept;
      pages = λ honest. pages_laid _ _ _ (looked.same honest) (lay.kept (still_honest looked.time honest)).keeps;
      time = goes_on_trans looked.time lay.time;
      same_size = lay.same_size ∙ looked.same_size;
      failures = omega (arith, looked.failures, later);
    }

    -- and to its end
    pub signed_then : {signed : Disk} {last : ℕ} → 128 ≤ size old → (IsTrue fresh.honest → IsLaid root fresh.now laid.now)
        → IsWrittenElsewhere (λ k. k ≢ 0) laid signed → now ≤ last → IsCreating root old signed before last
    signed_then {signed} room is_laid sign last = record {
      moments = λ honest. while_signed root old fresh laid honest looked.time (none honest) (synced honest) (looked.same honest)
          (looked.moments honest) lay.kept signed (omega (arith, room, looked.same_size, lay.same_size))
          (is_laid (still_honest looked.time honest)) sign.kept;
      pages = λ honest. pages_signed _ _ _ (laid_then.pages honest) (sign.kept (still_honest laid_then.time honest)).keeps;
      time = goes_on_trans laid_then.time sign.time;
      same_size = sign.same_size ∙ laid_then.same_size;
      failures = omega (arith, laid_then.failures, last);
    }
