-- What a stop leaves while a table is opened: a sync, and then reads alone.
use Rattle.std.proofs.Common.{◌≡◌, ◌∙◌, ◌≤◌, ℕ, IsTrue, length, ap, sym, subst, arith}
use Rattle.sector_disk.specs.Disk.{Image, sector, Shown, MayLeave, SyncedMore, Disk, Steps, LeavesOnly}
use Rattle.sector_disk.specs.lemmas.Moments.{goes_on_trans, leaves_step, leaves_then, still_honest}
use Rattle.root_pair.specs.Frames.{IsOnlyRead}
use Rattle.root_pair.specs.lemmas.Frames.{IsLookedAt}

-- what a stop leaves after a sync, it may leave before
pub left_before : {old new : Shown} → SyncedMore old new → (image : Image) → MayLeave new image → MayLeave old image
left_before {old} {new} more image left = record {
  no_shorter = omega (arith, more.lasting, left.no_shorter);
  no_longer = subst (λ (p : Image). length image ≤ length p) more.contents left.no_longer;
  same = λ k synced. left.same k (more.synced k synced) ∙ ap (λ (p : Image). sector p k) more.contents;
}

-- the sync
pub leaves_synced : {old new : Disk} → Steps old new → SyncedMore old.now new.now → LeavesOnly old new (MayLeave old.now)
leaves_synced step more = leaves_step step (λ image left. left) (left_before more)

-- a read after it
pub leaves_read : {old mid new : Disk} → LeavesOnly old mid (MayLeave old.now) → SyncedMore old.now mid.now → Steps mid new → new.now ≡ mid.now
    → LeavesOnly old new (MayLeave old.now)
leaves_read first more step is =
    leaves_then step.goes_on first (leaves_step step (left_before more)
    (λ image left. left_before more image (subst (λ (s : Shown). MayLeave s image) is left)))

-- which shows what it showed
pub same_read : {old mid new : Shown} → SyncedMore old mid → new ≡ mid → SyncedMore old new
same_read {old} more is = subst (λ (s : Shown). SyncedMore old s) (sym is) more

-- a sync alone
pub read_synced : {old new : Disk} {before now : ℕ} → Steps old new → (IsTrue old.honest → SyncedMore old.now new.now) → before ≤ now
    → IsOnlyRead old new before now
read_synced step more later = record {
  same = more;
  moments = λ honest. leaves_synced step (more honest);
  time = step.goes_on;
  same_size = step.same_size;
  failures = later;
}

-- and one read more
pub read_on : {old mid new : Disk} {before then now : ℕ} → IsOnlyRead old mid before then → IsLookedAt mid new → then ≤ now
    → IsOnlyRead old new before now
read_on first look later = record {
  same = λ honest. same_read (first.same honest) (look.unchanged (still_honest first.time honest));
  moments = λ honest. leaves_read (first.moments honest) (first.same honest) look.time (look.unchanged (still_honest first.time honest));
  time = goes_on_trans first.time look.time.goes_on;
  same_size = look.time.same_size ∙ first.same_size;
  failures = omega (arith, first.failures, later);
}
