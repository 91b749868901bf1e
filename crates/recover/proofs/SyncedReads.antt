-- A disk that was synced and then read shows what it showed.
use Rattle.std.proofs.Common.{◌≡◌, ◌≤◌, ℕ, [], length, IsTrue, sym, ◌∙◌, ap, subst, arith, ext_get_or}
use Rattle.std.specs.Prelude.{true, false, is_err, OnOk, Result, Ok, Err}
use Rattle.sector_disk.specs.Disk.{Image, Shown, Disk, sector, AllSynced, LeavesOnly, MayLeave, Steps, SyncedMore}
use Rattle.sector_disk.specs.lemmas.Moments.{goes_on_trans, leaves_more, leaves_step, leaves_then, reads_left, still_honest}
use Rattle.game_file.specs.State.{GoesFrom}
use Rattle.recover.specs.lemmas.Steps.{IsReadSince}

-- one step after another
pub from_then : {old mid new : Disk} {a b c : ℕ} → GoesFrom old a mid b → GoesFrom mid b new c → GoesFrom old a new c
from_then first second = record {
  goes_on = goes_on_trans first.goes_on second.goes_on;
  failures = omega (arith, first.failures, second.failures);
  same_size = second.same_size ∙ first.same_size;
}

-- what is so of an answer
pub on_ok : {X E P : Type 0} (r : Result X E) → is_err r ≡ false → OnOk r P → P
on_ok (Ok x) is it = it
on_ok (Err e) is it = let never : true ≡ false = is in absurd (cc)

-- of what is all synced a stop leaves what reads give
all_synced_is : (shown : Shown) (image : Image) → AllSynced shown → MayLeave shown image → image ≡ shown.contents
all_synced_is shown image all left =
    ext_get_or [] image shown.contents (omega (arith, all.lasting, left.no_shorter, left.no_longer)) (λ k below. left.same k (all.synced k))

-- a sync, failed or not, leaves what could be left before
module _ (old new : Disk) (count now : ℕ) (steps : Steps old new) (later : count ≤ now) (same : IsTrue old.honest → SyncedMore old.now new.now) where
  pub sync_from : GoesFrom old count new now
  sync_from = record { goes_on = steps.goes_on; failures = later; same_size = steps.same_size }

  fewer : IsTrue old.honest → (image : Image) → MayLeave new.now image → MayLeave old.now image
  fewer honest image left =
      let more = same honest in
      record {
        no_shorter = omega (arith, more.lasting, left.no_shorter);
        no_longer = subst (λ (p : Image). length image ≤ length p) more.contents left.no_longer;
        same = λ k synced. left.same k (more.synced k synced) ∙ ap (λ (p : Image). sector p k) more.contents;
      }

  pub sync_leaves : IsTrue old.honest → LeavesOnly old new (MayLeave old.now)
  sync_leaves honest = leaves_step steps (λ image left. left) (fewer honest)

  -- after it nothing else is left
  pub read_first : (IsTrue old.honest → AllSynced new.now) → IsReadSince old count new now
  read_first all = record {
    from = sync_from;
    contents = λ honest. (same honest).contents;
    synced = λ honest image left. all_synced_is new.now image (all honest) left;
    leaves = sync_leaves;
  }

-- a step that leaves what could be left
module _ (first disk back : Disk) (count now later : ℕ) (read : IsReadSince first count disk now) (from : GoesFrom disk now back later)
    (leaves : IsTrue disk.honest → LeavesOnly disk back (MayLeave disk.now)) where
  left_is : IsTrue first.honest → (image : Image) → MayLeave back.now image → image ≡ disk.now.contents
  left_is honest image left =
      read.synced honest image
      ((leaves (still_honest read.from.goes_on honest)).present image left)

  same : IsTrue first.honest → back.now.contents ≡ disk.now.contents
  same honest = left_is honest back.now.contents (reads_left back)

  at_first : IsTrue first.honest → (image : Image) → MayLeave disk.now image → MayLeave first.now image
  at_first honest image left =
      subst (λ (p : Image). MayLeave first.now p) (sym (read.synced honest image left ∙ read.contents honest)) (reads_left first)

  pub read_on : IsReadSince first count back later
  read_on = record {
    from = from_then read.from from;
    contents = λ honest. same honest ∙ read.contents honest;
    synced = λ honest image left. left_is honest image left ∙ sym (same honest);
    leaves = λ honest.
        leaves_then from.goes_on (read.leaves honest)
        (leaves_more (λ image left. at_first honest image left) (leaves (still_honest read.from.goes_on honest)));
  }
