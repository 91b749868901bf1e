-- How what a stop leaves is told from call to call.
use Rattle.std.specs.Prelude.{◌≡◌, ℕ, ◌+◌, ◌≤◌, length, IsTrue}
use Rattle.std.proofs.Common.{refl, sym, ◌∙◌, ap, subst, arith, inl, inr}
use Rattle.std.proofs.lemmas.Bool.{cases_lt}
use Rattle.sector_disk.specs.Disk.{Image, sector, Shown, Disk, Agrees, MayLeave, GoesOn, Steps, LeavesOnly, Keeps}
use Rattle.sector_disk.specs.lemmas.Disk.{KeepsThroughout}
use Rattle.sector_disk.specs.Disk.{SyncedMore, Extends, IsLonger, AgreesBelow, counting, with_failed}
use Rattle.sector_disk.specs.Disk.{IsBetween, StopsIn, at_moment, at_present}

-- reads give one of the images that a stop may leave
pub reads_left : (disk : Disk) → MayLeave disk.now disk.now.contents
reads_left disk = record { no_shorter = disk.lasts; no_longer = omega arith; same = λ k synced. refl }

-- nothing has happened
pub goes_on_refl : (disk : Disk) → GoesOn disk disk
goes_on_refl disk = record { later = omega arith; past = λ k le. refl; honest = refl; failed_writes = omega arith }

-- one part after another
pub goes_on_trans : {old mid new : Disk} → GoesOn old mid → GoesOn mid new → GoesOn old new
goes_on_trans {old} {mid} {new} first second = record {
  later = omega (arith, first.later, second.later);
  past = λ k le. second.past k (omega (arith, le, first.later)) ∙ first.past k le;
  honest = second.honest ∙ first.honest;
  failed_writes = omega (arith, first.failed_writes, second.failed_writes);
}

-- a stop at the present moment leaves what a stop now may leave
pub now_leaves : (disk : Disk) (k : ℕ) (image : Image) → k ≡ disk.clock → MayLeave (disk.was k) image → MayLeave disk.now image
now_leaves disk k image is left =
    disk.now_allows image (subst (λ shown. MayLeave shown image) (ap disk.was is) left)

-- a stop at an earlier moment leaves what it might have left then
pub then_leaves : {old new : Disk} → GoesOn old new → (k : ℕ) (image : Image) → k ≤ old.clock → MayLeave (new.was k) image
    → MayLeave (old.was k) image
then_leaves {old} {new} goes_on k image le left =
    subst (λ shown. MayLeave shown image) (goes_on.past k le) left

-- before the first call
pub leaves_now : (disk : Disk) {Such : Image → Type 0} → ((image : Image) → MayLeave disk.now image → Such image)
    → LeavesOnly disk disk Such
leaves_now disk here = record {
  each = λ k image from to left. here image (now_leaves disk k image (omega (arith, from, to)) left);
  present = here;
}

-- between two states
between_leaves : {old new : Disk} {Such : Image → Type 0} → IsBetween old new
    → ((image : Image) → MayLeave old.now image → Such image)
    → ((image : Image) → MayLeave new.now image → Such image)
    → LeavesOnly old new Such
between_leaves moments before after = record {
  each = λ k image from to left.
      elim (moments k image from to left) [ inl was ↦ before image was | inr is ↦ after image is ];
  present = after;
}

-- where at most one moment passes
pub one_moment : {old new : Disk} → GoesOn old new → new.clock ≤ old.clock + 1 → IsBetween old new
one_moment {old} {new} goes_on short = λ k image from to left. elim (cases_lt old.clock k) [
  | inl later ↦ inr (now_leaves new k image (omega (arith, later, to, short)) left)
  | inr le ↦ inl (now_leaves old k image (omega (arith, le, from)) (then_leaves goes_on k image le left))
]

-- one call: a stop leaves what it could leave before the call or what it may leave after it
pub leaves_step : {old new : Disk} {Such : Image → Type 0} → Steps old new
    → ((image : Image) → MayLeave old.now image → Such image)
    → ((image : Image) → MayLeave new.now image → Such image)
    → LeavesOnly old new Such
leaves_step step before after = between_leaves step.moments before after

-- each stop leaves such an image
pub leaves_at : {old new : Disk} {Such : Image → Type 0} {moment : ℕ} {left : Shown} → LeavesOnly old new Such
    → StopsIn old new moment left → (image : Image) → MayLeave left image → Such image
leaves_at leaves (at_moment k from to) image may = leaves.each k image from to may
leaves_at leaves at_present image may = leaves.present image may

-- one part after another
pub leaves_then : {old mid new : Disk} {Such : Image → Type 0} → GoesOn mid new → LeavesOnly old mid Such → LeavesOnly mid new Such
    → LeavesOnly old new Such
leaves_then {old} {mid} {new} {Such} goes_on first second = record { each = at; present = second.present }
  where
    at : (k : ℕ) (image : Image) → old.clock ≤ k → k ≤ new.clock → MayLeave (new.was k) image → Such image
    at k image from to left = elim (cases_lt mid.clock k) [
      | inl later ↦ second.each k image (omega (arith, later)) to left
      | inr le ↦ first.each k image from le (then_leaves goes_on k image le left)
    ]

-- what is kept in two parts
pub keeps_trans : {at : ℕ → Type 0} {old mid new : Shown} → Keeps at old mid → Keeps at mid new → Keeps at old new
keeps_trans first second = record {
  contents = λ k here. second.contents k here ∙ first.contents k here;
  synced = λ k here was. second.synced k here (first.synced k here was);
  lasting = omega (arith, first.lasting, second.lasting);
  same_size = second.same_size ∙ first.same_size;
}

-- fewer sectors are kept too
pub keeps_fewer : {at few : ℕ → Type 0} {old new : Shown} → ((k : ℕ) → few k → at k) → Keeps at old new → Keeps few old new
keeps_fewer fewer keeps = record {
  contents = λ k here. keeps.contents k (fewer k here);
  synced = λ k here. keeps.synced k (fewer k here);
  lasting = keeps.lasting;
  same_size = keeps.same_size;
}

-- a sync keeps all
pub sync_keeps : {old new : Shown} (at : ℕ → Type 0) → SyncedMore old new → Keeps at old new
sync_keeps at more = record {
  contents = λ k here. ap (λ (p : Image). sector p k) more.contents;
  synced = λ k here. more.synced k;
  lasting = more.lasting;
  same_size = ap (λ (p : Image). length p) more.contents;
}

-- and of another kind
pub leaves_more : {old new : Disk} {Such More : Image → Type 0} → ((image : Image) → Such image → More image)
    → LeavesOnly old new Such → LeavesOnly old new More
leaves_more more leaves = record {
  each = λ k image from to left. more image (leaves.each k image from to left);
  present = λ image left. more image (leaves.present image left);
}

-- what agrees with a later state agrees with an earlier one where that was kept
pub agrees_before : {at : ℕ → Type 0} {old new : Shown} → Keeps at old new → (image : Image)
    → Agrees new (λ k. at k × IsTrue (new.synced k)) image
    → Agrees old (λ k. at k × IsTrue (old.synced k)) image
agrees_before keeps image left = record {
  no_shorter = omega (arith, keeps.lasting, left.no_shorter);
  no_longer = omega (arith, left.no_longer, keeps.same_size);
  same = λ k here. left.same k (here.0, keeps.synced k here.0 here.1) ∙ keeps.contents k here.0;
}

-- what a stop leaves agrees with all that is synced
agrees_at : (at : ℕ → Type 0) {shown : Shown} (image : Image) → MayLeave shown image
    → Agrees shown (λ k. at k × IsTrue (shown.synced k)) image
agrees_at at image left = record { no_shorter = left.no_shorter; no_longer = left.no_longer; same = λ k here. left.same k here.1 }

-- before the first call
pub throughout_start : (at : ℕ → Type 0) (disk : Disk) → KeepsThroughout at disk disk
throughout_start at disk = record {
  goes_on = goes_on_refl disk;
  keeps = record { contents = λ k here. refl; synced = λ k here was. was; lasting = omega arith; same_size = refl };
  leaves = leaves_now disk (agrees_at at);
}

-- one call
pub throughout_step : {at : ℕ → Type 0} {old new : Disk} → Steps old new → Keeps at old.now new.now → KeepsThroughout at old new
throughout_step {at} {old} {new} step keeps = record {
  goes_on = step.goes_on;
  keeps = keeps;
  leaves = leaves_step step (agrees_at at) (λ image left. agrees_before keeps image (agrees_at at image left));
}

-- one part after another
pub throughout_then : {at : ℕ → Type 0} {old mid new : Disk} → KeepsThroughout at old mid → KeepsThroughout at mid new
    → KeepsThroughout at old new
throughout_then first second = record {
  goes_on = goes_on_trans first.goes_on second.goes_on;
  keeps = keeps_trans first.keeps second.keeps;
  leaves = leaves_then second.goes_on first.leaves (leaves_more (agrees_before first.keeps) second.leaves);
}

-- the same disk is still honest
pub still_honest : {old new : Disk} → GoesOn old new → IsTrue old.honest → IsTrue new.honest
still_honest goes_on honest = subst (λ b. IsTrue b) (sym goes_on.honest) honest

-- one call more, of a disk that was honest at first
pub throughout_next : {at : ℕ → Type 0} {old mid new : Disk} → IsTrue old.honest → KeepsThroughout at old mid → Steps mid new
    → (IsTrue mid.honest → Keeps at mid.now new.now) → KeepsThroughout at old new
throughout_next honest so_far step keeps = throughout_then so_far (throughout_step step (keeps (still_honest so_far.goes_on honest)))

-- a call that makes the disk longer: a stop leaves what it could leave before the call or what it may leave after it
pub leaves_extend : {sectors : ℕ} {old new : Disk} {Such : Image → Type 0} → IsTrue old.honest → Extends sectors old new
    → ((image : Image) → MayLeave old.now image → Such image)
    → ((image : Image) → MayLeave new.now image → Such image)
    → LeavesOnly old new Such
leaves_extend honest step before after = between_leaves (step.moments honest) before after

-- as long as it was
pub longer_refl : (shown : Shown) → IsLonger shown shown
longer_refl shown = record {
  no_shorter = omega arith;
  contents = λ k here. refl;
  synced = λ k here was. was;
  lasting = omega arith;
}

-- one part after another
pub longer_trans : {old mid new : Shown} → IsLonger old mid → IsLonger mid new → IsLonger old new
longer_trans first second = record {
  no_shorter = omega (arith, first.no_shorter, second.no_shorter);
  contents = λ k here. second.contents k (omega (arith, here, first.no_shorter)) ∙ first.contents k here;
  synced = λ k here was. second.synced k (omega (arith, here, first.no_shorter)) (first.synced k here was);
  lasting = omega (arith, first.lasting, second.lasting);
}

-- a sync loses nothing
pub sync_longer : {old new : Shown} → SyncedMore old new → IsLonger old new
sync_longer more = record {
  no_shorter = omega (arith, ap (λ (p : Image). length p) more.contents);
  contents = λ k here. ap (λ (p : Image). sector p k) more.contents;
  synced = λ k here was. more.synced k was;
  lasting = more.lasting;
}

-- what a stop leaves of a longer disk
pub longer_leaves : {old new : Shown} → IsLonger old new → (image : Image) → MayLeave new image → AgreesBelow old image
longer_leaves longer image left = record {
  no_shorter = omega (arith, longer.lasting, left.no_shorter);
  same = λ k here synced. left.same k (longer.synced k here synced) ∙ longer.contents k here;
}

-- and of the disk as it was
pub left_below : {shown : Shown} (image : Image) → MayLeave shown image → AgreesBelow shown image
left_below {shown} image left = longer_leaves (longer_refl shown) image left

-- what agrees with the longer disk agrees with the one before
pub below_before : {old new : Shown} → IsLonger old new → (image : Image) → AgreesBelow new image → AgreesBelow old image
below_before longer image left = record {
  no_shorter = omega (arith, longer.lasting, left.no_shorter);
  same = λ k here synced. left.same k (omega (arith, here, longer.no_shorter)) (longer.synced k here synced) ∙ longer.contents k here;
}

-- a later state of which no fewer writes have failed
goes_on_failed : {old new : Disk} (m n : ℕ) → GoesOn old new → m ≤ n → GoesOn (with_failed old m) (with_failed new n)
goes_on_failed m n goes_on le = record { later = goes_on.later; past = goes_on.past; honest = goes_on.honest; failed_writes = le }

-- so of one call
pub steps_failed : {old new : Disk} (m n : ℕ) → Steps old new → m ≤ n → Steps (with_failed old m) (with_failed new n)
steps_failed m n step le = record {
  goes_on = goes_on_failed m n step.goes_on le;
  moments = step.moments;
  same_size = step.same_size;
}

-- and of one that makes the disk longer
pub extends_failed : {old new : Disk} (most m n : ℕ) → Extends most old new → m ≤ n → Extends most (with_failed old m) (with_failed new n)
extends_failed most m n step le = record {
  goes_on = goes_on_failed m n step.goes_on le;
  moments = step.moments;
  no_shorter = step.no_shorter;
  no_longer = step.no_longer;
}

-- the same where more failures are counted than those of the disk within
pub steps_counting : {old new : Disk} (m n : ℕ) → Steps old new → m ≤ n → Steps (counting old m) (counting new n)
steps_counting {old} {new} m n step le =
    steps_failed (old.failed_writes + m) (new.failed_writes + n) step (omega (arith, le, step.goes_on.failed_writes))

pub extends_counting : {old new : Disk} (most m n : ℕ) → Extends most old new → m ≤ n → Extends most (counting old m) (counting new n)
extends_counting {old} {new} most m n step le =
    extends_failed most (old.failed_writes + m) (new.failed_writes + n) step (omega (arith, le, step.goes_on.failed_writes))
