-- Disks that fail when they are told to.
use Rattle.std.specs.Prelude.{◌≡◌, ℕ, zero, suc, ◌+◌, ◌<◌, Bool, Option, None, Some, Result, IsErr, IsTrue, IsFalse}
use Rattle.sector_disk.specs.Disk.{HasCause}

-- a call at a fuse: with no pass left it fails and leaves the disk within; else a pass is used up, and there is
-- no error but one of the disk within
pub record Burns {D T E : Type 0} (failures : D → ℕ) (passes_before passes_after : ℕ) (before after : D)
    (result : Result T E) : Type 0 where
  pub blown : passes_before ≡ 0 → IsErr result × (after ≡ before) × (passes_after ≡ 0)
  pub passed : 0 < passes_before → HasCause (failures before) (failures after) result × (passes_after + 1 ≡ passes_before)

-- how many calls come before the one that fails, once a call more was made; none once it has failed
abbrev pub next_ahead : Option ℕ → Option ℕ
next_ahead None = None
next_ahead (Some zero) = None
next_ahead (Some (suc calls)) = Some calls

-- a call at a disk of which one call fails: that one fails, and is not carried out unless that was wanted;
-- any other has no error but one of the disk within
pub record Turns {D T E : Type 0} (failures : D → ℕ) (ahead_before ahead_after : Option ℕ) (done : Bool)
    (before after : D) (result : Result T E) : Type 0 where
  pub ahead : ahead_after ≡ next_ahead ahead_before
  pub struck : ahead_before ≡ Some 0 → IsErr result × (IsFalse done → after ≡ before)
  pub passed : (ahead_before ≡ Some 0 → ⊥) → HasCause (failures before) (failures after) result

-- this call fails, and is carried out first
abbrev pub IsStruck : Option ℕ → Bool → Type 0
IsStruck ahead done = (ahead ≡ Some 0) × IsTrue done
