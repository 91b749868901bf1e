-- What a file counts of its failures.
use Rattle.std.specs.Prelude.{◌≡◌, ℕ, ◌≤◌, Bool}
use Rattle.std.specs.Bool.{OnTrue, OnFalse}
use Rattle.sector_disk.specs.Disk.{Grew}

-- the count of what failed, in a call: it never falls, stands where the call was done, and grew where it was not
pub record TellsFailure (done : Bool) (before now : ℕ) : Type 0 where
  pub later : before ≤ now
  pub spared : OnTrue done (now ≡ before)
  pub grew : OnFalse done (Grew before now)
