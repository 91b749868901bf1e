-- The rows of a version.
use Rattle.std.proofs.Common.{◌≡◌, ◌≢◌, inl, inr, ℕ, ◌+◌, ◌-◌, ◌<◌, ◌≤◌, min, refl, subst, arith}
use Rattle.std.specs.Prelude.{IsTrue}
use Rattle.sector_disk.specs.Disk.{Grew}
use Rattle.table.specs.declared.fault.TableFault.{TableFault}
use Rattle.table.specs.declared.fault.TableFault.TheVariants as table
use Rattle.game_file.specs.Causes.{FileReadFault, FileVersionCause}
use Rattle.game_file.specs.State.{State}
use Rattle.solver.specs.Faults.{table_fault}
use Rattle.solver.specs.Listings.{NextCause, RowsCause}

-- a failure since then is one since before
grew_before : (old mid now : ℕ) → old ≤ mid → Grew mid now → Grew old now
grew_before old mid now later (inl grew) = inl (omega (arith, grew, later))
grew_before old mid now later (inr most) = inr most

-- why the record of a version is not read is why its rows are not given
pub rows_cause : (old mid new : State) (fault : TableFault) → old.failures ≤ mid.failures → mid.closed ≡ old.closed → FileReadFault mid new fault
    → RowsCause old new fault
rows_cause old mid new table.Disk later closed cause = grew_before old.failures mid.failures new.failures later cause
rows_cause old mid new table.Damaged later closed cause = tt
rows_cause old mid new table.TableFull later closed cause = cause
rows_cause old mid new table.OutOfMemory later closed cause = tt
rows_cause old mid new table.Closed later closed cause = let is : mid.closed ≡ old.closed = closed in cc

-- on an honest disk no record of a version is missing
pub not_damaged : (mid new : State) (fault : TableFault) → IsTrue mid.disk.honest → FileVersionCause mid new fault → fault ≢ table.Damaged
not_damaged mid new fault honest cause is = subst (λ (f : TableFault). FileVersionCause mid new f) is cause honest

-- each number of the loop is that of a known position
pub below_end : (from m left number count known rows all : ℕ) → number < from + m → m ≡ min count left → left ≡ known - from
    → from + rows ≡ number → known ≡ all
    → number < all
below_end from m left number count known rows all within few is past same = omega arith

-- why the rows are not given is why the next of a listing are not
pub next_cause : (old new : State) (fault : TableFault) → RowsCause old new fault → (IsTrue old.disk.honest → fault ≢ table.Damaged)
    → NextCause old new (table_fault fault)
next_cause old new table.Disk cause there = cause
next_cause old new table.Damaged cause there = λ honest. there honest refl
next_cause old new table.TableFull cause there = cause
next_cause old new table.OutOfMemory cause there = tt
next_cause old new table.Closed cause there = cause
