-- A want of room that is told of a part of what was done is one of all of it.
use Rattle.std.proofs.Common.{ℕ, ◌≤◌, inl, inr, arith}
use Rattle.sector_disk.specs.Disk.{Grew}
use Rattle.rbg_read.specs.declared.fault.GameFault.TheVariants as game_fault
use Rattle.solver.specs.declared.fault.SolverFault.{SolverFault}
use Rattle.solver.specs.declared.fault.SolverFault.TheVariants as fault
use Rattle.witness.specs.Sittings.{IsWantOfRoom}

-- by a failure of another kind
pub want_of : (Failed More : Type 0) (why : SolverFault) → (Failed → More) → IsWantOfRoom Failed why → IsWantOfRoom More why
want_of Failed More fault.Disk so want = so want
want_of Failed More fault.OutOfMemory so want = tt
want_of Failed More fault.TableFull so want = tt
want_of Failed More (fault.Game game_fault.OutOfMemory) so want = tt
want_of Failed More why so want = absurd want

-- a count that grew since a later moment grew since an earlier one
grew_since : (first mid last : ℕ) → first ≤ mid → Grew mid last → Grew first last
grew_since first mid last le (inl less) = inl (omega (arith, le, less))
grew_since first mid last le (inr end) = inr end

pub want_since : (first mid last : ℕ) (why : SolverFault) → first ≤ mid → IsWantOfRoom (Grew mid last) why → IsWantOfRoom (Grew first last) why
want_since first mid last why le want = want_of (Grew mid last) (Grew first last) why (grew_since first mid last le) want
