-- What a row of calls counts of its failures.
use Rattle.std.proofs.Common.{◌≡◌, inl, inr, ℕ, ◌≤◌, Bool, true, false, ◌∙◌, arith}
use Rattle.sector_disk.specs.Disk.{Grew}
use Rattle.file_disk.specs.Failures.{TellsFailure}

-- nothing failed
pub spares : {before now : ℕ} → now ≡ before → TellsFailure true before now
spares same = record { later = omega arith; spared = same; grew = tt }

-- it grew behind, so it grew
pub grew_since : (before mid now : ℕ) → before ≤ mid → Grew mid now → Grew before now
grew_since before mid now later (inl less) = inl (omega arith)
grew_since before mid now later (inr most) = inr most

-- a call after calls that were done
pub tells_then : (done : Bool) {before mid now : ℕ} → mid ≡ before → TellsFailure done mid now → TellsFailure done before now
tells_then true same tells = record { later = omega (arith, tells.later); spared = tells.spared ∙ same; grew = tt }
tells_then false {before = before} {mid = mid} {now = now} same tells = record {
  later = omega (arith, tells.later);
  spared = tt;
  grew = grew_since before mid now (omega arith) tells.grew;
}
