-- How many positions are known, from one call to the next.
use Rattle.std.proofs.Common.{◌≡◌, ℕ, ◌+◌, ◌-◌, ◌≤◌, ◌<◌, ap, arith}
use Rattle.retrograde.specs.declared.records.Counts.{Counts}

pub below : (n m k : ℕ) → n < m → m ≤ k → n < k
below n m k less le = omega arith

pub full_or_not : (n m : ℕ) → n < m → m ≤ n → ⊥
full_or_not n m less le = omega arith

-- what the code has read, what the table counted then, and what it counts after calls that only read
module _ (read first now : Counts) (same : read ≡ first) (still : now ≡ first) where
  known_read : read.known ≡ first.known
  known_read = ap (λ (k : Counts). k.known) same

  known_now : now.known ≡ first.known
  known_now = ap (λ (k : Counts). k.known) still

  expanded_read : read.expanded ≡ first.expanded
  expanded_read = ap (λ (k : Counts). k.expanded) same

  -- the position that waits is known
  pub waits : first.expanded < first.known → read.expanded < now.known
  waits waiting = omega (arith, expanded_read, known_now)

  module _ (noted : ℕ) (more : now.known ≤ noted) where
    pub waits_still : first.expanded < first.known → read.expanded < noted
    waits_still waiting = omega (arith, expanded_read, known_now)

    module _ (last after : Counts) (kept : last.known ≡ noted) (seen : after ≡ last) where
      known_after : after.known ≡ last.known
      known_after = ap (λ (k : Counts). k.known) seen

      pub grew : read.known ≤ after.known
      grew = omega (arith, known_read, known_now, known_after)

      -- this many are known more
      pub more_known : (old new : ℕ) → first.known ≡ old → last.known ≡ new → new ≡ old + (after.known - read.known)
      more_known old new old_is new_is = omega (arith, known_read, known_now, known_after, grew)
