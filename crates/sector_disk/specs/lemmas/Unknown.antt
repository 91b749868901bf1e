-- A longer disk of which no byte is stated goes on from a shorter one.
use Rattle.std.specs.Prelude.{◌≡◌, ℕ, zero, suc, ◌≤◌, List, [], ◌∷◌, ◌++◌, length, take, drop, replicate, true, None}
use Rattle.std.proofs.Common.{refl, sym, ◌∙◌, ap, inl, inr, arith, length-append}
use Rattle.std.proofs.lemmas.Bool.{cases_lt}
use Rattle.std.proofs.lemmas.List.{length-replicate, take-replicate, take-append-le, drop-append-le}
use Rattle.sector_disk.specs.declared.log.Event.{Event}
use Rattle.sector_disk.specs.declared.log.Event.TheVariants.{Extended}
use Rattle.sector_disk.specs.Disk.{Image, Extends, GoesOn}
use Rattle.sector_disk.specs.Unknown.{grown, unknown_disk}
use Rattle.sector_disk.specs.Past.{before, undone, synced_after, end_after, lasting_of, shown_at}

undone-push : (events : List Event) (event : Event) (image : Image) → undone (events ++ event ∷ []) image ≡ undone events (before event image)
undone-push [] event image = refl
undone-push (e ∷ events) event image = ap (before e) (undone-push events event image)

-- what was shown before is shown as before
pub past : (events : List Event) (event : Event) (old new : Image) → before event new ≡ old
    → (k : ℕ) → k ≤ length events → shown_at (events ++ event ∷ []) new k ≡ shown_at events old k
past events event old new back k le =
    let contents : undone (drop k (events ++ event ∷ [])) new ≡ undone (drop k events) old =
    ap (λ (es : List Event). undone es new) (drop-append-le k events (event ∷ []) le) ∙ undone-push (drop k events) event new
    ∙ ap (undone (drop k events)) back in
    let first : take k (events ++ event ∷ []) ≡ take k events = take-append-le k events (event ∷ []) le in
    λ i. record {
      contents = contents i;
      synced = synced_after (λ k. true) (first i);
      lasting = lasting_of (end_after None (first i)) (contents i);
    }

-- this many extensions
pub length-grown : (sectors : ℕ) → length (grown sectors) ≡ sectors
unfolding grown
length-grown zero = refl
length-grown (suc n) = length-append (grown n) (Extended n ∷ []) ∙ omega (arith, length-grown n)

-- a longer disk shows of the past what a shorter one shows
same_past : (old new k : ℕ) → k ≤ old → old ≤ new
    → shown_at (grown new) (replicate new []) k ≡ shown_at (grown old) (replicate old []) k
unfolding grown
same_past old zero k low le = let none : old ≡ zero = omega (arith, le) in ap (λ (n : ℕ). shown_at (grown n) (replicate n []) k) (sym none)
same_past old (suc new) k low le = elim (cases_lt old (suc new)) [
  | inl less ↦
      past (grown new) (Extended new) (replicate new []) (replicate (suc new) []) (take-replicate new (suc new) [] (omega arith)) k
      (omega (arith, low, less, length-grown new))
      ∙ same_past old new k low (omega (arith, less))
  | inr more ↦ let same : old ≡ suc new = omega (arith, le, more) in ap (λ (n : ℕ). shown_at (grown n) (replicate n []) k) (sym same)
]

-- no fewer sectors
pub unknown_goes_on : (old new : ℕ) → old ≤ new → GoesOn (unknown_disk old) (unknown_disk new)
unknown_goes_on old new le = record {
  later = omega (arith, le, length-grown old, length-grown new);
  past = λ k low. same_past old new k (omega (arith, low, length-grown old)) le;
  honest = refl;
  failed_writes = omega arith;
}

-- a call that makes it longer; at a disk that is not honest nothing is said of moments
pub unknown_extends : (old new most : ℕ) → old ≤ new → new ≤ most → Extends most (unknown_disk old) (unknown_disk new)
unknown_extends old new most le within = record {
  goes_on = unknown_goes_on old new le;
  moments = λ honest. absurd (cc);
  no_shorter = omega (arith, le, length-replicate {A = List ℕ} old [], length-replicate {A = List ℕ} new []);
  no_longer = omega (arith, within, length-replicate {A = List ℕ} new []);
}
