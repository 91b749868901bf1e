-- What calls to a table leave of it, one after another.
use Rattle.std.proofs.Common.{◌∙◌, ℕ, List, ap, refl}
use Rattle.retrograde.specs.declared.records.Counts.{Counts}
use Rattle.retrograde.specs.Stored.{Stored}
use Rattle.table.specs.Frames.{IsRead, IsWritten}

module _ {T : Type 0} {stored : T → Stored (List ℕ)} {IsHonest : T → Type 0} {counted : T → Counts} {Stays : T → T → Type 0} where
  -- before any call
  pub unread : ((t : T) → Stays t t) → (t : T) → IsRead stored IsHonest counted Stays t t
  unread here t = record { same = λ h. refl; honest = (λ h. h, λ h. h); counts = refl; stays = here t }

  -- one call that reads after another
  pub read_then : {a b c : T} → ((a b c : T) → Stays a b → Stays b c → Stays a c)
      → IsRead stored IsHonest counted Stays a b → IsRead stored IsHonest counted Stays b c → IsRead stored IsHonest counted Stays a c
  read_then then one more = record {
    same = λ h. more.same (one.honest.0 h) ∙ one.same h;
    honest = (λ h. more.honest.0 (one.honest.0 h), λ h. one.honest.1 (more.honest.1 h));
    counts = more.counts ∙ one.counts;
    stays = then _ _ _ one.stays more.stays;
  }

  -- one that reads leaves what one that writes may leave
  pub as_written : {GoesOn : T → T → Type 0} → ((a b : T) → Stays a b → GoesOn a b)
      → {a b : T} → IsRead stored IsHonest counted Stays a b → IsWritten IsHonest counted GoesOn a b
  as_written on read = record { honest = read.honest; known = ap (λ (k : Counts). k.known) read.counts; ahead = on _ _ read.stays }

-- one call that writes after another
pub written_then : {T : Type 0} {IsHonest : T → Type 0} {counted : T → Counts} {GoesOn : T → T → Type 0}
    → ((a b c : T) → GoesOn a b → GoesOn b c → GoesOn a c)
    → {a b c : T} → IsWritten IsHonest counted GoesOn a b → IsWritten IsHonest counted GoesOn b c → IsWritten IsHonest counted GoesOn a c
written_then on first second = record {
  honest = (λ h. second.honest.0 (first.honest.0 h), λ h. first.honest.1 (second.honest.1 h));
  known = second.known ∙ first.known;
  ahead = on _ _ _ first.ahead second.ahead;
}
