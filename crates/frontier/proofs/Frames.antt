-- What calls to a table leave of it, one after another.
use Rattle.std.proofs.Common.{arith}
use Rattle.retrograde.specs.declared.records.Counts.{Counts}
use Rattle.table.specs.Frames.{IsWritten}
use Rattle.table.specs.declared.fault.TableFault.{TableFault}
use Rattle.frontier.specs.declared.fault.StepFault.{StepFault}
use Rattle.frontier.specs.declared.fault.StepFault.TheVariants.{Inconsistent, OutOfMemory, Table}
use Rattle.frontier.specs.Frames.{IsGrown, IsGivenUp}
use Rattle.frontier.proofs.Exits.{leaves_after}

module _ {T : Type 0} {IsHonest : T → Type 0} {counted : T → Counts} {GoesOn : T → T → Type 0} where
  -- a call that adds no position
  pub as_grown : {a b : T} → IsWritten IsHonest counted GoesOn a b → IsGrown IsHonest counted GoesOn a b
  as_grown wrote = record { honest = wrote.honest; more = omega (arith, wrote.known); room = λ few. omega (arith, wrote.known, few); ahead = wrote.ahead }

  -- one call after another
  pub grown_then : ((a b c : T) → GoesOn a b → GoesOn b c → GoesOn a c)
      → {a b c : T} → IsGrown IsHonest counted GoesOn a b → IsGrown IsHonest counted GoesOn b c → IsGrown IsHonest counted GoesOn a c
  grown_then on first second = record {
    honest = (λ h. second.honest.0 (first.honest.0 h), λ h. first.honest.1 (second.honest.1 h));
    more = omega (arith, first.more, second.more);
    room = λ few. second.room (first.room few);
    ahead = on _ _ _ first.ahead second.ahead;
  }

module _ {T : Type 0} {GoesOn : T → T → Type 0} {Fails : T → T → TableFault → Type 0} where
  -- by a fault of the table's own
  pub is_failed : {a b : T} {fault : TableFault} → Fails a b fault → IsGivenUp GoesOn Fails a b (Table fault)
  is_failed fails = record { goes_on = λ never. never; left = fails }

  -- since the table does not agree with itself
  pub in_conflict : {a b : T} → GoesOn a b → IsGivenUp GoesOn Fails a b Inconsistent
  in_conflict ahead = record { goes_on = λ never. never; left = ahead }

  -- for want of memory that is the caller's
  pub out_of_memory : {a b : T} → GoesOn a b → IsGivenUp GoesOn Fails a b OutOfMemory
  out_of_memory ahead = record { goes_on = λ never. never; left = ahead }

  -- after calls that were answered
  pub given_up_since : ((a b c : T) → GoesOn a b → GoesOn b c → GoesOn a c)
      → ((a b c : T) (fault : TableFault) → GoesOn a b → Fails b c fault → Fails a c fault)
      → {a b c : T} → GoesOn a b → {fault : StepFault} → IsGivenUp GoesOn Fails b c fault → IsGivenUp GoesOn Fails a c fault
  given_up_since on since {a} {b} {c} ahead {fault} stopped = record {
    goes_on = stopped.goes_on;
    left = leaves_after (GoesOn b c) (GoesOn a c) (Fails b c) (Fails a c) fault (on a b c ahead) (λ f. since a b c f ahead) stopped.left;
  }
