-- What is so of a fault of the moves, by where it comes from.
use Rattle.std.proofs.Common.{◌≡◌, refl}
use Rattle.table.specs.Faults.{NeedsNoPage}
use Rattle.table.specs.declared.fault.TableFault.{TableFault}
use Rattle.legal_moves.specs.declared.fault.MoveFault.{MoveFault}
use Rattle.legal_moves.specs.declared.fault.MoveFault.TheVariants as search
use Rattle.best_line.specs.KnownCauses.{FaultOfTable, HasNoMoves, search_fault}
use Rattle.best_line.specs.declared.known_fault.KnownMovesFault.{KnownMovesFault}
use Rattle.best_line.specs.declared.known_fault.KnownMovesFault.TheVariants.{Inconsistent, TooWide, OutOfMemory, Table}

-- after calls that were answered
pub known_after : (Fails Since : TableFault → Type 0) (fault : KnownMovesFault) → ((f : TableFault) → Fails f → Since f) → FaultOfTable Fails fault
    → FaultOfTable Since fault
known_after Fails Since Inconsistent since it = tt
known_after Fails Since TooWide since it = tt
known_after Fails Since OutOfMemory since it = tt
known_after Fails Since (Table f) since it = since f it

module _ {None Wide : Type 0} {Fails : TableFault → Type 0} where
  -- one of the table's own
  pub moves_of_table : {fault : TableFault} → NeedsNoPage fault → Fails fault → HasNoMoves None Wide Fails (Table fault)
  moves_of_table room fails = record { none = λ is. absurd (cc); wide = λ is. absurd (cc); room = room; fault = fails }

  -- one of the search
  pub moves_of_search : (fault : MoveFault) → (fault ≡ search.TooWide → Wide) → HasNoMoves None Wide Fails (search_fault fault)
  moves_of_search search.TooWide wide = record { none = λ is. absurd (cc); wide = λ is. wide refl; room = tt; fault = tt }
  moves_of_search search.OutOfMemory wide = record { none = λ is. absurd (cc); wide = λ is. absurd (cc); room = tt; fault = tt }

  -- that the bytes are those of no position
  pub no_position_there : None → HasNoMoves None Wide Fails Inconsistent
  no_position_there none = record { none = λ is. none; wide = λ is. absurd (cc); room = tt; fault = tt }

  -- and one of telling the moves, after calls that were answered
  pub moves_untold : {Before : TableFault → Type 0} {fault : KnownMovesFault} → (¬ (fault ≡ Inconsistent)) × (¬ (fault ≡ TooWide))
      → ((f : TableFault) → Before f → Fails f) → FaultOfTable NeedsNoPage fault → FaultOfTable Before fault → HasNoMoves None Wide Fails fault
  moves_untold {Before} {fault} searched since room fails = record {
    none = λ is. absurd (searched.0 is);
    wide = λ is. absurd (searched.1 is);
    room = room;
    fault = known_after Before Fails fault since fails;
  }
