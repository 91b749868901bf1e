-- What the lists of a certificate have to show, and why they do not.
use Rattle.std.specs.Prelude.{◌≢◌, ℕ, List, All, Contains}
use Rattle.rbg_game.specs.declared.roles.Player.{Player}
use Rattle.retrograde.specs.Graph.{Graph}
use Rattle.certificate.specs.Format.{Line, first_manner, second_manner, first_player, second_player}
use Rattle.certificate.specs.Lists.{Has}
use Rattle.certificate.specs.Strategies.{GoesDown, IsHeld, IsHeldFor, RanksFrom}
use Rattle.certificate.specs.declared.claim.Claimed.{Claimed}
use Rattle.certificate.specs.declared.claim.Claimed.TheVariants.{Won, Drawn}
use Rattle.certificate.specs.declared.fault.CertificateFault.{CertificateFault}
use Rattle.certificate.specs.declared.fault.CertificateFault.TheVariants.{DoesNotFollow, NotShown, TooWide, OutOfMemory}
use Rattle.certificate.specs.declared.manner.Manner.{Manner}
use Rattle.certificate.specs.declared.manner.Manner.TheVariants.{AtMost, AtLeast, Never}
use Rattle.certificate.specs.declared.manner.TheConstants.{NEVER}

-- a line of a list follows from the others: w goes down from it, or is held for as many moves as its rank, or is held in the list
abbrev pub Follows : Graph (List ℕ) → Manner → Player → List Line → Line → Type 0
Follows graph AtMost w list line = GoesDown graph w (Has list) line.at line.rank
Follows graph AtLeast w list line = IsHeldFor graph w (Has list) line.at line.rank
Follows graph Never w list line = IsHeld graph w (RanksFrom (Has list) NEVER) line.at

-- a list has the position that is claimed to be won in n moves with such a rank: n, or n or more; in `never` with the rank that all have
abbrev pub ShowsRank : Manner → List Line → List ℕ → ℕ → Type 0
ShowsRank AtMost list x n = Has list x n
ShowsRank AtLeast list x n = RanksFrom (Has list) n x
ShowsRank Never list x n = RanksFrom (Has list) NEVER x

-- the number of moves that is claimed, which is none of a draw
abbrev pub claimed_moves : Claimed → ℕ
claimed_moves (Won w n) = n
claimed_moves Drawn = 0

-- the moves of a line's position are looked for: of each but one that is held for no move
abbrev pub IsSearched : Manner → Line → Type 0
IsSearched AtMost line = Unit {0}
IsSearched AtLeast line = line.rank ≢ 0
IsSearched Never line = Unit {0}

-- no such search is too wide: at the lines of one list, and of both
abbrev pub IsListNarrow : (List ℕ → Type 0) → Manner → List Line → Type 0
IsListNarrow Wide manner list = All (λ (line : Line). IsSearched manner line → ¬ Wide line.at) list

abbrev pub AreNarrow : (List ℕ → Type 0) → Claimed → List Line → List Line → Type 0
AreNarrow Wide claimed first second = IsListNarrow Wide (first_manner claimed) first × IsListNarrow Wide (second_manner claimed) second

-- one of the two lists: what it says, and of whom
pub data IsList (claimed : Claimed) (first second : List Line) : Manner → Player → List Line → Type 0 where
  the_first : IsList claimed first second (first_manner claimed) (first_player claimed) first
  the_second : IsList claimed first second (second_manner claimed) (second_player claimed) second

-- why the lines of a list are refused: one does not follow; or the search for the moves of one is too wide, or memory ran out
pub data IsUnfollowed (graph : Graph (List ℕ)) (Wide : List ℕ → Type 0) (manner : Manner) (w : Player) (list : List Line)
    : CertificateFault → Type 0 where
  not_followed : (line : Line) → Contains list line → ¬ Follows graph manner w list line → IsUnfollowed graph Wide manner w list DoesNotFollow
  too_wide : (line : Line) → Contains list line → IsSearched manner line → Wide line.at → IsUnfollowed graph Wide manner w list TooWide
  no_memory : IsUnfollowed graph Wide manner w list OutOfMemory

-- why two lists do not show what is claimed of x: the lines of one are refused, or it has not x with such a rank
pub data IsUnshown (graph : Graph (List ℕ)) (Wide : List ℕ → Type 0) (claimed : Claimed) (x : List ℕ) (first second : List Line)
    : CertificateFault → Type 0 where
  unfollowed : (manner : Manner) (w : Player) (list : List Line) (fault : CertificateFault) → IsList claimed first second manner w list
      → IsUnfollowed graph Wide manner w list fault → IsUnshown graph Wide claimed x first second fault
  not_there : (manner : Manner) (w : Player) (list : List Line) → IsList claimed first second manner w list
      → ¬ ShowsRank manner list x (claimed_moves claimed) → IsUnshown graph Wide claimed x first second NotShown
