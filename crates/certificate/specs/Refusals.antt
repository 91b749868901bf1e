-- Why a certificate is refused.
use Rattle.std.specs.Prelude.{◌≡◌, ◌≢◌, ℕ, ◌<◌, ◌^◌, List, ◌∷◌, ◌++◌, length, All, Option}
use Rattle.rbg_text.specs.Token.{Text}
use Rattle.rbg_game.specs.Games.{Game}
use Rattle.rbg_game.specs.declared.position.Position.{Position}
use Rattle.position_pack.specs.Packings.{packed_by}
use Rattle.position_pack.specs.Shape.{shape_of}
use Rattle.position_pack.specs.Spelled.{IsSpelled}
use Rattle.position_pack.specs.declared.kind.PackingKind.TheVariants.{Bits}
use Rattle.rbg_read.specs.Reads.{Reads, Fault}
use Rattle.rbg_read.specs.declared.fault.GameFault.{GameFault}
use Rattle.legal_moves.specs.Sources.{IsPositionBytes, IsWideAt, graph_of}
use Rattle.certificate.specs.Claims.{IsTheGiven, value_text}
use Rattle.certificate.specs.Format.{Beginning, Begins, HasLists, IsLine, Line, first_lines, first_manner, line_text, lines, second_lines, second_manner}
use Rattle.certificate.specs.Shown.{IsUnshown}
use Rattle.certificate.specs.declared.claim.Claimed.{Claimed}
use Rattle.certificate.specs.declared.claim.Claimed.TheVariants.{Won, Drawn}
use Rattle.certificate.specs.declared.fault.CertificateFault.{CertificateFault}
use Rattle.certificate.specs.declared.fault.CertificateFault.TheVariants.{Malformed, NoGame, OtherGame, NoPosition, OutOfMemory}
use Rattle.certificate.specs.declared.limits.TheConstants.{MAX_CERTIFICATE_BYTES}

-- the number of moves is below 2^32
abbrev pub IsClaimCounted : Claimed → Type 0
IsClaimCounted (Won w n) = n < 2 ^ 32
IsClaimCounted Drawn = Unit {0}

-- why a head claims nothing of a game: what stands there is the text of none of its positions, or of no value
pub data IsUnclaimed (game : Game) (position value : List ℕ) : CertificateFault → Type 0 where
  no_position : ((at : Position) → ¬ IsSpelled game at position) → IsUnclaimed game position value NoPosition
  no_value : ((claimed : Claimed) → IsClaimCounted claimed → value ≢ value_text game claimed) → IsUnclaimed game position value Malformed

-- what a certificate claims: it begins so, the text reads to this game, and this is claimed of this position of it
pub record Claims (certificate : List ℕ) (b : Beginning) (game : Game) (at : Position) (claimed : Claimed) : Type 0 where
  pub begins : Begins certificate b
  pub reads : Reads b.text game
  pub spelled : IsSpelled game at b.position
  pub named : b.value ≡ value_text game claimed
  pub counted : IsClaimCounted claimed

-- a line that reading comes to behind the head: of the first list, behind others of it; or of the second, behind the first
pub data ReadingComesTo (game : Game) (claimed : Claimed) (behind : List ℕ) : Line → Type 0 where
  in_first : (before : List Line) (line : Line) (rest : List (List ℕ)) → All (IsLine (first_manner claimed)) before
      → IsLine (first_manner claimed) line
      → lines behind ≡ first_lines game claimed before ++ line_text (first_manner claimed) line ∷ rest → ReadingComesTo game claimed behind line
  in_second : (first before : List Line) (line : Line) (rest : List (List ℕ)) → All (IsLine (first_manner claimed)) first
      → All (IsLine (second_manner claimed)) before → IsLine (second_manner claimed) line
      → lines behind ≡ first_lines game claimed first ++ second_lines game claimed before ++ line_text (second_manner claimed) line ∷ rest
      → ReadingComesTo game claimed behind line

-- why the lists behind a head are not read: they are not written as they have to be; or a line has the bytes of no position of the game
pub data AreUnread (game : Game) (claimed : Claimed) (behind : List ℕ) : CertificateFault → Type 0 where
  no_lists : ((first second : List Line) → ¬ HasLists game claimed behind first second) → AreUnread game claimed behind Malformed
  no_position : (line : Line) → ReadingComesTo game claimed behind line → ¬ IsPositionBytes Bits game line.at
      → AreUnread game claimed behind NoPosition
  no_memory : AreUnread game claimed behind OutOfMemory

-- why a certificate is refused, beside which the text of a game may be given. Only want of memory has no cause in it
pub data IsCertificateRefused (certificate : List ℕ) (given : Option Text) : CertificateFault → Type 0 where
  too_long : MAX_CERTIFICATE_BYTES < length certificate → IsCertificateRefused certificate given Malformed
  no_beginning : ((b : Beginning) → ¬ Begins certificate b) → IsCertificateRefused certificate given Malformed
  no_game : (b : Beginning) (why : GameFault) → Begins certificate b → Fault b.text why → IsCertificateRefused certificate given (NoGame why)
  other_game : (b : Beginning) (game : Game) → Begins certificate b → Reads b.text game → ¬ IsTheGiven given b.text
      → IsCertificateRefused certificate given OtherGame
  no_claim : (b : Beginning) (game : Game) (fault : CertificateFault) → Begins certificate b → Reads b.text game
      → IsUnclaimed game b.position b.value fault → IsCertificateRefused certificate given fault
  no_lists : (b : Beginning) (game : Game) (at : Position) (claimed : Claimed) (fault : CertificateFault)
      → Claims certificate b game at claimed → AreUnread game claimed b.behind fault → IsCertificateRefused certificate given fault
  not_shown : (b : Beginning) (game : Game) (at : Position) (claimed : Claimed) (first second : List Line) (fault : CertificateFault)
      → Claims certificate b game at claimed → HasLists game claimed b.behind first second
      → IsUnshown (graph_of Bits b.goal game) (IsWideAt Bits game) claimed (packed_by Bits (shape_of game) at) first second fault
      → IsCertificateRefused certificate given fault
  no_memory : IsCertificateRefused certificate given OutOfMemory
