-- What came of the lists behind a head.
use Rattle.std.specs.Prelude.{ℕ, List, All, Option}
use Rattle.rbg_text.specs.Token.{Text}
use Rattle.rbg_game.specs.Games.{Game}
use Rattle.position_pack.specs.declared.kind.PackingKind.TheVariants.{Bits}
use Rattle.rbg_read.specs.Reads.{Fault}
use Rattle.rbg_read.specs.declared.fault.GameFault.{GameFault}
use Rattle.legal_moves.specs.Sources.{IsPositionBytes, IsWideAt, graph_of}
use Rattle.certificate.specs.Format.{HasLists, Line}
use Rattle.certificate.specs.Lists.{lines_in}
use Rattle.certificate.specs.Refusals.{AreUnread}
use Rattle.certificate.specs.Right.{AreShown}
use Rattle.certificate.specs.Shown.{AreNarrow, IsUnshown}
use Rattle.certificate.specs.lemmas.Parts.{AllFit}
use Rattle.certificate.specs.declared.claim.Claimed.{Claimed}
use Rattle.certificate.specs.declared.fault.CertificateFault.{CertificateFault}
use Rattle.certificate.specs.declared.fault.CertificateFault.TheVariants.{NoGame, OutOfMemory}
use Rattle.certificate.specs.declared.ranked.Ranked.{Ranked}

-- a text is no game, or memory ran out as it was read
pub data IsNoGame (text : Text) : CertificateFault → Type 0 where
  no_game : (why : GameFault) → Fault text why → IsNoGame text (NoGame why)
  no_memory : IsNoGame text OutOfMemory

-- the lines have the bytes of positions of the game
abbrev pub AreAllAt : Game → List Line → Type 0
AreAllAt game = All (λ (line : Line). IsPositionBytes Bits game line.at)

-- the two lists that were read
pub record AreReadLists (game : Game) (claimed : Claimed) (behind : List ℕ) (first second : List Ranked) : Type 0 where
  pub has : HasLists game claimed behind (lines_in first) (lines_in second)
  pub first_fit : AllFit first
  pub second_fit : AllFit second
  pub first_at : AreAllAt game (lines_in first)
  pub second_at : AreAllAt game (lines_in second)

-- the lists behind a head are written as they have to be, and show what is claimed of x
pub record AreTheLists (game : Game) (goal : Option ℕ) (claimed : Claimed) (x behind : List ℕ) : Type 0 where
  pub first : List Line
  pub second : List Line
  pub has : HasLists game claimed behind first second
  pub first_at : AreAllAt game first
  pub second_at : AreAllAt game second
  pub shown : AreShown (graph_of Bits goal game) claimed x first second
  pub narrow : AreNarrow (IsWideAt Bits game) claimed first second

-- the lists are not read, or do not show what is claimed
pub data IsNotShown (game : Game) (goal : Option ℕ) (claimed : Claimed) (x behind : List ℕ) : CertificateFault → Type 0 where
  unread : (fault : CertificateFault) → AreUnread game claimed behind fault → IsNotShown game goal claimed x behind fault
  unshown : (first second : List Line) (fault : CertificateFault) → HasLists game claimed behind first second
      → IsUnshown (graph_of Bits goal game) (IsWideAt Bits game) claimed x first second fault → IsNotShown game goal claimed x behind fault
