-- Certificates that show what they claim.
use Rattle.std.specs.Prelude.{◌≡◌, ℕ, ◌≤◌, List, length, All, Option}
use Rattle.rbg_text.specs.Token.{Text}
use Rattle.rbg_game.specs.Games.{Game}
use Rattle.rbg_game.specs.declared.position.Position.{Position}
use Rattle.rbg_game.specs.declared.roles.Player.TheVariants.{First, Second}
use Rattle.position_pack.specs.Packings.{packed_by}
use Rattle.position_pack.specs.Shape.{shape_of}
use Rattle.position_pack.specs.declared.kind.PackingKind.TheVariants.{Bits}
use Rattle.retrograde.specs.Graph.{Graph}
use Rattle.legal_moves.specs.Sources.{IsPositionBytes, IsWideAt, graph_of}
use Rattle.certificate.specs.Claims.{IsTheGiven}
use Rattle.certificate.specs.Format.{Beginning, HasLists, Line}
use Rattle.certificate.specs.Lists.{Has}
use Rattle.certificate.specs.Refusals.{Claims}
use Rattle.certificate.specs.Shown.{AreNarrow}
use Rattle.certificate.specs.Strategies.{IsDelay, IsSafeSet, IsStrategy, RanksFrom}
use Rattle.certificate.specs.declared.claim.Claimed.{Claimed}
use Rattle.certificate.specs.declared.claim.Claimed.TheVariants.{Won, Drawn}
use Rattle.certificate.specs.declared.limits.TheConstants.{MAX_CERTIFICATE_BYTES}
use Rattle.certificate.specs.declared.manner.TheConstants.{NEVER}

-- the lists show a win by a strategy of the winner and a delay, and a draw by a set that is safe from each player: x stands in both, in the
-- strategy with the number of moves as its rank, in the delay with that or a greater one
abbrev pub AreShown : Graph (List ℕ) → Claimed → List ℕ → List Line → List Line → Type 0
AreShown graph (Won w n) x first second =
    (IsStrategy graph w (Has first) × Has first x n) × (IsDelay graph w (Has second) × RanksFrom (Has second) n x)
AreShown graph Drawn x first second =
    (IsSafeSet graph First (RanksFrom (Has first) NEVER) × RanksFrom (Has first) NEVER x)
    × (IsSafeSet graph Second (RanksFrom (Has second) NEVER) × RanksFrom (Has second) NEVER x)

-- a certificate that is written as it has to be, of the game that was given if one was; whose lines have bytes of positions of the game; and
-- whose lists show what it claims
pub record ShowsItsClaim (certificate : List ℕ) (given : Option Text) : Type 0 where
  pub short : length certificate ≤ MAX_CERTIFICATE_BYTES
  pub b : Beginning
  pub game : Game
  pub at : Position
  pub claimed : Claimed
  pub claims : Claims certificate b game at claimed
  pub is_given : IsTheGiven given b.text
  pub first : List Line
  pub second : List Line
  pub has : HasLists game claimed b.behind first second
  pub first_are : All (λ (line : Line). IsPositionBytes Bits game line.at) first
  pub second_are : All (λ (line : Line). IsPositionBytes Bits game line.at) second
  pub shown : AreShown (graph_of Bits b.goal game) claimed (packed_by Bits (shape_of game) at) first second

-- a certificate that `check` accepts, but for want of memory: it shows its claim, and no search for the moves of its positions is too wide
pub record IsAcceptable (certificate : List ℕ) (given : Option Text) : Type 0 where
  pub shows : ShowsItsClaim certificate given
  pub narrow : AreNarrow (IsWideAt Bits shows.game) shows.claimed shows.first shows.second

-- and what it claims is this, of the position with this text
pub record ShowsThis (certificate : List ℕ) (given : Option Text) (position : List ℕ) (claimed : Claimed) : Type 0 where
  pub acceptable : IsAcceptable certificate given
  pub position_is : acceptable.shows.b.position ≡ position
  pub claimed_is : acceptable.shows.claimed ≡ claimed
