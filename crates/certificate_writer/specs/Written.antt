-- What a certificate says that was written.
use Rattle.std.specs.Prelude.{◌≡◌, ℕ, List, Option, Some}
use Rattle.rbg_text.specs.Token.{Text}
use Rattle.best_line.specs.declared.answers.Value.{Value}
use Rattle.certificate.specs.Right.{IsAcceptable}
use Rattle.certificate.specs.declared.claim.Claimed.{Claimed}
use Rattle.game_file.specs.Kept.{Kept}
use Rattle.solver.specs.Queries.{HasText, HasValueAt}
use Rattle.certificate_writer.specs.Told.{IsToldAs}

-- the bytes are a certificate that is accepted, with this goal and this text of a game, and claims this of the position with this text
pub record IsCertificateOf (bytes : List ℕ) (goal : Option ℕ) (text : Text) (position : List ℕ) (claim : Claimed) : Type 0 where
  pub acceptable : IsAcceptable bytes (Some text)
  pub goal_is : acceptable.shows.b.goal ≡ goal
  pub position_is : acceptable.shows.b.position ≡ position
  pub claim_is : acceptable.shows.claimed ≡ claim

-- the bytes are a certificate that is accepted, with the goal and the text of a table, and claims what the table tells of the position with
-- this number
pub record IsCertificateFrom (number : ℕ) (bytes : List ℕ) (kept : Kept) : Type 0 where
  pub acceptable : IsAcceptable bytes (Some kept.text)
  pub goal_is : acceptable.shows.b.goal ≡ kept.goal
  pub position_is : HasText number acceptable.shows.b.position kept
  pub value : Value
  pub value_is : HasValueAt number value kept
  pub claim_is : IsToldAs value acceptable.shows.claimed
