-- What a table tells of a position, as a certificate claims it.
use Rattle.std.specs.Prelude.{◌≡◌, ℕ, List}
use Rattle.best_line.specs.declared.answers.Value.{Value}
use Rattle.best_line.specs.declared.answers.Value.TheVariants as value
use Rattle.certificate.specs.declared.claim.Claimed.{Claimed}
use Rattle.certificate.specs.declared.claim.Claimed.TheVariants as claimed
use Rattle.game_file.specs.Kept.{Kept}
use Rattle.solver.specs.Queries.{HasText, HasValueAt}

-- the same player wins in as many moves, or nobody does
abbrev pub IsToldAs : Value → Claimed → Type 0
IsToldAs (value.Won w n) (claimed.Won v m) = (w ≡ v) × (n ≡ m)
IsToldAs value.Drawn claimed.Drawn = Unit {0}
IsToldAs _ _ = ⊥

-- the table is of the game in this text, and the position with this number has this text and this value
pub record IsToldOf (number : ℕ) (text position : List ℕ) (claim : Claimed) (kept : Kept) : Type 0 where
  pub text_is : kept.text ≡ text
  pub position_is : HasText number position kept
  pub value : Value
  pub value_is : HasValueAt number value kept
  pub claim_is : IsToldAs value claim
