-- Certificates that were made and checked.
use Rattle.std.proofs.Common.{◌≡◌, ◌++◌, sym, subst, ℕ, List, Option, None, Some}
use Rattle.rbg_text.specs.Token.{Text}
use Rattle.rbg_game.specs.Goals.{points_of}
use Rattle.rbg_game.specs.declared.goal.Goal.{Goal}
use Rattle.certificate.specs.Claims.{IsTheGiven, head_of}
use Rattle.certificate.specs.Format.{IsGoal}
use Rattle.certificate.specs.Right.{IsAcceptable, ShowsThis}
use Rattle.certificate.specs.declared.claim.Claimed.{Claimed}
use Rattle.certificate.proofs.HeadLemmas.{goal_written}
use Rattle.game_file.specs.Kept.{Kept, goal_kept}
use Rattle.solver.specs.Queries.{HasText, OfKept}
use Rattle.certificate_writer.specs.Told.{IsToldAs, IsToldOf}
use Rattle.certificate_writer.specs.Written.{IsCertificateFrom, IsCertificateOf}

-- one that is accepted beside a text is accepted alone, and beside that text wherever it is given
pub beside : (bytes : List ℕ) (text : Text) (given : Option Text) → IsTheGiven given text → IsAcceptable bytes (Some text) → IsAcceptable bytes given
beside bytes text given is here =
    let s = here.shows in
    record {
      shows = record {
        short = s.short;
        b = s.b;
        game = s.game;
        at = s.at;
        claimed = s.claimed;
        claims = s.claims;
        is_given = subst (IsTheGiven given) (sym s.is_given) is;
        first = s.first;
        second = s.second;
        has = s.has;
        first_are = s.first_are;
        second_are = s.second_are;
        shown = s.shown;
      };
      narrow = here.narrow;
    }

-- a goal is one of a certificate
pub can_stand : (goal : Option Goal) → IsGoal (points_of goal)
can_stand None = tt
can_stand (Some goal) = (goal.some, goal.few)

-- what was made and then accepted has the goal, the text, the position and the value that it was made of
pub made : (bytes : List ℕ) (goal : Option ℕ) (text : Text) (position value lists : List ℕ) (claim : Claimed) → IsGoal goal
    → bytes ≡ head_of goal text position value ++ lists → ShowsThis bytes (Some text) position claim → IsCertificateOf bytes goal text position claim
made bytes goal text position value lists claim is same shown = record {
  acceptable = shown.acceptable;
  goal_is = goal_written bytes shown.acceptable.shows.b goal text position value lists shown.acceptable.shows.claims.begins is same;
  position_is = shown.position_is;
  claim_is = shown.claimed_is;
}

module _ (number : ℕ) (bytes : List ℕ) (goal : Option ℕ) (text : Text) (position : List ℕ) (claim : Claimed)
    (of : IsCertificateOf bytes goal text position claim) where
  -- it is one of the table, if it was made of what that tells
  from_table : (kept : Kept) → IsToldOf number text position claim kept → goal ≡ kept.goal → IsCertificateFrom number bytes kept
  from_table kept told same =
      let one = subst (λ (t : Text). IsCertificateOf bytes goal t position claim) (sym told.text_is) of in
      let two = subst (λ (g : Option ℕ). IsCertificateOf bytes g kept.text position claim) same one in
      record {
        acceptable = two.acceptable;
        goal_is = two.goal_is;
        position_is = subst (λ (p : List ℕ). HasText number p kept) (sym two.position_is) told.position_is;
        value = told.value;
        value_is = told.value_is;
        claim_is = subst (IsToldAs told.value) (sym two.claim_is) told.claim_is;
      }

  pub from_kept : (kept : Option Kept) → OfKept (IsToldOf number text position claim) kept → goal ≡ goal_kept kept
      → OfKept (IsCertificateFrom number bytes) kept
  from_kept None told same = told
  from_kept (Some kept) told same = from_table kept told same
