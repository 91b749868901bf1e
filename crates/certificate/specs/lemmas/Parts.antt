-- Parts of a certificate, as they are read one after another, and why they are not.
use Rattle.std.specs.Prelude.{◌≡◌, ◌≢◌, ℕ, ◌≤◌, ◌<◌, ◌^◌, List, [], ◌∷◌, ◌++◌, length, map, codes, All, Option, None}
use Rattle.std.specs.Fmt.{decimal}
use Rattle.base64.specs.GeneralPurpose.{IsBytes}
use Rattle.rbg_text.specs.Token.{Text}
use Rattle.rbg_game.specs.declared.position.Position.{Position}
use Rattle.position_pack.specs.Packings.{Form, IsPacked}
use Rattle.position_pack.specs.declared.limits.TheConstants.{MAX_PACKED}
use Rattle.certificate.specs.Claims.{goal_line}
use Rattle.certificate.specs.Format.{AreLines, Ascends, IsGoal, IsLine, Line, letters, line_text, list_lines, words_of}
use Rattle.certificate.specs.Lists.{line_of, lines_in}
use Rattle.certificate.specs.declared.fault.CertificateFault.{CertificateFault}
use Rattle.certificate.specs.declared.fault.CertificateFault.TheVariants.{Malformed, NoPosition, OutOfMemory}
use Rattle.certificate.specs.declared.manner.Manner.{Manner}
use Rattle.certificate.specs.declared.manner.Manner.TheVariants.{AtMost, AtLeast, Never}
use Rattle.certificate.specs.declared.manner.TheConstants.{NEVER}
use Rattle.certificate.specs.declared.ranked.Ranked.{Ranked}

-- the byte stands between the front and the back, in which it is not
pub record IsSplitAtLast (byte : ℕ) (text front back : List ℕ) : Type 0 where
  pub back_lacks : All (λ b. b ≢ byte) back
  pub text_is : text ≡ front ++ byte ∷ back

-- the bytes begin with the line of this goal, or with none
pub record IsGoalOf (bytes : List ℕ) (goal : Option ℕ) (rest : List ℕ) : Type 0 where
  pub is : IsGoal goal
  pub bytes_are : bytes ≡ goal_line goal ++ rest
  pub none_is : goal ≡ None → (more : List ℕ) → bytes ≢ codes "goal " ++ more

-- the line with the length of a text, the text, and the rest
abbrev pub text_part : Text → List ℕ → List ℕ
text_part text rest = codes "text " ++ (decimal (length text) ++ (10 ∷ (text ++ (10 ∷ rest))))

-- a list ends where nothing is left, or an empty line follows
abbrev pub EndsList : List (List ℕ) → Type 0
EndsList [] = Unit {0}
EndsList (line ∷ rest) = line ≡ []

-- no position has more bytes than there is room for
abbrev pub AllFit : List Ranked → Type 0
AllFit = All (λ (r : Ranked). length r.at.items ≤ MAX_PACKED)

-- each has the bytes of a position
abbrev pub AreOfPositions : Form → List Ranked → Type 0
AreOfPositions form = All (λ (r : Ranked). (at : Position) × IsPacked form at r.at.items)

-- lists whose positions can be asked for their moves, and be found
pub record AreAsked (list : List Ranked) : Type 0 where
  pub ascending : Ascends (lines_in list)
  pub fit : AllFit list

-- the parts of a line: the letters of the position, and its rank
abbrev pub AreParts : Manner → List ℕ → List ℕ → ℕ → Type 0
AreParts AtMost text front rank = (rank < 2 ^ 32) × (text ≡ front ++ 32 ∷ decimal rank)
AreParts AtLeast text front rank = (rank < 2 ^ 32) × (text ≡ front ++ 32 ∷ decimal rank)
AreParts Never text front rank = (rank ≡ NEVER) × (text ≡ front)

-- these are no letters of bytes
pub data IsLettersRefused (text : List ℕ) : CertificateFault → Type 0 where
  no_letters : ((bytes : List ℕ) → IsBytes bytes → text ≢ letters bytes) → IsLettersRefused text Malformed
  no_memory : IsLettersRefused text OutOfMemory

-- a line that was read
pub record IsReadLine (manner : Manner) (text : List ℕ) (ranked : Ranked) : Type 0 where
  pub is : IsLine manner (line_of ranked)
  pub text_is : text ≡ line_text manner (line_of ranked)
  pub fits : length ranked.at.items ≤ MAX_PACKED

-- a text is no line, or one of no position
pub data IsLineRefused (form : Form) (manner : Manner) (text : List ℕ) : CertificateFault → Type 0 where
  no_line : ((line : Line) → IsLine manner line → text ≢ line_text manner line) → IsLineRefused form manner text Malformed
  no_position : (line : Line) → IsLine manner line → text ≡ line_text manner line → ((at : Position) → ¬ IsPacked form at line.at)
      → IsLineRefused form manner text NoPosition
  no_memory : IsLineRefused form manner text OutOfMemory

-- lines that were read, in front of others
pub record AreReadLines (manner : Manner) (texts : List (List ℕ)) (list : List Ranked) (rest : List (List ℕ)) : Type 0 where
  pub are : AreLines manner (lines_in list)
  pub texts_are : texts ≡ map (line_text manner) (lines_in list) ++ rest
  pub fit : AllFit list

-- texts are not the lines of a list in front of its end, or one is of no position
pub data AreLinesRefused (form : Form) (manner : Manner) (texts : List (List ℕ)) : CertificateFault → Type 0 where
  no_lines : ((list : List Line) (rest : List (List ℕ)) → AreLines manner list → EndsList rest
      → texts ≢ map (line_text manner) list ++ rest) → AreLinesRefused form manner texts Malformed
  no_position : (before : List Line) (line : Line) (rest : List (List ℕ)) → All (IsLine manner) before → IsLine manner line
      → texts ≡ map (line_text manner) before ++ line_text manner line ∷ rest → ((at : Position) → ¬ IsPacked form at line.at)
      → AreLinesRefused form manner texts NoPosition
  no_memory : AreLinesRefused form manner texts OutOfMemory

-- a list that was read
pub record IsReadList (manner : Manner) (name : List ℕ) (texts : List (List ℕ)) (list : List Ranked) (rest : List (List ℕ)) : Type 0 where
  pub are : AreLines manner (lines_in list)
  pub texts_are : texts ≡ list_lines manner name (lines_in list) ++ rest
  pub ends : EndsList rest
  pub fit : AllFit list

-- texts do not begin as this list does, or its lines are refused
pub data IsListRefused (form : Form) (manner : Manner) (name : List ℕ) (texts : List (List ℕ)) : CertificateFault → Type 0 where
  no_heading : ((rest : List (List ℕ)) → texts ≢ [] ∷ (words_of manner ++ name) ∷ rest) → IsListRefused form manner name texts Malformed
  no_lines : (rest : List (List ℕ)) (fault : CertificateFault) → texts ≡ [] ∷ (words_of manner ++ name) ∷ rest
      → AreLinesRefused form manner rest fault → IsListRefused form manner name texts fault
