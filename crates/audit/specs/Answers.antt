-- What an answer of audit says.
use Rattle.std.specs.Prelude.{◌≡◌, ◌↔◌, ℕ, None}
use Rattle.rbg_game.specs.declared.roles.Player.{Player}
use Rattle.retrograde.specs.Graph.{Graph, IsReachable}
use Rattle.retrograde.specs.Values.{WonIn, Drawn}
use Rattle.retrograde.specs.View.{View, HasNumber, IsKnown, HasValue, IsFinished}
use Rattle.retrograde.specs.Stored.{Stored}
use Rattle.retrograde.specs.Verdicts as theory
use Rattle.audit.specs.declared.verdict.Reason.{Reason}
use Rattle.audit.specs.declared.verdict.Reason.TheVariants.{A1, A2, A3, A4, A5, A6, A7}
use Rattle.audit.specs.declared.verdict.Verdict.{Verdict}
use Rattle.audit.specs.declared.verdict.Verdict.TheVariants.{Right, Wrong}
use Rattle.audit.specs.Causes.{IsNarrow}

-- the condition with this code
abbrev pub reason_of : Reason → theory.Reason
reason_of A1 = theory.A1
reason_of A2 = theory.A2
reason_of A3 = theory.A3
reason_of A4 = theory.A4
reason_of A5 = theory.A5
reason_of A6 = theory.A6
reason_of A7 = theory.A7

-- the answer as a verdict
abbrev pub verdict_of : Verdict → theory.Verdict
verdict_of Right = theory.right
verdict_of (Wrong number reason) = theory.wrong number (theory.number_of (reason_of reason))

-- where the answer is that the table is right, no expanded position is too wide
abbrev pub IsNarrowIfRight : {P : Type 0} → (P → Type 0) → Stored P → Verdict → Type 0
IsNarrowIfRight IsWide stored Right = IsNarrow IsWide stored
IsNarrowIfRight IsWide stored (Wrong number reason) = Unit {0}

-- the answer is the verdict of what is stored
pub record IsAnswer {P : Type 0} (graph : Graph P) (IsWide : P → Type 0) (stored : Stored P) (answer : Verdict) : Type 0 where
  pub verdict : theory.IsVerdict graph stored (verdict_of answer)
  pub narrow : IsNarrowIfRight IsWide stored answer

-- what the table says is so in the game: the named player wins each settled position in exactly the named number of moves;
-- and where it is finished, it knows the positions that play can come to and no other, and leaves unsettled the drawn ones and
-- no other
pub record IsTableSo {P : Type 0} (graph : Graph P) (view : View P) : Type 0 where
  pub won : (x : P) (w : Player) (n : ℕ) → HasValue view x w n → WonIn graph w n x
  pub reached : IsFinished view → (x : P) → IsKnown view x ↔ IsReachable graph x
  pub drawn : IsFinished view → (i : ℕ) (x : P) → HasNumber view i x → (view.value i ≡ None) ↔ Drawn graph x
