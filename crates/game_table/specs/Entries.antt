-- Why a page is wanting: how many entries so many units of work write at most.
use Rattle.std.specs.Prelude.{◌≡◌, ℕ, zero, suc, ◌+◌, ◌*◌, ◌<◌, ◌≤◌, List, length, Contains}
use Rattle.retrograde.specs.Graph.{Graph, IsReachable}
use Rattle.retrograde.specs.Sound.{IsLocallySound}
use Rattle.retrograde.specs.Stored.{Stored}
use Rattle.frontier.specs.Entries.{WritesAtMost}
use Rattle.game_table.specs.Units.{IsUnit}
use Rattle.table.specs.declared.limits.TheConstants.{PAGES_PER_ENTRY}

-- this many units, one after another, each on a locally sound table, lead from the one table to the other, and write at most this many entries
-- in all
abbrev pub WriteAtMost : Graph (List ℕ) → (List ℕ → Type 0) → Stored (List ℕ) → ℕ → Stored (List ℕ) → ℕ → Type 0
WriteAtMost graph IsWide old zero new entries = (new ≡ old) × (entries ≡ 0)
WriteAtMost graph IsWide old (suc n) new entries =
    (mid : Stored (List ℕ)) × (before : ℕ) × (last : ℕ) × WriteAtMost graph IsWide old n mid before × IsLocallySound graph IsWide mid
    × IsUnit graph mid new × WritesAtMost graph mid last × (entries ≡ before + last)

-- too few pages are free for so many units: fewer units than that, and the one behind them, may write so many entries that 49 pages for each
-- are no fewer than are free
pub record WantsPages (graph : Graph (List ℕ)) (IsWide : List ℕ → Type 0) (old : Stored (List ℕ)) (units free : ℕ) : Type 0 where
  pub done : ℕ
  pub fewer : done < units
  pub reached : Stored (List ℕ)
  pub before : ℕ
  pub write : WriteAtMost graph IsWide old done reached before
  pub sound : IsLocallySound graph IsWide reached
  pub next : ℕ
  pub writes : WritesAtMost graph reached next
  pub few : free ≤ PAGES_PER_ENTRY * (before + next)

-- there are no more such positions than this: a list of no more has each
pub record AreAtMost {P : Type 0} (n : ℕ) (IsSuch : P → Type 0) : Type 0 where
  pub positions : List P
  pub as_many : length positions ≤ n
  pub each : (x : P) → IsSuch x → Contains positions x

-- from a position that play can come to a move leads to no more positions than this, and to it from no more that play can come to
pub record HasAtMostMoves {P : Type 0} (graph : Graph P) (n : ℕ) : Type 0 where
  pub from : (x : P) → IsReachable graph x → AreAtMost n (λ y. graph.Successor x y)
  pub to : (x : P) → IsReachable graph x → AreAtMost n (λ y. IsReachable graph y × graph.Successor y x)

-- so many pages are enough for so many units in a game with no more moves than this
abbrev pub pages_taken : ℕ → ℕ → ℕ
pages_taken moves units = PAGES_PER_ENTRY * (units * (3 * moves + 2))
