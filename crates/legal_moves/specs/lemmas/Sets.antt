-- Sets of pieces as bits.
use Rattle.std.specs.Prelude.{◌≡◌, ℕ, ◌<◌, true, List, Option, None, Some, is_some, length, slice_get, slice_index, Contains}
use Rattle.std.specs.Int.{bit_at}
use Rattle.rbg_game.specs.Rules.{Action, shift, on, off, assignment, comparison, switch, pattern}
use Rattle.rbg_game.specs.Meaning.{action_of}
use Rattle.legal_moves.specs.declared.automaton.table.Step.{Step}
use Rattle.legal_moves.specs.declared.automaton.table.Step.TheVariants.{Act, Ask}

-- the pieces of a set; none for another action
abbrev pub set_in : Action → Option (List ℕ)
set_in (shift l) = None
set_in (on xs) = Some xs
set_in (off x) = None
set_in (assignment v r) = None
set_in (comparison a op b) = None
set_in (switch r) = None
set_in (pattern positive e) = None

-- the same of a step
abbrev pub step_set : Step → Option (List ℕ)
step_set (Act x) = set_in (action_of x)
step_set (Ask positive i) = None

-- the number has the bit of each of the pieces that is below 64
abbrev pub HasBits : List ℕ → ℕ → Type 0
HasBits xs n = (k : ℕ) → k < length xs → slice_index xs k < 64 → bit_at n (slice_index xs k) ≡ 1

-- the step is a set, of whose pieces the number has the bits
abbrev pub AreBitsOf : Step → ℕ → Type 0
AreBitsOf s n = (is_some (step_set s) ≡ true) × ((xs : List ℕ) → step_set s ≡ Some xs → HasBits xs n)

-- the number, if there is one, is that of the step
abbrev pub IsSetOf : Step → Option ℕ → Type 0
IsSetOf s o = (n : ℕ) → o ≡ Some n → AreBitsOf s n

-- the same of each step
pub record AreSets (steps : List Step) (sets : List (Option ℕ)) : Type 0 where
  pub as_many : length sets ≡ length steps
  pub each : (k : ℕ) (s : Step) (o : Option ℕ) → slice_get steps k ≡ Some s → slice_get sets k ≡ Some o → IsSetOf s o

-- the step is a set, and the piece is none of it
abbrev pub Refuses : Step → ℕ → Type 0
Refuses s x = (xs : List ℕ) × (step_set s ≡ Some xs) × ¬ Contains xs x
