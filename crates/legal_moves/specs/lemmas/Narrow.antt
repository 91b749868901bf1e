-- Patterns whose searches come to few configurations.
use Rattle.std.specs.Prelude.{◌≡◌, ◌≤◌, Bool, true, false, List, length, All}
use Rattle.rbg_game.specs.Rules.{Action, shift, on, off, assignment, comparison, switch, pattern}
use Rattle.rbg_game.specs.Meaning.{action_of}
use Rattle.legal_moves.specs.declared.automaton.table.Step.{Step}
use Rattle.legal_moves.specs.declared.automaton.table.Step.TheVariants.{Act, Ask}

-- the action changes the vertex at most, and asks no pattern
abbrev pub looks_alone : Action → Bool
looks_alone (shift l) = true
looks_alone (on xs) = true
looks_alone (off x) = false
looks_alone (assignment v r) = false
looks_alone (comparison a op b) = true
looks_alone (switch r) = false
looks_alone (pattern positive e) = false

-- the same of a step
abbrev pub step_looks : Step → Bool
step_looks (Act x) = looks_alone (action_of x)
step_looks (Ask positive i) = false

-- each step is such an action, and there are at most 511
abbrev pub AreFewLooks : List Step → Type 0
AreFewLooks steps = (length steps ≤ 511) × All (λ s. step_looks s ≡ true) steps
