-- How the jumps from one number and vertex are gone through.
use Rattle.std.specs.Prelude.{◌≡◌, ℕ, ◌<◌, ◌⊎◌, true, List, [], ◌∷◌, ◌++◌, length, Option, None, Some, slice_get}
use Rattle.rbg_game.specs.Rules.{Regex, action_at}
use Rattle.rbg_game.specs.Games.{Game}
use Rattle.rbg_game.specs.Meaning.{action_of}
use Rattle.legal_moves.specs.Glushkov.{IsNextAt, IsLast}
use Rattle.legal_moves.specs.Jumps.{label_in, IsShiftTo, Shifts, IsAmong}
use Rattle.legal_moves.specs.declared.automaton.table.Step.{Step}
use Rattle.legal_moves.specs.declared.automaton.table.Step.TheVariants.{Act, Ask}
use Rattle.legal_moves.specs.declared.automaton.jumps.Jump.{Jump}
use Rattle.legal_moves.specs.declared.automaton.jumps.ShiftClosure.{ShiftClosure}

-- nothing is forgotten
pub record KeepsClosure (old new : ShiftClosure) : Type 0 where
  pub met : (i : ℕ) (j : Jump) → slice_get old.met.items i ≡ Some j → slice_get new.met.items i ≡ Some j
  pub to : (i : ℕ) (j : Jump) → slice_get old.to.items i ≡ Some j → slice_get new.to.items i ≡ Some j
  pub ends : old.ends ≡ true → new.ends ≡ true

-- all of it comes from p and v
pub record IsLed (game : Game) (e : Regex) (p v : ℕ) (walk : ShiftClosure) : Type 0 where
  pub met : (i : ℕ) (j : Jump) → slice_get walk.met.items i ≡ Some j → Shifts game e p v j.number j.vertex
  pub to : (i : ℕ) (j : Jump) → slice_get walk.to.items i ≡ Some j → (q : ℕ) × Shifts game e p v q j.vertex × IsNextAt e q j.number
  pub ends : walk.ends ≡ true → (q u r w : ℕ) × Shifts game e p v q u × IsNextAt e q r × IsShiftTo game e r u w × IsLast e 1 r

-- what the occurrence r comes to at the vertex u is there
pub record HasNoted (game : Game) (e : Regex) (walk : ShiftClosure) (u r : ℕ) : Type 0 where
  pub other : label_in (action_at e 1 r) ≡ None → IsAmong walk.to.items r u
  pub met : (w : ℕ) → IsShiftTo game e r u w → IsAmong walk.met.items r w
  pub ends : (w : ℕ) → IsShiftTo game e r u w → IsLast e 1 r → walk.ends ≡ true

-- the same of all that can stand right after the one at the index
abbrev pub IsGoneOn : Game → Regex → ShiftClosure → ℕ → Type 0
IsGoneOn game e walk at =
    (j : Jump) (r : ℕ) → slice_get walk.met.items at ≡ Some j → IsNextAt e j.number r → HasNoted game e walk j.vertex r

-- all that was come to is gone through
pub record IsClosure (game : Game) (e : Regex) (p v : ℕ) (walk : ShiftClosure) : Type 0 where
  pub first : IsAmong walk.met.items p v
  pub led : IsLed game e p v walk
  pub gone : (at : ℕ) → at < length walk.met.items → IsGoneOn game e walk at

-- each is at a vertex of the game
abbrev pub StaysOnBoard : Game → ShiftClosure → Type 0
StaysOnBoard game walk = (i : ℕ) (j : Jump) → slice_get walk.met.items i ≡ Some j → j.vertex < length game.vertices

-- the number and the vertex were added, or are there
abbrev pub IsMetWith : List Jump → ℕ → ℕ → List Jump → Type 0
IsMetWith old r u new = ((new ≡ old) × IsAmong old r u) ⊎ (new ≡ old ++ record { number = r; vertex = u } ∷ [])

-- the label of a shift; none for another step
abbrev pub step_label : Step → Option ℕ
step_label (Act x) = label_in (Some (action_of x))
step_label (Ask positive i) = None
