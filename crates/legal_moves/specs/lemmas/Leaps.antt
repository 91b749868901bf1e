-- A search that goes from one set or comparison to the next.
use Rattle.std.specs.Prelude.{◌≡◌, ℕ, ◌≤◌, ◌<◌, List, [], ◌∷◌, length, None, Some, slice_get}
use Rattle.rbg_game.specs.Rules.{Regex, action_at}
use Rattle.rbg_game.specs.Games.{Game}
use Rattle.rbg_game.specs.declared.position.SemiState.{SemiState}
use Rattle.legal_moves.specs.Effects.{EffectAt}
use Rattle.legal_moves.specs.Glushkov.{IsNextAt, IsLast}
use Rattle.legal_moves.specs.Searches.{Searched}
use Rattle.legal_moves.specs.Jumps.{label_in, IsShiftTo, Shifts}
use Rattle.legal_moves.specs.lemmas.VertexSearch.{at_vertex}
use Rattle.legal_moves.specs.lemmas.Narrow.{AreFewLooks}
use Rattle.legal_moves.specs.declared.search.looks.Look.{Look}
use Rattle.legal_moves.specs.declared.automaton.jumps.Jumps.{Jumps}
use Rattle.legal_moves.specs.declared.automaton.table.Table.{Table}
use Rattle.legal_moves.specs.declared.limits.TheConstants.{WIDEST}

-- the vertex of the first look
abbrev pub opened : List Look → ℕ
opened [] = 0
opened (l ∷ ls) = l.vertex

-- a word leads from S to the number k at the vertex v
abbrev pub IsMetAt : Game → Regex → SemiState → ℕ → ℕ → Type 0
IsMetAt game e S k v = (w : List ℕ) × Searched game e 0 S w (at_vertex S v) k

-- it leads to one right before r
abbrev pub IsMetBefore : Game → Regex → SemiState → ℕ → ℕ → Type 0
IsMetBefore game e S r v = (q : ℕ) × IsMetAt game e S q v × IsNextAt e q r

-- some look has this number and vertex
abbrev pub IsLookAt : List Look → ℕ → ℕ → Type 0
IsLookAt looks k v = (i : ℕ) × (l : Look) × (slice_get looks i ≡ Some l) × (l.place ≡ k) × (l.vertex ≡ v)

-- each look is where it was
abbrev pub AreStill : List Look → List Look → Type 0
AreStill old new = (i : ℕ) (l : Look) → slice_get old i ≡ Some l → slice_get new i ≡ Some l

-- what the occurrence r leads to from the vertex u is among the looks
abbrev pub IsJumped : Game → Regex → SemiState → List Look → ℕ → ℕ → Type 0
IsJumped game e S looks r u = (T : SemiState) → EffectAt game e 1 r (at_vertex S u) T → IsLookAt looks r T.vertex

-- all that comes after shifts from the look is looked at, and no word ends at one of them
pub record IsLeapt (game : Game) (e : Regex) (S : SemiState) (looks : List Look) (l : Look) : Type 0 where
  pub jumps : (q u r : ℕ) → Shifts game e l.place l.vertex q u → IsNextAt e q r → label_in (action_at e 1 r) ≡ None → IsJumped game e S looks r u
  pub ends : (q u r w : ℕ) → Shifts game e l.place l.vertex q u → IsNextAt e q r → IsShiftTo game e r u w → ¬ IsLast e 1 r

-- a search that is going on: different looks, each of which is met, and none at the end of a word, of which those before at are gone through
pub record IsLeaping (game : Game) (e : Regex) (S : SemiState) (looks : List Look) (at : ℕ) : Type 0 where
  pub opening_is : slice_get looks 0 ≡ Some (record { vertex = S.vertex; place = 0; parent = 0 })
  pub met : (i : ℕ) (l : Look) → slice_get looks i ≡ Some l → IsMetAt game e S l.place l.vertex
  pub inside : (i : ℕ) (l : Look) → slice_get looks i ≡ Some l → l.vertex < length game.vertices
  pub different : (i j : ℕ) (k l : Look) → slice_get looks i ≡ Some k → slice_get looks j ≡ Some l → k.vertex ≡ l.vertex → k.place ≡ l.place → i ≡ j
  pub plain : (i : ℕ) (l : Look) → slice_get looks i ≡ Some l → ¬ IsLast e 1 l.place
  pub leapt : (j : ℕ) (l : Look) → j < at → slice_get looks j ≡ Some l → IsLeapt game e S looks l
  pub few : length looks ≤ WIDEST
  pub within : at ≤ length looks

-- the table at the index has rows
abbrev pub HaveRows : List Jumps → ℕ → Type 0
HaveRows jumps index = (js : Jumps) → slice_get jumps index ≡ Some js → 0 < length js.rows.items

-- the steps of the table at the index look alone, and are few
abbrev pub IsNarrowTable : List Table → ℕ → Type 0
IsNarrowTable tables index = (table : Table) → slice_get tables index ≡ Some table → AreFewLooks table.steps.items
