-- What a search finds.
use Rattle.std.specs.Prelude.{◌≡◌, ℕ, ◌≤◌, ◌<◌, Bool, true, false, List, length, Some, slice_get, unwrap_or}
use Rattle.std.specs.BTreeMap.{BTreeMap, get, IsOrdered}
use Rattle.std.specs.Cmp.Lexicographic.{slice_cmp}
use Rattle.std.specs.Ordering.{nat_cmp}
use Rattle.std.specs.declared.cmp.Ordering.{Ordering}
use Rattle.arrayvec.specs.ArrayVec.{ArrayVec}
use Rattle.rbg_game.specs.Rules.{Regex, empty, pattern, action_at, is_switch, is_modifier}
use Rattle.rbg_game.specs.Games.{Game}
use Rattle.rbg_game.specs.declared.limits.TheConstants.{MAX_ACTIONS}
use Rattle.rbg_game.specs.Sound.{IsSoundGame, IsSoundRegex, whole_count}
use Rattle.rbg_game.specs.Positions.{IsStateOf}
use Rattle.rbg_game.specs.declared.position.SemiState.{SemiState}
use Rattle.position_pack.specs.Bytes.{bytes_of}
use Rattle.legal_moves.specs.Effects.{EffectAt}
use Rattle.legal_moves.specs.Glushkov.{IsNextAt}
use Rattle.legal_moves.specs.Searches.{IsWideFrom, place_at}
use Rattle.legal_moves.specs.Listed.{ShownMove}
use Rattle.legal_moves.specs.Shown.{moves_of}
use Rattle.legal_moves.specs.Tables.{AreTables}
use Rattle.legal_moves.specs.declared.automaton.table.Table.{Table}
use Rattle.legal_moves.specs.Configurations.{Configuration, expressions_of}
use Rattle.legal_moves.specs.declared.limits.TheConstants.{WIDEST}

abbrev pub expression_at : Game → ℕ → Regex
expression_at game index = unwrap_or (slice_get (expressions_of game) index) empty

-- the expression at the index can be searched
pub record IsReady (game : Game) (tables : List Table) (index : ℕ) : Type 0 where
  pub sound : IsSoundGame game
  pub tables_are : AreTables (expressions_of game) tables
  pub within : index < length tables
  pub expression_is : IsSoundRegex game (expression_at game index)
  pub small : whole_count (expression_at game index) ≤ MAX_ACTIONS

-- the occurrence k is a pattern whose search from S reaches too many
abbrev pub AsksTooMuch : Game → Regex → ℕ → SemiState → Type 0
AsksTooMuch game e k S =
    (positive : Bool) × (inner : Regex) × (action_at e 1 k ≡ Some (pattern positive inner)) × IsWideFrom game inner 0 S

-- the occurrence k leads from S to the configuration
pub record OccurrenceLeads (game : Game) (e : Regex) (k : ℕ) (S : SemiState) (c : Configuration) : Type 0 where
  pub place_is : c.at.place ≡ k
  pub step : EffectAt game e 1 k S c.at.state
  pub shows_is : c.shows ≡ is_modifier (action_at e 1 k)
  pub ends_is : c.ends ≡ is_switch (action_at e 1 k)

-- the configuration comes from one before it, whose last action is no switch
pub record IsLinked (game : Game) (e : Regex) (place : ℕ) (cs : List Configuration) (i : ℕ) (c : Configuration) : Type 0 where
  pub before : Configuration
  pub before_is : slice_get cs c.parent ≡ Some before
  pub earlier : c.parent < i
  pub plain : is_switch (action_at e 1 before.at.place) ≡ false
  pub next : IsNextAt e (place_at place before.at.place) c.at.place
  pub leads : OccurrenceLeads game e c.at.place before.at.state c

-- the configuration in which a search begins
abbrev pub opening : SemiState → Configuration
opening S = record {
  at = record { state = S; place = 0 };
  parent = 0;
  shows = false;
  ends = false;
}

-- different configurations, each from one before it, in the order in which those were expanded
pub record AreFound (game : Game) (e : Regex) (place : ℕ) (S : SemiState) (cs : List Configuration) : Type 0 where
  pub opening_is : slice_get cs 0 ≡ Some (opening S)
  pub linked : (i : ℕ) (c : Configuration) → slice_get cs i ≡ Some c → 0 < i → IsLinked game e place cs i c
  pub ascending : (i j : ℕ) (c d : Configuration) → i ≤ j → slice_get cs i ≡ Some c → slice_get cs j ≡ Some d → c.parent ≤ d.parent
  pub different : (i j : ℕ) (c d : Configuration) → slice_get cs i ≡ Some c → slice_get cs j ≡ Some d → c.at ≡ d.at → i ≡ j
  pub states_are : (i : ℕ) (c : Configuration) → slice_get cs i ≡ Some c → IsStateOf game c.at.state
  pub few : length cs ≤ WIDEST

-- the configuration of U and k is among them, from no later one than j
abbrev pub IsMet : List Configuration → ℕ → SemiState → ℕ → Type 0
IsMet cs j U k =
    (i : ℕ) × (c : Configuration) × (slice_get cs i ≡ Some c) × (c.at ≡ record { state = U; place = k }) × (c.parent ≤ j)

-- all that the occurrences below n lead to from the configuration at j is found, and no search of a pattern is too wide
pub record IsFollowed (game : Game) (e : Regex) (place : ℕ) (cs : List Configuration) (j n : ℕ) : Type 0 where
  pub met : (c : Configuration) (k : ℕ) (U : SemiState) → slice_get cs j ≡ Some c → is_switch (action_at e 1 c.at.place) ≡ false → k < n
      → IsNextAt e (place_at place c.at.place) k → EffectAt game e 1 k c.at.state U → IsMet cs j U k
  pub narrow : (c : Configuration) (k : ℕ) → slice_get cs j ≡ Some c → is_switch (action_at e 1 c.at.place) ≡ false → k < n
      → IsNextAt e (place_at place c.at.place) k → ¬ AsksTooMuch game e k c.at.state

-- the bytes in their order
abbrev pub packed_cmp : ArrayVec ℕ → ArrayVec ℕ → Ordering
packed_cmp x y = slice_cmp nat_cmp x.items y.items

-- the map has, by its bytes, the index of each configuration below n at which a move ends, and nothing else
pub record AreEnds (cs : List Configuration) (n : ℕ) (ends : BTreeMap (ArrayVec ℕ) ℕ) : Type 0 where
  pub all : (i : ℕ) (c : Configuration) → i < n → slice_get cs i ≡ Some c → c.ends ≡ true
      → get packed_cmp ends (record { items = bytes_of c.at }) ≡ Some i
  pub only : (x : ArrayVec ℕ) (i : ℕ) → get packed_cmp ends x ≡ Some i → (c : Configuration) × (slice_get cs i ≡ Some c)
      × (c.ends ≡ true) × (i < n) × (x.items ≡ bytes_of c.at)
  pub ordered : IsOrdered packed_cmp ends

-- shown of exactly the configurations at which a move ends, in the order of their bytes
pub record AreEndsShown (cs : List Configuration) (moves : List ShownMove) : Type 0 where
  pub ends : BTreeMap (ArrayVec ℕ) ℕ
  pub ends_are : AreEnds cs (length cs) ends
  pub moves_are : moves ≡ moves_of cs ends.entries

-- no two have the same bytes
abbrev pub HaveOwnBytes : List Configuration → Type 0
HaveOwnBytes cs =
    (i j : ℕ) (c d : Configuration) → slice_get cs i ≡ Some c → slice_get cs j ≡ Some d → bytes_of c.at ≡ bytes_of d.at → i ≡ j

-- a whole search
pub record IsSearch (game : Game) (e : Regex) (place : ℕ) (S : SemiState) (cs : List Configuration) : Type 0 where
  pub found : AreFound game e place S cs
  pub expanded : (j n : ℕ) → j < length cs → IsFollowed game e place cs j n
