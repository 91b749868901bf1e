-- What a search keeps: boards, and the configurations on them.
use Rattle.std.specs.Prelude.{◌≡◌, ℕ, ◌<◌, ◌⊎◌, List, [], ◌∷◌, ◌++◌, map, length, Some, slice_get}
use Rattle.rbg_game.specs.declared.position.SemiState.{SemiState}
use Rattle.legal_moves.specs.lemmas.Boards.{at_turn, IsSameBoard, board_at, boards_in, AreWhole, IsAsLarge}
use Rattle.legal_moves.specs.lemmas.Buckets.{bucket_of_board, bucket_of_stand}
use Rattle.legal_moves.specs.lemmas.Chains.{AreChained}
use Rattle.legal_moves.specs.lemmas.Progress.{state_at}
use Rattle.legal_moves.specs.Configurations.{Configuration}
use Rattle.legal_moves.specs.declared.search.found.Shown.{Shown}
use Rattle.legal_moves.specs.declared.search.found.Stand.{Stand}
use Rattle.legal_moves.specs.declared.search.found.Found.{Found}
use Rattle.legal_moves.specs.declared.limits.TheConstants.{WIDEST}

-- the configuration that is kept as a stand
abbrev pub stood : List SemiState → Stand → Configuration
stood boards s =
    record {
      at = record { state = at_turn (board_at boards s.board) s.mover s.vertex; place = s.place };
      parent = s.parent;
      shows = s.shows;
      ends = s.ends;
    }

-- the configurations that were found
abbrev pub configurations_of : Found → List Configuration
configurations_of found = map (stood (boards_in found.boards)) found.stands.items

-- no board tells the same
abbrev pub IsNewBoard : List SemiState → SemiState → Type 0
IsNewBoard boards S = (i : ℕ) (A : SemiState) → slice_get boards i ≡ Some A → ¬ IsSameBoard A S

-- both have the same board, turn, vertex and last action
abbrev pub IsSameStand : Stand → Stand → Type 0
IsSameStand s t = (s.board ≡ t.board) × (s.vertex ≡ t.vertex) × (s.place ≡ t.place) × (s.mover ≡ t.mover)

abbrev pub bucket_at : Stand → ℕ
bucket_at s = bucket_of_stand s.board s.vertex s.place

-- each is on one of the boards
abbrev pub AllStand : List SemiState → List Stand → Type 0
AllStand boards stands = (i : ℕ) (s : Stand) → slice_get stands i ≡ Some s → s.board < length boards

-- each stands on a board, no two boards are alike, and all are found again by their buckets
pub record AreKept (found : Found) : Type 0 where
  pub whole : AreWhole found.boards
  pub within : AllStand (boards_in found.boards) found.stands.items
  pub apart : (i j : ℕ) (A B : SemiState) → slice_get (boards_in found.boards) i ≡ Some A → slice_get (boards_in found.boards) j ≡ Some B
      → IsSameBoard A B → i ≡ j
  pub boards_are : AreChained (map bucket_of_board (boards_in found.boards)) found.board_chains
  pub stands_are : AreChained (map bucket_at found.stands.items) found.stand_chains

-- one of the configurations is shown
pub record ShowsOne (found : Found) (shown : Shown) : Type 0 where
  pub at_one : shown.at < length found.stands.items
  pub state_is : shown.state ≡ state_at (configurations_of found) shown.at

-- nothing is found yet, and there is room for boards of the size of the semi-state
pub record IsEmptied (found : Found) (S : SemiState) : Type 0 where
  pub whole : AreWhole found.boards
  pub large : IsAsLarge found.boards S
  pub no_boards : boards_in found.boards ≡ []
  pub none_yet : found.boards.count ≡ 0
  pub no_stands : found.stands.items ≡ []
  pub boards_are : AreChained [] found.board_chains
  pub stands_are : AreChained [] found.stand_chains

-- none has the same board, turn, vertex and last action
abbrev pub IsNewStand : List Stand → Stand → Type 0
IsNewStand stands s = (i : ℕ) (t : Stand) → slice_get stands i ≡ Some t → ¬ IsSameStand t s

-- it was added, or one with the same board, turn, vertex and last action is there
abbrev pub IsStandAdded : List Stand → Stand → List Stand → Type 0
IsStandAdded stands s stands' =
    ((stands' ≡ stands) × (i : ℕ) × (t : Stand) × (slice_get stands i ≡ Some t) × IsSameStand t s)
    ⊎ ((stands' ≡ stands ++ s ∷ []) × (length stands < WIDEST) × IsNewStand stands s)
