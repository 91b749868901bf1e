-- What a table says of a game: the positions known so far, and who wins which of them.
use Rattle.std.specs.Prelude.{◌≡◌, ℕ, ◌<◌, Bool, true, Option, Some, IsSome, List, length, slice_get}
use Rattle.rbg_game.specs.declared.roles.Player.{Player}

-- the known positions by number; how many of them, from the first on, are expanded; and by number
-- which are processed, and the winner and distance of those that are settled
pub record View (P : Type 0) : Type 0 where
  pub known : List P
  pub expanded : ℕ
  pub processed : ℕ → Bool
  pub value : ℕ → Option (Player × ℕ)

-- x is the known position with number i
abbrev pub HasNumber : {P : Type 0} → View P → ℕ → P → Type 0
HasNumber view i x = slice_get view.known i ≡ Some x

-- x is known
abbrev pub IsKnown : {P : Type 0} → View P → P → Type 0
IsKnown view x = (i : ℕ) × HasNumber view i x

-- x is known and expanded
abbrev pub IsExpanded : {P : Type 0} → View P → P → Type 0
IsExpanded view x = (i : ℕ) × HasNumber view i x × (i < view.expanded)

-- x is known and processed
abbrev pub IsProcessed : {P : Type 0} → View P → P → Type 0
IsProcessed view x = (i : ℕ) × HasNumber view i x × (view.processed i ≡ true)

-- x is settled: w wins it in n
abbrev pub HasValue : {P : Type 0} → View P → P → Player → ℕ → Type 0
HasValue view x w n = (i : ℕ) × HasNumber view i x × (view.value i ≡ Some (w, n))

-- all that is known is expanded, and all that is settled is processed
pub record IsFinished {P : Type 0} (view : View P) : Type 0 where
  pub all_expanded : view.expanded ≡ length view.known
  pub all_processed : (i : ℕ) → IsSome (view.value i) → view.processed i ≡ true
