-- The first of some positions that a player wins in a number of moves.
use Rattle.std.specs.Prelude.{◌≡◌, ℕ, List, Some, slice_get, ◌<◌}
use Rattle.rbg_game.specs.declared.roles.Player.{Player}
use Rattle.retrograde.specs.View.{View, HasNumber, HasValue}

-- i is the number of one of these positions, w wins it in n, and none of those before it in n
pub record IsFirstWon {P : Type 0} (view : View P) (ys : List P) (w : Player) (n i : ℕ) : Type 0 where
  pub place : ℕ
  pub position : P
  pub at : slice_get ys place ≡ Some position
  pub number : HasNumber view i position
  pub value : view.value i ≡ Some (w, n)
  pub first : (k : ℕ) (y : P) → k < place → slice_get ys k ≡ Some y → HasValue view y w n → ⊥
