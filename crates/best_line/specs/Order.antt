-- The moves of a position in an order, the best first.
use Rattle.std.specs.Prelude.{◌-◌, ℕ, List}
use Rattle.std.specs.List.Sorted.{IsNonDecreasingBy, IsPermutation, IsStableByKey}
use Rattle.std.specs.Ordering.{nat_cmp}
use Rattle.rbg_game.specs.declared.roles.Player.TheVariants.{First, Second}
use Rattle.rbg_game.specs.declared.roles.Role.{Role}
use Rattle.rbg_game.specs.declared.roles.Role.TheVariants.{Keeper, Player}
use Rattle.best_line.specs.declared.answers.Value.{Value}
use Rattle.best_line.specs.declared.answers.Value.TheVariants.{Won, Drawn, Open}
use Rattle.best_line.specs.declared.known.KnownMove.{KnownMove}

-- the rank of a loss, after a draw (2^32) and what is open (2^32 + 1): the longer the loss, the better
abbrev pub rank_of_loss : ℕ → ℕ
rank_of_loss moves = 8589934593 - moves

-- how far a value stands after the best for who has the turn; to the keeper all are alike
abbrev pub rank_of : Role → Value → ℕ
rank_of Keeper value = 0
rank_of (Player First) (Won First moves) = moves
rank_of (Player First) (Won Second moves) = rank_of_loss moves
rank_of (Player Second) (Won First moves) = rank_of_loss moves
rank_of (Player Second) (Won Second moves) = moves
rank_of (Player player) Drawn = 4294967296
rank_of (Player player) Open = 4294967297

-- the same moves, the best first for who has the turn; those of one rank stand as they did
pub record IsBestFirst (mover : Role) (moves sorted : List KnownMove) : Type 0 where
  pub same : IsPermutation moves sorted
  pub best : IsNonDecreasingBy (λ move. rank_of mover move.value) sorted
  pub stable : IsStableByKey (λ move. rank_of mover move.value) nat_cmp moves sorted
