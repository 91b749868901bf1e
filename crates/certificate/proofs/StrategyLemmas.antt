-- Ranks that go down show a win in at most so many moves; ranks that hold a player up show that it needs at least so many, and a safe set
-- that it never wins.
use Rattle.std.proofs.Common.{ℕ, zero, suc, ◌≤◌, inl, inr, arith}
use Rattle.rbg_game.specs.declared.roles.Player.{Player}
use Rattle.retrograde.specs.Graph.{Graph}
use Rattle.retrograde.specs.Values.{WinsWithin, WonIn}
use Rattle.certificate.specs.Strategies.{RanksFrom, GoesDown, IsStrategy, IsDelay, IsSafeSet}

module _ {P : Type 0} (graph : Graph P) (w : Player) where
  module _ (Ranks : P → ℕ → Type 0) (strategy : IsStrategy graph w Ranks) where
    -- where ranks go down from n, w wins in at most any number from n on
    wins_by : (k n : ℕ) (x : P) → n ≤ k → GoesDown graph w Ranks x n → WinsWithin graph w k x
    wins_by zero n x le (inl ends) = ends
    wins_by zero n x le (inr (inl (turn, (y, goes, (m, ranks, lt))))) = absurd (omega arith)
    wins_by zero n x le (inr (inr (no_turn, (y, goes), each))) = let (m, ranks, lt) = each y goes in absurd (omega arith)
    wins_by (suc k) n x le (inl ends) = inl ends
    wins_by (suc k) n x le (inr (inl (turn, (y, goes, (m, ranks, lt))))) =
        inr (inl (turn, (y, goes, wins_by k m y (omega arith) (strategy y m ranks))))
    wins_by (suc k) n x le (inr (inr (no_turn, some, each))) =
        inr (inr (no_turn, some, λ y goes. let (m, ranks, lt) = each y goes in wins_by k m y (omega arith) (strategy y m ranks)))

    pub strategy_wins : (n : ℕ) (x : P) → Ranks x n → WinsWithin graph w n x
    strategy_wins n x ranks = wins_by n n x (omega arith) (strategy x n ranks)

  -- what has a rank from n on is won in no fewer than n, if that is so of each rank by itself
  from_ranks : (Ranks : P → ℕ → Type 0) (m n : ℕ) (y : P) → ((k : ℕ) → Ranks y k → k ≤ m) → RanksFrom Ranks n y → n ≤ m
  from_ranks Ranks m n y each (inl none) = omega arith
  from_ranks Ranks m n y each (inr (k, ranks, le)) = let most : k ≤ m = each k ranks in omega arith

  module _ (Ranks : P → ℕ → Type 0) (delay : IsDelay graph w Ranks) where
    pub delay_holds : (m n : ℕ) (x : P) → Ranks x n → WinsWithin graph w m x → n ≤ m
    delay_holds m zero x ranks wins = omega arith
    delay_holds zero (suc n) x ranks ends = absurd ((delay x (suc n) ranks).not_won ends)
    delay_holds (suc m) (suc n) x ranks (inl ends) = absurd ((delay x (suc n) ranks).not_won ends)
    delay_holds (suc m) (suc n) x ranks (inr (inl (turn, (y, goes, wins)))) =
        let le : n ≤ m = from_ranks Ranks m n y (λ k has. delay_holds m k y has wins) ((delay x (suc n) ranks).own turn y goes) in
        omega arith
    delay_holds (suc m) (suc n) x ranks (inr (inr (no_turn, (z, leads), each))) =
        elim ((delay x (suc n) ranks).other no_turn) [
          | inl ended ↦ absurd (ended z leads)
          | inr (y, goes, good) ↦
              let le : n ≤ m = from_ranks Ranks m n y (λ k has. delay_holds m k y has (each y goes)) good in
              omega arith
        ]

  module _ (In : P → Type 0) (safe : IsSafeSet graph w In) where
    pub safe_is_never_won : (m : ℕ) (x : P) → In x → WinsWithin graph w m x → ⊥
    safe_is_never_won zero x here ends = (safe x here).not_won ends
    safe_is_never_won (suc m) x here (inl ends) = (safe x here).not_won ends
    safe_is_never_won (suc m) x here (inr (inl (turn, (y, goes, wins)))) =
        safe_is_never_won m y ((safe x here).own turn y goes) wins
    safe_is_never_won (suc m) x here (inr (inr (no_turn, (z, leads), each))) =
        elim ((safe x here).other no_turn) [
          | inl ended ↦ ended z leads
          | inr (y, goes, good) ↦ safe_is_never_won m y good (each y goes)
        ]

  -- a rank in a strategy, and as great a one in a delay: that is how many moves it takes
  pub won_by_both : (Down Held : P → ℕ → Type 0) → IsStrategy graph w Down → IsDelay graph w Held
      → (n : ℕ) (x : P) → Down x n → RanksFrom Held n x → WonIn graph w n x
  won_by_both Down Held strategy delay n x down held = record {
    within = strategy_wins Down strategy n x down;
    least = λ m wins. from_ranks Held m n x (λ k ranks. delay_holds Held delay m k x ranks wins) held;
  }
