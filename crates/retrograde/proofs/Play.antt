-- A shortest win goes on to its end.
use Rattle.std.proofs.Common.{◌≡◌, subst, ℕ, zero, suc, ◌+◌, ◌≤◌, ◌<◌, ◌⊎◌, inl, inr, List, [], ◌∷◌, length, refl, arith}
use Rattle.rbg_game.specs.declared.roles.Player.{Player}
use Rattle.retrograde.specs.Graph.{Graph}
use Rattle.retrograde.specs.Values.{CanMoveTo, MustMoveTo, WinsWithin, WonIn}
use Rattle.retrograde.specs.Play.{IsPlay}
use Rattle.retrograde.specs.View.{View, IsExpanded, IsProcessed, HasValue}
use Rattle.retrograde.specs.Right.{IsRight, IsShown}
use Rattle.retrograde.proofs.Values.{more, one_winner}
use Rattle.retrograde.proofs.Finished.{values_are_won}
use Rattle.retrograde.proofs.Local.{full_from_some}

module _ {P : Type 0} (graph : Graph P) (view : View P) (right : IsRight graph view) where
  processed_value : (y : P) → IsProcessed view y → (v : Player) × (m : ℕ) × HasValue view y v m
  processed_value y (i, number, is) = let (value, has) = full_from_some (view.value i) (right.coherent.processed i is) in (value.0, value.1, (i, number, has))

  -- where w wins in more than none, some move leads to where w wins in one fewer
  pub goes_on : (x : P) (w : Player) (n : ℕ) → HasValue view x w (suc n)
      → ((y : P) → graph.Successor x y → HasValue view y w n → ⊥) → ⊥
  goes_on x w n has none = by shown.by
    where
      shown : IsShown graph view x w (suc n)
      shown = (right.values x w (suc n) (has.0, has.1)).0 has

      by : ((suc n ≡ 0) × IsExpanded view x)
          ⊎ (CanMoveTo graph w (λ y. IsProcessed view y × ((m : ℕ) × (suc n ≡ suc m) × WonIn graph w m y)) x
          ⊎ MustMoveTo graph w (IsProcessed view) x)
          → ⊥
      by (inl (zero_is, there)) = omega arith
      by (inr (inl (turn, (y, move, (there, (m, one_less, won)))))) =
          let (v, k, value) = processed_value y there in
          let theirs : WonIn graph v k y = values_are_won graph view right y v k value in
          let same : v ≡ w = one_winner graph v w k m y theirs.within won.within in
          let ours : WonIn graph w k y = subst (λ (u : Player). WonIn graph u k y) same theirs in
          let le : k ≤ m = ours.least m won.within in
          let ge : m ≤ k = won.least k ours.within in
          let equal : k ≡ n = omega arith in
          none y move (subst (λ (l : ℕ). HasValue view y w l) equal (subst (λ (u : Player). HasValue view y u k) same value))
      by (inr (inr (no_turn, some, each))) = too_near n refl
        where
          within : (y : P) → graph.Successor x y → WinsWithin graph w n y
          within y move = go shown.won.within
            where
              go : WinsWithin graph w (suc n) x → WinsWithin graph w n y
              go (inl ended) = absurd (ended.0 y move)
              go (inr (inl can)) = absurd (no_turn can.0)
              go (inr (inr must)) = must.2 y move

          -- every move leads to where w wins in fewer than n
          nearer : (y : P) → graph.Successor x y → (k : ℕ) × (k < n) × WinsWithin graph w k y
          nearer y move =
              let (v, k, value) = processed_value y (each y move) in
              let theirs : WonIn graph v k y = values_are_won graph view right y v k value in
              let same : v ≡ w = one_winner graph v w k n y theirs.within (within y move) in
              let ours : WonIn graph w k y = subst (λ (u : Player). WonIn graph u k y) same theirs in
              let le : k ≤ n = ours.least n (within y move) in
              let apart : k ≡ n → ⊥ = λ equal. none y move
              (subst (λ (l : ℕ). HasValue view y w l) equal (subst (λ (u : Player). HasValue view y u k) same value)) in
              let lt : k < n = omega arith in
              (k, lt, ours.within)

          too_near : (m : ℕ) → m ≡ n → ⊥
          too_near zero e = let (k, lt, won) = nearer some.0 some.1 in omega arith
          too_near (suc m) e =
              let every : (y : P) → graph.Successor x y → WinsWithin graph w m y = λ y move.
              let (k, lt, won) = nearer y move in
              let le : k ≤ m = omega arith in
              more graph w k m y le won in
              let least : suc n ≤ suc m = shown.won.least (suc m) (inr (inr (no_turn, some, every))) in
              omega arith

-- a play has one more position than moves
pub play_length : {P : Type 0} (graph : Graph P) (w : Player) (n : ℕ) (xs : List P) → IsPlay graph w n xs → length xs ≡ n + 1
play_length graph w zero (x ∷ []) play = refl
play_length graph w (suc n) (x ∷ y ∷ rest) (won, move, next) = let more : length (y ∷ rest) ≡ n + 1 = play_length graph w n (y ∷ rest) next in omega arith
play_length graph w zero [] play = absurd play
play_length graph w zero (x ∷ y ∷ rest) play = absurd play
play_length graph w (suc n) [] play = absurd play
play_length graph w (suc n) (x ∷ []) play = absurd play
