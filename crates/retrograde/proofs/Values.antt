-- A position is won by one player at most, and what is won within n is won within more.
use Rattle.std.proofs.Common.{◌≡◌, ◌∙◌, sym, subst, ℕ, zero, suc, ◌+◌, ◌-◌, ◌≤◌, inl, inr, arith}
use Rattle.std.proofs.lemmas.Option.{same_Some}
use Rattle.rbg_game.specs.declared.roles.Player.{Player}
use Rattle.rbg_game.specs.declared.roles.Role.{Role}
use Rattle.retrograde.specs.Graph.{Graph, Moves}
use Rattle.retrograde.specs.Values.{WinsWithin}

module _ {P : Type 0} (graph : Graph P) where
  -- one step down: where w wins in at most n moves, there it wins in at most n + 1
  pub one_more : (w : Player) (n : ℕ) (x : P) → WinsWithin graph w n x → WinsWithin graph w (suc n) x
  one_more w zero x won = inl won
  one_more w (suc n) x (inl won) = inl won
  one_more w (suc n) x (inr (inl can)) = inr (inl (can.0, (can.1.0, can.1.1, one_more w n can.1.0 can.1.2)))
  one_more w (suc n) x (inr (inr must)) = inr (inr (must.0, must.1, λ y s. one_more w n y (must.2 y s)))

  more_by : (w : Player) (n k : ℕ) (x : P) → WinsWithin graph w n x → WinsWithin graph w (n + k) x
  more_by w n zero x won = let e : n ≡ n + 0 = omega arith in subst (λ (m : ℕ). WinsWithin graph w m x) e won
  more_by w n (suc k) x won =
      let e : suc (n + k) ≡ n + suc k = omega arith in
      subst (λ (m : ℕ). WinsWithin graph w m x) e (one_more w (n + k) x (more_by w n k x won))

  pub more : (w : Player) (m n : ℕ) (x : P) → m ≤ n → WinsWithin graph w m x → WinsWithin graph w n x
  more w m n x le won = let e : m + (n - m) ≡ n = omega arith in subst (λ (k : ℕ). WinsWithin graph w k x) e (more_by w m (n - m) x won)

  pub same_mover : (v w : Player) (x : P) → Moves graph v x → Moves graph w x → v ≡ w
  same_mover v w x a b = let e : Role.Player v ≡ Role.Player w = sym a ∙ b in cc

  -- at most one player wins a position
  pub one_winner : (v w : Player) (m n : ℕ) (x : P) → WinsWithin graph v m x → WinsWithin graph w n x → v ≡ w
  one_winner v w zero zero x a b = same_Some v w (sym a.1 ∙ b.1)
  one_winner v w zero (suc n) x a (inl b) = same_Some v w (sym a.1 ∙ b.1)
  one_winner v w zero (suc n) x a (inr (inl b)) = absurd (a.0 b.1.0 b.1.1)
  one_winner v w zero (suc n) x a (inr (inr b)) = absurd (a.0 b.1.0 b.1.1)
  one_winner v w (suc m) zero x (inl a) b = same_Some v w (sym a.1 ∙ b.1)
  one_winner v w (suc m) zero x (inr (inl a)) b = absurd (b.0 a.1.0 a.1.1)
  one_winner v w (suc m) zero x (inr (inr a)) b = absurd (b.0 a.1.0 a.1.1)
  one_winner v w (suc m) (suc n) x (inl a) (inl b) = same_Some v w (sym a.1 ∙ b.1)
  one_winner v w (suc m) (suc n) x (inl a) (inr (inl b)) = absurd (a.0 b.1.0 b.1.1)
  one_winner v w (suc m) (suc n) x (inl a) (inr (inr b)) = absurd (a.0 b.1.0 b.1.1)
  one_winner v w (suc m) (suc n) x (inr (inl a)) (inl b) = absurd (b.0 a.1.0 a.1.1)
  one_winner v w (suc m) (suc n) x (inr (inr a)) (inl b) = absurd (b.0 a.1.0 a.1.1)
  one_winner v w (suc m) (suc n) x (inr (inl a)) (inr (inl b)) = same_mover v w x a.0 b.0
  one_winner v w (suc m) (suc n) x (inr (inl a)) (inr (inr b)) = one_winner v w m n a.1.0 a.1.2 (b.2 a.1.0 a.1.1)
  one_winner v w (suc m) (suc n) x (inr (inr a)) (inr (inl b)) = one_winner v w m n b.1.0 (a.2 b.1.0 b.1.1) b.1.2
  one_winner v w (suc m) (suc n) x (inr (inr a)) (inr (inr b)) = one_winner v w m n a.1.0 (a.2 a.1.0 a.1.1) (b.2 a.1.0 a.1.1)
