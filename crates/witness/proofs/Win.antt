-- The start is won by white in exactly two moves, and by nobody in any other number.
use Rattle.std.proofs.Common.{◌≡◌, ℕ, zero, suc, ◌≤◌, inl, inr, sym, subst, arith}
use Rattle.rbg_game.specs.declared.roles.Player.{Player}
use Rattle.rbg_game.specs.declared.roles.Player.TheVariants.{First}
use Rattle.position_pack.specs.declared.kind.PackingKind.{PackingKind}
use Rattle.retrograde.specs.Values.{WinsWithin, EndsAhead, WonIn, Drawn}
use Rattle.retrograde.proofs.Values.{one_winner}
use Rattle.witness.specs.Game.{white_chooses, white_has_won}
use Rattle.witness.proofs.Positions.{graph, packed, hands_over, takes_the_win, from_start, white_is_over, keeper_starts, white_has_the_turn, white_leads}

module _ (kind : PackingKind) where
  ahead : EndsAhead (graph kind) First (packed kind white_has_won)
  ahead = (white_is_over kind, white_leads kind)

  in_one : WinsWithin (graph kind) First 1 (packed kind white_chooses)
  in_one = inr (inl (white_has_the_turn kind, (packed kind white_has_won, takes_the_win kind, ahead)))

  in_two : WinsWithin (graph kind) First 2 (graph kind).start
  in_two =
      inr (inr (
        λ same. let keeper = keeper_starts kind in absurd (cc),
        (packed kind white_chooses, hands_over kind),
        λ y leads. subst (WinsWithin (graph kind) First 1) (sym (from_start kind y leads)) in_one,
      ))

  no_fewer : (m : ℕ) → WinsWithin (graph kind) First m (graph kind).start → 2 ≤ m
  no_fewer zero ends = absurd (ends.0 (packed kind white_chooses) (hands_over kind))
  no_fewer (suc zero) (inl ends) = absurd (ends.0 (packed kind white_chooses) (hands_over kind))
  no_fewer (suc zero) (inr (inl moves)) = let same = moves.0 in let keeper = keeper_starts kind in absurd (cc)
  no_fewer (suc zero) (inr (inr must)) = absurd ((must.2 (packed kind white_chooses) (hands_over kind)).0 (packed kind white_has_won) (takes_the_win kind))
  no_fewer (suc (suc m)) won = omega arith

  pub won_in_two : WonIn (graph kind) First 2 (graph kind).start
  won_in_two = record { within = in_two; least = no_fewer }

  -- nobody else wins, nor white in another number
  pub only_in_two : (w : Player) (n : ℕ) → WonIn (graph kind) w n (graph kind).start → (w ≡ First) × (n ≡ 2)
  only_in_two w n won = (same, both)
    where
      same : w ≡ First
      same = one_winner (graph kind) w First n 2 (graph kind).start won.within in_two

      both : n ≡ 2
      both =
          let fewer = won.least 2 (subst (λ v. WinsWithin (graph kind) v 2 (graph kind).start) (sym same) in_two) in
          let more = no_fewer n (subst (λ v. WinsWithin (graph kind) v n (graph kind).start) same won.within) in
          omega arith

  pub not_drawn : Drawn (graph kind) (graph kind).start → ⊥
  not_drawn drawn = drawn First 2 in_two
