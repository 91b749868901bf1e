-- What the moves of a position that were found say of its ranks.
use Rattle.std.proofs.Common.{◌≡◌, ◌∙◌, ap, subst, sym, refl, ℕ, zero, suc, ◌<◌, ◌↔◌, Bool, true, inl, inr, Some, List, [], ◌∷◌, length, map, get_or, arith}
use Rattle.std.specs.Prelude.{Contains}
use Rattle.std.proofs.lemmas.List.{get_or-map, length-map}
use Rattle.std.proofs.lemmas.List.Elements.{All-map, All-contains}
use Rattle.arrayvec.specs.ArrayVec.{ArrayVec}
use Rattle.rbg_game.specs.declared.roles.Player.{Player}
use Rattle.retrograde.specs.Graph.{Graph, Moves}
use Rattle.legal_moves.specs.Listed.{ListsExactly}
use Rattle.certificate.specs.Strategies.{GoesDown, IsHeld, RanksBelow}
use Rattle.certificate.specs.lemmas.Found.{SomeOf, EachOf}

-- what is made of a list has each element from one of the list
pub made_from : {X Y : Type 0} (f : X → Y) (xs : List X) (y : Y) → Contains (map f xs) y → (x : X) × Contains xs x × (f x ≡ y)
made_from f [] y (k, lt, same) = absurd (omega arith)
made_from f (x ∷ xs) y (zero, lt, same) = (x, (0, omega arith, refl), same)
made_from f (x ∷ xs) y (suc k, lt, same) =
    let (z, (j, within, is), made) = made_from f xs y (k, omega arith, same) in
    (z, (suc j, omega arith, is), made)

module _ (Passes : List ℕ → Type 0) (found : List (ArrayVec ℕ)) (exact : ListsExactly Passes (map (λ p. p.items) found)) where
  -- where nothing was found, nothing passes
  none_passes : length found ≡ 0 → (y : List ℕ) → Passes y → ⊥
  none_passes none y passes =
      let (k, lt, same) = exact.all y passes in
      let as_many : length (map (λ (p : ArrayVec ℕ). p.items) found) ≡ length found = length-map found (λ (p : ArrayVec ℕ). p.items) in
      absurd (omega arith)

  -- where something was found, it passes
  one_passes : 0 < length found → (y : List ℕ) × Passes y
  one_passes some =
      let as_many : length (map (λ (p : ArrayVec ℕ). p.items) found) ≡ length found = length-map found (λ (p : ArrayVec ℕ). p.items) in
      (get_or (map (λ (p : ArrayVec ℕ). p.items) found) 0 [], exact.only 0 [] (omega arith))

  module _ (Good : List ℕ → Type 0) where
    some_passes : SomeOf found Good → (y : List ℕ) × Passes y × Good y
    some_passes (p, (k, lt, same), good) =
        let as_many : length (map (λ (p : ArrayVec ℕ). p.items) found) ≡ length found = length-map found (λ (p : ArrayVec ℕ). p.items) in
        let there : Contains (map (λ (p : ArrayVec ℕ). p.items) found) p.items =
        (k, omega arith, get_or-map (λ (p : ArrayVec ℕ). p.items) found k p p.items lt ∙ ap (λ (p : ArrayVec ℕ). p.items) same) in
        (p.items, All-contains Passes (map (λ (p : ArrayVec ℕ). p.items) found) p.items exact.only there, good)

    each_passes : EachOf found Good → (y : List ℕ) → Passes y → Good y
    each_passes each y passes =
        All-contains Good (map (λ (p : ArrayVec ℕ). p.items) found) y (All-map Good (λ (p : ArrayVec ℕ). p.items) found each) (exact.all y passes)

    some_back : (y : List ℕ) × Passes y × Good y → SomeOf found Good
    some_back (y, passes, good) =
        let (p, there, same) = made_from (λ (p : ArrayVec ℕ). p.items) found y (exact.all y passes) in
        (p, there, subst Good (sym same) good)

    each_back : ((y : List ℕ) → Passes y → Good y) → EachOf found Good
    each_back all = λ k d lt.
        let as_many : length (map (λ (p : ArrayVec ℕ). p.items) found) ≡ length found = length-map found (λ (p : ArrayVec ℕ). p.items) in
        all (get_or found k d).items
        (subst Passes (get_or-map (λ (p : ArrayVec ℕ). p.items) found k d d.items lt) (exact.only k d.items (omega arith)))

module _ (graph : Graph (List ℕ)) (w : Player) (x : List ℕ) (found : List (ArrayVec ℕ))
    (exact : ListsExactly (graph.Successor x) (map (λ p. p.items) found)) where
  module _ (Ranks : List ℕ → ℕ → Type 0) (n : ℕ) where
    down_back_at_end : length found ≡ 0 → GoesDown graph w Ranks x n → graph.ahead x ≡ Some w
    down_back_at_end none (inl (ended, ahead)) = ahead
    down_back_at_end none (inr (inl (turn, (y, goes, good)))) = absurd (none_passes (graph.Successor x) found exact none y goes)
    down_back_at_end none (inr (inr (no_turn, (y, goes), each))) = absurd (none_passes (graph.Successor x) found exact none y goes)

    pub goes_down_at_end : (b : Bool) → length found ≡ 0 → (b ≡ true) ↔ (graph.ahead x ≡ Some w) → (b ≡ true) ↔ GoesDown graph w Ranks x n
    goes_down_at_end b none is =
        (λ yes. inl (none_passes (graph.Successor x) found exact none, is.0 yes), λ down. is.1 (down_back_at_end none down))

    down_back_by_own : 0 < length found → Moves graph w x → GoesDown graph w Ranks x n → SomeOf found (RanksBelow Ranks n)
    down_back_by_own some turn (inl (ended, ahead)) = let (y, goes) = one_passes (graph.Successor x) found exact some in absurd (ended y goes)
    down_back_by_own some turn (inr (inl (own, good))) = some_back (graph.Successor x) found exact (RanksBelow Ranks n) good
    down_back_by_own some turn (inr (inr (no_turn, leads, each))) = absurd (no_turn turn)

    pub goes_down_by_own : (b : Bool) → 0 < length found → Moves graph w x → (b ≡ true) ↔ SomeOf found (RanksBelow Ranks n)
        → (b ≡ true) ↔ GoesDown graph w Ranks x n
    goes_down_by_own b some turn is = (
      λ yes. inr (inl (turn, some_passes (graph.Successor x) found exact (RanksBelow Ranks n) (is.0 yes))),
      λ down. is.1 (down_back_by_own some turn down),
    )

    down_back_by_others : 0 < length found → ¬ Moves graph w x → GoesDown graph w Ranks x n → EachOf found (RanksBelow Ranks n)
    down_back_by_others some no_turn (inl (ended, ahead)) = let (y, goes) = one_passes (graph.Successor x) found exact some in absurd (ended y goes)
    down_back_by_others some no_turn (inr (inl (turn, good))) = absurd (no_turn turn)
    down_back_by_others some no_turn (inr (inr (still, leads, each))) = each_back (graph.Successor x) found exact (RanksBelow Ranks n) each

    pub goes_down_by_others : (b : Bool) → 0 < length found → ¬ Moves graph w x → (b ≡ true) ↔ EachOf found (RanksBelow Ranks n)
        → (b ≡ true) ↔ GoesDown graph w Ranks x n
    goes_down_by_others b some no_turn is = (
      λ yes. inr (inr (
        no_turn,
        one_passes (graph.Successor x) found exact some,
        each_passes (graph.Successor x) found exact (RanksBelow Ranks n) (is.0 yes),
      )),
      λ down. is.1 (down_back_by_others some no_turn down),
    )

  module _ (Good : List ℕ → Type 0) where
    pub held_at_end : (b : Bool) → length found ≡ 0 → (b ≡ true) ↔ ¬ (graph.ahead x ≡ Some w) → (b ≡ true) ↔ IsHeld graph w Good x
    held_at_end b none is = (
      λ yes. record {
        not_won = λ (ended, ahead). is.0 yes ahead;
        own = λ turn y goes. absurd (none_passes (graph.Successor x) found exact none y goes);
        other = λ no_turn. inl (none_passes (graph.Successor x) found exact none);
      },
      λ held. is.1 (λ ahead. held.not_won (none_passes (graph.Successor x) found exact none, ahead)),
    )

    pub held_by_own : (b : Bool) → 0 < length found → Moves graph w x → (b ≡ true) ↔ EachOf found Good → (b ≡ true) ↔ IsHeld graph w Good x
    held_by_own b some turn is = (
      λ yes. record {
        not_won = λ (ended, ahead). let (y, goes) = one_passes (graph.Successor x) found exact some in ended y goes;
        own = λ own y goes. each_passes (graph.Successor x) found exact Good (is.0 yes) y goes;
        other = λ no_turn. absurd (no_turn turn);
      },
      λ held. is.1 (each_back (graph.Successor x) found exact Good (held.own turn)),
    )

    held_back_by_others : 0 < length found → ¬ Moves graph w x → IsHeld graph w Good x → SomeOf found Good
    held_back_by_others some no_turn held =
        elim (held.other no_turn) [
          | inl ended ↦ (let (y, goes) = one_passes (graph.Successor x) found exact some in absurd (ended y goes))
          | inr good ↦ some_back (graph.Successor x) found exact Good good
        ]

    pub held_by_others : (b : Bool) → 0 < length found → ¬ Moves graph w x → (b ≡ true) ↔ SomeOf found Good → (b ≡ true) ↔ IsHeld graph w Good x
    held_by_others b some no_turn is = (
      λ yes. record {
        not_won = λ (ended, ahead). let (y, goes, good) = some_passes (graph.Successor x) found exact Good (is.0 yes) in ended y goes;
        own = λ turn y goes. absurd (no_turn turn);
        other = λ other. inr (some_passes (graph.Successor x) found exact Good (is.0 yes));
      },
      λ held. is.1 (held_back_by_others some no_turn held),
    )
