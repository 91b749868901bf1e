-- What a right table says, and what it says once it is finished.
use Rattle.std.proofs.Common.{◌≡◌, ◌∙◌, ◌↔◌, sym, subst, ℕ, zero, suc, ◌≤◌, ◌<◌, ◌⊎◌, inl, inr, ⊎_elim, Option, Some, None, IsSome, List, [], ◌∷◌, length, refl, arith, slice_get}
use Rattle.std.proofs.lemmas.Option.{slice_get_within}
use Rattle.std.proofs.lemmas.Bool.{cases_lt}
use Rattle.rbg_game.specs.declared.roles.Player.{Player}
use Rattle.retrograde.specs.Graph.{Graph, IsReachable, at_start, by_move}
use Rattle.retrograde.specs.Values.{CanMoveTo, MustMoveTo, WinsWithin, WonIn, Drawn}
use Rattle.retrograde.specs.View.{View, HasNumber, IsKnown, IsExpanded, IsProcessed, HasValue, IsFinished}
use Rattle.retrograde.specs.Right.{IsRight, IsShown}
use Rattle.retrograde.proofs.Values.{more, one_winner}

-- an option is empty or full
pub none_or_some : {A : Type 0} (o : Option A) → (o ≡ None) ⊎ ((a : A) × (o ≡ Some a))
none_or_some None = inl refl
none_or_some (Some a) = inr (a, refl)

pub is_some_at : {A : Type 0} (o : Option A) (a : A) → o ≡ Some a → IsSome o
is_some_at o a e = rw e refl

module _ {P : Type 0} (graph : Graph P) (view : View P) (right : IsRight graph view) where
  pub values_are_won : (x : P) (w : Player) (n : ℕ) → HasValue view x w n → WonIn graph w n x
  values_are_won x w n has = ((right.values x w n (has.0, has.1)).0 has).won

  module _ (done : IsFinished view) where
    expanded : (x : P) → IsKnown view x → IsExpanded view x
    expanded x known =
        let within : known.0 < length view.known = slice_get_within view.known known.0 x known.1 in
        let all : view.expanded ≡ length view.known = done.all_expanded in
        (known.0, known.1, omega arith)

    pub reach_is_known : (x : P) → IsReachable graph x → IsKnown view x
    reach_is_known x at_start = (0, right.moves.first)
    reach_is_known x (by_move {x = y} there move) = right.moves.closed y x (expanded y (reach_is_known y there)) move

    -- what is shown of a position with no value
    not_shown : (w : Player) (n i : ℕ) (x : P) → HasNumber view i x → view.value i ≡ None → IsShown graph view x w n → ⊥
    not_shown w n i x number none shown =
        let has : HasValue view x w n = (right.values x w n (i, number)).1 shown in
        let same : has.0 ≡ i = right.coherent.distinct has.0 i x has.1 number in
        let some : view.value i ≡ Some (w, n) = subst (λ (k : ℕ). view.value k ≡ Some (w, n)) same has.2 in
        cc

    -- nobody wins an unsettled position in one more move, if nobody wins one in n
    step : (w : Player) (n : ℕ)
        → ((j : ℕ) (y : P) → HasNumber view j y → view.value j ≡ None → WinsWithin graph w n y → ⊥)
        → (i : ℕ) (x : P) → HasNumber view i x → view.value i ≡ None → WinsWithin graph w (suc n) x → ⊥
    step w n before i x number none won = cases won
      where
        exactly : WonIn graph w (suc n) x
        exactly = record {
          within = won;
          least = λ m wins.
              ⊎_elim
              (λ fewer. let le : m ≤ n = omega arith in absurd (before i x number none (more graph w m n x le wins)))
              (λ enough. enough)
              (cases_lt m (suc n));
        }

        -- where w wins in n, the position is settled and so processed, with n
        processed : (y : P) → graph.Successor x y → WinsWithin graph w n y → IsProcessed view y × ((m : ℕ) × (m ≤ n) × WonIn graph w m y)
        processed y move wins =
            let there : IsKnown view y = right.moves.closed x y (expanded x (i, number)) move in
            ⊎_elim
            (λ empty. absurd (before there.0 y there.1 empty wins))
            (λ full.
            let (value, is) = full in
            let theirs : WonIn graph value.0 value.1 y = values_are_won y value.0 value.1 (there.0, there.1, is) in
            let same : value.0 ≡ w = one_winner graph value.0 w value.1 n y theirs.within wins in
            let ours : WonIn graph w value.1 y = subst (λ (v : Player). WonIn graph v value.1 y) same theirs in (
              (there.0, there.1, done.all_processed there.0 (is_some_at (view.value there.0) value is)),
              (value.1, ours.least n wins, ours),
            ))
            (none_or_some (view.value there.0))

        cases : WinsWithin graph w (suc n) x → ⊥
        cases (inl ended) =
            let zero_le : 0 ≤ n = omega arith in
            before i x number none (more graph w 0 n x zero_le ended)
        cases (inr (inl can)) =
            let (turn, (y, move, wins)) = can in
            let (there, (m, le, ours)) = processed y move wins in
            let enough : suc n ≤ suc m = exactly.least (suc m) (inr (inl (turn, (y, move, ours.within)))) in
            let same : suc n ≡ suc m = omega arith in
            not_shown w (suc n) i x number none
            (record { won = exactly; by = inr (inl (turn, (y, move, (there, (m, same, ours))))) })
        cases (inr (inr must)) =
            not_shown w (suc n) i x number none
            (record {
              won = exactly;
              by = inr (inr (must.0, must.1, λ y move. (processed y move (must.2 y move)).0));
            })

    -- nobody wins an unsettled position
    pub unsettled : (w : Player) (n i : ℕ) (x : P) → HasNumber view i x → view.value i ≡ None → WinsWithin graph w n x → ⊥
    unsettled w zero i x number none won =
        not_shown w 0 i x number none (record {
          won = record { within = won; least = λ m wins. omega arith };
          by = inl (refl, expanded x (i, number));
        })
    unsettled w (suc n) i x number none won = step w n (λ j y. unsettled w n j y) i x number none won

    pub draws : (i : ℕ) (x : P) → HasNumber view i x → (view.value i ≡ None) ↔ Drawn graph x
    draws i x number = (
      λ none w n won. unsettled w n i x number none won,
      λ drawn.
          ⊎_elim
          (λ none. none)
          (λ full. absurd (drawn full.0.0 full.0.1 (values_are_won x full.0.0 full.0.1 (i, number, full.1)).within))
          (none_or_some (view.value i)),
    )

-- each number below the length has its element
pub element : {A : Type 0} (xs : List A) (i : ℕ) → i < length xs → (x : A) × (slice_get xs i ≡ Some x)
element [] i within = absurd (omega arith)
element (x ∷ xs) zero within = (x, refl)
element (x ∷ xs) (suc i) within = element xs i (omega arith)

-- a position settled in one right table is settled so in another with the same positions expanded and processed
module _ {P : Type 0} (graph : Graph P) (a b : View P) (right_a : IsRight graph a) (right_b : IsRight graph b)
    (known : a.known ≡ b.known) (expanded : a.expanded ≡ b.expanded) (processed : (j : ℕ) → a.processed j ≡ b.processed j) where
  has_number : (i : ℕ) (x : P) → HasNumber a i x → HasNumber b i x
  has_number i x number = subst (λ (ks : List P). slice_get ks i ≡ Some x) known number

  is_processed : (x : P) → IsProcessed a x → IsProcessed b x
  is_processed x (i, number, is) = (i, has_number i x number, sym (processed i) ∙ is)

  is_shown : (x : P) (w : Player) (n : ℕ) → IsShown graph a x w n → IsShown graph b x w n
  is_shown x w n shown = record { won = shown.won; by = by shown.by }
    where
      by : ((n ≡ 0) × IsExpanded a x)
          ⊎ (CanMoveTo graph w (λ y. IsProcessed a y × ((m : ℕ) × (n ≡ suc m) × WonIn graph w m y)) x
          ⊎ MustMoveTo graph w (IsProcessed a) x)
          → ((n ≡ 0) × IsExpanded b x)
          ⊎ (CanMoveTo graph w (λ y. IsProcessed b y × ((m : ℕ) × (n ≡ suc m) × WonIn graph w m y)) x
          ⊎ MustMoveTo graph w (IsProcessed b) x)
      by (inl now) =
          let within : now.1.0 < a.expanded = now.1.2 in
          inl (now.0, (now.1.0, has_number now.1.0 x now.1.1, omega arith))
      by (inr (inl can)) =
          let (turn, (y, move, (there, less))) = can in
          inr (inl (turn, (y, move, (is_processed y there, less))))
      by (inr (inr must)) = inr (inr (must.0, must.1, λ y move. is_processed y (must.2 y move)))

  pub settled_too : (i : ℕ) (value : Player × ℕ) → a.value i ≡ Some value → b.value i ≡ Some value
  settled_too i value is =
      let within : i < a.expanded = right_a.coherent.settled i (is_some_at (a.value i) value is) in
      let known_too : a.expanded ≤ length a.known = right_a.coherent.expanded in
      let (x, number) = element a.known i (omega arith) in
      let shown : IsShown graph a x value.0 value.1 = (right_a.values x value.0 value.1 (i, number)).0 (i, number, is) in
      let (j, at, has) = (right_b.values x value.0 value.1 (i, has_number i x number)).1 (is_shown x value.0 value.1 shown) in
      let same : j ≡ i = right_b.coherent.distinct j i x at (has_number i x number) in
      subst (λ (k : ℕ). b.value k ≡ Some value) same has

pub values_are_decided : {P : Type 0} (graph : Graph P) (a b : View P) (i : ℕ) → IsRight graph a → IsRight graph b
    → a.known ≡ b.known → a.expanded ≡ b.expanded → ((j : ℕ) → a.processed j ≡ b.processed j) → a.value i ≡ b.value i
values_are_decided graph a b i right_a right_b known expanded processed =
    ⊎_elim
    (λ empty_a.
    ⊎_elim
    (λ empty_b. empty_a ∙ sym empty_b)
    (λ full_b.
    let other : a.value i ≡ Some full_b.0 = settled_too graph b a right_b right_a (sym known) (sym expanded) (λ j. sym (processed j)) i full_b.0 full_b.1 in
    cc)
    (none_or_some (b.value i)))
    (λ full_a. full_a.1 ∙ sym (settled_too graph a b right_a right_b known expanded processed i full_a.0 full_a.1))
    (none_or_some (a.value i))
