-- What holds of a table whose parts fit together, sound or not.
use Rattle.std.proofs.Common.{◌≡◌, subst, ℕ, ◌+◌, ◌≤◌, ◌<◌, Bool, true, false, cond, Option, None, IsSome, option_and_then, List, [], ◌∷◌, length, refl, arith, slice_get}
use Rattle.std.specs.Prelude.{count_by}
use Rattle.std.proofs.lemmas.Option.{slice_get_within}
use Rattle.std.proofs.lemmas.List.Sums.{sum_by-cons}
use Rattle.rbg_game.specs.declared.roles.Player.{Player}
use Rattle.retrograde.specs.declared.records.State.{State}
use Rattle.retrograde.specs.declared.records.State.TheVariants.{Known, Expanded, Settled, Processed}
use Rattle.retrograde.specs.declared.records.Record.{Record}
use Rattle.retrograde.specs.Stored.{Stored, HasRecord, FitsState, IsTable, is_expanded, is_processed, is_settled, value_of, view_of, expanded_count, processed_count}
use Rattle.retrograde.proofs.Finished.{element}
use Rattle.retrograde.proofs.Sound.{value_needs_record, processed_has_value}

-- a record with a value is that of an expanded position
valued_state : (s : State) (r : Record) → FitsState s r → IsSome (value_of r) → is_expanded s ≡ true
valued_state Known r fits some = absurd (no_value r fits.0 some)
  where
    no_value : (r : Record) → r.winner ≡ None → IsSome (value_of r) → ⊥
    no_value r none some =
        let value : value_of r ≡ None = rw none refl in
        let wrong : IsSome {T = Player × ℕ} None = subst (λ (o : Option (Player × ℕ)). IsSome o) value some in
        cc
valued_state Expanded r fits some = refl
valued_state Settled r fits some = refl
valued_state Processed r fits some = refl

processed_settled : (s : State) → is_processed s ≡ true → is_settled s ≡ true
processed_settled Known is = cc
processed_settled Expanded is = cc
processed_settled Settled is = refl
processed_settled Processed is = refl

-- what passes a stricter test is counted by the other
count_within : {A : Type 0} (a b : A → Bool) (xs : List A) → ((x : A) → a x ≡ true → b x ≡ true) → count_by a xs ≤ count_by b xs
count_within a b [] within = omega arith
count_within a b (x ∷ xs) within =
    let below : count_by a xs ≤ count_by b xs = count_within a b xs within in
    let strict : count_by a (x ∷ xs) ≡ cond (a x) 1 0 + count_by a xs = sum_by-cons (λ z. cond (a z) 1 0) x xs in
    let wide : count_by b (x ∷ xs) ≡ cond (b x) 1 0 + count_by b xs = sum_by-cons (λ z. cond (b z) 1 0) x xs in
    let here : cond (a x) 1 0 ≤ cond (b x) 1 0 = one (a x) (b x) (within x) in
    omega arith
  where
    one : (p q : Bool) → (p ≡ true → q ≡ true) → cond p 1 0 ≤ cond q 1 0
    one true q more = rw (more refl) (omega arith)
    one false q more = omega arith

module _ {P : Type 0} (stored : Stored P) (table : IsTable stored) where
  pub record_of : (i : ℕ) → i < length stored.positions → (r : Record) × HasRecord stored i r
  record_of i within = let same : length stored.records ≡ length stored.positions = table.records in element stored.records i (omega arith)

  pub valued_within : (i : ℕ) → IsSome ((view_of stored).value i) → i < length stored.positions
  valued_within i some =
      let (r, is) = value_needs_record (slice_get stored.records i) some in
      let within : i < length stored.records = slice_get_within stored.records i r is in
      let same : length stored.records ≡ length stored.positions = table.records in
      omega arith

  pub valued_expanded : (i : ℕ) → IsSome ((view_of stored).value i) → i < expanded_count stored
  valued_expanded i some =
      let (r, is) = value_needs_record (slice_get stored.records i) some in
      let value : IsSome (value_of r) = subst (λ (o : Option Record). IsSome (option_and_then value_of o)) is some in
      (table.expanded i r is).0 (valued_state r.state r (table.states i r is) value)

  pub processed_valued : (i : ℕ) → (view_of stored).processed i ≡ true → IsSome ((view_of stored).value i)
  processed_valued i is = processed_has_value (slice_get stored.records i) is (table.states i)

  -- no more are processed than stand in the order
  pub processed_few : processed_count stored ≤ length stored.order
  processed_few =
      let counted : length stored.order ≡ count_by (λ (r : Record). is_settled r.state) stored.records = table.counted in
      let few : count_by (λ (r : Record). is_processed r.state) stored.records ≤ count_by (λ (r : Record). is_settled r.state) stored.records
      = count_within (λ (r : Record). is_processed r.state) (λ (r : Record). is_settled r.state) stored.records (λ r is. processed_settled r.state is) in
      omega arith
