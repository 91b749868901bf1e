-- The parts of a table in memory make a whole.
use Rattle.std.proofs.Common.{◌≡◌, ◌<◌, ◌↔◌, ◌∙◌, sym, ap, subst, arith, ℕ, Bool, true, false, refl, List, length, Option, Some, None, slice_get}
use Rattle.std.specs.Prelude.{IsSome, count_by, ◌&&◌}
use Rattle.std.specs.Option.{option_map, option_and_then}
use Rattle.std.specs.HashMap.{HashMap, get}
use Rattle.std.specs.BTreeSet.{BTreeSet, contains}
use Rattle.std.proofs.lemmas.List.{length-map}
use Rattle.std.proofs.lemmas.Option.{slice_get-map, same_Some}
use Rattle.arrayvec.specs.ArrayVec.{ArrayVec}
use Rattle.rbg_game.specs.declared.roles.Player.{Player}
use Rattle.retrograde.specs.declared.records.State.{State}
use Rattle.retrograde.specs.declared.records.State.TheVariants.{Known, Expanded, Settled, Processed}
use Rattle.retrograde.specs.declared.records.Record.{Record}
use Rattle.retrograde.specs.Stored.{Stored, FitsState, IsTable, is_expanded, is_processed, is_settled, value_of, processed_in, view_of}
use Rattle.table.specs.Memory.{bytes_of_each, position_eq, edge_cmp, AreNumbered, AreBetweenKnown}
use Rattle.table.specs.Fit.{FitsTogether}
use Rattle.table.specs.lemmas.Fit.{IsSettledAs, PartsFit}
use Rattle.retrograde.proofs.Sound.{map_some}
use Rattle.table.proofs.NumberLemmas.{at_bytes}

-- what a record of a settled position has, and only such a one
settled_has : (r : Record) (s : State) → is_settled s ≡ true → FitsState s r → IsSome r.winner
settled_has r Known is fits = absurd (cc)
settled_has r Expanded is fits = absurd (cc)
settled_has r Settled is fits = fits
settled_has r Processed is fits = fits

has_none : (o : Option Player) → o ≡ None → IsSome o → ⊥
has_none None is some = cc
has_none (Some w) is some = absurd (cc)

only_settled : (r : Record) (s : State) → FitsState s r → IsSome r.winner → is_settled s ≡ true
only_settled r Known fits has = absurd (has_none r.winner fits.0 has)
only_settled r Expanded fits has = absurd (has_none r.winner fits.0 has)
only_settled r Settled fits has = refl
only_settled r Processed fits has = refl

-- a number has a value where its record has a winner
value_has : (o : Option Record) → IsSome (option_and_then value_of o) → (r : Record) × (o ≡ Some r) × IsSome r.winner
value_has None has = absurd (cc)
value_has (Some r) has = (r, refl, winner_has r.winner has)
  where
    winner_has : (w : Option Player) → IsSome {T = Player × ℕ} (option_map (λ (p : Player). (p, r.distance)) w) → IsSome w
    winner_has None none = cc
    winner_has (Some p) some = refl

has_value : (r : Record) → IsSome r.winner → IsSome (value_of r)
has_value r has = map_some r.winner r.distance has

module _ {S : Type 0} (positions : List (ArrayVec ℕ)) (numbers : HashMap (ArrayVec ℕ) ℕ S) (records : List Record)
    (edges : BTreeSet (ℕ × ℕ)) (order : List ℕ) (expanded processed : ℕ)
    (numbered : AreNumbered positions numbers) (recorded : length records ≡ length positions) (known : AreBetweenKnown (length positions) edges)
    (expanded_is : expanded ≡ count_by (λ r. is_expanded r.state) records) (processed_is : processed ≡ count_by (λ r. is_processed r.state) records) where
  abbrev whole : Stored (List ℕ)
  whole = record { positions = bytes_of_each positions; records = records; has_edge = λ i p. contains edge_cmp edges (i, p); order = order }

  as_many : length (bytes_of_each positions) ≡ length positions
  as_many = length-map positions (λ p. p.items)

  distinct : (i j : ℕ) (x : List ℕ) → slice_get (bytes_of_each positions) i ≡ Some x → slice_get (bytes_of_each positions) j ≡ Some x → i ≡ j
  distinct i j x at other =
      let p : ArrayVec ℕ = record { items = x } in
      let first : get position_eq numbers p ≡ Some i = numbered.all i p (at_bytes positions i p at) in
      let second : get position_eq numbers p ≡ Some j = numbered.all j p (at_bytes positions j p other) in
      same_Some i j (sym first ∙ second)

  value_at : (i : ℕ) (r : Record) → slice_get records i ≡ Some r → IsSome r.winner → IsSome ((view_of whole).value i)
  value_at i r at has = subst (λ (o : Option Record). IsSome (option_and_then value_of o)) (sym at) (has_value r has)

  processed_at : (i : ℕ) (r : Record) → slice_get records i ≡ Some r → (view_of whole).processed i ≡ is_processed r.state
  processed_at i r at = ap processed_in at

  pub parts_make : PartsFit expanded processed records order → IsTable whole
  parts_make parts = record {
    started = omega (arith, parts.started, recorded, as_many);
    records = recorded ∙ sym as_many;
    distinct = distinct;
    states = λ i r at. (parts.each i r at).0;
    expanded = λ i r at. (
      (λ is. (let low = (parts.each i r at).1.0 is in omega (arith, low, expanded_is))),
      (λ low. (parts.each i r at).1.1 (omega (arith, low, expanded_is))),
    );
    listed = λ i has. (let (r, at, won) = value_has (slice_get records i) has in parts.listed i r at (only_settled r r.state (parts.each i r at).0 won));
    settled = λ k i at. (let it = parts.in_order.settled k i at in
        value_at i it.kept it.found (settled_has it.kept it.kept.state it.settled (parts.each i it.kept it.found).0));
    counted = parts.counted;
    once = parts.in_order.once;
    processed = λ k i at. (let it = parts.in_order.settled k i at in (
      (λ is. (let low = it.processed.0 (sym (processed_at i it.kept it.found) ∙ is) in omega (arith, low, processed_is))),
      (λ low. processed_at i it.kept it.found ∙ it.processed.1 (omega (arith, low, processed_is))),
    ));
    edges = λ i j is. (let both = known i j is in (omega (arith, both.0, as_many), omega (arith, both.1, as_many)));
  }

  pub made_of_parts : IsTable whole → PartsFit expanded processed records order
  made_of_parts table = record {
    started = omega (arith, table.started, recorded, as_many);
    each = λ i r at. (
      table.states i r at,
      (
        (λ is. (let low = (table.expanded i r at).0 is in omega (arith, low, expanded_is))),
        (λ low. (table.expanded i r at).1 (omega (arith, low, expanded_is))),
      ),
    );
    counted = table.counted;
    in_order = record { settled = settled; once = table.once };
    listed = λ i r at is. table.listed i (value_at i r at (settled_has r r.state is (table.states i r at)));
  }
    where
      settled : (k i : ℕ) → slice_get order k ≡ Some i → IsSettledAs records i (k < processed)
      settled k i at =
          let (r, here, won) = value_has (slice_get records i) (table.settled k i at) in
          record {
            kept = r;
            found = here;
            settled = only_settled r r.state (table.states i r here) won;
            processed = (
              (λ is. (let low = (table.processed k i at).0 (processed_at i r here ∙ is) in omega (arith, low, processed_is))),
              (λ low. sym (processed_at i r here) ∙ (table.processed k i at).1 (omega (arith, low, processed_is))),
            );
          }

  -- all lengths
  bytes_there : (i : ℕ) (x : List ℕ) → slice_get (bytes_of_each positions) i ≡ Some x
      → slice_get positions i ≡ Some (let p : ArrayVec ℕ = record { items = x } in p)
  bytes_there i x at = at_bytes positions i (record { items = x }) at

  there_bytes : (i : ℕ) (x : ArrayVec ℕ) → slice_get positions i ≡ Some x → slice_get (bytes_of_each positions) i ≡ Some x.items
  there_bytes i x at = slice_get-map (λ (p : ArrayVec ℕ). p.items) positions i ∙ ap (λ o. option_map (λ (p : ArrayVec ℕ). p.items) o) at

  pub whole_fits : (packed : ℕ) (fit long : Bool) → (fit ≡ true) ↔ PartsFit expanded processed records order
      → (long ≡ true) ↔ ((i : ℕ) (x : ArrayVec ℕ) → slice_get positions i ≡ Some x → length x.items ≡ packed)
      → (fit ≡ true) × (long ≡ true) ↔ FitsTogether packed whole
  whole_fits packed fit long parts lengths = (
    λ (one, other). record { table = parts_make (parts.0 one); long = λ i x at. lengths.0 other i (record { items = x }) (bytes_there i x at) },
    λ fits. (parts.1 (made_of_parts fits.table), lengths.1 (λ i x at. fits.long i x.items (there_bytes i x at))),
  )

pub both_true : (a b : Bool) → (a && b ≡ true) ↔ ((a ≡ true) × (b ≡ true))
both_true true true = ((λ is. (refl, refl)), (λ both. refl))
both_true true false = ((λ is. (refl, is)), (λ both. both.1))
both_true false b = ((λ is. absurd (cc)), (λ both. both.0))

pub either_way : {A B C : Type 0} → A ↔ B → B ↔ C → A ↔ C
either_way one two = ((λ a. two.0 (one.0 a)), (λ c. one.1 (two.1 c)))
