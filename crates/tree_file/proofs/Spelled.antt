-- Entries that spell a table whose parts fit together have right numbers and places.
use Rattle.std.proofs.Common.{◌≡◌, ℕ, ◌<◌, ◌↔◌, nat_lt, Bool, true, false, List, []}
use Rattle.std.proofs.Common.{get_or, Option, Some, None, refl, sym, ◌∙◌, ap, subst, arith}
use Rattle.std.specs.Prelude.{slice_get}
use Rattle.std.specs.Option.{is_some}
use Rattle.std.proofs.lemmas.Bool.{ltb-true, lt-ltb}
use Rattle.std.proofs.lemmas.Option.{same_Some, slice_get_within, slice_get-get_or}
use Rattle.retrograde.specs.declared.records.Record.{Record}
use Rattle.retrograde.specs.declared.records.Counts.{Counts}
use Rattle.retrograde.specs.Changes.{fresh_record}
use Rattle.retrograde.specs.Stored.{Stored, is_expanded, is_processed, is_settled, expanded_count, processed_count, processed_in}
use Rattle.game_file.specs.declared.sizes.Sizes.{Sizes}
use Rattle.btree.specs.Page.{Item}
use Rattle.tree_table.specs.declared.tree.Tree.{Tree}
use Rattle.tree_table.specs.declared.tree.Tree.TheVariants.{Positions, Records, Order}
use Rattle.tree_table.specs.Entries.{number_key}
use Rattle.tree_table.specs.lemmas.Lists.{zip_got}
use Rattle.tree_file.specs.Spelled.{SpellTable}
use Rattle.tree_file.specs.lemmas.Right.{IsNumberAt, IsCellAt, is_among, IsPlaceOf, IsRightNumber, AreRight}
use Rattle.tree_file.proofs.FoundPlaces.{one_number_at}
use Rattle.tree_file.proofs.Winners.{settled_has, only_settled, processed_settled, value_has, value_there}

-- truths
same_truths : (a b : Bool) → (a ≡ true) ↔ (b ≡ true) → a ≡ b
same_truths true b both = sym (both.0 refl)
same_truths false true both = both.1 refl
same_truths false false both = refl

-- a table that is spelled has right numbers and places
module _ (sizes : Sizes) (entries : Tree → List Item) (table : Stored (List ℕ)) (it : SpellTable sizes entries table) where
  place_there : (k : ℕ) (i : ℕ) → slice_get table.order k ≡ Some i → (k < sizes.counts.settled) × IsNumberAt (entries Order) (number_key k) i
  place_there k i got =
      let (v, found, is) = it.spelled.order.each k i got in
      (omega (arith, slice_get_within table.order k i got, it.spelled.settled), record { value = v; found = found; is = is })

  place_back : (k : ℕ) (i : ℕ) → k < sizes.counts.settled → IsNumberAt (entries Order) (number_key k) i → slice_get table.order k ≡ Some i
  place_back k i low at =
      let got = slice_get-get_or table.order k 0 (omega (arith, low, it.spelled.settled)) in
      got ∙ ap Some (one_number_at (entries Order) (number_key k) (get_or table.order k 0) i (place_there k (get_or table.order k 0) got).1 at)

  of_number : (i : ℕ) → i < sizes.counts.known → IsRightNumber sizes entries i
  of_number i low = by_state (is_settled kept.state) refl
    where
      position : List ℕ
      position = get_or table.positions i []

      kept : Record
      kept = get_or table.records i fresh_record

      at_position : slice_get table.positions i ≡ Some position
      at_position = slice_get-get_or table.positions i [] (omega (arith, low, it.spelled.known))

      at_kept : slice_get table.records i ≡ Some kept
      at_kept = slice_get-get_or table.records i fresh_record (omega (arith, low, it.spelled.recorded))

      cell : IsCellAt sizes.packed (entries Records) i (position, kept)
      cell =
          let (v, found, is) = it.spelled.records.each i (position, kept) (zip_got table.positions table.records i position kept at_position at_kept) in
          record { value = v; found = found; is = is }

      back : IsNumberAt (entries Positions) position i
      back = let (v, found, is) = it.spelled.positions.each i position at_position in record { value = v; found = found; is = is }

      as_expanded : is_expanded kept.state ≡ nat_lt i sizes.counts.expanded
      as_expanded =
          let many : expanded_count table ≡ sizes.counts.expanded = ap (λ (c : Counts). c.expanded) it.counts in
          same_truths (is_expanded kept.state) (nat_lt i sizes.counts.expanded) (
            (λ is. lt-ltb i sizes.counts.expanded (let less = (it.fits.expanded i kept at_kept).0 is in omega (arith, less, many))),
            (λ is. (it.fits.expanded i kept at_kept).1 (let less = ltb-true i sizes.counts.expanded is in omega (arith, less, many))),
          )

      right_with : (place : Option ℕ) → IsPlaceOf sizes entries i place → is_settled kept.state ≡ is_some place
          → is_processed kept.state ≡ is_among sizes.counts.processed place → IsRightNumber sizes entries i
      right_with place is_place settled processed = record {
        place = place;
        is_place = is_place;
        right = record {
          position = position;
          kept = kept;
          cell = cell;
          back = back;
          fits = record { state = it.fits.states i kept at_kept; expanded = as_expanded; settled = settled; processed = processed };
        };
      }

      unprocessed : is_settled kept.state ≡ false → is_processed kept.state ≡ false
      unprocessed is = by_truth (is_processed kept.state) refl
        where
          by_truth : (b : Bool) → is_processed kept.state ≡ b → b ≡ false
          by_truth true sure = let e : is_settled kept.state ≡ true = processed_settled kept.state sure in absurd (cc)
          by_truth false other = refl

      by_state : (b : Bool) → is_settled kept.state ≡ b → IsRightNumber sizes entries i
      by_state true is =
          let (k, got) = it.fits.listed i (value_there table.records i kept at_kept (settled_has kept kept.state is (it.fits.states i kept at_kept))) in
          let many : processed_count table ≡ sizes.counts.processed = ap (λ (c : Counts). c.processed) it.counts in
          let when = it.fits.processed k i got in
          right_with (Some k)
          record {
            there = λ j same.
                subst (λ (m : ℕ). (m < sizes.counts.settled) × IsNumberAt (entries Order) (number_key m) i) (same_Some k j same) (place_there k i got);
            only = λ j low at. ap Some (it.fits.once k j i got (place_back j i low at));
          }
          is
          (same_truths (is_processed kept.state) (nat_lt k sizes.counts.processed) (
            (λ sure. lt-ltb k sizes.counts.processed (let less = when.0 (ap processed_in at_kept ∙ sure) in omega (arith, less, many))),
            (λ sure. sym (ap processed_in at_kept) ∙ when.1 (let less = ltb-true k sizes.counts.processed sure in omega (arith, less, many))),
          ))
      by_state false is = right_with None
          record {
            there = λ j same. absurd (cc);
            only = λ j low at. absurd (
                let (r, got, won) = value_has (slice_get table.records i) (it.fits.settled j i (place_back j i low at)) in
                let settled : is_settled r.state ≡ true = only_settled r r.state (it.fits.states i r got) won in
                let same : r ≡ kept = same_Some r kept (sym got ∙ at_kept) in
                let e : is_settled kept.state ≡ true = ap (λ (s : Record). is_settled s.state) (sym same) ∙ settled in cc);
          }
          is (unprocessed is)

  pub spell_right : AreRight sizes entries 0 sizes.counts.known
  spell_right = record {
    places = λ k low.
        let got = slice_get-get_or table.order k 0 (omega (arith, low, it.spelled.settled)) in
        let (r, at, won) = value_has (slice_get table.records (get_or table.order k 0)) (it.fits.settled k (get_or table.order k 0) got) in (
          get_or table.order k 0,
          omega (arith, slice_get_within table.records (get_or table.order k 0) r at, it.spelled.recorded),
          (place_there k (get_or table.order k 0) got).1,
        );
    numbers = λ i from low. of_number i low;
  }
