-- Entries whose numbers and places are right spell a table whose parts fit together.
use Rattle.std.proofs.Common.{◌≡◌, inl, inr, ℕ, zero, suc, ◌^◌, ◌<◌, ◌≤◌, ◌&&◌, nat_lt, Bool, true, false, List, [], ◌∷◌, ◌++◌, length, map, zip}
use Rattle.std.proofs.Common.{get_or, Option, Some, None, refl, sym, ◌∙◌, ap, subst, arith}
use Rattle.std.specs.Prelude.{slice_get}
use Rattle.std.specs.Option.{is_some, option_map}
use Rattle.std.proofs.lemmas.Bool.{ltb-true, lt-ltb}
use Rattle.std.proofs.lemmas.List.{length-map}
use Rattle.std.proofs.lemmas.Option.{same_Some, slice_get_within, slice_get-get_or, slice_get-map}
use Rattle.retrograde.specs.declared.records.Record.{Record}
use Rattle.retrograde.specs.Changes.{fresh_record}
use Rattle.retrograde.specs.Stored.{Stored, FitsState, IsTable, is_expanded, is_processed, is_settled}
use Rattle.retrograde.specs.Stored.{expanded_count, processed_count, settled_count, processed_in}
use Rattle.game_file.specs.declared.sizes.Sizes.{Sizes}
use Rattle.game_file.specs.Bytes.{IsCell, IsNumber}
use Rattle.game_file.specs.Numbers.{AreWithinLimits}
use Rattle.btree.specs.Page.{Item}
use Rattle.btree.specs.Entries.{find_entry}
use Rattle.tree_table.specs.declared.tree.Tree.{Tree}
use Rattle.tree_table.specs.declared.tree.Tree.TheVariants.{Positions, Records, Edges, Order}
use Rattle.tree_table.specs.Entries.{number_key, edge_key, AreByNumber, AreByPosition, AreByEdge}
use Rattle.tree_table.specs.lemmas.Lists.{push_cases, push_long}
use Rattle.tree_table.specs.lemmas.Numbers.{same_number}
use Rattle.tree_file.specs.Counted.{IsEdgeBelow, AreAsMany}
use Rattle.tree_file.specs.Spelled.{SpellTable}
use Rattle.tree_file.specs.lemmas.Right.{IsNumberAt, IsCellAt, is_among, FitsPlace, IsPlaceOf, AreRight}
use Rattle.tree_file.proofs.FoundPlaces.{one_number_at}
use Rattle.tree_file.proofs.Winners.{settled_has, only_settled, processed_settled, value_has, value_there}
use Rattle.tree_file.specs.lemmas.Counts.{no_other_key, count_is, found_entry}

-- things of which there is one for each number make a list
choose : {A : Type 0} (Is : ℕ → A → Type 0) (n : ℕ) → ((i : ℕ) → i < n → (x : A) × Is i x)
    → (xs : List A) × (length xs ≡ n) × ((i : ℕ) (x : A) → slice_get xs i ≡ Some x → Is i x)
choose Is zero each = ([], refl, λ i x got. absurd (cc))
choose {A} Is (suc n) each =
    let (xs, long, all) = choose Is n (λ i low. each i (omega (arith, low))) in
    let (x, last) = each n (omega arith) in (
      xs ++ x ∷ [],
      (let e = push_long xs x in omega (arith, e, long)),
      λ i y got. elim (push_cases xs x i y got) [
        | inl before ↦ all i y before
        | inr here ↦ (let at : n ≡ i = omega (arith, here.0, long) in subst (λ (p : ℕ × A). Is p.0 p.1) (λ t. (at t, here.1 t)) last)
      ],
    )

mapped : {A B : Type 0} (f : A → B) (xs : List A) (i : ℕ) (y : B) → slice_get (map f xs) i ≡ Some y → (x : A) × (slice_get xs i ≡ Some x) × (f x ≡ y)
mapped {A} {B} f xs i y got = go (slice_get xs i) refl
  where
    go : (o : Option A) → slice_get xs i ≡ o → (x : A) × (slice_get xs i ≡ Some x) × (f x ≡ y)
    go None is = (let e : None ≡ Some y = sym (slice_get-map f xs i ∙ ap (option_map f) is) ∙ got in absurd (cc))
    go (Some x) is = (x, is, same_Some (f x) y (sym (slice_get-map f xs i ∙ ap (option_map f) is) ∙ got))

-- pairs taken apart and put together
zipped : {A B : Type 0} (cells : List (A × B)) → zip (map (λ c. c.0) cells) (map (λ c. c.1) cells) ≡ cells
zipped [] = refl
zipped {A} {B} (c ∷ cells) = ap (λ (rest : List (A × B)). c ∷ rest) (zipped cells)

-- truths
three_true : (a b c : Bool) → (a && b && c) ≡ true → (a ≡ true) × (b ≡ true) × (c ≡ true)
three_true true true c is = (refl, refl, is)
three_true true false c is = absurd (cc)
three_true false b c is = absurd (cc)

true_three : (a b c : Bool) → a ≡ true → b ≡ true → c ≡ true → (a && b && c) ≡ true
true_three a b c one two three = λ i. one i && two i && three i

some_is : {A : Type 0} (o : Option A) → is_some o ≡ true → (x : A) × (o ≡ Some x)
some_is (Some x) is = (x, refl)
some_is None is = absurd (cc)

among_some : (count : ℕ) (place : Option ℕ) (k : ℕ) → place ≡ Some k → is_among count place ≡ nat_lt k count
among_some count place k is = ap (is_among count) is

-- a number has this position and this record
pub record IsWhole (sizes : Sizes) (entries : Tree → List Item) (i : ℕ) (c : List ℕ × Record) : Type 0 where
  pub place : Option ℕ
  pub is_place : IsPlaceOf sizes entries i place
  pub cell : IsCellAt sizes.packed (entries Records) i c
  pub back : IsNumberAt (entries Positions) c.0 i
  pub fits : FitsPlace sizes.counts i place c.1

module _ (sizes : Sizes) (entries : Tree → List Item) (limits : AreWithinLimits sizes) (many : AreAsMany sizes entries)
    (right : AreRight sizes entries 0 sizes.counts.known) where
  cells_made : (cells : List (List ℕ × Record)) × (length cells ≡ sizes.counts.known)
      × ((i : ℕ) (c : List ℕ × Record) → slice_get cells i ≡ Some c → IsWhole sizes entries i c)
  cells_made = choose (IsWhole sizes entries) sizes.counts.known (λ i low.
      let it = right.numbers i (omega arith) low in (
        (it.right.position, it.right.kept),
        record { place = it.place; is_place = it.is_place; cell = it.right.cell; back = it.right.back; fits = it.right.fits },
      ))

  order_made : (order : List ℕ) × (length order ≡ sizes.counts.settled)
      × ((k n : ℕ) → slice_get order k ≡ Some n → (n < sizes.counts.known) × IsNumberAt (entries Order) (number_key k) n)
  order_made = choose (λ k n. (n < sizes.counts.known) × IsNumberAt (entries Order) (number_key k) n) sizes.counts.settled
      (λ k low. let (n, less, at) = right.places k low in (n, (less, at)))

  abbrev cells : List (List ℕ × Record)
  cells = cells_made.0

  abbrev order : List ℕ
  order = order_made.0

  abbrev positions : List (List ℕ)
  positions = map (λ c. c.0) cells

  abbrev records : List Record
  records = map (λ c. c.1) cells

  abbrev has_edge : ℕ → ℕ → Bool
  has_edge i p = nat_lt i sizes.counts.known && nat_lt p sizes.counts.known && is_some (find_entry (entries Edges) (edge_key i p))

  abbrev made : Stored (List ℕ)
  made = record { positions = positions; records = records; has_edge = has_edge; order = order }

  known_is : length positions ≡ sizes.counts.known
  known_is = length-map cells (λ (c : List ℕ × Record). c.0) ∙ cells_made.1

  recorded : length records ≡ sizes.counts.known
  recorded = length-map cells (λ (c : List ℕ × Record). c.1) ∙ cells_made.1

  small : (i : ℕ) → i < sizes.counts.known → i < 2 ^ 32
  small i low = omega (arith, low, limits.known)

  few : sizes.counts.settled ≤ sizes.counts.known
  few = omega (arith, limits.settled, limits.expanded)

  -- the cell of a position, of a record, of a number
  of_position : (i : ℕ) (x : List ℕ) → slice_get positions i ≡ Some x → IsNumberAt (entries Positions) x i
  of_position i x got =
      let (c, at, is) = mapped (λ (c : List ℕ × Record). c.0) cells i x got in
      subst (λ (y : List ℕ). IsNumberAt (entries Positions) y i) is (cells_made.2 i c at).back

  of_record : (i : ℕ) (r : Record) → slice_get records i ≡ Some r → (place : Option ℕ) × IsPlaceOf sizes entries i place × FitsPlace sizes.counts i place r
  of_record i r got =
      let (c, at, is) = mapped (λ (c : List ℕ × Record). c.1) cells i r got in
      let it = cells_made.2 i c at in
      (it.place, it.is_place, subst (λ (s : Record). FitsPlace sizes.counts i it.place s) is it.fits)

  a_record : (i : ℕ) → i < sizes.counts.known → (r : Record) × (slice_get records i ≡ Some r)
  a_record i low = (get_or records i fresh_record, slice_get-get_or records i fresh_record (omega (arith, low, recorded)))

  a_place : (k : ℕ) → k < sizes.counts.settled → slice_get order k ≡ Some (get_or order k 0)
  a_place k low = slice_get-get_or order k 0 (omega (arith, low, order_made.1))

  within : (k n : ℕ) → slice_get order k ≡ Some n → k < sizes.counts.settled
  within k n got = omega (arith, slice_get_within order k n got, order_made.1)

  same_place : (j k i : ℕ) → slice_get order j ≡ Some i → slice_get order k ≡ Some i → j ≡ k
  same_place j k i one two =
      let (low, at) = order_made.2 j i one in
      let (r, got) = a_record i low in
      let (place, is_place, fits) = of_record i r got in
      let first = is_place.only j (within j i one) at in
      let second = is_place.only k (within k i two) (order_made.2 k i two).1 in
      same_Some j k (sym first ∙ second)

  -- the record of a number in the order
  placed : (k i : ℕ) → slice_get order k ≡ Some i
      → (r : Record) × (slice_get records i ≡ Some r) × (is_settled r.state ≡ true)
      × (is_processed r.state ≡ nat_lt k sizes.counts.processed) × FitsState r.state r
  placed k i got =
      let (low, at) = order_made.2 k i got in
      let (r, there) = a_record i low in
      let (place, is_place, fits) = of_record i r there in
      let is = is_place.only k (within k i got) at in
      (r, there, fits.settled ∙ ap is_some is, fits.processed ∙ among_some sizes.counts.processed place k is, fits.state)

  -- the place of a settled record
  found_place : (i : ℕ) (r : Record) → slice_get records i ≡ Some r → is_settled r.state ≡ true
      → (k : ℕ) × (k < sizes.counts.settled) × (slice_get order k ≡ Some i) × (is_processed r.state ≡ nat_lt k sizes.counts.processed)
  found_place i r got settled =
      let (place, is_place, fits) = of_record i r got in
      let (k, is) = some_is place (sym fits.settled ∙ settled) in
      let (low, at) = is_place.there k is in
      let here = a_place k low in
      let same : get_or order k 0 ≡ i = one_number_at (entries Order) (number_key k) (get_or order k 0) i (order_made.2 k (get_or order k 0) here).1 at in
      (k, low, here ∙ ap Some same, fits.processed ∙ among_some sizes.counts.processed place k is)

  settled_many : settled_count made ≡ sizes.counts.settled
  settled_many = count_is (λ r. is_settled r.state) records sizes.counts.settled (λ k. get_or order k 0)
      (λ j k low less same. same_place j k (get_or order k 0) (a_place j low ∙ ap Some same) (a_place k less))
      (λ k low. let (r, got, settled, processed, fits) = placed k (get_or order k 0) (a_place k low) in (r, got, settled))
      (λ i r got settled. let (k, low, at, processed) = found_place i r got settled in (k, low, same_Some (get_or order k 0) i (sym (a_place k low) ∙ at)))

  processed_many : processed_count made ≡ sizes.counts.processed
  processed_many = count_is (λ r. is_processed r.state) records sizes.counts.processed (λ k. get_or order k 0)
      (λ j k low less same. same_place j k (get_or order k 0)
      (a_place j (omega (arith, low, limits.processed)) ∙ ap Some same) (a_place k (omega (arith, less, limits.processed))))
      (λ k low. let (r, got, settled, processed, fits) = placed k (get_or order k 0) (a_place k (omega (arith, low, limits.processed))) in
      (r, got, processed ∙ lt-ltb k sizes.counts.processed low))
      (λ i r got is. let (k, low, at, processed) = found_place i r got (processed_settled r.state is) in
      (k, ltb-true k sizes.counts.processed (sym processed ∙ is), same_Some (get_or order k 0) i (sym (a_place k low) ∙ at)))

  expanded_at : (i : ℕ) (r : Record) → slice_get records i ≡ Some r → is_expanded r.state ≡ nat_lt i sizes.counts.expanded
  expanded_at i r got = let (place, is_place, fits) = of_record i r got in fits.expanded

  expanded_many : expanded_count made ≡ sizes.counts.expanded
  expanded_many = count_is (λ r. is_expanded r.state) records sizes.counts.expanded (λ k. k)
      (λ j k low less same. same)
      (λ k low. let (r, got) = a_record k (omega (arith, low, limits.expanded)) in (r, got, expanded_at k r got ∙ lt-ltb k sizes.counts.expanded low))
      (λ i r got is. (i, ltb-true i sizes.counts.expanded (sym (expanded_at i r got) ∙ is), refl))

  -- the keys
  no_other_number : {A : Type 0} (es : List Item) (n : ℕ) (IsOf : List ℕ → A → Type 0) (xs : List A) → length es ≡ n → length xs ≡ n → n ≤ 2 ^ 24
      → ((i : ℕ) (x : A) → slice_get xs i ≡ Some x → (value : List ℕ) × (find_entry es (number_key i) ≡ Some value) × IsOf value x)
      → ((i : ℕ) → i < n → (x : A) × (slice_get xs i ≡ Some x))
      → AreByNumber IsOf es xs
  no_other_number es n IsOf xs long as_long least each all = record {
    each = each;
    only = λ key value found.
        let (i, low, is) = no_other_key es n number_key long
        (λ i j low less same. same_number i j (omega (arith, low, least)) (omega (arith, less, least)) same)
        (λ i low. let (x, got) = all i low in let (v, at, of) = each i x got in ap is_some at)
        key (ap is_some found) in
        (i, is, omega (arith, low, as_long));
  }

  by_position : AreByPosition (entries Positions) positions
  by_position = record {
    each = λ i x got. let it = of_position i x got in (it.value, it.found, it.is);
    only = λ x value found.
        let (i, low, is) = no_other_key (entries Positions) sizes.counts.known (λ i. get_or positions i []) many.positions
        (λ i j low less same. one_number_at (entries Positions) (get_or positions j []) i j
        (subst (λ (y : List ℕ). IsNumberAt (entries Positions) y i) same (of_position i (get_or positions i []) (a_position i low)))
        (of_position j (get_or positions j []) (a_position j less)))
        (λ i low. ap is_some (of_position i (get_or positions i []) (a_position i low)).found)
        x (ap is_some found) in
        (i, a_position i low ∙ ap Some (sym is));
  }
    where
      a_position : (i : ℕ) → i < sizes.counts.known → slice_get positions i ≡ Some (get_or positions i [])
      a_position i low = slice_get-get_or positions i [] (omega (arith, low, known_is))

  by_record : AreByNumber (IsCell sizes.packed) (entries Records) (zip positions records)
  by_record = subst (λ (cs : List (List ℕ × Record)). AreByNumber (IsCell sizes.packed) (entries Records) cs) (sym (zipped cells))
      (no_other_number (entries Records) sizes.counts.known (IsCell sizes.packed) cells many.records cells_made.1 limits.known
      (λ i c got. let it = (cells_made.2 i c got).cell in (it.value, it.found, it.is))
      (λ i low. (get_or cells i ([], fresh_record), slice_get-get_or cells i ([], fresh_record) (omega (arith, low, cells_made.1)))))

  by_place : AreByNumber IsNumber (entries Order) order
  by_place = no_other_number (entries Order) sizes.counts.settled IsNumber order many.order order_made.1 (omega (arith, few, limits.known))
      (λ k n got. let it = (order_made.2 k n got).1 in (it.value, it.found, it.is))
      (λ k low. (get_or order k 0, a_place k low))

  by_edge : AreByEdge (entries Edges) sizes.counts.known has_edge
  by_edge = record {
    each = λ i p is. (three_true (nat_lt i sizes.counts.known) (nat_lt p sizes.counts.known) (is_some (find_entry (entries Edges) (edge_key i p))) is).2;
    only = λ key value found.
        let it = found_entry (IsEdgeBelow sizes.counts.known) (entries Edges) key value many.between found in (
          it.to,
          it.from,
          it.is,
          true_three (nat_lt it.to sizes.counts.known) (nat_lt it.from sizes.counts.known) (is_some (find_entry (entries Edges) (edge_key it.to it.from)))
              (lt-ltb it.to sizes.counts.known it.to_known) (lt-ltb it.from sizes.counts.known it.from_known)
              (ap (λ (k : List ℕ). is_some (find_entry (entries Edges) k)) (sym it.is) ∙ ap is_some found),
        );
    between = edge_between;
  }
    where
      edge_between : (i p : ℕ) → has_edge i p ≡ true → (i < sizes.counts.known) × (p < sizes.counts.known)
      edge_between i p is =
          let all = three_true (nat_lt i sizes.counts.known) (nat_lt p sizes.counts.known) (is_some (find_entry (entries Edges) (edge_key i p))) is in
          (ltb-true i sizes.counts.known all.0, ltb-true p sizes.counts.known all.1)

  made_whole : IsTable made
  made_whole = record {
    started = omega (arith, limits.started, known_is);
    records = recorded ∙ sym known_is;
    distinct = λ i j x one two. one_number_at (entries Positions) x i j (of_position i x one) (of_position j x two);
    states = λ i r got. (let (place, is_place, fits) = of_record i r got in fits.state);
    expanded = λ i r got. (
      (λ is. let low = ltb-true i sizes.counts.expanded (sym (expanded_at i r got) ∙ is) in omega (arith, low, expanded_many)),
      (λ low. expanded_at i r got ∙ lt-ltb i sizes.counts.expanded (omega (arith, low, expanded_many))),
    );
    listed = λ i has.
        let (r, got, won) = value_has (slice_get records i) has in
        let (place, is_place, fits) = of_record i r got in
        let (k, low, at, processed) = found_place i r got (only_settled r r.state fits.state won) in
        (k, at);
    settled = λ k i got. (let (r, at, settled, processed, fits) = placed k i got in value_there records i r at (settled_has r r.state settled fits));
    counted = order_made.1 ∙ sym settled_many;
    once = same_place;
    processed = λ k i got. (let (r, at, settled, processed, fits) = placed k i got in (
      (λ is. let low = ltb-true k sizes.counts.processed (sym processed ∙ (sym (ap processed_in at) ∙ is)) in omega (arith, low, processed_many)),
      (λ low. ap processed_in at ∙ (processed ∙ lt-ltb k sizes.counts.processed (omega (arith, low, processed_many)))),
    ));
    edges = λ i p is. (let both = by_edge.between i p is in (omega (arith, both.0, known_is), omega (arith, both.1, known_is)));
  }

  -- right numbers and places make a table
  pub right_spell : (table : Stored (List ℕ)) × SpellTable sizes entries table
  right_spell = (
    made,
    record {
      spelled = record {
        known = known_is;
        recorded = recorded;
        settled = order_made.1;
        edge_count = many.edges;
        positions = by_position;
        records = by_record;
        edges = by_edge;
        order = by_place;
      };
      fits = made_whole;
      counts = λ t. record { known = known_is t; expanded = expanded_many t; settled = order_made.1 t; processed = processed_many t };
    },
  )
