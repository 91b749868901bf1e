-- Places are found one after another, and then the numbers.
use Rattle.std.proofs.Common.{◌≡◌, ◌≢◌, inl, inr, ℕ, suc, ◌+◌, ◌<◌, Bool, true, false, cond, List, [], ◌∷◌, length, map, Option, Some, None, refl, sym, ◌∙◌, ap, subst, arith}
use Rattle.std.specs.Prelude.{nat_lt, slice_index_or, slice_set}
use Rattle.std.specs.Option.{is_some}
use Rattle.std.proofs.Math.ListN.{get_or-map}
use Rattle.std.proofs.lemmas.Bool.{cases_eq}
use Rattle.std.proofs.lemmas.List.{get_or_default, get_or-set_same, get_or-set_other, length-set, length-map, map-set}
use Rattle.std.proofs.lemmas.Option.{same_Some}
use Rattle.retrograde.specs.declared.records.Record.{Record}
use Rattle.game_file.specs.Bytes.{IsCell, IsNumber}
use Rattle.game_file.specs.lemmas.Records.{one_cell}
use Rattle.game_file.specs.declared.sizes.Sizes.{Sizes}
use Rattle.btree.specs.Page.{Item}
use Rattle.tree_table.specs.declared.tree.Tree.{Tree}
use Rattle.tree_table.specs.declared.tree.Tree.TheVariants.{Order}
use Rattle.tree_table.specs.Entries.{number_key}
use Rattle.tree_file.specs.lemmas.Right.{IsNumberAt, IsCellAt, IsRightAt, IsRightPlaced, IsPlaceOf, IsRightNumber, AreKnown, AreRight, ArePlaces, AreMarkedByPlaces}
use Rattle.tree_file.specs.lemmas.Right.{placed_of, has_place, has_done, is_among}
use Rattle.tree_file.specs.declared.places.Placed.{Placed}
use Rattle.tree_file.specs.declared.places.Placed.TheVariants.{Nowhere, Waiting, Processed}

-- one number and one cell stand at a key
pub one_number_at : (es : List Item) (key : List ℕ) (m n : ℕ) → IsNumberAt es key m → IsNumberAt es key n → m ≡ n
one_number_at es key m n a b =
    let same : a.value ≡ b.value = same_Some a.value b.value (sym a.found ∙ b.found) in
    sym a.is.is ∙ (subst (λ (v : List ℕ). IsNumber v n) (sym same) b.is).is

pub one_cell_at : (packed : ℕ) (es : List Item) (i : ℕ) (c d : List ℕ × Record) → IsCellAt packed es i c → IsCellAt packed es i d → c ≡ d
one_cell_at packed es i c d a b =
    let same : a.value ≡ b.value = same_Some a.value b.value (sym a.found ∙ b.found) in
    one_cell packed a.value c d a.is (subst (λ (v : List ℕ). IsCell packed v d) (sym same) b.is)

-- before the first place none is found
pub none_placed : (sizes : Sizes) (entries : Tree → List Item) (placed : List Placed) → ((i : ℕ) → slice_index_or placed i Nowhere ≡ Nowhere)
    → AreMarkedByPlaces sizes entries 0 placed
none_placed sizes entries placed none = record {
  places = map (λ (p : Placed). None) placed;
  are = record {
    known = λ k low. absurd (omega (arith, low));
    each = λ k i low within at. absurd (omega (arith, low));
    only = λ i k is. let never : None ≡ Some k = sym (get_or-map (λ (p : Placed). None) placed i Nowhere) ∙ is in absurd (cc);
  };
  says = nowhere placed none;
}
  where
    nowhere : (ps : List Placed) → ((i : ℕ) → slice_index_or ps i Nowhere ≡ Nowhere)
        → ps ≡ map (placed_of sizes.counts.processed) (map (λ (p : Placed). None) ps)
    nowhere [] each = refl
    nowhere (p ∷ ps) each = λ t. each 0 t ∷ nowhere ps (λ i. each (suc i)) t

-- a place more
module _ (sizes : Sizes) (entries : Tree → List Item) (k n : ℕ) (places : List (Option ℕ)) (are : ArePlaces sizes entries k places)
    (here : IsNumberAt (entries Order) (number_key k) n) where
  the_number : (m : ℕ) → IsNumberAt (entries Order) (number_key k) m → m ≡ n
  the_number m at = one_number_at (entries Order) (number_key k) m n at here

  known_more : n < sizes.counts.known → AreKnown (k + 1) sizes entries
  known_more low j less = elim (cases_eq j k) [
    | inl is ↦ (n, low, subst (λ (m : ℕ). IsNumberAt (entries Order) (number_key m) n) (sym is) here)
    | inr before ↦ are.known j (omega (arith, less, before))
  ]

  -- the number had none
  inside : n < sizes.counts.known → n < length places → slice_index_or places n None ≡ None → ArePlaces sizes entries (k + 1) (slice_set places n (Some k))
  inside low within free = record {
    known = known_more low;
    each = λ j i less inner at. elim (cases_eq j k) [
      | inl is ↦
          let spot : i ≡ n = the_number i (subst (λ (m : ℕ). IsNumberAt (entries Order) (number_key m) i) is at) in
          ap (λ (m : ℕ). slice_index_or (slice_set places n (Some k)) m None) spot
          ∙ get_or-set_same places n (Some k) None within ∙ ap Some (sym is)
      | inr before ↦
          let was = are.each j i (omega (arith, less, before)) (omega (arith, inner, length-set places n (Some k))) at in
          get_or-set_other places n i (Some k) None
          (λ spot. let e : None ≡ Some j = sym free ∙ (sym (ap (λ (m : ℕ). slice_index_or places m None) spot) ∙ was) in cc)
          ∙ was
    ];
    only = λ i j is. elim (cases_eq i n) [
      | inl spot ↦
          let put : Some k ≡ Some j = sym (get_or-set_same places n (Some k) None within)
          ∙ (sym (ap (λ (m : ℕ). slice_index_or (slice_set places n (Some k)) m None) spot) ∙ is) in
          let same : k ≡ j = same_Some k j put in
          (omega (arith, same), subst (λ (p : ℕ × ℕ). IsNumberAt (entries Order) (number_key p.0) p.1) (λ t. (same t, sym spot t)) here)
      | inr other ↦
          let (less, at) = are.only i j (sym (get_or-set_other places n i (Some k) None other) ∙ is) in
          (omega (arith, less), at)
    ];
  }

  -- a number that has a place already has two
  twice : (j : ℕ) → slice_index_or places n None ≡ Some j → n < sizes.counts.known → k < sizes.counts.settled → AreRight sizes entries 0 sizes.counts.known → ⊥
  twice j taken low less right =
      let (before, there) = are.only n j taken in
      let it = right.numbers n (omega arith) low in
      let one = it.is_place.only j (omega (arith, before, less)) there in
      let two = it.is_place.only k less here in
      let same : j ≡ k = same_Some j k (sym one ∙ two) in
      omega (arith, same, before)

-- what a place says is not that there is none
says_some : (processed k : ℕ) → placed_of processed (Some k) ≢ Nowhere
says_some processed k = by (nat_lt k processed)
  where
    by : (b : Bool) → cond b Processed Waiting ≢ Nowhere
    by true is = cc
    by false is = cc

-- what is said of a number is what its place says
pub said_of : (processed : ℕ) (places : List (Option ℕ)) (placed : List Placed) → placed ≡ map (placed_of processed) places → (n : ℕ)
    → slice_index_or placed n Nowhere ≡ placed_of processed (slice_index_or places n None)
said_of processed places placed says n = ap (λ (ps : List Placed). slice_index_or ps n Nowhere) says ∙ get_or-map (placed_of processed) places n None

module _ (sizes : Sizes) (entries : Tree → List Item) (k n : ℕ) (placed : List Placed) (are : AreMarkedByPlaces sizes entries k placed)
    (here : IsNumberAt (entries Order) (number_key k) n) (long : length placed ≡ sizes.counts.known) (low : n < sizes.counts.known)
    (result : Bool) (now : List Placed)
    (is_free : slice_index_or placed n Nowhere ≡ Nowhere → (result ≡ true) × (now ≡ slice_set placed n (placed_of sizes.counts.processed (Some k))))
    (is_taken : slice_index_or placed n Nowhere ≢ Nowhere → result ≡ false) where
  said : slice_index_or placed n Nowhere ≡ placed_of sizes.counts.processed (slice_index_or are.places n None)
  said = said_of sizes.counts.processed are.places placed are.says n

  within : n < length are.places
  within =
      let same : length placed ≡ length are.places = ap length are.says ∙ length-map are.places (placed_of sizes.counts.processed) in
      omega (arith, same, long, low)

  free_there : slice_index_or are.places n None ≡ None → slice_index_or placed n Nowhere ≡ Nowhere
  free_there none = said ∙ ap (placed_of sizes.counts.processed) none

  taken_there : (j : ℕ) → slice_index_or are.places n None ≡ Some j → slice_index_or placed n Nowhere ≢ Nowhere
  taken_there j some is = says_some sizes.counts.processed j (sym (said ∙ ap (placed_of sizes.counts.processed) some) ∙ is)

  pub placed_more : result ≡ true → AreMarkedByPlaces sizes entries (k + 1) now
  placed_more is = by_spot (slice_index_or are.places n None) refl
    where
      by_spot : (o : Option ℕ) → slice_index_or are.places n None ≡ o → AreMarkedByPlaces sizes entries (k + 1) now
      by_spot None none = record {
        places = slice_set are.places n (Some k);
        are = inside sizes entries k n are.places are.are here low within none;
        says =
            (is_free (free_there none)).1
            ∙ (ap (λ (ps : List Placed). slice_set ps n (placed_of sizes.counts.processed (Some k))) are.says
            ∙ sym (map-set (placed_of sizes.counts.processed) are.places n (Some k)));
      }
      by_spot (Some j) some = let never : true ≡ false = sym is ∙ is_taken (taken_there j some) in absurd (cc)

  pub placed_twice : k < sizes.counts.settled → result ≡ false → AreRight sizes entries 0 sizes.counts.known → ⊥
  placed_twice less is right = by_spot (slice_index_or are.places n None) refl
    where
      by_spot : (o : Option ℕ) → slice_index_or are.places n None ≡ o → ⊥
      by_spot None none = let never : true ≡ false = sym (is_free (free_there none)).0 ∙ is in cc
      by_spot (Some j) some = twice sizes entries k n are.places are.are here j some low less right

-- there are as many numbers once a place was given
pub take_long : (n : ℕ) (p : Placed) (placed now : List Placed) (result : Bool)
    → (slice_index_or placed n Nowhere ≡ Nowhere → (result ≡ true) × (now ≡ slice_set placed n p))
    → (slice_index_or placed n Nowhere ≢ Nowhere → result ≡ false)
    → result ≡ true → length now ≡ length placed
take_long n p placed now result is_free is_taken is = by (slice_index_or placed n Nowhere) refl
  where
    by : (q : Placed) → slice_index_or placed n Nowhere ≡ q → length now ≡ length placed
    by Nowhere none = ap length (is_free none).1 ∙ length-set placed n p
    by Waiting some = let never : true ≡ false = sym is ∙ is_taken (λ none. let e : Waiting ≡ Nowhere = sym some ∙ none in cc) in absurd (cc)
    by Processed some = let never : true ≡ false = sym is ∙ is_taken (λ none. let e : Processed ≡ Nowhere = sym some ∙ none in cc) in absurd (cc)

-- each place of right entries has a known number
pub place_known : (sizes : Sizes) (entries : Tree → List Item) (k n : ℕ) → IsNumberAt (entries Order) (number_key k) n → k < sizes.counts.settled
    → AreRight sizes entries 0 sizes.counts.known → n < sizes.counts.known
place_known sizes entries k n here less right =
    let (m, low, at) = right.places k less in
    omega (arith, low, one_number_at (entries Order) (number_key k) m n at here)

pub place_missing : (sizes : Sizes) (entries : Tree → List Item) (k : ℕ) → k < sizes.counts.settled → AreRight sizes entries 0 sizes.counts.known
    → (n : ℕ) × IsNumberAt (entries Order) (number_key k) n
place_missing sizes entries k less right = let (m, low, at) = right.places k less in (m, at)

-- what was read of a number
pub its_place : (placed : List Placed) (n : ℕ) (place : Placed) → n < length placed → place ≡ slice_index_or placed n place
    → place ≡ slice_index_or placed n Nowhere
its_place placed n place within is = is ∙ get_or_default placed n place Nowhere within

-- a record fits a place exactly if it fits what that place says
has_place_of : (processed : ℕ) (place : Option ℕ) → has_place (placed_of processed place) ≡ is_some place
has_place_of processed None = refl
has_place_of processed (Some k) = by (nat_lt k processed)
  where
    by : (b : Bool) → has_place (cond b Processed Waiting) ≡ true
    by true = refl
    by false = refl

has_done_of : (processed : ℕ) (place : Option ℕ) → has_done (placed_of processed place) ≡ is_among processed place
has_done_of processed None = refl
has_done_of processed (Some k) = by (nat_lt k processed)
  where
    by : (b : Bool) → has_done (cond b Processed Waiting) ≡ b
    by true = refl
    by false = refl

at_place : (sizes : Sizes) (entries : Tree → List Item) (i : ℕ) (place : Option ℕ) → IsRightPlaced sizes entries i (placed_of sizes.counts.processed place)
    → IsRightAt sizes entries i place
at_place sizes entries i place it = record {
  position = it.position;
  kept = it.kept;
  cell = it.cell;
  back = it.back;
  fits = record {
    state = it.fits.state;
    expanded = it.fits.expanded;
    settled = it.fits.settled ∙ has_place_of sizes.counts.processed place;
    processed = it.fits.processed ∙ has_done_of sizes.counts.processed place;
  };
}

as_placed : (sizes : Sizes) (entries : Tree → List Item) (i : ℕ) (place : Option ℕ) → IsRightAt sizes entries i place
    → IsRightPlaced sizes entries i (placed_of sizes.counts.processed place)
as_placed sizes entries i place it = record {
  position = it.position;
  kept = it.kept;
  cell = it.cell;
  back = it.back;
  fits = record {
    state = it.fits.state;
    expanded = it.fits.expanded;
    settled = it.fits.settled ∙ sym (has_place_of sizes.counts.processed place);
    processed = it.fits.processed ∙ sym (has_done_of sizes.counts.processed place);
  };
}

-- a number that is right where it was found to stand
module _ (sizes : Sizes) (entries : Tree → List Item) (placed : List Placed) (are : AreMarkedByPlaces sizes entries sizes.counts.settled placed)
    (n : ℕ) (within : n < length placed) where
  is_its_place : IsPlaceOf sizes entries n (slice_index_or are.places n None)
  is_its_place = record {
    there = λ k is. are.are.only n k is;
    only = λ k low at.
        let same : length placed ≡ length are.places = ap length are.says ∙ length-map are.places (placed_of sizes.counts.processed) in
        are.are.each k n low (omega (arith, same, within)) at;
  }

  said_there : slice_index_or placed n Nowhere ≡ placed_of sizes.counts.processed (slice_index_or are.places n None)
  said_there = said_of sizes.counts.processed are.places placed are.says n

  pub right_there : IsRightPlaced sizes entries n (slice_index_or placed n Nowhere) → IsRightNumber sizes entries n
  right_there right = record {
    place = slice_index_or are.places n None;
    is_place = is_its_place;
    right = at_place sizes entries n (slice_index_or are.places n None) (subst (λ (p : Placed). IsRightPlaced sizes entries n p) said_there right);
  }

  -- it is right there, or not at all
  pub right_so : AreRight sizes entries 0 sizes.counts.known → n < sizes.counts.known → IsRightPlaced sizes entries n (slice_index_or placed n Nowhere)
  right_so right low =
      let it = right.numbers n (omega arith) low in
      subst (λ (p : Placed). IsRightPlaced sizes entries n p) (sym said_there)
      (as_placed sizes entries n (slice_index_or are.places n None)
      (subst (λ (o : Option ℕ). IsRightAt sizes entries n o)
      (sym (same_place (slice_index_or are.places n None) it.place is_its_place it.is_place)) it.right))
    where
      same_place : (o p : Option ℕ) → IsPlaceOf sizes entries n o → IsPlaceOf sizes entries n p → o ≡ p
      same_place None None a b = refl
      same_place None (Some k) a b = let (low, at) = b.there k refl in a.only k low at
      same_place (Some k) p a b = let (low, at) = a.there k refl in sym (b.only k low at)
