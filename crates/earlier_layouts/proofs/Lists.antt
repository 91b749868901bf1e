-- One more position is copied with its record, and one more place of the settled order.
use Rattle.std.proofs.Common.{◌≡◌, ◌∙◌, sym, ap, arith, ℕ, ◌+◌, ◌<◌, List, [], ◌∷◌, ◌++◌, length, take, min, Some, slice_get}
use Rattle.std.specs.Prelude.{false, slice_set}
use Rattle.std.proofs.lemmas.List.{take_more, length-take, length-take-le, get_or-take}
use Rattle.std.proofs.lemmas.Option.{slice_get_within, slice_get-get_or, get_or_from_slice_get}
use Rattle.std.proofs.Math.Seq.{set-append_seam}
use Rattle.retrograde.specs.declared.records.Record.{Record}
use Rattle.retrograde.specs.Stored.{Stored, HasRecord, IsTable}
use Rattle.retrograde.specs.Changes.{fresh_record, with_position, with_record, with_settled}
use Rattle.earlier_layouts.specs.lemmas.CopyParts.{with_positions, with_order}

-- an item below this place of a list stands at its place in the whole list
from_take : {X : Type 0} (xs : List X) (n i : ℕ) (x : X) → slice_get (take n xs) i ≡ Some x → (slice_get xs i ≡ Some x) × (i < n)
from_take xs n i x at =
    let within : i < length (take n xs) = slice_get_within (take n xs) i x at in
    let long : length (take n xs) ≡ min n (length xs) = length-take n xs in
    let below : i < n = omega arith in (
      slice_get-get_or xs i x (omega arith)
          ∙ ap (λ y. Some y) (sym (get_or-take n xs i x below) ∙ get_or_from_slice_get (take n xs) i x x at),
      below,
    )

-- the items below this place, and the one at it
one_more : {X : Type 0} (xs : List X) (n : ℕ) (x : X) → slice_get xs n ≡ Some x → take (n + 1) xs ≡ take n xs ++ x ∷ []
one_more xs n x at =
    let within : n < length xs = slice_get_within xs n x at in
    take_more xs n x within ∙ ap (λ y. take n xs ++ y ∷ []) (get_or_from_slice_get xs n x x at)

-- the last of a list that has one more is written
last_set : {X : Type 0} (xs : List X) (n : ℕ) (x y : X) → length xs ≡ n → slice_set (xs ++ x ∷ []) n y ≡ xs ++ y ∷ []
last_set xs n x y long = ap (λ (k : ℕ). slice_set (xs ++ x ∷ []) k y) (sym long) ∙ set-append_seam xs x [] y

module _ (source : Stored (List ℕ)) (n : ℕ) (x : List ℕ) (at : slice_get source.positions n ≡ Some x) where
  -- the next position is not among those that are copied
  pub is_new : IsTable source → (i : ℕ) → slice_get (take n source.positions) i ≡ Some x → ⊥
  is_new table i there =
      let (here, below) = from_take source.positions n i x there in
      let same : i ≡ n = table.distinct i n x here at in
      omega arith

  -- and it is added with its record
  pub position_more : (r : Record) → HasRecord source n r
      → with_record (with_position (with_positions n source) x) n r ≡ with_positions (n + 1) source
  position_more r has = λ k. record {
    positions = sym (one_more source.positions n x at) k;
    records = records k;
    has_edge = λ i p. false;
    order = [];
  }
    where
      long : length (take n source.records) ≡ n
      long = length-take-le n source.records (omega (arith, slice_get_within source.records n r has))

      records : slice_set (take n source.records ++ fresh_record ∷ []) n r ≡ take (n + 1) source.records
      records = last_set (take n source.records) n fresh_record r long ∙ sym (one_more source.records n r has)

-- one more place
pub place_more : (source : Stored (List ℕ)) (n i : ℕ) → slice_get source.order n ≡ Some i
    → with_settled (with_order n source) i ≡ with_order (n + 1) source
place_more source n i at = λ k. record source { order = sym (one_more source.order n i at) k }
