-- What reading a cell adds to a table.
use Rattle.std.proofs.Common.{◌≡◌, ◌∙◌, sym, ap, subst, refl, ℕ, zero, suc, ◌+◌, ◌-◌, ◌*◌, ◌≤◌, ◌<◌, List, [], ◌∷◌, ◌++◌, length, map, take, drop, slice_get, slice_set, zip, Some, arith, length-append}
use Rattle.std.proofs.lemmas.List.{map-append, append-nil, take-append-drop, length-take-le}
use Rattle.std.proofs.lemmas.Slice.Zip.{firsts-zip}
use Rattle.std.proofs.lemmas.Option.{slice_get_within}
use Rattle.retrograde.specs.declared.records.Record.{Record}
use Rattle.retrograde.specs.Stored.{Stored, IsTable, loaded}
use Rattle.retrograde.specs.Changes.{with_position, with_record, fresh_record}
use Rattle.game_file.specs.Bytes.{IsCell, IsRecord}
use Rattle.earlier_layouts.specs.Spelled.{AreSpelled}
use Rattle.earlier_layouts.specs.lemmas.Items.{spelled_more, spelled_next}
use Rattle.earlier_layouts.specs.lemmas.Laws.{long_pairs}
use Rattle.earlier_layouts.specs.lemmas.ImageParts.{fixed_cells}
use Rattle.earlier_layouts.specs.lemmas.ImageReads.{AreCells, KeepsRest, IsFirstEntry, AddsCell}

pairs_more : {A B : Type 0} (xs : List A) (ys : List B) (x : A) (y : B) → length ys ≡ length xs → zip (xs ++ x ∷ []) (ys ++ y ∷ []) ≡ zip xs ys ++ (x, y) ∷ []
pairs_more [] [] x y same = refl
pairs_more [] (z ∷ ys) x y same = absurd (cc)
pairs_more (z ∷ xs) [] x y same = absurd (cc)
pairs_more {A} {B} (z ∷ xs) (w ∷ ys) x y same = ap (λ (ps : List (A × B)). (z, w) ∷ ps) (pairs_more xs ys x y (omega (arith, same)))

last_set : {A : Type 0} (xs : List A) (f r : A) (n : ℕ) → n ≡ length xs → slice_set (xs ++ f ∷ []) n r ≡ xs ++ r ∷ []
last_set [] f r zero at = refl
last_set [] f r (suc n) at = absurd (cc)
last_set (x ∷ xs) f r zero at = absurd (cc)
last_set {A} (x ∷ xs) f r (suc n) at = ap (λ (zs : List A). x ∷ zs) (last_set xs f r n (omega (arith, at)))

front_get : {A : Type 0} (xs ys : List A) (i : ℕ) (x : A) → slice_get xs i ≡ Some x → slice_get (xs ++ ys) i ≡ Some x
front_get [] ys i x is = absurd (cc)
front_get (z ∷ xs) ys zero x is = is
front_get (z ∷ xs) ys (suc i) x is = front_get xs ys i x is

seam_get : {A : Type 0} (xs : List A) (y : A) (ys : List A) → slice_get (xs ++ y ∷ ys) (length xs) ≡ Some y
seam_get [] y ys = refl
seam_get (z ∷ xs) y ys = seam_get xs y ys

-- one more cell
module _ (packed : ℕ) (one : List ℕ) (old new : Stored (List ℕ)) (adds : AddsCell packed one old new) where
  new_positions : new.positions ≡ old.positions ++ adds.cell.0 ∷ []
  new_positions = ap (λ (s : Stored (List ℕ)). s.positions) adds.added

  pub one_longer : length new.positions ≡ length old.positions + 1
  one_longer = omega (arith, ap length new_positions, length-append old.positions (adds.cell.0 ∷ []))

  pub keeps_rest : KeepsRest old new
  keeps_rest = record {
    edges = ap (λ (s : Stored (List ℕ)). s.has_edge) adds.added;
    order = ap (λ (s : Stored (List ℕ)). s.order) adds.added;
  }

  pub cells_more : (bytes : List ℕ) → AreCells packed bytes old → AreCells packed (bytes ++ one) new
  cells_more bytes cells =
      let records : new.records ≡ old.records ++ adds.cell.1 ∷ [] =
      ap (λ (s : Stored (List ℕ)). s.records) adds.added ∙ last_set old.records fresh_record adds.cell.1 (length old.positions) (sym cells.paired) in
      let pairs : zip new.positions new.records ≡ zip old.positions old.records ++ adds.cell ∷ [] =
      ap (λ (ps : List (List ℕ)). zip ps new.records) new_positions
      ∙ ap (λ (rs : List Record). zip (old.positions ++ adds.cell.0 ∷ []) rs) records
      ∙ pairs_more old.positions old.records adds.cell.0 adds.cell.1 cells.paired in
      record {
        paired = omega (arith, ap length records, length-append old.records (adds.cell.1 ∷ []), one_longer, cells.paired);
        spelled =
            subst (λ (ps : List (List ℕ × Record)). AreSpelled (IsCell packed) (bytes ++ one) ps) (sym pairs)
            (spelled_more (IsCell packed) bytes (zip old.positions old.records) one adds.cell cells.spelled adds.is_cell);
      }

-- the rest is kept by one call after another
pub rest_then : (old mid new : Stored (List ℕ)) → KeepsRest old mid → KeepsRest mid new → KeepsRest old new
rest_then old mid new a b = record { edges = b.edges ∙ a.edges; order = b.order ∙ a.order }

-- a cell that is refused stands in no table
pub cell_refused : (packed : ℕ) (bytes one more : List ℕ) (stored all : Stored (List ℕ)) → AreCells packed bytes stored
    → AreCells packed (bytes ++ (one ++ more)) all → IsTable all
    → length stored.positions < length all.positions → length one ≡ packed + 16
    → ((x : List ℕ × Record) → IsCell packed one x → (j : ℕ) × (slice_get stored.positions j ≡ Some x.0)) → ⊥
cell_refused packed bytes one more stored all cells whole table less long known =
    go (spelled_next (IsCell packed) (packed + 16) (fixed_cells packed) bytes one more pairs all_pairs cells.spelled whole.spelled pairs_less long)
  where
    pairs : List (List ℕ × Record)
    pairs = zip stored.positions stored.records

    all_pairs : List (List ℕ × Record)
    all_pairs = zip all.positions all.records

    pairs_less : length (zip stored.positions stored.records) < length (zip all.positions all.records)
    pairs_less = omega (arith, less, long_pairs stored.positions stored.records cells.paired, long_pairs all.positions all.records whole.paired)

    go : ((z : List ℕ × Record) × (ys : List (List ℕ × Record))
        × (zip all.positions all.records ≡ zip stored.positions stored.records ++ z ∷ ys) × IsCell packed one z) → ⊥
    go (z, ys, is, of) =
        let (j, at) = known z of in
        let firsts : all.positions ≡ stored.positions ++ z.0 ∷ map (λ (p : List ℕ × Record). p.0) ys =
        sym (firsts-zip all.positions all.records whole.paired)
        ∙ ap (λ ps. map (λ (p : List ℕ × Record). p.0) ps) is
        ∙ map-append (λ (p : List ℕ × Record). p.0) (zip stored.positions stored.records) (z ∷ ys)
        ∙ ap (λ (ps : List (List ℕ)). ps ++ z.0 ∷ map (λ (p : List ℕ × Record). p.0) ys) (firsts-zip stored.positions stored.records cells.paired) in
        let there : slice_get all.positions j ≡ Some z.0 =
        ap (λ (ps : List (List ℕ)). slice_get ps j) firsts ∙ front_get stored.positions (z.0 ∷ map (λ (p : List ℕ × Record). p.0) ys) j z.0 at in
        let here : slice_get all.positions (length stored.positions) ≡ Some z.0 =
        ap (λ (ps : List (List ℕ)). slice_get ps (length stored.positions)) firsts ∙ seam_get stored.positions z.0 (map (λ (p : List ℕ × Record). p.0) ys) in
        let same : j ≡ length stored.positions = table.distinct j (length stored.positions) z.0 there here in
        let within : j < length stored.positions = slice_get_within stored.positions j z.0 at in
        absurd (omega (arith, same, within))

-- what is left of this many cells
pub room_for : (known n width left : ℕ) → n < known → left ≡ (known - n) * width → width ≤ left
room_for known n width left less is =
    let count : known - n ≡ suc (known - (n + 1)) = omega arith in
    let long : left ≡ suc (known - (n + 1)) * width = is ∙ ap (λ (k : ℕ). k * width) count in
    omega (arith, long)

pub left_after : (known n width left after : ℕ) → n < known → left ≡ (known - n) * width → after + width ≡ left → after ≡ (known - (n + 1)) * width
left_after known n width left after less is split =
    let count : known - n ≡ suc (known - (n + 1)) = omega arith in
    let long : left ≡ suc (known - (n + 1)) * width = is ∙ ap (λ (k : ℕ). k * width) count in
    omega (arith, long)

-- the first of this many cells is within them
pub first_within : (known width long : ℕ) → 1 ≤ known → long ≡ known * width → width ≤ long
first_within known width long started is =
    let count : known ≡ suc (known - 1) = omega arith in
    let split : long ≡ suc (known - 1) * width = is ∙ ap (λ (k : ℕ). k * width) count in
    omega (arith, split)

-- the first cell
pub first_cell : (packed : ℕ) (bytes : List ℕ) (r : Record) (old new : Stored (List ℕ)) → packed ≤ length bytes
    → IsRecord (drop packed bytes) r → old ≡ loaded (take packed bytes)
    → new ≡ with_record old 0 r → IsFirstEntry packed bytes new
first_cell packed bytes r old new long of old_is new_is = subst (λ (s : Stored (List ℕ)). IsFirstEntry packed bytes s)
    (sym (new_is ∙ ap (λ (s : Stored (List ℕ)). with_record s 0 r) old_is)) (record {
      cells = record {
        paired = refl;
        spelled = (
          bytes,
          [],
          sym (append-nil bytes),
          record {
            long = length-take-le packed bytes long;
            behind = drop packed bytes;
            is = sym (take-append-drop packed bytes);
            is_record = of;
          },
          refl,
        );
      };
      rest = record { edges = λ i p is. absurd (cc); order = refl };
      one = refl;
    })

-- a position that is added, and then its record
pub cell_added : (old mid added new : Stored (List ℕ)) (x : List ℕ) (r : Record) (n : ℕ) → mid ≡ old → added ≡ with_position mid x
    → new ≡ with_record added n r → n ≡ length mid.positions
    → new ≡ with_record (with_position old x) (length old.positions) r
cell_added old mid added new x r n same positioned recorded at =
    let both : added ≡ with_position old x = positioned ∙ ap (λ (s : Stored (List ℕ)). with_position s x) same in
    let place : n ≡ length old.positions = at ∙ ap (λ (s : Stored (List ℕ)). length s.positions) same in
    recorded ∙ ap (λ (s : Stored (List ℕ)). with_record s n r) both ∙ ap (λ (k : ℕ). with_record (with_position old x) k r) place
