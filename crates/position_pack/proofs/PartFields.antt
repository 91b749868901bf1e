-- The fields that were read, as those of a position.
use Rattle.std.proofs.Common.{◌≡◌, ℕ, zero, suc, ◌+◌, ◌*◌, ◌-◌, ◌<◌, ◌≤◌, List, [], ◌∷◌, ◌++◌, length, get_or, replicate, ap, sym, ◌∙◌, subst, arith}
use Rattle.std.specs.Prelude.{All}
use Rattle.std.specs.List.{sum_by}
use Rattle.std.proofs.Math.Nat.{mul-le-mul_left}
use Rattle.std.proofs.lemmas.List.{length-append, length-replicate, get_or_default}
use Rattle.std.proofs.lemmas.List.Sums.{sum_by-cons, sum_by-append, sum_by-le}
use Rattle.std.proofs.lemmas.List.Folds.{sum_by-replicate}
use Rattle.std.proofs.Math.ListN.{get_or-append}
use Rattle.rbg_game.specs.declared.position.Position.{Position}
use Rattle.position_pack.specs.declared.kind.PackingKind.TheVariants.{Bits}
use Rattle.position_pack.specs.Shape.{Shape, IsSmall, Fits}
use Rattle.position_pack.specs.Fields.{role_code, fields_of}
use Rattle.position_pack.specs.Bits.{width, greatest_of}
use Rattle.position_pack.specs.Packings.{IsPacked}
use Rattle.position_pack.specs.lemmas.Bits.{AreFieldsAtMost, AreFields, AreInRange, IsFieldsOf}
use Rattle.position_pack.proofs.BitLemmas.{width_least}
use Rattle.position_pack.proofs.FieldLemmas.{within_as_many, fields_within, length-greatest}

within_split : (gs bs xs ys : List ℕ) → length gs ≡ length xs → AreFieldsAtMost (gs ++ bs) (xs ++ ys) → AreFieldsAtMost gs xs × AreFieldsAtMost bs ys
within_split [] bs [] ys e h = (tt, h)
within_split [] bs (x ∷ xs) ys e h = absurd (omega (arith, e))
within_split (g ∷ gs) bs [] ys e h = absurd (omega (arith, e))
within_split (g ∷ gs) bs (x ∷ xs) ys e h = let rest = within_split gs bs xs ys (omega (arith, e)) h.1 in ((h.0, rest.0), rest.1)

within_at : (gs xs : List ℕ) (k : ℕ) → AreFieldsAtMost gs xs → get_or xs k 0 ≤ get_or gs k 0
within_at [] [] k h = omega arith
within_at [] (x ∷ xs) k h = absurd h
within_at (g ∷ gs) [] k h = absurd h
within_at (g ∷ gs) (x ∷ xs) zero h = h.0
within_at (g ∷ gs) (x ∷ xs) (suc k) h = within_at gs xs k h.1

all_within : (n pieces : ℕ) (xs : List ℕ) → 0 < pieces → AreFieldsAtMost (replicate n (pieces - 1)) xs → All (λ x. x < pieces) xs
all_within zero pieces [] some h = λ k d lt. absurd (omega (arith, lt))
all_within zero pieces (x ∷ xs) some h = absurd h
all_within (suc n) pieces [] some h = absurd h
all_within (suc n) pieces (x ∷ xs) some h = more (omega (arith, h.0, some)) (all_within n pieces xs some h.1)
  where
    more : x < pieces → All (λ y. y < pieces) xs → All (λ y. y < pieces) (x ∷ xs)
    more first others zero d lt = first
    more first others (suc k) d lt = others k d (omega (arith, lt))

-- a position whose fields are within their greatest values
fits_of : (shape : Shape) (at : Position) → 0 < shape.pieces → 0 < shape.vertices → length at.state.pieces.items ≡ shape.vertices
    → AreFieldsAtMost (greatest_of shape) (fields_of at) → Fits shape at
fits_of shape at some_pieces some_vertices many within =
    let front = replicate shape.vertices (shape.pieces - 1) in
    let all = within_as_many (greatest_of shape) (fields_of at) within in
    let greatest = length-greatest shape in
    let three = length-append (at.state.pieces.items ++ at.state.values.items) (at.state.vertex ∷ role_code at.state.mover ∷ at.place ∷ []) in
    let two = length-append at.state.pieces.items at.state.values.items in
    let one = length-append front shape.bounds in
    let vertices = length-replicate shape.vertices (shape.pieces - 1) in
    let outer = within_split (front ++ shape.bounds) _ (at.state.pieces.items ++ at.state.values.items) _
    (omega (arith, all, greatest, three, one, vertices)) within in
    let inner = within_split front shape.bounds at.state.pieces.items at.state.values.items (omega (arith, vertices, many)) outer.0 in
    record {
      pieces_fit = many;
      pieces_are = all_within shape.vertices shape.pieces at.state.pieces.items some_pieces inner.0;
      values_fit = sym (within_as_many shape.bounds at.state.values.items inner.1);
      values_are = λ k lt. within_at shape.bounds at.state.values.items k inner.1;
      vertex_is = omega (arith, outer.1.0, some_vertices);
      place_is = outer.1.1.1.0;
    }

at_replicate : (n x k : ℕ) → get_or (replicate n x) k 0 ≤ x
at_replicate zero x k = omega arith
at_replicate (suc n) x zero = omega arith
at_replicate (suc n) x (suc k) = at_replicate n x k

at_front : (xs ys : List ℕ) (k : ℕ) → k < length xs → get_or (xs ++ ys) k 0 ≡ get_or xs k 0
at_front xs ys k lt = get_or-append xs ys 0 k lt

at_back : (xs ys : List ℕ) (n k : ℕ) → n ≡ length xs + k → get_or (xs ++ ys) n 0 ≡ get_or ys k 0
at_back [] ys n k e = ap (λ i. get_or ys i 0) (let same : n ≡ k = omega (arith, e) in same)
at_back (x ∷ xs) ys zero k e = absurd (omega (arith, e))
at_back (x ∷ xs) ys (suc n) k e = at_back xs ys n k (omega (arith, e))

-- the fields have room in the types of a position
pub few_fields : (shape : Shape) (fields : List ℕ) → IsSmall shape → AreFieldsAtMost (greatest_of shape) fields → AreInRange shape.vertices fields
few_fields shape fields small within =
    let front = replicate shape.vertices (shape.pieces - 1) in
    let last = (shape.vertices - 1) ∷ 2 ∷ shape.actions ∷ [] in
    let all = within_as_many (greatest_of shape) fields within in
    let greatest = length-greatest shape in
    let vertices = length-replicate shape.vertices (shape.pieces - 1) in
    let one : length (front ++ shape.bounds) ≡ length front + length shape.bounds = length-append front shape.bounds in
    let first : get_or (greatest_of shape) (length fields - 3) 0 ≡ shape.vertices - 1 = at_back (front ++ shape.bounds) last
    (length fields - 3) 0 (omega (arith, all, greatest, one, vertices)) in
    let second : get_or (greatest_of shape) (length fields - 2) 0 ≡ 2 = at_back (front ++ shape.bounds) last (length fields - 2) 1
    (omega (arith, all, greatest, one, vertices)) in
    let third : get_or (greatest_of shape) (length fields - 1) 0 ≡ shape.actions = at_back (front ++ shape.bounds) last
    (length fields - 1) 2 (omega (arith, all, greatest, one, vertices)) in
    record {
      few_vertices = small.few_vertices;
      long = omega (arith, all, greatest);
      few_values = omega (arith, all, greatest, small.few_values);
      pieces = λ k lt.
          let here : get_or (greatest_of shape) k 0 ≡ get_or front k 0 = at_front (front ++ shape.bounds) last k
          (omega (arith, lt, one, vertices)) ∙ at_front front shape.bounds k (omega (arith, lt, vertices)) in
          let low : get_or front k 0 ≤ shape.pieces - 1 = at_replicate shape.vertices (shape.pieces - 1) k in
          omega (arith, within_at (greatest_of shape) fields k within, here, low, small.few_pieces);
      vertex = omega (arith, within_at (greatest_of shape) fields (length fields - 3) within, first, small.few_vertices);
      role = omega (arith, within_at (greatest_of shape) fields (length fields - 2) within, second);
      place = omega (arith, within_at (greatest_of shape) fields (length fields - 1) within, third, small.few_actions);
    }

pub few_greatest : (shape : Shape) → IsSmall shape → length (greatest_of shape) ≤ 165
few_greatest shape small = omega (arith, length-greatest shape, small.few_vertices, small.few_values)

-- a position of a small shape has at most 1,920 bits
pub few_bits : (shape : Shape) → IsSmall shape → sum_by width (greatest_of shape) ≤ 1920
few_bits shape small =
    let front = replicate shape.vertices (shape.pieces - 1) in
    let last = (shape.vertices - 1) ∷ 2 ∷ shape.actions ∷ [] in
    let whole = sum_by-append width (front ++ shape.bounds) last in
    let parts = sum_by-append width front shape.bounds in
    let pieces : sum_by width front ≡ shape.vertices * width (shape.pieces - 1) = sum_by-replicate width shape.vertices (shape.pieces - 1) in
    let piece : width (shape.pieces - 1) ≤ 6 = width_least (shape.pieces - 1) 6 (omega (arith, small.few_pieces)) in
    let most_pieces : shape.vertices * width (shape.pieces - 1) ≤ shape.vertices * 6 = mul-le-mul_left shape.vertices piece in
    let values : sum_by width shape.bounds ≤ length shape.bounds * 20 = sum_by-le width 20 shape.bounds value in
    let vertex : width (shape.vertices - 1) ≤ 7 = width_least (shape.vertices - 1) 7 (omega (arith, small.few_vertices)) in
    let role : width 2 ≤ 2 = width_least 2 2 (omega arith) in
    let place : width shape.actions ≤ 13 = width_least shape.actions 13 (omega (arith, small.few_actions)) in
    let a = sum_by-cons width (shape.vertices - 1) (2 ∷ shape.actions ∷ []) in
    let b = sum_by-cons width 2 (shape.actions ∷ []) in
    let d = sum_by-cons width shape.actions [] in
    omega (arith, whole, parts, pieces, most_pieces, values, vertex, role, place, a, b, d, small.few_vertices, small.few_values)
  where
    value : All (λ x. width x ≤ 20) shape.bounds
    value k d lt = width_least (get_or shape.bounds k d) 20 (omega (arith, small.low_bounds k lt, get_or_default shape.bounds k d 0 lt))

-- the fields of a position that these bytes pack
pub are_fields : (shape : Shape) (at : Position) (bytes : List ℕ) → IsPacked (record { kind = Bits; shape = shape }) at bytes
    → AreFields (greatest_of shape) bytes (fields_of at)
are_fields shape at bytes is = record { within = fields_within shape at is.fits; bytes_are = is.bytes_are }

-- the position of the fields that these bytes pack
pub is_packed : (shape : Shape) (at : Position) (bytes fields : List ℕ) → 0 < shape.pieces → 0 < shape.vertices
    → AreFields (greatest_of shape) bytes fields → IsFieldsOf shape.vertices fields at
    → IsPacked (record { kind = Bits; shape = shape }) at bytes
is_packed shape at bytes fields some_pieces some_vertices are of_at =
    let here : AreFields (greatest_of shape) bytes (fields_of at) = subst (AreFields (greatest_of shape) bytes) (sym of_at.fields_are) are in
    record {
      fits = fits_of shape at some_pieces some_vertices of_at.pieces_fit here.within;
      bytes_are = here.bytes_are;
    }
