-- Fields by bits.
use Rattle.std.proofs.Common.{◌≡◌, ℕ, zero, suc, ◌+◌, ◌*◌, ◌/◌, ◌-◌, ◌^◌, ◌<◌, ◌≤◌, List, [], ◌∷◌, ◌++◌, length, get_or, replicate, refl, ap, sym, ◌∙◌, arith}
use Rattle.std.specs.Prelude.{⊤}
use Rattle.std.specs.List.{sum_by}
use Rattle.std.proofs.lemmas.List.{length-append, length-replicate}
use Rattle.std.proofs.lemmas.List.Sums.{sum_by-cons}
use Rattle.std.specs.Ordering.{nat_cmp, ordering_then}
use Rattle.std.specs.Cmp.Lexicographic.{slice_cmp}
use Rattle.std.specs.declared.cmp.Ordering.{Ordering}
use Rattle.std.specs.declared.cmp.Ordering.TheVariants.{Less, Equal, Greater}
use Rattle.rbg_game.specs.declared.roles.Role.{Role}
use Rattle.rbg_game.specs.declared.roles.Role.TheVariants.{Keeper, Player}
use Rattle.rbg_game.specs.declared.roles.Player.TheVariants.{First, Second}
use Rattle.rbg_game.specs.declared.position.Position.{Position}
use Rattle.position_pack.specs.Shape.{Shape, IsSmall, Fits}
use Rattle.position_pack.specs.Fields.{role_code, fields_of}
use Rattle.position_pack.specs.Bits.{width, bits_of, greatest_of, field_bits, bytes_of_bits, bytes_by_bits}
use Rattle.position_pack.specs.lemmas.Bits.{AreFieldsAtMost}
use Rattle.position_pack.proofs.OrderLemmas.{cmp_parts, fields_tell, compared_equal, equal_compared}
use Rattle.position_pack.proofs.BitLemmas.{length-bits, bits_cmp, fits_width}
use Rattle.position_pack.proofs.ByteLemmas.{AreBits, bits_append, are_bits, all_bits, padded, zeros_behind, low_made, length-bytes_from, bytes_cmp}

pub fields_are_bits : (greatest fields : List ℕ) → AreBits (field_bits greatest fields)
fields_are_bits [] fields = tt
fields_are_bits (most ∷ greatest) [] = tt
fields_are_bits (most ∷ greatest) (x ∷ fields) = bits_append (bits_of (width most) x) (field_bits greatest fields) (are_bits (width most) x)
    (fields_are_bits greatest fields)

pub length-fields : (greatest fields : List ℕ) → length greatest ≡ length fields → length (field_bits greatest fields) ≡ sum_by width greatest
length-fields [] fields e = refl
length-fields (most ∷ greatest) [] e = absurd (omega (arith, e))
length-fields (most ∷ greatest) (x ∷ fields) e =
    let rest : length (field_bits greatest fields) ≡ sum_by width greatest = length-fields greatest fields (omega (arith, e)) in
    let one : length (bits_of (width most) x) ≡ width most = length-bits (width most) x in
    length-append (bits_of (width most) x) (field_bits greatest fields) ∙ (let s = sum_by-cons width most greatest in omega (arith, rest, one, s))

pub within_as_many : (greatest fields : List ℕ) → AreFieldsAtMost greatest fields → length greatest ≡ length fields
within_as_many [] [] h = refl
within_as_many [] (x ∷ fields) h = absurd h
within_as_many (most ∷ greatest) [] h = absurd h
within_as_many (most ∷ greatest) (x ∷ fields) h = ap suc (within_as_many greatest fields h.1)

-- each is below 2 ^ 32
abbrev pub AreWords : List ℕ → Type 0
AreWords [] = ⊤
AreWords (x ∷ xs) = (x < 2 ^ 32) × AreWords xs

room : (x most : ℕ) → x ≤ most → most < 2 ^ 32 → x < 2 ^ width most
room x most le small = let most_fits : most < 2 ^ width most = fits_width most small in omega (arith, le, most_fits)

-- the bits of fields compare as the fields
pub fields_cmp : (greatest xs ys : List ℕ) → AreWords greatest → AreFieldsAtMost greatest xs → AreFieldsAtMost greatest ys
    → slice_cmp nat_cmp (field_bits greatest xs) (field_bits greatest ys) ≡ slice_cmp nat_cmp xs ys
fields_cmp [] [] [] low hx hy = refl
fields_cmp [] (x ∷ xs) ys low hx hy = absurd hx
fields_cmp [] [] (y ∷ ys) low hx hy = absurd hy
fields_cmp (most ∷ greatest) [] ys low hx hy = absurd hx
fields_cmp (most ∷ greatest) (x ∷ xs) [] low hx hy = absurd hy
fields_cmp (most ∷ greatest) (x ∷ xs) (y ∷ ys) low hx hy =
    cmp_parts (bits_of (width most) x) (bits_of (width most) y) (field_bits greatest xs) (field_bits greatest ys)
    (length-bits (width most) x ∙ sym (length-bits (width most) y))
    ∙ ap (λ o. ordering_then o (slice_cmp nat_cmp (field_bits greatest xs) (field_bits greatest ys)))
    (bits_cmp (width most) x y (room x most hx.0 low.0) (room y most hy.0 low.0))
    ∙ ap (ordering_then (nat_cmp x y)) (fields_cmp greatest xs ys low.1 hx.1 hy.1)

-- ---- the fields of a position

pub within_append : (gs bs xs ys : List ℕ) → AreFieldsAtMost gs xs → AreFieldsAtMost bs ys → AreFieldsAtMost (gs ++ bs) (xs ++ ys)
within_append [] bs [] ys h k = k
within_append [] bs (x ∷ xs) ys h k = absurd h
within_append (a ∷ gs) bs [] ys h k = absurd h
within_append (a ∷ gs) bs (x ∷ xs) ys h k = (h.0, within_append gs bs xs ys h.1 k)

pub within_all : (n most : ℕ) (xs : List ℕ) → length xs ≡ n → ((k : ℕ) → k < n → get_or xs k 0 ≤ most) → AreFieldsAtMost (replicate n most) xs
within_all zero most [] e h = tt
within_all zero most (x ∷ xs) e h = absurd (omega (arith, e))
within_all (suc n) most [] e h = absurd (omega (arith, e))
within_all (suc n) most (x ∷ xs) e h = (h 0 (omega arith), within_all n most xs (omega (arith, e)) (λ k lt. h (suc k) (omega (arith, lt))))

pub within_each : (bounds xs : List ℕ) → length xs ≡ length bounds → ((k : ℕ) → k < length xs → get_or xs k 0 ≤ get_or bounds k 0) → AreFieldsAtMost bounds xs
within_each [] [] e h = tt
within_each [] (x ∷ xs) e h = absurd (omega (arith, e))
within_each (b ∷ bounds) [] e h = absurd (omega (arith, e))
within_each (b ∷ bounds) (x ∷ xs) e h = (h 0 (omega arith), within_each bounds xs (omega (arith, e)) (λ k lt. h (suc k) (omega (arith, lt))))

low_role : (role : Role) → role_code role ≤ 2
low_role Keeper = omega arith
low_role (Player First) = omega arith
low_role (Player Second) = omega arith

pub fields_within : (shape : Shape) (at : Position) → Fits shape at → AreFieldsAtMost (greatest_of shape) (fields_of at)
fields_within shape at fits =
    within_append (replicate shape.vertices (shape.pieces - 1) ++ shape.bounds) _ (at.state.pieces.items ++ at.state.values.items) _
    (within_append (replicate shape.vertices (shape.pieces - 1)) shape.bounds at.state.pieces.items at.state.values.items
    (within_all shape.vertices (shape.pieces - 1) at.state.pieces.items fits.pieces_fit
    (λ k lt. (let here = fits.pieces_are k 0 (omega (arith, lt, fits.pieces_fit)) in omega (arith, here))))
    (within_each shape.bounds at.state.values.items fits.values_fit fits.values_are))
    (omega (arith, fits.vertex_is), (low_role at.state.mover, (fits.place_is, tt)))

words_append : (xs ys : List ℕ) → AreWords xs → AreWords ys → AreWords (xs ++ ys)
words_append [] ys h k = k
words_append (x ∷ xs) ys h k = (h.0, words_append xs ys h.1 k)

words_all : (n x : ℕ) → x < 2 ^ 32 → AreWords (replicate n x)
words_all zero x lt = tt
words_all (suc n) x lt = (lt, words_all n x lt)

pub words : (xs : List ℕ) → ((k : ℕ) → k < length xs → get_or xs k 0 < 2 ^ 32) → AreWords xs
words [] h = tt
words (x ∷ xs) h = (h 0 (omega arith), words xs (λ k lt. h (suc k) (omega (arith, lt))))

pub greatest_words : (shape : Shape) → IsSmall shape → AreWords (greatest_of shape)
greatest_words shape small =
    words_append (replicate shape.vertices (shape.pieces - 1) ++ shape.bounds) _
    (words_append (replicate shape.vertices (shape.pieces - 1)) shape.bounds (words_all shape.vertices (shape.pieces - 1) (omega (arith, small.few_pieces)))
    (words shape.bounds (λ k lt. omega (arith, small.low_bounds k lt))))
    (omega (arith, small.few_vertices), (omega arith, (omega (arith, small.few_actions), tt)))

pub length-greatest : (shape : Shape) → length (greatest_of shape) ≡ shape.vertices + length shape.bounds + 3
length-greatest shape =
    let one : length (greatest_of shape) ≡ length (replicate shape.vertices (shape.pieces - 1) ++ shape.bounds) + 3 = length-append
    (replicate shape.vertices (shape.pieces - 1) ++ shape.bounds) _ in
    let two = length-append (replicate shape.vertices (shape.pieces - 1)) shape.bounds in
    let three = length-replicate shape.vertices (shape.pieces - 1) in
    omega (arith, one, two, three)

pub length-by_bits : (shape : Shape) (at : Position) → Fits shape at → length (bytes_by_bits shape at) ≡ (sum_by width (greatest_of shape) + 7) / 8
length-by_bits shape at fits =
    length-bytes_from _ _ ∙ ap (λ n. (n + 7) / 8) (length-fields (greatest_of shape) (fields_of at) (within_as_many _ _ (fields_within shape at fits)))

-- bytes of bits, of which there are as many, compare as the bits
made_cmp : (xs ys : List ℕ) → AreBits xs → AreBits ys → length xs ≡ length ys
    → slice_cmp nat_cmp (bytes_of_bits xs) (bytes_of_bits ys) ≡ slice_cmp nat_cmp xs ys
made_cmp xs ys hx hy e =
    let z : zeros_behind xs ≡ zeros_behind ys = ap (λ n. 8 * ((n + 7) / 8) - n) e in
    let same = equal_compared (replicate {A = ℕ} (zeros_behind xs) 0) (replicate (zeros_behind ys) 0) (ap (λ n. replicate {A = ℕ} n 0) z) in
    let many : length (bytes_of_bits xs) ≡ length (bytes_of_bits ys) = length-bytes_from _ xs ∙ ap (λ n. (n + 7) / 8) e ∙ sym (length-bytes_from _ ys) in
    sym (bytes_cmp (bytes_of_bits xs) (bytes_of_bits ys) (low_made _ xs hx) (low_made _ ys hy) many)
    ∙ ap (λ bs. slice_cmp nat_cmp bs (all_bits (bytes_of_bits ys))) (padded xs hx) ∙ ap (slice_cmp nat_cmp (xs ++ replicate (zeros_behind xs) 0)) (padded ys hy)
    ∙ cmp_parts xs ys (replicate (zeros_behind xs) 0) (replicate (zeros_behind ys) 0) e
    ∙ ap (ordering_then (slice_cmp nat_cmp xs ys)) same ∙ then_equal (slice_cmp nat_cmp xs ys)
  where
    then_equal : (o : Ordering) → ordering_then o Equal ≡ o
    then_equal Less = refl
    then_equal Equal = refl
    then_equal Greater = refl

-- the order of the bytes is that of the fields
pub bits_order : (shape : Shape) (x y : Position) → IsSmall shape → Fits shape x → Fits shape y
    → slice_cmp nat_cmp (bytes_by_bits shape x) (bytes_by_bits shape y) ≡ slice_cmp nat_cmp (fields_of x) (fields_of y)
bits_order shape x y small fx fy =
    let wx = fields_within shape x fx in
    let wy = fields_within shape y fy in
    let many = length-fields (greatest_of shape) (fields_of x) (within_as_many _ _ wx)
    ∙ sym (length-fields (greatest_of shape) (fields_of y) (within_as_many _ _ wy)) in
    made_cmp _ _ (fields_are_bits (greatest_of shape) (fields_of x)) (fields_are_bits (greatest_of shape) (fields_of y)) many
    ∙ fields_cmp (greatest_of shape) (fields_of x) (fields_of y) (greatest_words shape small) wx wy

-- the bytes tell the position
pub bits_told : (shape : Shape) (x y : Position) → IsSmall shape → Fits shape x → Fits shape y → bytes_by_bits shape x ≡ bytes_by_bits shape y → x ≡ y
bits_told shape x y small fx fy same =
    fields_tell shape x y fx fy (compared_equal (fields_of x) (fields_of y)
    (sym (bits_order shape x y small fx fy) ∙ equal_compared (bytes_by_bits shape x) (bytes_by_bits shape y) same))
