-- The order of bytes and the order of what they stand for.
use Rattle.std.proofs.Common.{◌≡◌, ℕ, suc, ◌*◌, ◌/◌, ◌%◌, ◌<◌, List, [], ◌∷◌, ◌++◌, length, get_or, refl, ap, sym, ◌∙◌, arith}
use Rattle.std.proofs.lemmas.Bool.Decides.{nat_tests}
use Rattle.std.proofs.lemmas.List.{length-append}
use Rattle.std.proofs.lemmas.Slice.Eq.{bytes_eq-Decides}
use Rattle.std.proofs.lemmas.Map.Text.{is_eq-slice_cmp}
use Rattle.std.specs.Cmp.{Equal-is}
use Rattle.std.specs.Ordering.{nat_cmp, ordering_then}
use Rattle.std.specs.Cmp.Lexicographic.{slice_cmp}
use Rattle.std.specs.declared.cmp.Ordering.{Ordering}
use Rattle.std.specs.declared.cmp.Ordering.TheVariants.{Less, Equal, Greater}
use Rattle.rbg_game.specs.declared.roles.Role.{Role}
use Rattle.rbg_game.specs.declared.roles.Role.TheVariants.{Keeper, Player}
use Rattle.rbg_game.specs.declared.roles.Player.TheVariants.{First, Second}
use Rattle.rbg_game.specs.declared.position.Position.{Position}
use Rattle.position_pack.specs.Shape.{Shape, IsSmall, Fits}
use Rattle.position_pack.specs.Fields.{role_code, fields_of}
use Rattle.position_pack.specs.Bytes.{bytes_of}
use Rattle.position_pack.proofs.ValueBytes.{spelled, spelled-cons}
use Rattle.position_pack.proofs.PartLemmas.{last_bytes, length-spelled}

then_then : (a b c : Ordering) → ordering_then (ordering_then a b) c ≡ ordering_then a (ordering_then b c)
then_then Less b c = refl
then_then Equal b c = refl
then_then Greater b c = refl

-- lists that begin with parts of the same length
pub cmp_parts : (a b c d : List ℕ) → length a ≡ length b → slice_cmp nat_cmp (a ++ c) (b ++ d) ≡ ordering_then (slice_cmp nat_cmp a b) (slice_cmp nat_cmp c d)
cmp_parts [] [] c d e = refl
cmp_parts [] (y ∷ b) c d e = absurd (omega (arith, e))
cmp_parts (x ∷ a) [] c d e = absurd (omega (arith, e))
cmp_parts (x ∷ a) (y ∷ b) c d e = ap (ordering_then (nat_cmp x y)) (cmp_parts a b c d (omega (arith, e)))
    ∙ sym (then_then (nat_cmp x y) (slice_cmp nat_cmp a b) (slice_cmp nat_cmp c d))

-- three bytes compare as their number
three_cmp : (v w : ℕ) → v < 16777216 → w < 16777216
    → ordering_then (nat_cmp (v / 65536 % 256) (w / 65536 % 256))
    (ordering_then (nat_cmp (v / 256 % 256) (w / 256 % 256)) (ordering_then (nat_cmp (v % 256) (w % 256)) Equal)) ≡ nat_cmp v w
three_cmp v w hv hw = grind (arith, nat_tests)

two_cmp : (v w : ℕ) → v < 65536 → w < 65536
    → ordering_then (nat_cmp (v / 256 % 256) (w / 256 % 256)) (ordering_then (nat_cmp (v % 256) (w % 256)) Equal) ≡ ordering_then (nat_cmp v w) Equal
two_cmp v w hv hw = grind (arith, nat_tests)

then_three : (a b c d : Ordering) → ordering_then a (ordering_then b (ordering_then c d)) ≡ ordering_then
    (ordering_then a (ordering_then b (ordering_then c Equal))) d
then_three Less b c d = refl
then_three Greater b c d = refl
then_three Equal Less c d = refl
then_three Equal Greater c d = refl
then_three Equal Equal Less d = refl
then_three Equal Equal Equal d = refl
then_three Equal Equal Greater d = refl

abbrev AreLow : List ℕ → Type 0
AreLow vs = (k : ℕ) → k < length vs → get_or vs k 0 < 16777216

spelled_cmp : (vs ws : List ℕ) → length vs ≡ length ws → AreLow vs → AreLow ws → slice_cmp nat_cmp (spelled vs) (spelled ws) ≡ slice_cmp nat_cmp vs ws
spelled_cmp [] [] e low low2 = refl
spelled_cmp [] (w ∷ ws) e low low2 = absurd (omega (arith, e))
spelled_cmp (v ∷ vs) [] e low low2 = absurd (omega (arith, e))
spelled_cmp (v ∷ vs) (w ∷ ws) e low low2 =
    let lower : AreLow vs = λ k lt. low (suc k) (omega (arith, lt)) in
    let lower2 : AreLow ws = λ k lt. low2 (suc k) (omega (arith, lt)) in
    let rest : slice_cmp nat_cmp (spelled vs) (spelled ws) ≡ slice_cmp nat_cmp vs ws = spelled_cmp vs ws (omega (arith, e)) lower lower2 in
    ap (λ xs. slice_cmp nat_cmp xs (spelled (w ∷ ws))) (spelled-cons v vs) ∙ ap (slice_cmp nat_cmp (_ ∷ _ ∷ _ ∷ spelled vs)) (spelled-cons w ws)
    ∙ then_three (nat_cmp (v / 65536 % 256) (w / 65536 % 256)) (nat_cmp (v / 256 % 256) (w / 256 % 256)) (nat_cmp (v % 256) (w % 256))
    (slice_cmp nat_cmp (spelled vs) (spelled ws))
    ∙ ap (λ o. ordering_then o (slice_cmp nat_cmp (spelled vs) (spelled ws))) (three_cmp v w (low 0 (omega arith)) (low2 0 (omega arith)))
    ∙ ap (ordering_then (nat_cmp v w)) rest

low_values : (shape : Shape) (at : Position) → IsSmall shape → Fits shape at → AreLow at.state.values.items
low_values shape at small fits k lt = omega (arith, fits.values_are k lt, small.low_bounds k (omega (arith, lt, fits.values_fit)))

last_cmp : (x y : Position) → x.place < 65536 → y.place < 65536
    → slice_cmp nat_cmp (last_bytes x) (last_bytes y) ≡ slice_cmp nat_cmp (x.state.vertex ∷ role_code x.state.mover ∷ x.place ∷ [])
    (y.state.vertex ∷ role_code y.state.mover ∷ y.place ∷ [])
last_cmp x y hx hy = ap (λ o. ordering_then (nat_cmp x.state.vertex y.state.vertex)
    (ordering_then (nat_cmp (role_code x.state.mover) (role_code y.state.mover)) o)) (two_cmp x.place y.place hx hy)

-- three parts, of which the first two are as long in both
parts_cmp : (a b c p q r : List ℕ) → length a ≡ length p → length b ≡ length q
    → slice_cmp nat_cmp (a ++ b ++ c) (p ++ q ++ r) ≡ ordering_then (ordering_then (slice_cmp nat_cmp a p) (slice_cmp nat_cmp b q)) (slice_cmp nat_cmp c r)
parts_cmp a b c p q r ea eb =
    cmp_parts (a ++ b) (p ++ q) c r (omega (arith, length-append a b, length-append p q, ea, eb))
    ∙ ap (λ o. ordering_then o (slice_cmp nat_cmp c r)) (cmp_parts a p b q ea)

-- the order of the bytes is that of the fields
pub order : (shape : Shape) (x y : Position) → IsSmall shape → Fits shape x → Fits shape y
    → slice_cmp nat_cmp (bytes_of x) (bytes_of y) ≡ slice_cmp nat_cmp (fields_of x) (fields_of y)
order shape x y small fx fy =
    let pieces : length x.state.pieces.items ≡ length y.state.pieces.items = fx.pieces_fit ∙ sym fy.pieces_fit in
    let values : length x.state.values.items ≡ length y.state.values.items = fx.values_fit ∙ sym fy.values_fit in
    let bytes : length (spelled x.state.values.items) ≡ length (spelled y.state.values.items) = length-spelled x.state.values.items
    ∙ ap (λ n. 3 * n) values ∙ sym (length-spelled y.state.values.items) in
    let first = slice_cmp nat_cmp x.state.pieces.items y.state.pieces.items in
    parts_cmp x.state.pieces.items (spelled x.state.values.items) (last_bytes x) y.state.pieces.items (spelled y.state.values.items) (last_bytes y) pieces bytes
    ∙ ap (λ o. ordering_then (ordering_then first o) (slice_cmp nat_cmp (last_bytes x) (last_bytes y)))
    (spelled_cmp x.state.values.items y.state.values.items values (low_values shape x small fx) (low_values shape y small fy))
    ∙ ap (ordering_then (ordering_then first (slice_cmp nat_cmp x.state.values.items y.state.values.items)))
    (last_cmp x y (omega (arith, fx.place_is, small.few_actions)) (omega (arith, fy.place_is, small.few_actions)))
    ∙ sym (parts_cmp x.state.pieces.items x.state.values.items _ y.state.pieces.items y.state.values.items _ pieces values)

-- ---- the fields tell the position

pub same_front : (a b c d : List ℕ) → length a ≡ length b → a ++ c ≡ b ++ d → (a ≡ b) × (c ≡ d)
same_front [] [] c d e same = (refl, same)
same_front [] (y ∷ b) c d e same = absurd (omega (arith, e))
same_front (x ∷ a) [] c d e same = absurd (omega (arith, e))
same_front (x ∷ a) (y ∷ b) c d e same =
    let tails : a ++ c ≡ b ++ d = cc in
    let heads : x ≡ y = cc in
    let rest = same_front a b c d (omega (arith, e)) tails in
    (rw (heads, rest.0) refl, rest.1)

same_role : (r s : Role) → role_code r ≡ role_code s → r ≡ s
same_role Keeper Keeper e = refl
same_role (Player First) (Player First) e = refl
same_role (Player Second) (Player Second) e = refl
same_role Keeper (Player First) e = absurd (omega (arith, e))
same_role Keeper (Player Second) e = absurd (omega (arith, e))
same_role (Player First) Keeper e = absurd (omega (arith, e))
same_role (Player First) (Player Second) e = absurd (omega (arith, e))
same_role (Player Second) Keeper e = absurd (omega (arith, e))
same_role (Player Second) (Player First) e = absurd (omega (arith, e))

abbrev position : Role → List ℕ → List ℕ → ℕ → ℕ → Position
position mover pieces values vertex place =
    record { state = record { mover = mover; pieces = record { items = pieces }; values = record { items = values }; vertex = vertex }; place = place }

pub same_position : (x y : Position) → x.state.mover ≡ y.state.mover → x.state.pieces.items ≡ y.state.pieces.items
    → x.state.values.items ≡ y.state.values.items → x.state.vertex ≡ y.state.vertex → x.place ≡ y.place → x ≡ y
same_position x y em ep ev ex el =
    let e : position x.state.mover x.state.pieces.items x.state.values.items x.state.vertex x.place ≡ position y.state.mover y.state.pieces.items y.state.values.items y.state.vertex y.place = rw (em, ep, ev, ex, el) refl in
    e

pub fields_tell : (shape : Shape) (x y : Position) → Fits shape x → Fits shape y → fields_of x ≡ fields_of y → x ≡ y
fields_tell shape x y fx fy same =
    let pieces : length x.state.pieces.items ≡ length y.state.pieces.items = fx.pieces_fit ∙ sym fy.pieces_fit in
    let values : length x.state.values.items ≡ length y.state.values.items = fx.values_fit ∙ sym fy.values_fit in
    let cut = same_front (x.state.pieces.items ++ x.state.values.items) (y.state.pieces.items ++ y.state.values.items) _ _
    (omega (
      arith,
      length-append x.state.pieces.items x.state.values.items,
      length-append y.state.pieces.items y.state.values.items,
      pieces,
      values,
    )) same in
    let front = same_front x.state.pieces.items y.state.pieces.items x.state.values.items y.state.values.items pieces cut.0 in
    let last = cut.1 in
    same_position x y (same_role _ _ (ap (λ xs. get_or xs 1 0) last)) front.0 front.1 (ap (λ xs. get_or xs 0 0) last) (ap (λ xs. get_or xs 2 0) last)

pub compared_equal : (xs ys : List ℕ) → slice_cmp nat_cmp xs ys ≡ Equal → xs ≡ ys
compared_equal xs ys e = (bytes_eq-Decides xs ys).0 (sym (is_eq-slice_cmp xs ys) ∙ (Equal-is (slice_cmp nat_cmp xs ys)).1 e)

pub equal_compared : (xs ys : List ℕ) → xs ≡ ys → slice_cmp nat_cmp xs ys ≡ Equal
equal_compared xs ys e = (Equal-is (slice_cmp nat_cmp xs ys)).0 (is_eq-slice_cmp xs ys ∙ (bytes_eq-Decides xs ys).1 e)

-- the bytes tell the position
pub tell : (shape : Shape) (x y : Position) → IsSmall shape → Fits shape x → Fits shape y → bytes_of x ≡ bytes_of y → x ≡ y
tell shape x y small fx fy same =
    fields_tell shape x y fx fy (compared_equal (fields_of x) (fields_of y) (sym (order shape x y small fx fy) ∙ equal_compared (bytes_of x) (bytes_of y) same))
