-- The bits of a position, part by part.
use Rattle.std.proofs.Common.{◌≡◌, ℕ, zero, suc, ◌+◌, ◌-◌, ◌*◌, List, [], ◌∷◌, ◌++◌, length, replicate, refl, ap, sym, ◌∙◌, append_assoc, append-nil, arith}
use Rattle.std.specs.List.{flat_map, sum_by}
use Rattle.std.proofs.lemmas.List.{length-append, length-replicate}
use Rattle.std.proofs.lemmas.List.Concat.{flat_map-cons}
use Rattle.std.proofs.lemmas.List.Sums.{sum_by-cons, sum_by-append}
use Rattle.std.proofs.lemmas.List.Folds.{sum_by-replicate}
use Rattle.rbg_game.specs.declared.position.Position.{Position}
use Rattle.position_pack.specs.Shape.{Shape}
use Rattle.position_pack.specs.Fields.{role_code, fields_of}
use Rattle.position_pack.specs.Bits.{width, bits_of, greatest_of, field_bits}
use Rattle.position_pack.proofs.BitLemmas.{length-bits}

pub length-piece_bits : (w : ℕ) (ps : List ℕ) → length (flat_map (bits_of w) ps) ≡ length ps * w
length-piece_bits w [] = omega arith
length-piece_bits w (p ∷ ps) =
    let rest : length (flat_map (bits_of w) ps) ≡ length ps * w = length-piece_bits w ps in
    let one = length-append (bits_of w p) (flat_map (bits_of w) ps) in
    let two = length-bits w p in
    let out : suc (length ps) * w ≡ length ps * w + w = omega arith in
    ap length (flat_map-cons (bits_of w) p ps) ∙ omega (arith, rest, one, two, out)

field_append : (gs bs xs ys : List ℕ) → length gs ≡ length xs → field_bits (gs ++ bs) (xs ++ ys) ≡ field_bits gs xs ++ field_bits bs ys
field_append [] bs [] ys e = refl
field_append [] bs (x ∷ xs) ys e = absurd (omega (arith, e))
field_append (g ∷ gs) bs [] ys e = absurd (omega (arith, e))
field_append (g ∷ gs) bs (x ∷ xs) ys e =
    ap (λ zs. bits_of (width g) x ++ zs) (field_append gs bs xs ys (omega (arith, e)))
    ∙ sym (append_assoc (bits_of (width g) x) (field_bits gs xs) (field_bits bs ys))

field_all : (n most : ℕ) (xs : List ℕ) → length xs ≡ n → field_bits (replicate n most) xs ≡ flat_map (bits_of (width most)) xs
field_all zero most [] e = refl
field_all zero most (x ∷ xs) e = absurd (omega (arith, e))
field_all (suc n) most [] e = absurd (omega (arith, e))
field_all (suc n) most (x ∷ xs) e =
    ap (λ zs. bits_of (width most) x ++ zs) (field_all n most xs (omega (arith, e))) ∙ sym (flat_map-cons (bits_of (width most)) x xs)

-- the bits of the pieces, and then those of the values
abbrev pub front_bits : Shape → Position → List ℕ
front_bits s at = flat_map (bits_of (width (s.pieces - 1))) at.state.pieces.items ++ field_bits s.bounds at.state.values.items

-- the bits of a position with as many pieces and values as the shape says
pub by_parts : (s : Shape) (at : Position) → length at.state.pieces.items ≡ s.vertices → length at.state.values.items ≡ length s.bounds
    → ((front_bits s at ++ bits_of (width (s.vertices - 1)) at.state.vertex) ++ bits_of (width 2) (role_code at.state.mover))
    ++ bits_of (width s.actions) at.place
    ≡ field_bits (greatest_of s) (fields_of at)
by_parts s at pieces values =
    let front = replicate s.vertices (s.pieces - 1) in
    let ps = at.state.pieces.items in
    let vs = at.state.values.items in
    let a = bits_of (width (s.vertices - 1)) at.state.vertex in
    let b = bits_of (width 2) (role_code at.state.mover) in
    let d = bits_of (width s.actions) at.place in
    let many = length-replicate s.vertices (s.pieces - 1) in
    let one = length-append front s.bounds in
    let two = length-append ps vs in
    let most = (s.vertices - 1) ∷ 2 ∷ s.actions ∷ [] in
    let last = at.state.vertex ∷ role_code at.state.mover ∷ at.place ∷ [] in
    let outer = field_append (front ++ s.bounds) most (ps ++ vs) last (omega (arith, many, one, two, pieces, values)) in
    let inner = field_append front s.bounds ps vs (omega (arith, many, pieces)) in
    let all = field_all s.vertices (s.pieces - 1) ps pieces in
    sym (outer ∙ ap (λ xs. xs ++ (a ++ (b ++ (d ++ [])))) (inner ∙ ap (λ xs. xs ++ field_bits s.bounds vs) all)
    ∙ ap (λ xs. front_bits s at ++ (a ++ (b ++ xs))) (append-nil d)
    ∙ sym (append_assoc (front_bits s at) a (b ++ d)) ∙ sym (append_assoc (front_bits s at ++ a) b d))

-- how many bits all fields have, part by part
pub bits_by_parts : (s : Shape) → sum_by width (greatest_of s)
    ≡ s.vertices * width (s.pieces - 1) + sum_by width s.bounds + width (s.vertices - 1) + width 2 + width s.actions
bits_by_parts s =
    let front = replicate s.vertices (s.pieces - 1) in
    let last = (s.vertices - 1) ∷ 2 ∷ s.actions ∷ [] in
    let whole = sum_by-append width (front ++ s.bounds) last in
    let parts = sum_by-append width front s.bounds in
    let pieces : sum_by width front ≡ s.vertices * width (s.pieces - 1) = sum_by-replicate width s.vertices (s.pieces - 1) in
    let a = sum_by-cons width (s.vertices - 1) (2 ∷ s.actions ∷ []) in
    let b = sum_by-cons width 2 (s.actions ∷ []) in
    let d = sum_by-cons width s.actions [] in
    omega (arith, whole, parts, pieces, a, b, d)
