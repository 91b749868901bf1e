-- The parts of a packed position.
use Rattle.std.proofs.Common.{◌≡◌, ℕ, ◌+◌, ◌*◌, ◌/◌, ◌%◌, ◌-◌, ◌<◌, ◌≤◌, List, [], ◌∷◌, ◌++◌, length, take, drop, get_or, get_or-drop, length-drop, length-take-le, refl, ap, sym, ◌∙◌, subst, append_assoc, arith}
use Rattle.std.specs.Prelude.{All}
use Rattle.std.proofs.lemmas.List.{length-append, take-append-drop}
use Rattle.rbg_game.specs.declared.position.Position.{Position}
use Rattle.position_pack.specs.Shape.{Shape, Fits}
use Rattle.position_pack.specs.Fields.{role_code}
use Rattle.position_pack.specs.Bytes.{bytes_of}
use Rattle.position_pack.specs.lemmas.Bytes.{AreValues}
use Rattle.position_pack.proofs.ValueBytes.{spelled, spelled-cons}

pub length-spelled : (vs : List ℕ) → length (spelled vs) ≡ 3 * length vs
length-spelled [] = refl
length-spelled (v ∷ vs) = ap length (spelled-cons v vs) ∙ (let rest : length (spelled vs) ≡ 3 * length vs = length-spelled vs in omega arith)

front : (a b : List ℕ) → take (length a) (a ++ b) ≡ a
front [] b = refl
front (x ∷ a) b = ap (λ ys. x ∷ ys) (front a b)

back : (a b : List ℕ) → drop (length a) (a ++ b) ≡ b
back [] b = refl
back (x ∷ a) b = back a b

-- the vertex, the role and the place
abbrev pub last_bytes : Position → List ℕ
last_bytes at = at.state.vertex ∷ role_code at.state.mover ∷ at.place / 256 % 256 ∷ at.place % 256 ∷ []

-- the bytes are those of the position by packing 1, and its fields are in their ranges
pub record AreBytes (shape : Shape) (at : Position) (bytes : List ℕ) : Type 0 where
  pub fits : Fits shape at
  pub bytes_are : bytes ≡ bytes_of at

pub record Parts (shape : Shape) (at : Position) (bytes : List ℕ) : Type 0 where
  pub as_many : length bytes ≡ shape.vertices + 3 * length shape.bounds + 4
  pub pieces : take shape.vertices bytes ≡ at.state.pieces.items
  pub values : take (3 * length shape.bounds) (drop shape.vertices bytes) ≡ spelled at.state.values.items
  pub others : drop (3 * length shape.bounds) (drop shape.vertices bytes) ≡ last_bytes at

pub parts_of : (shape : Shape) (at : Position) (bytes : List ℕ) → AreBytes shape at bytes → Parts shape at bytes
parts_of shape at bytes is =
    let a = at.state.pieces.items in
    let b = spelled at.state.values.items in
    let c = last_bytes at in
    let whole : bytes ≡ a ++ (b ++ c) = is.bytes_are ∙ append_assoc a b c in
    let many : length b ≡ 3 * length shape.bounds = length-spelled at.state.values.items ∙ ap (λ n. 3 * n) is.fits.values_fit in
    let cut : drop shape.vertices bytes ≡ b ++ c = ap (λ n. drop n bytes) (sym is.fits.pieces_fit) ∙ ap (drop (length a)) whole ∙ back a (b ++ c) in
    record {
      as_many = ap length whole ∙ (let e : length (a ++ (b ++ c)) ≡ length a + (length b + 4) = length-append a (b ++ c)
          ∙ ap (λ n. length a + n) (length-append b c) in omega (arith, e, many, is.fits.pieces_fit));
      pieces = ap (λ n. take n bytes) (sym is.fits.pieces_fit) ∙ ap (take (length a)) whole ∙ front a (b ++ c);
      values = ap (take (3 * length shape.bounds)) cut ∙ ap (λ n. take n (b ++ c)) (sym many) ∙ front b c;
      others = ap (drop (3 * length shape.bounds)) cut ∙ ap (λ n. drop n (b ++ c)) (sym many) ∙ back b c;
    }

-- the bytes from their parts
pub joined : (m n : ℕ) (bytes a b c : List ℕ) → take m bytes ≡ a → take n (drop m bytes) ≡ b → drop n (drop m bytes) ≡ c → bytes ≡ a ++ b ++ c
joined m n bytes a b c ea eb ec =
    sym (take-append-drop m bytes) ∙ ap (λ y. take m bytes ++ y) (sym (take-append-drop n (drop m bytes)))
    ∙ sym (append_assoc (take m bytes) (take n (drop m bytes)) (drop n (drop m bytes)))
    ∙ ap (λ y. y ++ take n (drop m bytes) ++ drop n (drop m bytes)) ea ∙ ap (λ y. a ++ y ++ drop n (drop m bytes)) eb ∙ ap (λ y. a ++ b ++ y) ec

-- bytes cut where the parts of a position end
pub record Cut (shape : Shape) (bytes p v o : List ℕ) : Type 0 where
  pub pieces : p ≡ take shape.vertices bytes
  pub values : v ≡ take (3 * length shape.bounds) (drop shape.vertices bytes)
  pub others : o ≡ drop (3 * length shape.bounds) (drop shape.vertices bytes)

pub cut_at : (shape : Shape) (bytes p r v o : List ℕ) (m n : ℕ) → m ≡ shape.vertices → n ≡ length shape.bounds → p ≡ take m bytes
    → r ≡ drop m bytes → v ≡ take (3 * n) r → o ≡ drop (3 * n) r
    → Cut shape bytes p v o
cut_at shape bytes p r v o m n em en ep er ev eo =
    record {
      pieces = ep ∙ ap (λ k. take k bytes) em;
      values = ev ∙ ap (λ k. take (3 * k) r) en ∙ ap (take (3 * length shape.bounds)) (er ∙ ap (λ k. drop k bytes) em);
      others = eo ∙ ap (λ k. drop (3 * k) r) en ∙ ap (drop (3 * length shape.bounds)) (er ∙ ap (λ k. drop k bytes) em);
    }

-- the parts of the bytes of a position
module _ (shape : Shape) (bytes p v o : List ℕ) (cut : Cut shape bytes p v o) (at : Position) (is : AreBytes shape at bytes) where
  parts : Parts shape at bytes
  parts = parts_of shape at bytes is

  pub pieces_below : All (λ x. x < shape.pieces) p
  pieces_below = subst (All (λ x. x < shape.pieces)) (sym (cut.pieces ∙ parts.pieces)) is.fits.pieces_are

  pub values_there : AreValues v shape.bounds at.state.values.items
  values_there = record { bytes_are = cut.values ∙ parts.values; as_many = is.fits.values_fit; within = is.fits.values_are }

  pub others_are : o ≡ last_bytes at
  others_are = cut.others ∙ parts.others

place_is : (place a b : ℕ) → place < 65536 → a ≡ place / 256 % 256 → b ≡ place % 256 → a * 256 + b ≡ place
place_is place a b small ea eb = omega arith

-- the place that the last two bytes spell
pub place_spelled : (at : Position) (o : List ℕ) → o ≡ last_bytes at → at.place < 65536 → get_or o 2 0 * 256 + get_or o 3 0 ≡ at.place
place_spelled at o e small = place_is at.place _ _ small (ap (λ xs. get_or xs 2 0) e) (ap (λ xs. get_or xs 3 0) e)

two_bytes : (a b place : ℕ) → a < 256 → b < 256 → place ≡ a * 256 + b → (a ≡ place / 256 % 256) × (b ≡ place % 256)
two_bytes a b place ha hb e = (omega arith, omega arith)

-- a list of four
pub four_of : (o : List ℕ) (a b c d : ℕ) → length o ≡ 4 → get_or o 0 0 ≡ a → get_or o 1 0 ≡ b → get_or o 2 0 ≡ c → get_or o 3 0 ≡ d → o ≡ a ∷ b ∷ c ∷ d ∷ []
four_of [] a b c d e ea eb ec ed = absurd (omega (arith, e))
four_of (w ∷ []) a b c d e ea eb ec ed = absurd (omega (arith, e))
four_of (w ∷ x ∷ []) a b c d e ea eb ec ed = absurd (omega (arith, e))
four_of (w ∷ x ∷ y ∷ []) a b c d e ea eb ec ed = absurd (omega (arith, e))
four_of (w ∷ x ∷ y ∷ z ∷ []) a b c d e ea eb ec ed = rw (ea, eb, ec, ed) refl
four_of (w ∷ x ∷ y ∷ z ∷ q ∷ o) a b c d e ea eb ec ed = absurd (omega (arith, e))

-- the bytes of the position that was put together from the parts
pub made : (shape : Shape) (bytes p v o : List ℕ) → Cut shape bytes p v o → (at : Position) → ((i : ℕ) → get_or o i 0 < 256)
    → length bytes ≡ shape.vertices + 3 * length shape.bounds + 4
    → at.state.pieces.items ≡ p → AreValues v shape.bounds at.state.values.items → at.state.vertex ≡ get_or o 0 0
    → get_or o 1 0 ≡ role_code at.state.mover → at.place ≡ get_or o 2 0 * 256 + get_or o 3 0
    → All (λ x. x < shape.pieces) p → at.state.vertex < shape.vertices → at.place ≤ shape.actions → AreBytes shape at bytes
made shape bytes p v o cut at small as_many pieces values vertex role place below vertex_is place_is =
    let long : length p ≡ shape.vertices = ap length cut.pieces
    ∙ (let h : shape.vertices ≤ length bytes = omega arith in length-take-le shape.vertices bytes h) in
    let place_bytes = two_bytes _ _ at.place (small 2) (small 3) place in
    let four : length o ≡ 4 = ap length cut.others ∙ length-drop _ (drop shape.vertices bytes)
    ∙ (let e : length (drop shape.vertices bytes) ≡ length bytes - shape.vertices = length-drop shape.vertices bytes in omega (arith, e, as_many)) in
    let last : o ≡ last_bytes at = four_of o _ _ _ _ four (sym vertex) role place_bytes.0 place_bytes.1 in
    record {
      fits = record {
        pieces_fit = ap length pieces ∙ long;
        pieces_are = subst (All (λ x. x < shape.pieces)) (sym pieces) below;
        values_fit = values.as_many;
        values_are = values.within;
        vertex_is = vertex_is;
        place_is = place_is;
      };
      bytes_are = joined shape.vertices (3 * length shape.bounds) bytes _ _ _ (sym cut.pieces ∙ sym pieces)
          (sym cut.values ∙ values.bytes_are) (sym cut.others ∙ last);
    }

pub small_others : (shape : Shape) (bytes p v o : List ℕ) → Cut shape bytes p v o → ((i : ℕ) → get_or bytes i 0 < 256) → (i : ℕ) → get_or o i 0 < 256
small_others shape bytes p v o cut small i =
    let n = 3 * length shape.bounds in
    let e : get_or o i 0 ≡ get_or bytes (shape.vertices + (n + i)) 0 =
    ap (λ xs. get_or xs i 0) cut.others ∙ get_or-drop n (drop shape.vertices bytes) i 0 ∙ get_or-drop shape.vertices bytes (n + i) 0 in
    omega (arith, e, small (shape.vertices + (n + i)))
