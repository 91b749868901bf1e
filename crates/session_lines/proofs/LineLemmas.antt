-- The line of a move.
use Rattle.std.proofs.Common.{◌≡◌, ◌<◌, ℕ, List, [], length, get_or, Option, Some, None, Result, Ok, Err, ap, sym, ◌∙◌, subst, Vec, Global}
use Rattle.std.specs.Prelude.{All, IfOk, IfSome, slice_get, option_map}
use Rattle.std.proofs.lemmas.Option.{slice_get-get_or}
use Rattle.rbg_game.specs.Games.{Game}
use Rattle.rbg_game.specs.Positions.{IsPositionOf}
use Rattle.rbg_game.specs.declared.position.Position.{Position}
use Rattle.position_pack.specs.declared.kind.PackingKind.TheVariants.{Bytes}
use Rattle.position_pack.specs.Bytes.{bytes_of}
use Rattle.position_pack.specs.Packings.{Form, form_of, IsPacked}
use Rattle.position_pack.proofs.ShapeLemmas.{fits, is_position}
use Rattle.legal_moves.specs.Listed.{ShownMove}
use Rattle.session_lines.specs.Lines.{IsMoveLine, line_of}
use Rattle.session_lines.specs.lemmas.Lines.{HasPosition}

none : ShownMove
none = record { next = []; shown = [] }

-- the bytes of a move's successor are those of a position
pub packed_at : (game : Game) (moves : List ShownMove) (k : ℕ) (items bytes : List ℕ) (form : Form) → All (HasPosition game) moves → k < length moves
    → option_map (λ m. m.next) (slice_get moves k) ≡ Some items → bytes ≡ items → form ≡ form_of Bytes game → (at : Position) × IsPacked form at bytes
packed_at game moves k items bytes form positions lt found same is =
    let m = get_or moves k none in
    let h = positions k none lt in
    let e : Some m.next ≡ Some items = sym (ap (option_map (λ x. x.next)) (slice_get-get_or moves k none lt)) ∙ found in
    let next : m.next ≡ items = cc in
    (h.0, subst (λ f. IsPacked f h.0 bytes) (sym is) (record { fits = fits game h.0 h.1; bytes_are = same ∙ sym next ∙ h.2 }))

pub position_of : (game : Game) (form : Form) (at : Position) (bytes : List ℕ) → form ≡ form_of Bytes game → IsPacked form at bytes → IsPositionOf game at
position_of game form at bytes is packed = is_position game at (subst (λ f. IsPacked f at bytes) is packed).fits

-- and the bytes are those by bytes
pub bytes_are : (game : Game) (form : Form) (at : Position) (bytes : List ℕ) → form ≡ form_of Bytes game → IsPacked form at bytes → bytes ≡ bytes_of at
bytes_are game form at bytes is packed = (subst (λ f. IsPacked f at bytes) is packed).bytes_are

pub line_is : {E : Type 0} (game : Game) (found : Option ShownMove) (items : List ℕ) (pairs : List (ℕ × ℕ)) (next : Position) (r : Result (Vec ℕ Global) E)
    → option_map (λ m. m.next) found ≡ Some items → option_map (λ m. m.shown) found ≡ Some pairs → IsPositionOf game next → items ≡ bytes_of next
    → IfOk r (λ line. line.items ≡ line_of game pairs next) → IfOk r (λ line. IfSome found (λ m. IsMoveLine game m line.items))
line_is game found items pairs next (Err e) en es position bytes h = tt
line_is game None items pairs next (Ok line) en es position bytes h = tt
line_is game (Some m) items pairs next (Ok line) en es position bytes h =
    let same : m.next ≡ items = cc in
    let shown : m.shown ≡ pairs = cc in
    record { next = next; position = position; bytes_are = same ∙ bytes; written = h ∙ ap (λ ps. line_of game ps next) (sym shown) }
