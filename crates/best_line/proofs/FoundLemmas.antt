-- Moves that were found are those of the position, with what the table tells of them.
use Rattle.std.proofs.Common.{◌≡◌, ◌<◌, ℕ, suc, List, [], ◌∷◌, length, map, get_or, Option, Some, None, ap, sym, ◌∙◌, subst, refl, arith}
use Rattle.std.specs.Prelude.{All, IfSome, slice_get, option_map}
use Rattle.std.proofs.lemmas.Option.{slice_get-get_or}
use Rattle.rbg_game.specs.Games.{Game}
use Rattle.rbg_game.specs.Sound.{IsSoundGame}
use Rattle.rbg_game.specs.Positions.{IsPositionOf}
use Rattle.rbg_game.specs.declared.position.Position.{Position}
use Rattle.position_pack.specs.declared.kind.PackingKind.{PackingKind}
use Rattle.position_pack.specs.declared.kind.PackingKind.TheVariants.{Bytes}
use Rattle.position_pack.specs.Packings.{Form, form_of, IsPacked, packed_by}
use Rattle.position_pack.specs.Shape.{shape_of}
use Rattle.position_pack.specs.Texts.{text_of}
use Rattle.retrograde.specs.View.{View}
use Rattle.legal_moves.specs.Listed.{ShownMove, ListsExactly, IsSuccessorBytes, IsShownMove, IsShortestMove}
use Rattle.legal_moves.specs.Moves.{ShowsFrom}
use Rattle.legal_moves.specs.Sources.{IsAt, IsMoveBetween}
use Rattle.legal_moves.specs.lemmas.Repacked.{IsRepacked, AreRepacked}
use Rattle.legal_moves.proofs.answers.ReachLemmas.{position_of}
use Rattle.legal_moves.proofs.answers.RepackLemmas.{lists_repacked}
use Rattle.legal_moves.proofs.answers.SourceLemmas.{one_position, at_by_packed, packed_by_at}
use Rattle.best_line.specs.Moves.{IsKnownAs, IsKnownMove, modifiers_of}
use Rattle.best_line.specs.lemmas.Found.{AreToldMoves, IsToldMove, LeadsToPosition}
use Rattle.best_line.specs.declared.known.KnownMove.{KnownMove}

none : ShownMove
none = record { next = []; shown = [] }

-- each successor that is found is a position of the game
pub positions_of : (game : Game) (at : Position) (found : List ShownMove) → IsSoundGame game → IsPositionOf game at → All (IsShownMove game at) found
    → All (LeadsToPosition game) found
positions_of game at found sound here words k d lt =
    let shown = words k d lt in
    (shown.0, record { position_is = position_of game at shown.0 sound here (shown.1, shown.2.leads); bytes_are = shown.2.bytes_are })

-- its bytes are not read as none
pub is_packed : (game : Game) (found : List ShownMove) (k : ℕ) (items bytes : List ℕ) (form : Form) → All (LeadsToPosition game) found → k < length found
    → option_map (λ m. m.next) (slice_get found k) ≡ Some items → bytes ≡ items → form ≡ form_of Bytes game → (at : Position) × IsPacked form at bytes
is_packed game found k items bytes form positions lt at same is =
    let m = get_or found k none in
    let h = positions k none lt in
    let e : Some m.next ≡ Some items = sym (ap (option_map (λ x. x.next)) (slice_get-get_or found k none lt)) ∙ at in
    let next : m.next ≡ items = cc in
    (h.0, packed_by_at Bytes game form bytes h.0 is (record { position_is = h.1.position_is; bytes_are = same ∙ sym next ∙ h.1.bytes_are }))

-- what they are read as is where the move leads
pub leads_to : (game : Game) (found : Option ShownMove) (items bytes : List ℕ) (form : Form) (next : Position) → option_map (λ m. m.next) found ≡ Some items
    → bytes ≡ items → form ≡ form_of Bytes game → IsPacked form next bytes → IfSome found (λ m. IsAt Bytes game m.next next)
leads_to game None items bytes form next at same is packed = tt
leads_to game (Some m) items bytes form next at same is packed =
    let e : m.next ≡ items = cc in
    let h = at_by_packed Bytes game form bytes next is packed in
    record { position_is = h.position_is; bytes_are = e ∙ sym same ∙ h.bytes_are }

pub position_found : (game : Game) (found : List ShownMove) (k : ℕ) (next : Position) → k < length found
    → IfSome (slice_get found k) (λ m. IsAt Bytes game m.next next)
    → IsPositionOf game next
position_found game found k next lt at =
    let here : IsAt Bytes game (get_or found k none).next next =
    subst (λ (o : Option ShownMove). IfSome o (λ m. IsAt Bytes game m.next next)) (slice_get-get_or found k none lt) at in
    here.position_is

module _ (kind : PackingKind) (game : Game) (view : View (List ℕ)) where
  -- the move, with what the table tells of where it leads
  pub told_is : (found : Option ShownMove) (next : Position) (move : KnownMove) → IfSome found (λ m. IsAt Bytes game m.next next)
      → option_map (λ m. m.shown) found ≡ Some (modifiers_of move) → move.packed.items ≡ packed_by kind (shape_of game) next
      → move.text.items ≡ text_of game next → IsKnownAs view move.packed.items move.number move.value → IfSome found (λ m. IsToldMove kind game view m move)
  told_is None next move at shown packed text told = tt
  told_is (Some m) next move at shown packed text told =
      let e : m.shown ≡ modifiers_of move = cc in
      record { next = next; found_is = at; packed_is = record { position_is = at.position_is; bytes_are = packed }; text_is = text; shown_is = e; told = told }

  repacked_of : (found : List ShownMove) (moves : List KnownMove) → length moves ≡ length found
      → ((k : ℕ) (move : KnownMove) → slice_get moves k ≡ Some move → IfSome (slice_get found k) (λ m. IsToldMove kind game view m move))
      → AreRepacked (form_of Bytes game) (form_of kind game) (map (λ m. m.next) found) (map (λ m. m.packed.items) moves)
  repacked_of [] [] many each = tt
  repacked_of [] (y ∷ ys) many each = absurd (omega (arith, many))
  repacked_of (x ∷ xs) [] many each = absurd (omega (arith, many))
  repacked_of (x ∷ xs) (y ∷ ys) many each = (one (each 0 y refl), repacked_of xs ys (omega (arith, many)) (λ k move at. each (suc k) move at))
    where
      one : IsToldMove kind game view x y → IsRepacked (form_of Bytes game) (form_of kind game) x.next y.packed.items
      one told = (
        told.next,
        packed_by_at Bytes game (form_of Bytes game) x.next told.next refl told.found_is,
        packed_by_at kind game (form_of kind game) y.packed.items told.next refl told.packed_is,
      )

  module _ (sound : IsSoundGame game) (bytes : List ℕ) (at : Position) (here : IsAt kind game bytes at) (found : List ShownMove) (moves : List KnownMove)
      (told : AreToldMoves kind game view found moves) where
    -- where they lead are the successors
    pub are_successors : ListsExactly (IsSuccessorBytes game at) (map (λ m. m.next) found)
        → ListsExactly (IsMoveBetween kind game bytes) (map (λ m. m.packed.items) moves)
    are_successors listed =
        lists_repacked kind game sound bytes at here (map (λ m. m.next) found) (map (λ m. m.packed.items) moves)
        (repacked_of found moves told.as_many told.each) listed

    one_known : (m : ShownMove) (move : KnownMove) → IsShortestMove game at m → IsToldMove kind game view m move → IsKnownMove kind game view at move
    one_known m move (next, w, shown, short) it =
        let there : IsAt Bytes game m.next next =
        record { position_is = position_of game at next sound here.position_is (w, shown.leads); bytes_are = shown.bytes_are } in
        let same : it.next ≡ next = one_position Bytes game sound m.next next it.next there it.found_is in
        record {
          next = next;
          next_is = subst (IsAt kind game move.packed.items) same it.packed_is;
          text_is = it.text_is ∙ ap (text_of game) same;
          word = w;
          leads = shown.leads;
          shortest = short;
          shows = subst (ShowsFrom game w at.state next.state) it.shown_is shown.shows;
          told = it.told;
        }

    -- and each has a shortest word
    pub each_known : All (IsShortestMove game at) found → All (IsKnownMove kind game view at) moves
    each_known shortest k d lt =
        let move = get_or moves k d in
        let within : k < length found = let many = told.as_many in omega arith in
        let it : IsToldMove kind game view (get_or found k none) move =
        subst (λ (o : Option ShownMove). IfSome o (λ m. IsToldMove kind game view m move)) (slice_get-get_or found k none within)
        (told.each k move (slice_get-get_or moves k d lt)) in
        one_known (get_or found k none) move (shortest k none within) it
