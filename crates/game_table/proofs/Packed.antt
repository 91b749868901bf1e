-- What is packed as a game's positions are is the bytes of its positions.
use Rattle.std.proofs.Common.{◌≡◌, ◌↔◌, ◌+◌, ◌<◌, inl, inr, Bool, true, ℕ, Option, Some, unwrap_or, List, [], slice_get, refl, sym, ◌∙◌, ap, subst, arith}
use Rattle.std.specs.Prelude.{Result, Ok, Err, IfOk}
use Rattle.std.proofs.lemmas.Bool.{cases_lt}
use Rattle.rbg_game.specs.Games.{Game}
use Rattle.position_pack.specs.declared.kind.PackingKind.{PackingKind}
use Rattle.position_pack.specs.Packings.{Form, form_of}
use Rattle.legal_moves.proofs.answers.SourceLemmas.{at_by_packed, packed_by_at}
use Rattle.retrograde.specs.Stored.{Stored}
use Rattle.game_table.specs.Tables.{ArePositions}
use Rattle.game_table.specs.lemmas.Tables.{IsPackedBytes, ArePacked}

-- an answer whether they are packed is one whether they are positions
pub positions_by_packed : (kind : PackingKind) (game : Game) (form : Form) (stored : Stored (List ℕ)) (packed : List (List ℕ)) (are : Bool)
    → form ≡ form_of kind game → packed ≡ stored.positions
    → (are ≡ true) ↔ ArePacked form packed → (are ≡ true) ↔ ArePositions kind game stored
positions_by_packed kind game form stored packed are same bytes h = (
  (λ is i x number. let (at, packed) = h.0 is i x (subst (λ (xs : List (List ℕ)). slice_get xs i ≡ Some x) (sym bytes) number) in
      (at, at_by_packed kind game form x at same packed)),
  (λ positions. h.1 (λ i x number.
      let (at, here) = positions i x (subst (λ (xs : List (List ℕ)). slice_get xs i ≡ Some x) bytes number) in
      (at, packed_by_at kind game form x at same here))),
)

-- the same of an answer that may not be given
pub positions_if_packed : {E : Type 0} (kind : PackingKind) (game : Game) (form : Form) (stored : Stored (List ℕ)) (answer : Result Bool E)
    → form ≡ form_of kind game
    → IfOk answer (λ are. (are ≡ true) ↔ ArePacked form stored.positions) → IfOk answer (λ are. (are ≡ true) ↔ ArePositions kind game stored)
positions_if_packed kind game form stored (Ok are) same h = positions_by_packed kind game form stored stored.positions are same refl h
positions_if_packed kind game form stored (Err fault) same h = tt

-- one more of a table's positions is packed
pub packed_next : (form : Form) (positions : List (List ℕ)) (index : ℕ) (at : List ℕ) → slice_get positions index ≡ Some at → IsPackedBytes form at
    → ((i : ℕ) (x : List ℕ) → i < index → slice_get positions i ≡ Some x → IsPackedBytes form x)
    → (i : ℕ) (x : List ℕ) → i < index + 1 → slice_get positions i ≡ Some x → IsPackedBytes form x
packed_next form positions index at is here before i x less number = elim (cases_lt i index) [
  | inl below ↦ before i x below number
  | inr past ↦
      let same : i ≡ index = omega (arith, past, less) in
      let found : Some at ≡ Some x = sym is ∙ ap (λ (k : ℕ). slice_get positions k) (sym same) ∙ number in
      subst (λ (bytes : List ℕ). IsPackedBytes form bytes) (ap (λ (o : Option (List ℕ)). unwrap_or o []) found) here
]
