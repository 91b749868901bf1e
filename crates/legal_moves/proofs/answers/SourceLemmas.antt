-- The positions and the moves of a game, by their bytes.
use Rattle.std.proofs.Common.{◌≡◌, ℕ, List, [], sym, ◌∙◌, subst, arith}
use Rattle.rbg_game.specs.Games.{Game}
use Rattle.rbg_game.specs.Sound.{IsSoundGame}
use Rattle.rbg_game.specs.declared.position.Position.{Position}
use Rattle.position_pack.specs.declared.kind.PackingKind.{PackingKind}
use Rattle.position_pack.specs.Shape.{shape_of}
use Rattle.position_pack.specs.Packings.{Form, form_of, IsPacked}
use Rattle.position_pack.proofs.ShapeLemmas.{small_shape, fits, is_position}
use Rattle.position_pack.proofs.PackingLemmas.{packed_tell}
use Rattle.legal_moves.specs.Searches.{IsWide}
use Rattle.legal_moves.specs.Listed.{ListsExactly}
use Rattle.legal_moves.specs.Sources.{IsAt, IsMoveBetween, IsWideAt}

none_listed : (P : List ℕ → Type 0) → ((x : List ℕ) → ¬ P x) → ListsExactly P []
none_listed P none = record {
  only = λ k d within. absurd (omega (arith, within));
  all = λ x p. absurd (none x p);
  ascending = λ i j d before within. absurd (omega (arith, within));
}

-- unpacked bytes are at the position
pub at_by_packed : (kind : PackingKind) (game : Game) (form : Form) (x : List ℕ) (at : Position) → form ≡ form_of kind game
    → IsPacked form at x → IsAt kind game x at
at_by_packed kind game form x at same h =
    let packed = subst (λ f. IsPacked f at x) same h in
    record { position_is = is_position game at packed.fits; bytes_are = packed.bytes_are }

pub packed_by_at : (kind : PackingKind) (game : Game) (form : Form) (x : List ℕ) (at : Position) → form ≡ form_of kind game
    → IsAt kind game x at → IsPacked form at x
packed_by_at kind game form x at same h =
    subst (λ f. IsPacked f at x) (sym same) (record { fits = fits game at h.position_is; bytes_are = h.bytes_are })

module _ (kind : PackingKind) (game : Game) (sound : IsSoundGame game) where
  -- bytes are those of one position
  pub one_position : (x : List ℕ) (at other : Position) → IsAt kind game x at → IsAt kind game x other → other ≡ at
  one_position x at other h k =
      packed_tell kind (shape_of game) other at (small_shape game sound) (fits game other k.position_is) (fits game at h.position_is)
      (sym k.bytes_are ∙ h.bytes_are)

  pub narrow_at : (x : List ℕ) (at : Position) → IsAt kind game x at → ¬ IsWide game at → ¬ IsWideAt kind game x
  narrow_at x at here narrow (other, there, wide) = narrow (subst (IsWide game) (one_position x at other here there) wide)

-- bytes that are no position have no successor, and are not too wide
module _ (kind : PackingKind) (game : Game) (x : List ℕ) (none : (at : Position) → ¬ IsAt kind game x at) where
  pub lists_none : ListsExactly (IsMoveBetween kind game x) []
  lists_none = none_listed (IsMoveBetween kind game x) (λ y m. none m.0 m.2)

  pub never_wide : ¬ IsWideAt kind game x
  never_wide (at, here, wide) = none at here
