-- The same positions by another packing.
use Rattle.std.proofs.Common.{◌≡◌, ℕ, zero, suc, ◌<◌, List, [], ◌∷◌, length, get_or, refl, ap, sym, ◌∙◌, subst, arith}
use Rattle.std.specs.Prelude.{All, AllPairs, Contains}
use Rattle.std.proofs.lemmas.List.{get_or_default}
use Rattle.std.specs.Ordering.{nat_cmp}
use Rattle.std.specs.Cmp.Lexicographic.{slice_cmp}
use Rattle.std.specs.declared.cmp.Ordering.TheVariants.{Less}
use Rattle.rbg_game.specs.Games.{Game}
use Rattle.rbg_game.specs.Sound.{IsSoundGame}
use Rattle.rbg_game.specs.declared.position.Position.{Position}
use Rattle.position_pack.specs.declared.kind.PackingKind.{PackingKind}
use Rattle.position_pack.specs.declared.kind.PackingKind.TheVariants.{Bytes}
use Rattle.position_pack.specs.Shape.{shape_of}
use Rattle.position_pack.specs.Bytes.{bytes_of}
use Rattle.position_pack.specs.Packings.{Form, form_of, packed_by, IsPacked}
use Rattle.position_pack.proofs.ShapeLemmas.{small_shape, is_position}
use Rattle.position_pack.proofs.PackingLemmas.{packed_order}
use Rattle.legal_moves.specs.Listed.{ListsExactly, IsSuccessorBytes}
use Rattle.legal_moves.specs.Sources.{IsAt, IsMoveBetween}
use Rattle.legal_moves.specs.lemmas.Repacked.{IsRepacked, AreRepacked}
use Rattle.legal_moves.proofs.answers.ReachLemmas.{position_of}
use Rattle.legal_moves.proofs.answers.SourceLemmas.{one_position}

pub repacked_many : (rows form : Form) (xs ys : List (List ℕ)) → AreRepacked rows form xs ys → length xs ≡ length ys
repacked_many rows form [] [] h = refl
repacked_many rows form [] (b ∷ ys) h = absurd h
repacked_many rows form (a ∷ xs) [] h = absurd h
repacked_many rows form (a ∷ xs) (b ∷ ys) h = ap suc (repacked_many rows form xs ys h.1)

repacked_at : (rows form : Form) (xs ys : List (List ℕ)) (k : ℕ) (d : List ℕ) → AreRepacked rows form xs ys → k < length xs
    → IsRepacked rows form (get_or xs k d) (get_or ys k d)
repacked_at rows form [] ys k d h lt = absurd (omega (arith, lt))
repacked_at rows form (a ∷ xs) [] k d h lt = absurd h
repacked_at rows form (a ∷ xs) (b ∷ ys) zero d h lt = h.0
repacked_at rows form (a ∷ xs) (b ∷ ys) (suc k) d h lt = repacked_at rows form xs ys k d h.1 (omega (arith, lt))

module _ (kind : PackingKind) (game : Game) (sound : IsSoundGame game) (x : List ℕ) (at : Position) (here : IsAt kind game x at)
    (xs ys : List (List ℕ)) (h : AreRepacked (form_of Bytes game) (form_of kind game) xs ys) (listed : ListsExactly (IsSuccessorBytes game at) xs) where
  at_by : (k : PackingKind) (y : List ℕ) (next : Position) → IsPacked (form_of k game) next y → IsAt k game y next
  at_by k y next packed = record { position_is = is_position game next packed.fits; bytes_are = packed.bytes_are }

  many : length xs ≡ length ys
  many = repacked_many (form_of Bytes game) (form_of kind game) xs ys h

  only : All (IsMoveBetween kind game x) ys
  only k d lt =
      let row = repacked_at (form_of Bytes game) (form_of kind game) xs ys k d h (omega (arith, lt, many)) in
      leads row (listed.only k d (omega (arith, lt, many)))
    where
      leads : IsRepacked (form_of Bytes game) (form_of kind game) (get_or xs k d) (get_or ys k d) → IsSuccessorBytes game at (get_or xs k d)
          → IsMoveBetween kind game x (get_or ys k d)
      leads (next, by_row, by_form) (other, bytes, goes) =
          let there : IsAt Bytes game (get_or xs k d) other =
          record { position_is = position_of game at other sound here.position_is goes; bytes_are = bytes } in
          let same : next ≡ other = one_position Bytes game sound (get_or xs k d) other next there (at_by Bytes (get_or xs k d) next by_row) in
          (at, other, here, subst (IsAt kind game (get_or ys k d)) same (at_by kind (get_or ys k d) next by_form), goes)

  ascending : AllPairs (λ a b. slice_cmp nat_cmp a b ≡ Less) ys
  ascending i j d before lt =
      let a = repacked_at (form_of Bytes game) (form_of kind game) xs ys i d h (omega (arith, lt, many, before)) in
      let b = repacked_at (form_of Bytes game) (form_of kind game) xs ys j d h (omega (arith, lt, many)) in
      order a b (listed.ascending i j d before (omega (arith, lt, many)))
    where
      order : IsRepacked (form_of Bytes game) (form_of kind game) (get_or xs i d) (get_or ys i d)
          → IsRepacked (form_of Bytes game) (form_of kind game) (get_or xs j d) (get_or ys j d)
          → slice_cmp nat_cmp (get_or xs i d) (get_or xs j d) ≡ Less → slice_cmp nat_cmp (get_or ys i d) (get_or ys j d) ≡ Less
      order (p, row_p, form_p) (q, row_q, form_q) less =
          let small = small_shape game sound in
          ap (λ u. slice_cmp nat_cmp u (get_or ys j d)) form_p.bytes_are ∙ ap (slice_cmp nat_cmp (packed_by kind (shape_of game) p)) form_q.bytes_are
          ∙ packed_order kind (shape_of game) p q small form_p.fits form_q.fits ∙ sym (packed_order Bytes (shape_of game) p q small row_p.fits row_q.fits)
          ∙ sym (ap (λ u. slice_cmp nat_cmp u (packed_by Bytes (shape_of game) q)) row_p.bytes_are)
          ∙ sym (ap (slice_cmp nat_cmp (get_or xs i d)) row_q.bytes_are) ∙ less

  every : (y : List ℕ) → IsMoveBetween kind game x y → Contains ys y
  every y (other, next, from, to, goes) =
      let leads = subst (λ p. IsSuccessorBytes game p (bytes_of next)) (one_position kind game sound x at other here from) (next, refl, goes) in
      let found = listed.all (bytes_of next) leads in
      let k = found.0 in
      let lt : k < length ys = omega (arith, found.1, many) in (
        k,
        lt,
        get_or_default ys k y (bytes_of next) lt ∙ same next to found.0 found.2
            (repacked_at (form_of Bytes game) (form_of kind game) xs ys k (bytes_of next) h found.1),
      )
    where
      same : (next : Position) → IsAt kind game y next → (k : ℕ) → get_or xs k (bytes_of next) ≡ bytes_of next
          → IsRepacked (form_of Bytes game) (form_of kind game) (get_or xs k (bytes_of next)) (get_or ys k (bytes_of next)) → get_or ys k (bytes_of next) ≡ y
      same next there k is (p, by_row, by_form) =
          let row : IsAt Bytes game (bytes_of next) p = at_by Bytes (bytes_of next) p (subst (IsPacked (form_of Bytes game) p) is by_row) in
          let known : IsAt Bytes game (bytes_of next) next = record { position_is = there.position_is; bytes_are = refl } in
          by_form.bytes_are ∙ ap (packed_by kind (shape_of game)) (one_position Bytes game sound (bytes_of next) next p known row) ∙ sym there.bytes_are

  pub lists_repacked : ListsExactly (IsMoveBetween kind game x) ys
  lists_repacked = record { only = only; all = every; ascending = ascending }
