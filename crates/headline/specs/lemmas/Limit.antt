-- Where the next position would make more known than there may be, play comes to more positions than that.
use Rattle.std.specs.Prelude.{◌≡◌, ◌⊎◌, ℕ, zero, suc, ◌+◌, ◌<◌, ◌^◌, List, [], ◌∷◌, ◌++◌, length, Contains, Some, slice_get}
use Rattle.std.specs.List.{AllByRecursion}
use Rattle.std.specs.List.Sorted.{IsStrictlySortedBy}
use Rattle.std.specs.declared.cmp.Ordering.TheVariants.{Less, Equal}
use Rattle.std.proofs.Common.{refl, sym, subst, ◌∙◌, ap, inl, inr, arith}
use Rattle.std.proofs.lemmas.Cmp.{nat_list_cmp_total, tied_itself}
use Rattle.std.proofs.lemmas.Option.{same_Some, slice_get_within, get_or_from_slice_get}
use Rattle.rbg_read.proofs.SoundGames.{read_sound}
use Rattle.legal_moves.proofs.automata.StepLemmas.{slice_get-append_cases}
use Rattle.retrograde.specs.Expands.{IsTooMany}
use Rattle.retrograde.specs.Graph.{IsReachable, by_move}
use Rattle.retrograde.specs.Sound.{IsLocallySound}
use Rattle.retrograde.specs.Stored.{Stored, view_of, expanded_count}
use Rattle.retrograde.specs.Successors.{packed_cmp}
use Rattle.retrograde.specs.View.{HasNumber}
use Rattle.retrograde.proofs.Sound.{sound_right}
use Rattle.game_table.specs.lemmas.Laws.{starts_are_positions, reachable_is_position}
use Rattle.game_file.specs.Kept.{Kept}
use Rattle.solver.specs.Held.{IsSound, graph_in, wide_in}
use Rattle.headline.specs.Tables.{ComesToMore}
use Rattle.headline.specs.lemmas.Told.{AreBytes, positions_of, as_many, bytes_at, brief_of, brief_is_so}
use Rattle.headline.specs.lemmas.Plays.{reached_down}

at_contains : (xs : List (List ℕ)) (k : ℕ) (x : List ℕ) → slice_get xs k ≡ Some x → Contains xs x
at_contains xs k x at = (k, slice_get_within xs k x at, get_or_from_slice_get xs k x x at)

-- a list that ascends has each element once
all_behind : (x : List ℕ) (xs : List (List ℕ)) (j : ℕ) (y : List ℕ) → AllByRecursion (λ z. packed_cmp x z ≡ Less) xs → slice_get xs j ≡ Some y
    → packed_cmp x y ≡ Less
all_behind x [] j y all at = absurd cc
all_behind x (z ∷ xs) zero y all at = subst (λ (w : List ℕ). packed_cmp x w ≡ Less) (same_Some z y at) all.0
all_behind x (z ∷ xs) (suc j) y all at = all_behind x xs j y all.1 at

not_below_itself : (x : List ℕ) → packed_cmp x x ≡ Less → ⊥
not_below_itself x less = let tied : packed_cmp x x ≡ Equal = tied_itself nat_list_cmp_total x in cc

once_in : (xs : List (List ℕ)) (i j : ℕ) (x : List ℕ) → IsStrictlySortedBy packed_cmp xs → slice_get xs i ≡ Some x → slice_get xs j ≡ Some x → i ≡ j
unfolding IsStrictlySortedBy
once_in [] i j x sorted here there = absurd cc
once_in (y ∷ xs) zero zero x sorted here there = refl
once_in (y ∷ xs) zero (suc j) x sorted here there =
    absurd (not_below_itself x (subst (λ (z : List ℕ). packed_cmp z x ≡ Less) (same_Some y x here) (all_behind y xs j x sorted.0 there)))
once_in (y ∷ xs) (suc i) zero x sorted here there =
    absurd (not_below_itself x (subst (λ (z : List ℕ). packed_cmp z x ≡ Less) (same_Some y x there) (all_behind y xs i x sorted.0 here)))
once_in (y ∷ xs) (suc i) (suc j) x sorted here there = ap (λ (n : ℕ). suc n) (once_in xs i j x sorted.1 here there)

-- the known positions of a sound table, and those that a move from the next one leads to and that are not known
module _ (kept : Kept) (sound : IsSound (Some kept)) (reached : Stored (List ℕ))
    (local : IsLocallySound (graph_in sound.0 kept) (wide_in sound.0 kept) reached)
    (x : List ℕ) (number : HasNumber (view_of reached) (expanded_count reached) x)
    (many : IsTooMany packed_cmp (graph_in sound.0 kept) (2 ^ 24) reached.positions x) where
  abbrev all : List (List ℕ)
  all = reached.positions ++ many.found

  known_reached : (i : ℕ) (y : List ℕ) → slice_get reached.positions i ≡ Some y → IsReachable (graph_in sound.0 kept) y
  known_reached i y at = (sound_right (graph_in sound.0 kept) (wide_in sound.0 kept) reached local).moves.reached y (i, at)

  new_at : (j : ℕ) (y : List ℕ) → slice_get many.found j ≡ Some y
      → (graph_in sound.0 kept).Successor x y × (Contains reached.positions y → ⊥)
  new_at j y at = (many.fresh.each y).0 (at_contains many.found j y at)

  reached_at : (i : ℕ) (y : List ℕ) → slice_get all i ≡ Some y → IsReachable (graph_in sound.0 kept) y
  reached_at i y at = elim (slice_get-append_cases reached.positions many.found i y at) [
    | inl known ↦ known_reached i y known
    | inr (j, place, fresh) ↦ by_move (known_reached (expanded_count reached) x number) (new_at j y fresh).0
  ]

  are_bytes : AreBytes kept.packing sound.0 all
  are_bytes i y at = reachable_is_position kept.packing kept.goal sound.0 y (starts_are_positions kept.text sound.0 sound.1) (reached_at i y at)

  once : (i j : ℕ) (y : List ℕ) → slice_get all i ≡ Some y → slice_get all j ≡ Some y → i ≡ j
  once i j y here there =
      go (slice_get-append_cases reached.positions many.found i y here) (slice_get-append_cases reached.positions many.found j y there)
    where
      go : (slice_get reached.positions i ≡ Some y) ⊎ ((k : ℕ) × (i ≡ length reached.positions + k) × (slice_get many.found k ≡ Some y))
          → (slice_get reached.positions j ≡ Some y) ⊎ ((k : ℕ) × (j ≡ length reached.positions + k) × (slice_get many.found k ≡ Some y))
          → i ≡ j
      go (inl a) (inl b) = local.table.distinct i j y a b
      go (inl a) (inr (k, place, b)) = absurd ((new_at k y b).1 (at_contains reached.positions i y a))
      go (inr (k, place, a)) (inl b) = absurd ((new_at k y a).1 (at_contains reached.positions j y b))
      go (inr (k, first, a)) (inr (m, second, b)) = omega (arith, first, second, once_in many.found k m y many.fresh.ascending a b)

  -- so play comes to all of them
  pub comes_to_more : ComesToMore (2 ^ 24) (Some (brief_of kept sound))
  unfolding brief_of
  comes_to_more = (
    sound.0,
    positions_of kept.packing sound.0 all are_bytes,
    (brief_is_so kept sound).says,
    record {
      differ = λ i j at here there.
          let (y, y_at, y_is) = bytes_at kept.packing sound.0 all are_bytes i at here in
          let (z, z_at, z_is) = bytes_at kept.packing sound.0 all are_bytes j at there in
          let same : z ≡ y = z_is.bytes_are ∙ sym y_is.bytes_are in
          once i j y y_at (subst (λ (b : List ℕ). slice_get all j ≡ Some b) same z_at);
      each = λ i at here.
          let (y, y_at, y_is) = bytes_at kept.packing sound.0 all are_bytes i at here in
          reached_down kept.packing kept.goal sound.0 (read_sound kept.text sound.0 sound.1) y (reached_at i y y_at) at y_is;
    },
    subst (λ (n : ℕ). 2 ^ 24 < n) (sym (as_many kept.packing sound.0 all are_bytes)) many.over,
  )
