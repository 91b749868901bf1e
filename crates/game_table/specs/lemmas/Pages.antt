-- How many pages units of work may take where few moves lead from each position and to it.
use Rattle.std.proofs.Common.{◌≡◌, refl, sym, ◌∙◌, ap, subst, ℕ, zero, suc, ◌+◌, ◌*◌, ◌<◌, ◌≤◌, Bool}
use Rattle.std.proofs.Common.{true, false, if◌then◌else◌, List, [], ◌∷◌, length, get_or, slice_get, Some, IsSome, AllPairs, Contains, arith}
use Rattle.std.specs.Cmp.{IsTotalOrder}
use Rattle.std.specs.List.Sorted.{IsStrictlySortedBy}
use Rattle.std.specs.Ordering.{ordering_reverse}
use Rattle.std.specs.declared.cmp.Ordering.{Ordering}
use Rattle.std.specs.declared.cmp.Ordering.TheVariants.{Less, Greater}
use Rattle.std.proofs.lemmas.Cmp.{nat_list_cmp_total}
use Rattle.std.proofs.lemmas.List.{get_or_default}
use Rattle.std.proofs.lemmas.List.Kept.{AllPairs-cons}
use Rattle.std.proofs.lemmas.Map.Keys.{sorted_tail}
use Rattle.std.proofs.lemmas.Map.Views.{All-after_first}
use Rattle.std.proofs.lemmas.Option.{slice_get-get_or}
use Rattle.legal_moves.proofs.Distinct.{distinct-le}
use Rattle.retrograde.specs.Graph.{Graph}
use Rattle.retrograde.specs.Sound.{IsLocallySound}
use Rattle.retrograde.specs.Stored.{Stored, count_below, expanded_count, processed_count, view_of}
use Rattle.retrograde.specs.Successors.{packed_cmp}
use Rattle.retrograde.proofs.Sound.{sound_right}
use Rattle.frontier.specs.Entries.{WritesAtMost, expands, processes}
use Rattle.game_table.specs.Entries.{WantsPages, WriteAtMost, HasAtMostMoves, pages_taken}

-- what is in order differs
module _ {P : Type 0} (cmp : P → P → Ordering) (laws : IsTotalOrder cmp) where
  in_pairs : (xs : List P) → IsStrictlySortedBy cmp xs → AllPairs (λ x y. cmp x y ≡ Less) xs
  in_pairs [] sorted = λ i j d less inside. absurd (omega arith)
  in_pairs (x ∷ xs) sorted =
      AllPairs-cons (λ x y. cmp x y ≡ Less) x xs (All-after_first cmp x xs sorted) (in_pairs xs (sorted_tail cmp x xs sorted))

  not_before_itself : (x : P) → cmp x x ≡ Less → ⊥
  not_before_itself x before =
      let greater : cmp x x ≡ Greater = laws.antisymm x x ∙ ap ordering_reverse before in
      let no_way : Less ≡ Greater = sym before ∙ greater in
      cc

  sorted_differs : (xs : List P) → IsStrictlySortedBy cmp xs → (i j : ℕ) (d : P) → i < j → j < length xs → get_or xs i d ≡ get_or xs j d → ⊥
  sorted_differs xs sorted i j d less inside same =
      not_before_itself (get_or xs j d)
      (subst (λ (u : P). cmp u (get_or xs j d) ≡ Less) same (in_pairs xs sorted i j d less inside))

-- the positions, each with one number, whose numbers pass a test
module _ {P : Type 0} (none : P) (positions : List P)
    (once : (i j : ℕ) (x : P) → slice_get positions i ≡ Some x → slice_get positions j ≡ Some x → i ≡ j) (test : ℕ → Bool) where
  abbrev kept_if : Bool → P → List P → List P
  kept_if true x rest = x ∷ rest
  kept_if false x rest = rest

  -- those with a number below n
  abbrev passing : ℕ → List P
  passing zero = []
  passing (suc n) = kept_if (test n) (get_or positions n none) (passing n)

  as_many : (n : ℕ) → length (passing n) ≡ count_below n test
  as_many zero = refl
  as_many (suc n) = go (test n) (as_many n)
    where
      go : (b : Bool) → length (passing n) ≡ count_below n test
          → length (kept_if b (get_or positions n none) (passing n)) ≡ count_below n test + (if b then 1 else 0)
      go true many = omega (arith, many)
      go false many = omega (arith, many)

  -- what stands in it at k
  abbrev IsAt : ℕ → P → Type 0
  IsAt n x = (p : ℕ) × (p < n) × (test p ≡ true) × (x ≡ get_or positions p none)

  each_passes : (n k : ℕ) (d : P) → k < length (passing n) → IsAt n (get_or (passing n) k d)
  each_passes zero k d inside = absurd (omega (arith, inside))
  each_passes (suc n) k d inside = go (test n) refl k (λ j within. each_passes n j d within) inside
    where
      go : (b : Bool) → test n ≡ b → (k : ℕ) → ((j : ℕ) → j < length (passing n) → IsAt n (get_or (passing n) j d))
          → k < length (kept_if b (get_or positions n none) (passing n)) → IsAt (suc n) (get_or (kept_if b (get_or positions n none) (passing n)) k d)
      go true is zero before inside = (n, omega arith, is, refl)
      go true is (suc k) before inside =
          let (p, below, passes, same) = before k (omega (arith, inside)) in (p, omega (arith, below), passes, same)
      go false is k before inside = let (p, below, passes, same) = before k inside in (p, omega (arith, below), passes, same)

  differ : (n i j : ℕ) (d : P) → n ≤ length positions → i < j → j < length (passing n) → get_or (passing n) i d ≡ get_or (passing n) j d → ⊥
  differ zero i j d there less inside same = absurd (omega (arith, inside))
  differ (suc n) i j d there less inside same =
      go (test n) i j (λ k l less within. differ n k l d (omega (arith, there)) less within) (λ l within. each_passes n l d within) less inside same
    where
      go : (b : Bool) (i j : ℕ) → ((k l : ℕ) → k < l → l < length (passing n) → get_or (passing n) k d ≡ get_or (passing n) l d → ⊥)
          → ((l : ℕ) → l < length (passing n) → IsAt n (get_or (passing n) l d)) → i < j
          → j < length (kept_if b (get_or positions n none) (passing n))
          → get_or (kept_if b (get_or positions n none) (passing n)) i d ≡ get_or (kept_if b (get_or positions n none) (passing n)) j d → ⊥
      go true i zero before each less inside same = absurd (omega (arith, less))
      go true zero (suc j) before each less inside same =
          let (p, below, passes, at) = each j (omega (arith, inside)) in
          let one : n ≡ p = once n p (get_or positions n none) (slice_get-get_or positions n none (omega (arith, there)))
          (slice_get-get_or positions p none (omega (arith, there, below)) ∙ ap (λ x. Some x) (sym (same ∙ at))) in
          absurd (omega (arith, one, below))
      go true (suc i) (suc j) before each less inside same = before i j (omega (arith, less)) (omega (arith, inside)) same
      go false i j before each less inside same = before i j less inside same

  -- are no more than a list that has each of them
  pass_at_most : (n : ℕ) → n ≤ length positions → (ys : List P)
      → ((p : ℕ) → p < n → test p ≡ true → Contains ys (get_or positions p none)) → count_below n test ≤ length ys
  pass_at_most n there ys all =
      let within =
      distinct-le ys (passing n) (λ i j d less inside same. differ n i j d there less inside same)
      (λ k d inside.
      let (p, below, passes, at) = each_passes n k d inside in
      subst (λ (x : P). Contains ys x) (sym at) (all p below passes)) in
      omega (arith, within, as_many n)

-- a number has one position
one_position : (positions : List (List ℕ)) (p : ℕ) (z : List ℕ) → slice_get positions p ≡ Some z → p < length positions → z ≡ get_or positions p []
one_position positions p z at inside =
    let both : Some z ≡ Some (get_or positions p []) = sym at ∙ slice_get-get_or positions p [] inside in
    cc

module _ (graph : Graph (List ℕ)) (IsWide : List ℕ → Type 0) (n : ℕ) (few : HasAtMostMoves graph n) where
  -- one unit
  one_unit : (stored : Stored (List ℕ)) → IsLocallySound graph IsWide stored → (entries : ℕ) → WritesAtMost graph stored entries → entries ≤ 3 * n + 2
  one_unit stored sound entries (expands {x} {ys} at list is) =
      let right = sound_right graph IsWide stored sound in
      let cover = few.from x (right.moves.reached x (expanded_count stored, at)) in
      let within =
      distinct-le cover.positions ys (λ i j d less inside same. sorted_differs packed_cmp nat_list_cmp_total ys list.ascending i j d less inside same)
      (λ k d inside. cover.each (get_or ys k d) ((list.each (get_or ys k d)).0 (k, inside, get_or_default ys k (get_or ys k d) d inside))) in
      omega (arith, is, within, cover.as_many)
  one_unit stored sound entries (processes {s} at all is) =
      let right = sound_right graph IsWide stored sound in
      let many = length stored.positions in
      let there = known_there s at in
      let x = get_or stored.positions s [] in
      let here : slice_get stored.positions s ≡ Some x = slice_get-get_or stored.positions s [] there in
      let cover = few.to x (right.moves.reached x (s, here)) in
      let within =
      pass_at_most [] stored.positions sound.table.distinct (stored.has_edge s) many (omega arith) cover.positions
      (λ p below edge.
      let (z, from, expanded, leads) = (sound.each s x here).edges.to_it p edge in
      subst (λ (y : List ℕ). Contains cover.positions y) (one_position stored.positions p z from below)
      (cover.each z (right.moves.reached z (p, from), leads))) in
      omega (arith, is, within, cover.as_many)
    where
      known_there : (s : ℕ) → slice_get stored.order (processed_count stored) ≡ Some s → s < length stored.positions
      known_there s at =
          let settled = right_settled s (sound.table.settled (processed_count stored) s at) in settled
        where
          right_settled : (s : ℕ) → IsSome ((view_of stored).value s) → s < length stored.positions
          right_settled s some =
              let coherent = (sound_right graph IsWide stored sound).coherent in
              omega (arith, coherent.settled s some, coherent.expanded)

  -- many units
  many_units : (old : Stored (List ℕ)) (units : ℕ) (new : Stored (List ℕ)) (entries : ℕ) → WriteAtMost graph IsWide old units new entries
      → entries ≤ units * (3 * n + 2)
  many_units old zero new entries (same, none) = omega (arith, none)
  many_units old (suc units) new entries (mid, before, last, write, sound, unit, writes, sum) =
      omega (arith, many_units old units mid before write, one_unit mid sound last writes, sum)

  -- too few pages are few
  pub wants_few : (old : Stored (List ℕ)) (units free : ℕ) → WantsPages graph IsWide old units free → free ≤ pages_taken n units
  wants_few old units free wants =
      let before = many_units old wants.done wants.reached wants.before wants.write in
      let next = one_unit wants.reached wants.sound wants.next wants.writes in
      let all = times_mono (suc wants.done) units (3 * n + 2) wants.fewer in
      omega (arith, before, next, all, wants.few)
    where
      times_mono : (a b k : ℕ) → a ≤ b → a * k ≤ b * k
      times_mono zero b k le = omega arith
      times_mono (suc a) zero k le = absurd (omega (arith, le))
      times_mono (suc a) (suc b) k le = omega (arith, times_mono a b k (omega (arith, le)))
