-- A whole search is narrow, and one that finds too much is wide.
use Rattle.std.proofs.Common.{◌≡◌, ◌≢◌, ℕ, zero, suc, ◌⊎◌, inl, inr, false, List, [], ◌∷◌, ◌++◌, length, get_or, map, Some, slice_get, All, AllPairs, Contains, refl, sym, ap, ◌∙◌, subst, arith, length-append}
use Rattle.std.proofs.lemmas.Option.{slice_get-get_or}
use Rattle.std.proofs.lemmas.List.{length-map}
use Rattle.rbg_game.specs.Rules.{Regex, action_at, is_switch}
use Rattle.rbg_game.specs.Games.{Game}
use Rattle.rbg_game.specs.declared.position.SemiState.{SemiState}
use Rattle.rbg_game.specs.declared.position.Position.{Position}
use Rattle.legal_moves.specs.Effects.{EffectAt}
use Rattle.legal_moves.specs.Glushkov.{IsNextAt}
use Rattle.legal_moves.specs.Searches.{place_at, Reaches, IsWideFrom, many, within}
use Rattle.legal_moves.specs.lemmas.Configurations.{AsksTooMuch, AreFound, IsSearch}
use Rattle.legal_moves.specs.Configurations.{Configuration}
use Rattle.legal_moves.proofs.GetLemmas.{slice_get-push, slice_get-within}
use Rattle.legal_moves.proofs.searches.SearchLemmas.{Searched-by_Reaches, Reaches-by_Searched, StandsNext, StandsNext-by_path, path-by_StandsNext}
use Rattle.legal_moves.proofs.Distinct.{distinct-le}
use Rattle.legal_moves.proofs.searches.LevelLemmas.{one_more, word_at, complete}

-- a configuration as the definitions have it
abbrev pub pair_of : Configuration → SemiState × ℕ
pair_of c = (c.at.state, c.at.place)

same_position : (c d : Configuration) → pair_of c ≡ pair_of d → c.at ≡ d.at
same_position c d e = ap (λ p. let x : Position = record { state = p.0; place = p.1 } in x) e

pub slice_get-map : {A B : Type 0} (f : A → B) (xs : List A) (i : ℕ) (y : B) → slice_get (map f xs) i ≡ Some y → (x : A) × (slice_get xs i ≡ Some x) × (y ≡ f x)
slice_get-map f [] i y h = absurd (cc)
slice_get-map f (x ∷ xs) zero y h = (x, refl, cc)
slice_get-map f (x ∷ xs) (suc i) y h = slice_get-map f xs i y h

pub map_at : {A B : Type 0} (f : A → B) (xs : List A) (i : ℕ) (x : A) → slice_get xs i ≡ Some x → slice_get (map f xs) i ≡ Some (f x)
map_at f [] i x h = absurd (cc)
map_at f (y ∷ xs) zero x h = let same : y ≡ x = cc in ap (λ z. Some (f z)) same
map_at f (y ∷ xs) (suc i) x h = map_at f xs i x h

pub all_by_get : {A : Type 0} (P : A → Type 0) (xs : List A) → ((i : ℕ) (x : A) → slice_get xs i ≡ Some x → P x) → All P xs
all_by_get P xs h k d inside = h k (get_or xs k d) (slice_get-get_or xs k d inside)

pub pairs_by_get : {A : Type 0} (xs : List A) → ((i j : ℕ) (x y : A) → slice_get xs i ≡ Some x → slice_get xs j ≡ Some y → x ≡ y → i ≡ j) → AllPairs ◌≢◌ xs
pairs_by_get xs h i j d less inside =
    λ same.
    let ij = h i j (get_or xs i d) (get_or xs j d) (slice_get-get_or xs i d (omega arith)) (slice_get-get_or xs j d inside) same in
    omega arith

pub contains_by_get : {A : Type 0} (xs : List A) (i : ℕ) (x : A) → slice_get xs i ≡ Some x → Contains xs x
contains_by_get xs i x h =
    let inside = slice_get-within xs i x h in
    let both : Some (get_or xs i x) ≡ Some x = sym (slice_get-get_or xs i x inside) ∙ h in
    (i, inside, cc)

module _ (game : Game) (e : Regex) (place : ℕ) (S : SemiState) where
  pub reached : (cs : List Configuration) → AreFound game e place S cs → (i : ℕ) (c : Configuration) → slice_get cs i ≡ Some c
      → Reaches game e place S (pair_of c)
  reached cs found i c at =
      let w = (word_at game e place S cs found i c at).1 in
      Reaches-by_Searched game e place S w.word c.at.state c.at.place w.searched

  -- one more than there may be
  pub wide_by_one_more : (cs : List Configuration) (b c : Configuration) (j : ℕ) → AreFound game e place S cs → slice_get cs j ≡ Some b
      → is_switch (action_at e 1 b.at.place) ≡ false → IsNextAt e (place_at place b.at.place) c.at.place
      → EffectAt game e 1 c.at.place b.at.state c.at.state → ((i : ℕ) (d : Configuration) → slice_get cs i ≡ Some d → ¬ (d.at ≡ c.at))
      → length cs ≡ 65536 → IsWideFrom game e place S
  wide_by_one_more cs b c j found at_b plain next step new count =
      many e place S (map pair_of (cs ++ c ∷ []))
      (all_by_get (Reaches game e place S) (map pair_of (cs ++ c ∷ []))
      (λ i y at. let x = slice_get-map pair_of (cs ++ c ∷ []) i y at in
      subst (Reaches game e place S) (sym x.2) (each i x.0 (slice_get-push cs c i x.0 x.1))))
      (pairs_by_get (map pair_of (cs ++ c ∷ []))
      (λ i k y z at_y at_z same. let x = slice_get-map pair_of (cs ++ c ∷ []) i y at_y in
      let x' = slice_get-map pair_of (cs ++ c ∷ []) k z at_z in
      apart i k x.0 x'.0 (same_position x.0 x'.0 (sym x.2 ∙ same ∙ x'.2)) (slice_get-push cs c i x.0 x.1) (slice_get-push cs c k x'.0 x'.1)))
      (length-map (cs ++ c ∷ []) pair_of ∙ total)
    where
      total : length (cs ++ c ∷ []) ≡ 65537
      total = omega (arith, length-append cs (c ∷ []), count)

      each : (i : ℕ) (x : Configuration) → (slice_get cs i ≡ Some x) ⊎ (i ≡ length cs) × (x ≡ c) → Reaches game e place S (pair_of x)
      each i x (inl at) = reached cs found i x at
      each i x (inr at) =
          let before = word_at game e place S cs found j b at_b in
          let w = one_more game e place S cs found b c before.0 before.1 plain next step in
          subst (λ z. Reaches game e place S (pair_of z)) (sym at.1) (Reaches-by_Searched game e place S w.word c.at.state c.at.place w.searched)

      apart : (i k : ℕ) (x y : Configuration) → x.at ≡ y.at → (slice_get cs i ≡ Some x) ⊎ (i ≡ length cs) × (x ≡ c)
          → (slice_get cs k ≡ Some y) ⊎ (k ≡ length cs) × (y ≡ c) → i ≡ k
      apart i k x y same (inl at_x) (inl at_y) = found.different i k x y at_x at_y same
      apart i k x y same (inl at_x) (inr at_y) = absurd (new i x at_x (same ∙ ap (λ z. z.at) at_y.1))
      apart i k x y same (inr at_x) (inl at_y) = absurd (new k y at_y (sym same ∙ ap (λ z. z.at) at_x.1))
      apart i k x y same (inr at_x) (inr at_y) = at_x.0 ∙ sym at_y.0

  -- a pattern that stands next and asks too much
  pub wide_by_pattern : (cs : List Configuration) (b : Configuration) (j k : ℕ) → AreFound game e place S cs → slice_get cs j ≡ Some b
      → is_switch (action_at e 1 b.at.place) ≡ false → IsNextAt e (place_at place b.at.place) k → AsksTooMuch game e k b.at.state → IsWideFrom game e place S
  wide_by_pattern cs b j k found at_b plain next asks =
      let w = (word_at game e place S cs found j b at_b).1 in
      let stands : StandsNext game e place S b.at.state k = record { word = w.word; last = b.at.place; found = w.searched; plain = plain; next = next } in
      let path = path-by_StandsNext game e place S b.at.state k stands in
      within e place S path.0 k b.at.state asks.0 asks.1 path.1 path.2 path.3 asks.2 asks.3

  all_there : (cs : List Configuration) → IsSearch game e place S cs → (p : SemiState × ℕ) → Reaches game e place S p → Contains (map pair_of cs) p
  all_there cs h p r =
      let w = Searched-by_Reaches game e place S p r in
      let f = complete game e place S cs h.found h.expanded w.0 p.0 p.1 w.1 in
      let same : pair_of f.configuration ≡ (p.0, p.1) = ap (λ x. (x.state, x.place)) f.same in
      contains_by_get (map pair_of cs) f.index p (map_at pair_of cs f.index f.configuration f.is_at ∙ ap Some same)

  -- a whole search is not wide
  pub narrow_by_search : (cs : List Configuration) → IsSearch game e place S cs → ¬ IsWideFrom game e place S
  narrow_by_search cs h (many _ _ _ reached all different count) =
      let few = distinct-le (map pair_of cs) reached different (λ k d inside. all_there cs h (get_or reached k d) (all k d inside)) in
      omega (arith, few, length-map cs pair_of, h.found.few)
  narrow_by_search cs h (within _ _ _ w k T positive inner follows free leads is wide) =
      let n = StandsNext-by_path game e place S w k T follows free leads in
      let f = complete game e place S cs h.found h.expanded n.word T n.last n.found in
      let place_same : f.configuration.at.place ≡ n.last = ap (λ x. x.place) f.same in
      let state_same : f.configuration.at.state ≡ T = ap (λ x. x.state) f.same in
      let all = h.expanded f.index (suc k) (slice_get-within cs f.index f.configuration f.is_at) in
      all.narrow f.configuration k f.is_at (subst (λ j. is_switch (action_at e 1 j) ≡ false) (sym place_same) n.plain) (omega arith)
      (subst (λ j. IsNextAt e (place_at place j) k) (sym place_same) n.next)
      (positive, inner, is, subst (λ V. IsWideFrom game inner 0 V) (sym state_same) wide)
