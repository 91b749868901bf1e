-- The actions of an expression by their numbers, and what they keep.
use Rattle.std.proofs.Common.{◌≡◌, ℕ, zero, suc, ◌+◌, ◌<◌, ◌≤◌, ◌==◌, ◌⊎◌, inl, inr, Bool, true, false, cond, List, [], ◌∷◌, ◌++◌, length, find, Option, Some, None, option_map, option_and_then, slice_get, slice_set, slice_index, All, refl, sym, ap, ◌∙◌, subst, arith, length-append, length-set}
use Rattle.std.specs.List.{AllZip}
use Rattle.std.specs.Option.{option_or}
use Rattle.std.proofs.lemmas.Bool.{eq-eqb, cases_eq}
use Rattle.std.proofs.lemmas.List.{get_or-set_same, get_or-set_other}
use Rattle.std.proofs.lemmas.List.Elements.{All-set, All-head, All-tail}
use Rattle.rbg_game.specs.Rules.{Regex, one, empty, cat, alt, star, count, Action, shift, on, off, assignment, comparison, switch, pattern, action_at}
use Rattle.rbg_game.specs.Games.{Game, Vertex, Arrow, neighbour, bound_of}
use Rattle.rbg_game.specs.Sound.{IsSoundGame, IsSoundRegex, IsSoundAction, IsSoundArrow, IsSoundVertex, whole_count, inner_count}
use Rattle.rbg_game.specs.Positions.{IsStateOf}
use Rattle.rbg_game.specs.declared.position.SemiState.{SemiState}
use Rattle.legal_moves.specs.Effects.{Effect, EffectAt}
use Rattle.legal_moves.specs.Tables.{actions_of}
use Rattle.legal_moves.proofs.EffectLemmas.{or_left_some, or_right_some, option_or-cases, action_at-one, action-by_EffectAt}

-- ---- by numbers

pub length_actions : (e : Regex) → length (actions_of e) ≡ count e
length_actions (one a) = refl
length_actions empty = refl
length_actions (cat a b) = omega (arith, length-append (actions_of a) (actions_of b), length_actions a, length_actions b)
length_actions (alt a b) = omega (arith, length-append (actions_of a) (actions_of b), length_actions a, length_actions b)
length_actions (star a) = length_actions a

pub slice_get-append_cases : {A : Type 0} (xs ys : List A) (k : ℕ) (x : A) → slice_get (xs ++ ys) k ≡ Some x
    → (slice_get xs k ≡ Some x) ⊎ ((j : ℕ) × (k ≡ length xs + j) × (slice_get ys j ≡ Some x))
slice_get-append_cases [] ys k x h = inr (k, omega arith, h)
slice_get-append_cases (y ∷ xs) ys zero x h = inl h
slice_get-append_cases (y ∷ xs) ys (suc k) x h = go (slice_get-append_cases xs ys k x h)
  where
    go : (slice_get xs k ≡ Some x) ⊎ ((j : ℕ) × (k ≡ length xs + j) × (slice_get ys j ≡ Some x))
        → (slice_get xs k ≡ Some x) ⊎ ((j : ℕ) × (suc k ≡ suc (length xs) + j) × (slice_get ys j ≡ Some x))
    go (inl g) = inl g
    go (inr g) = inr (g.0, omega (arith, g.1), g.2)

both_by_list : (b c : Regex) (n k : ℕ) (a : Action) → ((m j : ℕ) → slice_get (actions_of b) j ≡ Some a → action_at b m (m + j) ≡ Some a)
    → ((m j : ℕ) → slice_get (actions_of c) j ≡ Some a → action_at c m (m + j) ≡ Some a)
    → slice_get (actions_of b ++ actions_of c) k ≡ Some a → option_or (action_at b n (n + k)) (action_at c (n + count b) (n + k)) ≡ Some a
both_by_list b c n k a left right h = go (slice_get-append_cases (actions_of b) (actions_of c) k a h)
  where
    go : (slice_get (actions_of b) k ≡ Some a) ⊎ ((j : ℕ) × (k ≡ length (actions_of b) + j) × (slice_get (actions_of c) j ≡ Some a))
        → option_or (action_at b n (n + k)) (action_at c (n + count b) (n + k)) ≡ Some a
    go (inl g) = or_left_some _ _ a (left n k g)
    go (inr g) =
        let size = length_actions b in
        let where_ : (n + count b) + g.0 ≡ n + k = omega (arith, g.1) in
        or_right_some b n (n + k) _ a (omega (arith, where_)) (subst (λ m. action_at c (n + count b) m ≡ Some a) where_ (right (n + count b) g.0 g.2))

pub action_at-by_list : (e : Regex) (a : Action) (n k : ℕ) → slice_get (actions_of e) k ≡ Some a → action_at e n (n + k) ≡ Some a
action_at-by_list (one b) a n zero h = ap (λ t. cond t (Some b) None) (eq-eqb (n + 0) n (omega arith)) ∙ h
action_at-by_list (one b) a n (suc k) h = absurd (cc)
action_at-by_list empty a n k h = absurd (cc)
action_at-by_list (cat b c) a n k h = both_by_list b c n k a (action_at-by_list b a) (action_at-by_list c a) h
action_at-by_list (alt b c) a n k h = both_by_list b c n k a (action_at-by_list b a) (action_at-by_list c a) h
action_at-by_list (star b) a n k h = action_at-by_list b a n k h

pub length_steps : {A B : Type 0} (R : A → B → Type 0) (xs : List A) (ys : List B) → AllZip R xs ys → length xs ≡ length ys
length_steps R [] [] h = refl
length_steps R [] (y ∷ ys) h = absurd h
length_steps R (x ∷ xs) [] h = absurd h
length_steps R (x ∷ xs) (y ∷ ys) h = ap suc (length_steps R xs ys h.1)

pub zip_at : {A B : Type 0} (R : A → B → Type 0) (xs : List A) (ys : List B) → AllZip R xs ys → (k : ℕ) (x : A) → slice_get xs k ≡ Some x
    → (y : B) × (slice_get ys k ≡ Some y) × R x y
zip_at R [] ys h k x at = absurd (cc)
zip_at R (z ∷ xs) [] h k x at = absurd h
zip_at R (z ∷ xs) (y ∷ ys) h zero x at = let same : z ≡ x = cc in (y, refl, subst (λ w. R w y) same h.0)
zip_at R (z ∷ xs) (y ∷ ys) h (suc k) x at = zip_at R xs ys h.1 k x at

-- ---- what holds of all actions of an expression

pub sound_at : (game : Game) (e : Regex) (n k : ℕ) (a : Action) → IsSoundRegex game e → action_at e n k ≡ Some a → IsSoundAction game a
sound_at game (one b) n k a h is = subst (IsSoundAction game) (action_at-one b a n k is).1 h
sound_at game empty n k a h is = absurd (cc)
sound_at game (cat b c) n k a h is = go (option_or-cases (action_at b n k) (action_at c (n + count b) k) a is) (sound_at game b n k a h.0)
    (sound_at game c (n + count b) k a h.1)
  where
    go : (action_at b n k ≡ Some a) ⊎ (action_at c (n + count b) k ≡ Some a) → (action_at b n k ≡ Some a → IsSoundAction game a)
        → (action_at c (n + count b) k ≡ Some a → IsSoundAction game a) → IsSoundAction game a
    go (inl g) l r = l g
    go (inr g) l r = r g
sound_at game (alt b c) n k a h is = go (option_or-cases (action_at b n k) (action_at c (n + count b) k) a is) (sound_at game b n k a h.0)
    (sound_at game c (n + count b) k a h.1)
  where
    go : (action_at b n k ≡ Some a) ⊎ (action_at c (n + count b) k ≡ Some a) → (action_at b n k ≡ Some a → IsSoundAction game a)
        → (action_at c (n + count b) k ≡ Some a → IsSoundAction game a) → IsSoundAction game a
    go (inl g) l r = l g
    go (inr g) l r = r g
sound_at game (star b) n k a h is = sound_at game b n k a h is

pub whole_at : (e : Regex) (n k : ℕ) (a : Action) → action_at e n k ≡ Some a → inner_count a ≤ whole_count e
whole_at (one b) n k a is = let same : inner_count b ≡ inner_count a = ap inner_count (action_at-one b a n k is).1 in omega arith
whole_at empty n k a is = absurd (cc)
whole_at (cat b c) n k a is = go (option_or-cases (action_at b n k) (action_at c (n + count b) k) a is) (whole_at b n k a) (whole_at c (n + count b) k a)
  where
    go : (action_at b n k ≡ Some a) ⊎ (action_at c (n + count b) k ≡ Some a) → (action_at b n k ≡ Some a → inner_count a ≤ whole_count b)
        → (action_at c (n + count b) k ≡ Some a → inner_count a ≤ whole_count c) → inner_count a ≤ whole_count b + whole_count c
    go (inl g) l r = omega (arith, l g)
    go (inr g) l r = omega (arith, r g)
whole_at (alt b c) n k a is = go (option_or-cases (action_at b n k) (action_at c (n + count b) k) a is) (whole_at b n k a) (whole_at c (n + count b) k a)
  where
    go : (action_at b n k ≡ Some a) ⊎ (action_at c (n + count b) k ≡ Some a) → (action_at b n k ≡ Some a → inner_count a ≤ whole_count b)
        → (action_at c (n + count b) k ≡ Some a → inner_count a ≤ whole_count c) → inner_count a ≤ whole_count b + whole_count c
    go (inl g) l r = omega (arith, l g)
    go (inr g) l r = omega (arith, r g)
whole_at (star b) n k a is = whole_at b n k a is

-- ---- effects keep the states of a game

find_in : {A : Type 0} (P : A → Type 0) (test : A → Bool) (xs : List A) (y : A) → All P xs → find test xs ≡ Some y → P y
find_in P test [] y h is = absurd (cc)
find_in P test (x ∷ xs) y h is = go (test x) is (λ rest. find_in P test xs y (All-tail P x xs h) rest)
  where
    go : (t : Bool) → cond t (Some x) (find test xs) ≡ Some y → (find test xs ≡ Some y → P y) → P y
    go true e rest = let same : x ≡ y = cc in subst P same (All-head P x xs h)
    go false e rest = rest e

pub all_at : {A : Type 0} (P : A → Type 0) (xs : List A) (i : ℕ) (x : A) → All P xs → slice_get xs i ≡ Some x → P x
all_at P [] i x h is = absurd (cc)
all_at P (y ∷ xs) zero x h is = let same : y ≡ x = cc in subst P same (All-head P y xs h)
all_at P (y ∷ xs) (suc i) x h is = all_at P xs i x (All-tail P y xs h) is

pub neighbour_within : (game : Game) (from l v : ℕ) → IsSoundGame game → neighbour game from l ≡ Some v → v < length game.vertices
neighbour_within game from l v sound is = go (slice_get game.vertices from) refl is
  where
    leads : (vertex : Vertex) → slice_get game.vertices from ≡ Some vertex → (o : Option Arrow) → find (λ a. a.label == l) vertex.arrows ≡ o
        → option_map (λ a. a.to) o ≡ Some v → v < length game.vertices
    leads vertex at None e some = absurd (cc)
    leads vertex at (Some a) e some =
        let to : a.to ≡ v = cc in
        let good = all_at (IsSoundVertex game) game.vertices from vertex sound.vertices_are at in
        let arrow = find_in (IsSoundArrow game) (λ x. x.label == l) vertex.arrows a good.1 e in
        omega (arith, arrow.1)

    go : (o : Option Vertex) → slice_get game.vertices from ≡ o
        → option_and_then (λ x. option_map (λ a. a.to) (find (λ a. a.label == l) x.arrows)) o ≡ Some v → v < length game.vertices
    go None e some = absurd (cc)
    go (Some vertex) e some = leads vertex e (find (λ a. a.label == l) vertex.arrows) refl some

pub Effect-keeps : (game : Game) (a : Action) (S T : SemiState) → IsSoundGame game → IsSoundAction game a → IsStateOf game S
    → Effect game a S T → IsStateOf game T
Effect-keeps game (shift l) S T sound good h step = subst (IsStateOf game) (sym step.2) (record {
  pieces_fit = h.pieces_fit;
  pieces_are = h.pieces_are;
  values_fit = h.values_fit;
  values_are = h.values_are;
  vertex_is = neighbour_within game S.vertex l step.0 sound step.1;
})
Effect-keeps game (on xs) S T sound good h step = subst (IsStateOf game) (sym step.0) h
Effect-keeps game (off x) S T sound good h step = subst (IsStateOf game) (sym step) (record {
  pieces_fit = length-set S.pieces.items S.vertex x ∙ h.pieces_fit;
  pieces_are = All-set (λ y. y < length game.pieces) S.pieces.items S.vertex x good h.pieces_are;
  values_fit = h.values_fit;
  values_are = h.values_are;
  vertex_is = h.vertex_is;
})
Effect-keeps game (assignment v r) S T sound good h step = subst (IsStateOf game) (sym step.3) (record {
  pieces_fit = h.pieces_fit;
  pieces_are = h.pieces_are;
  values_fit = length-set S.values.items v step.0 ∙ h.values_fit;
  values_are = λ k inside. each k (subst (λ m. k < m) (length-set S.values.items v step.0) inside);
  vertex_is = h.vertex_is;
})
  where
    each : (k : ℕ) → k < length S.values.items → slice_index (slice_set S.values.items v step.0) k ≤ bound_of game k
    each k inside = elim (cases_eq k v) [
      | inl same ↦ at_v k inside same
      | inr other ↦ subst (λ m. m ≤ bound_of game k) (sym (get_or-set_other S.values.items v k step.0 0 other)) (h.values_are k inside)
    ]
      where
        at_v : (k : ℕ) → k < length S.values.items → k ≡ v → slice_index (slice_set S.values.items v step.0) k ≤ bound_of game k
        at_v k inside same =
            subst (λ m. slice_index (slice_set S.values.items v step.0) m ≤ bound_of game m) (sym same)
            (subst (λ m. m ≤ bound_of game v) (sym (get_or-set_same S.values.items v step.0 0 (subst (λ m. m < length S.values.items) same inside))) step.2)
Effect-keeps game (comparison a op b) S T sound good h step = subst (IsStateOf game) (sym step.0) h
Effect-keeps game (switch role) S T sound good h step = subst (IsStateOf game) (sym step) (record {
  pieces_fit = h.pieces_fit;
  pieces_are = h.pieces_are;
  values_fit = h.values_fit;
  values_are = h.values_are;
  vertex_is = h.vertex_is;
})
Effect-keeps game (pattern positive e) S T sound good h step = subst (IsStateOf game) (sym step.0) h

pub EffectAt-keeps : (game : Game) (e : Regex) (k : ℕ) (S T : SemiState) → IsSoundGame game → IsSoundRegex game e → IsStateOf game S
    → EffectAt game e 1 k S T → IsStateOf game T
EffectAt-keeps game e k S T sound good h step =
    let acts = action-by_EffectAt game e 1 k S T step in
    Effect-keeps game acts.0 S T sound (sound_at game e 1 k acts.0 good acts.1) h acts.2
