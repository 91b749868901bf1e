-- Effects: by the action with a number, and at most one for each action.
use Rattle.std.proofs.Common.{◌≡◌, ℕ, ◌+◌, ◌≤◌, ◌⊎◌, ◌==◌, Bool, true, false, inl, inr, Option, Some, None, refl, sym, ap, ◌∙◌, subst, arith, cond, slice_set}
use Rattle.std.proofs.lemmas.Bool.{eqb-true, eq-eqb}
use Rattle.std.specs.Option.{option_or}
use Rattle.rbg_game.specs.Rules.{Regex, one, empty, cat, alt, star, count, Action, shift, on, off, assignment, comparison, switch, pattern, action_at}
use Rattle.rbg_game.specs.Games.{Game}
use Rattle.rbg_game.specs.declared.position.SemiState.{SemiState}
use Rattle.legal_moves.specs.Effects.{Effect, EffectAt}
use Rattle.legal_moves.proofs.WordLemmas.{InRange}

-- an action leads to one semi-state at most
pub Effect-functional : (game : Game) (a : Action) (S T U : SemiState) → Effect game a S T → Effect game a S U → T ≡ U
Effect-functional game (shift l) S T U h k =
    let same : h.0 ≡ k.0 = cc (h.1, k.1) in
    h.2 ∙ ap (λ v. record S { vertex = v }) same ∙ sym k.2
Effect-functional game (on xs) S T U h k = h.0 ∙ sym k.0
Effect-functional game (off x) S T U h k = h ∙ sym k
Effect-functional game (assignment v r) S T U h k =
    let same : h.0 ≡ k.0 = cc (h.1, k.1) in
    h.3 ∙ ap (λ n. record S { values = record { items = slice_set S.values.items v n } }) same ∙ sym k.3
Effect-functional game (comparison a op b) S T U h k = h.0 ∙ sym k.0
Effect-functional game (switch role) S T U h k = h ∙ sym k
Effect-functional game (pattern positive e) S T U h k = h.0 ∙ sym k.0

pub EffectAt-in_range : (game : Game) (e : Regex) (n k : ℕ) (S T : SemiState) → EffectAt game e n k S T → InRange e n k
EffectAt-in_range game (one a) n k S T h = (let same : k ≡ n = h.0 in omega arith, let same : k ≡ n = h.0 in omega arith)
EffectAt-in_range game empty n k S T h = absurd h
EffectAt-in_range game (cat a b) n k S T h = go h (EffectAt-in_range game a n k S T) (EffectAt-in_range game b (n + count a) k S T)
  where
    go : EffectAt game a n k S T ⊎ EffectAt game b (n + count a) k S T → (EffectAt game a n k S T → InRange a n k)
        → (EffectAt game b (n + count a) k S T → InRange b (n + count a) k) → InRange (cat a b) n k
    go (inl g) l r = let i = l g in (omega arith, omega arith)
    go (inr g) l r = let i = r g in (omega arith, omega arith)
EffectAt-in_range game (alt a b) n k S T h = go h (EffectAt-in_range game a n k S T) (EffectAt-in_range game b (n + count a) k S T)
  where
    go : EffectAt game a n k S T ⊎ EffectAt game b (n + count a) k S T → (EffectAt game a n k S T → InRange a n k)
        → (EffectAt game b (n + count a) k S T → InRange b (n + count a) k) → InRange (alt a b) n k
    go (inl g) l r = let i = l g in (omega arith, omega arith)
    go (inr g) l r = let i = r g in (omega arith, omega arith)
EffectAt-in_range game (star a) n k S T h = EffectAt-in_range game a n k S T h

-- what the action with the number k of a single occurrence says
pub action_at-one : (b a : Action) (n k : ℕ) → action_at (one b) n k ≡ Some a → (k ≡ n) × (b ≡ a)
action_at-one b a n k = go (k == n) refl
  where
    go : (t : Bool) → k == n ≡ t → cond t (Some b) None ≡ Some a → (k ≡ n) × (b ≡ a)
    go true e f = (eqb-true k n e, cc)
    go false e f = absurd (cc)

-- of two parts, the one or the other has the action
pub option_or-cases : (x y : Option Action) (a : Action) → option_or x y ≡ Some a → (x ≡ Some a) ⊎ (y ≡ Some a)
option_or-cases None y a f = inr f
option_or-cases (Some b) y a f = inl f

pub action_at-in_range : (e : Regex) (n k : ℕ) (a : Action) → action_at e n k ≡ Some a → InRange e n k
action_at-in_range (one b) n k a f =
    let same = action_at-one b a n k f in
    (omega arith, omega arith)
action_at-in_range empty n k a f = absurd (cc)
action_at-in_range (cat b c) n k a f = go (option_or-cases (action_at b n k) (action_at c (n + count b) k) a f) (action_at-in_range b n k a)
    (action_at-in_range c (n + count b) k a)
  where
    go : (action_at b n k ≡ Some a) ⊎ (action_at c (n + count b) k ≡ Some a) → (action_at b n k ≡ Some a → InRange b n k)
        → (action_at c (n + count b) k ≡ Some a → InRange c (n + count b) k) → InRange (cat b c) n k
    go (inl g) l r = let i = l g in (omega arith, omega arith)
    go (inr g) l r = let i = r g in (omega arith, omega arith)
action_at-in_range (alt b c) n k a f = go (option_or-cases (action_at b n k) (action_at c (n + count b) k) a f) (action_at-in_range b n k a)
    (action_at-in_range c (n + count b) k a)
  where
    go : (action_at b n k ≡ Some a) ⊎ (action_at c (n + count b) k ≡ Some a) → (action_at b n k ≡ Some a → InRange b n k)
        → (action_at c (n + count b) k ≡ Some a → InRange c (n + count b) k) → InRange (alt b c) n k
    go (inl g) l r = let i = l g in (omega arith, omega arith)
    go (inr g) l r = let i = r g in (omega arith, omega arith)
action_at-in_range (star b) n k a f = action_at-in_range b n k a f

-- by the action with the number
pub EffectAt-by_action : (game : Game) (e : Regex) (n k : ℕ) (a : Action) (S T : SemiState) → action_at e n k ≡ Some a → Effect game a S T
    → EffectAt game e n k S T
EffectAt-by_action game (one b) n k a S T f h =
    let same = action_at-one b a n k f in
    (same.0, subst (λ x. Effect game x S T) (sym same.1) h)
EffectAt-by_action game empty n k a S T f h = absurd (cc)
EffectAt-by_action game (cat b c) n k a S T f h = go (option_or-cases (action_at b n k) (action_at c (n + count b) k) a f)
    (λ g. EffectAt-by_action game b n k a S T g h) (λ g. EffectAt-by_action game c (n + count b) k a S T g h)
  where
    go : (action_at b n k ≡ Some a) ⊎ (action_at c (n + count b) k ≡ Some a) → (action_at b n k ≡ Some a → EffectAt game b n k S T)
        → (action_at c (n + count b) k ≡ Some a → EffectAt game c (n + count b) k S T) → EffectAt game (cat b c) n k S T
    go (inl g) l r = inl (l g)
    go (inr g) l r = inr (r g)
EffectAt-by_action game (alt b c) n k a S T f h = go (option_or-cases (action_at b n k) (action_at c (n + count b) k) a f)
    (λ g. EffectAt-by_action game b n k a S T g h) (λ g. EffectAt-by_action game c (n + count b) k a S T g h)
  where
    go : (action_at b n k ≡ Some a) ⊎ (action_at c (n + count b) k ≡ Some a) → (action_at b n k ≡ Some a → EffectAt game b n k S T)
        → (action_at c (n + count b) k ≡ Some a → EffectAt game c (n + count b) k S T) → EffectAt game (alt b c) n k S T
    go (inl g) l r = inl (l g)
    go (inr g) l r = inr (r g)
EffectAt-by_action game (star b) n k a S T f h = EffectAt-by_action game b n k a S T f h

-- the action that a step with the number k takes
abbrev pub Acts : Game → Regex → ℕ → ℕ → SemiState → SemiState → Type 0
Acts game e n k S T = (a : Action) × (action_at e n k ≡ Some a) × Effect game a S T

pub or_left_some : (x y : Option Action) (a : Action) → x ≡ Some a → option_or x y ≡ Some a
or_left_some None y a e = absurd (cc)
or_left_some (Some b) y a e = e

-- a number of the second part is none of the first's
pub or_right_some : (b : Regex) (n k : ℕ) (y : Option Action) (a : Action) → n + count b ≤ k → y ≡ Some a → option_or (action_at b n k) y ≡ Some a
or_right_some b n k y a above e = go (action_at b n k) refl
  where
    go : (x : Option Action) → action_at b n k ≡ x → option_or x y ≡ Some a
    go None f = e
    go (Some c) f =
        let i = action_at-in_range b n k c f in
        absurd (omega arith)

pub action-by_EffectAt : (game : Game) (e : Regex) (n k : ℕ) (S T : SemiState) → EffectAt game e n k S T → Acts game e n k S T
action-by_EffectAt game (one b) n k S T h = (b, ap (λ t. cond t (Some b) None) (eq-eqb k n h.0), h.1)
action-by_EffectAt game empty n k S T h = absurd h
action-by_EffectAt game (cat b c) n k S T h = go h (action-by_EffectAt game b n k S T) (action-by_EffectAt game c (n + count b) k S T)
  where
    go : EffectAt game b n k S T ⊎ EffectAt game c (n + count b) k S T → (EffectAt game b n k S T → Acts game b n k S T)
        → (EffectAt game c (n + count b) k S T → Acts game c (n + count b) k S T) → Acts game (cat b c) n k S T
    go (inl g) l r = let x = l g in (x.0, or_left_some _ _ x.0 x.1, x.2)
    go (inr g) l r =
        let x = r g in
        let i = EffectAt-in_range game c (n + count b) k S T g in
        (x.0, or_right_some b n k _ x.0 i.0 x.1, x.2)
action-by_EffectAt game (alt b c) n k S T h = go h (action-by_EffectAt game b n k S T) (action-by_EffectAt game c (n + count b) k S T)
  where
    go : EffectAt game b n k S T ⊎ EffectAt game c (n + count b) k S T → (EffectAt game b n k S T → Acts game b n k S T)
        → (EffectAt game c (n + count b) k S T → Acts game c (n + count b) k S T) → Acts game (alt b c) n k S T
    go (inl g) l r = let x = l g in (x.0, or_left_some _ _ x.0 x.1, x.2)
    go (inr g) l r =
        let x = r g in
        let i = EffectAt-in_range game c (n + count b) k S T g in
        (x.0, or_right_some b n k _ x.0 i.0 x.1, x.2)
action-by_EffectAt game (star b) n k S T h = action-by_EffectAt game b n k S T h

pub EffectAt-functional : (game : Game) (e : Regex) (n k : ℕ) (S T U : SemiState) → EffectAt game e n k S T → EffectAt game e n k S U → T ≡ U
EffectAt-functional game e n k S T U h j =
    let x = action-by_EffectAt game e n k S T h in
    let y = action-by_EffectAt game e n k S U j in
    let same : x.0 ≡ y.0 = cc (x.1, y.1) in
    Effect-functional game x.0 S T U x.2 (subst (λ a. Effect game a S U) (sym same) y.2)
