-- What can follow a place in a word is exactly what can be walked from it, one occurrence to the next.
use Rattle.std.proofs.Common.{◌≡◌, ℕ, suc, ◌↔◌, inl, inr, List, [], ◌∷◌, ◌++◌, refl, sym, ap, ◌∙◌, subst, arith, append_assoc}
use Rattle.rbg_game.specs.Rules.{Regex}
use Rattle.legal_moves.specs.Words.{IsWord, EndsAt, CanFollow}
use Rattle.legal_moves.specs.Glushkov.{IsFirst, IsNext, IsNextAt, IsWalk}
use Rattle.legal_moves.proofs.WordLemmas.{in_range, cross}
use Rattle.legal_moves.proofs.automata.GlushkovLemmas.{first_word, next_word, IsFirst-by_word, IsNext-by_word}

along : (u : List ℕ) (k : ℕ) (v : List ℕ) → (u ++ k ∷ []) ++ v ≡ u ++ k ∷ v
along u k v = append_assoc u (k ∷ []) v

-- a word through k can be changed after k to go on along the walk
extend : (e : Regex) (w : List ℕ) (k : ℕ) (u v : List ℕ) → IsWord e 1 (u ++ k ∷ v) → IsWalk e k w → (v' : List ℕ) × IsWord e 1 (u ++ k ∷ (w ++ v'))
extend e [] k u v h walk = (v, h)
extend e (l ∷ w) k u v h walk = go walk.0 (λ v' p. extend e w l (u ++ k ∷ []) v' p walk.1)
  where
    go : IsNextAt e k l → ((v' : List ℕ) → IsWord e 1 ((u ++ k ∷ []) ++ l ∷ v') → (v'' : List ℕ)
        × IsWord e 1 ((u ++ k ∷ []) ++ l ∷ (w ++ v''))) → (v' : List ℕ) × IsWord e 1 (u ++ k ∷ (l ∷ w ++ v'))
    go (inl z) rest =
        let r = in_range e 1 _ h u k v refl in
        absurd (omega arith)
    go (inr next) rest =
        let pair = next_word e 1 k l next in
        let crossed = cross e 1 k u v pair.0 (l ∷ pair.1) _ _ h refl pair.2 refl in
        let longer = rest pair.1 (subst (IsWord e 1) (sym (along u k (l ∷ pair.1))) crossed) in
        (longer.0, subst (IsWord e 1) (along u k (l ∷ w ++ longer.0)) longer.1)

pub CanFollow-by_walk : (e : Regex) (place l : ℕ) (w : List ℕ) → IsWalk e place (l ∷ w) → CanFollow e place (l ∷ w)
CanFollow-by_walk e place l w walk = go walk.0
  where
    go : IsNextAt e place l → CanFollow e place (l ∷ w)
    go (inl first) =
        let start = first_word e 1 l first.1 in
        let whole = extend e w l [] start.0 start.1 walk.1 in
        ([], whole.0, whole.1, inl (refl, first.0))
    go (inr next) =
        let pair = next_word e 1 place l next in
        let start = subst (IsWord e 1) (sym (along pair.0 place (l ∷ pair.1))) pair.2 in
        let whole = extend e w l (pair.0 ++ place ∷ []) pair.1 start walk.1 in
        (pair.0 ++ place ∷ [], whole.0, whole.1, inr (pair.0, refl))

walk_along : (e : Regex) (word : List ℕ) → IsWord e 1 word → (w u : List ℕ) (k : ℕ) (v : List ℕ) → word ≡ u ++ k ∷ (w ++ v) → IsWalk e k w
walk_along e word h [] u k v same = tt
walk_along e word h (l ∷ w) u k v same =
    (inr (IsNext-by_word e 1 word h u k l (w ++ v) same), walk_along e word h w (u ++ k ∷ []) l v (same ∙ sym (along u k (l ∷ w ++ v))))

pub walk-by_CanFollow : (e : Regex) (place l : ℕ) (w : List ℕ) → CanFollow e place (l ∷ w) → IsWalk e place (l ∷ w)
walk-by_CanFollow e place l w f = (go f.3, walk_along e _ f.2 w f.0 l f.1 refl)
  where
    go : EndsAt f.0 place → IsNextAt e place l
    go (inl z) = inl (z.1, IsFirst-by_word e 1 _ f.2 l (w ++ f.1) (ap (λ x. x ++ l ∷ (w ++ f.1)) z.0))
    go (inr t) = inr (IsNext-by_word e 1 _ f.2 t.0 place l (w ++ f.1) (ap (λ x. x ++ l ∷ (w ++ f.1)) t.1 ∙ along t.0 place (l ∷ w ++ f.1)))

-- the search may go from occurrence to occurrence
pub CanFollow-walk : (e : Regex) (place l : ℕ) (w : List ℕ) → CanFollow e place (l ∷ w) ↔ IsWalk e place (l ∷ w)
CanFollow-walk e place l w = (walk-by_CanFollow e place l w, CanFollow-by_walk e place l w)

-- nothing stands before the place 0
pub IsFirst-by_next : (e : Regex) (l : ℕ) → IsNextAt e 0 l → IsFirst e 1 l
IsFirst-by_next e l (inl h) = h.1
IsFirst-by_next e l (inr h) =
    let pair = next_word e 1 0 l h in
    let r = in_range e 1 _ pair.2 pair.0 0 (l ∷ pair.1) refl in
    absurd (omega arith)

-- nothing but a next occurrence follows a later place
pub IsNext-by_next : (e : Regex) (k l : ℕ) → IsNextAt e (suc k) l → IsNext e 1 (suc k) l
IsNext-by_next e k l (inl h) = absurd (omega (arith, h.0))
IsNext-by_next e k l (inr h) = h
