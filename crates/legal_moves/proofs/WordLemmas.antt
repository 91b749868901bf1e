-- Laws of words: their numbers, and how two words that share an occurrence can be crossed over there.
use Rattle.std.proofs.Common.{◌≡◌, ℕ, ◌+◌, ◌<◌, ◌≤◌, ◌⊎◌, inl, inr, List, [], ◌∷◌, ◌++◌, refl, sym, ap, ◌∙◌, subst, arith, append_assoc}
use Rattle.rbg_game.specs.Rules.{Regex, one, empty, cat, alt, star, count}
use Rattle.legal_moves.specs.Words.{Joined, none, more, IsWord}
use Rattle.legal_moves.proofs.Lists.{Lies, in_left, in_right, lies}

-- the occurrence k between u and v lies in one of the joined words
pub record PartAt (IsPart : List ℕ → Type 0) (u : List ℕ) (k : ℕ) (v : List ℕ) : Type 0 where
  pub before : List ℕ
  pub left : List ℕ
  pub right : List ℕ
  pub after : List ℕ
  pub before_is : Joined IsPart before
  pub after_is : Joined IsPart after
  pub part : IsPart (left ++ k ∷ right)
  pub u_is : u ≡ before ++ left
  pub v_is : v ≡ right ++ after

pub Joined-append : (P : List ℕ → Type 0) (a b : List ℕ) → Joined P a → Joined P b → Joined P (a ++ b)
Joined-append P _ b none h = h
Joined-append P _ b (more u v p rest) h =
    subst (Joined P) (sym (append_assoc u v b)) (more u (v ++ b) p (Joined-append P v b rest h))

PartAt-more : (P : List ℕ → Type 0) (p t : List ℕ) (k : ℕ) (u v : List ℕ) → P p → u ≡ p ++ t → PartAt P t k v → PartAt P u k v
PartAt-more P p t k u v h e r = record {
  before = p ++ r.before;
  left = r.left;
  right = r.right;
  after = r.after;
  before_is = more p r.before h r.before_is;
  after_is = r.after_is;
  part = r.part;
  u_is = e ∙ ap (λ x. p ++ x) r.u_is ∙ sym (append_assoc p r.before r.left);
  v_is = r.v_is;
}

pub part_at : (P : List ℕ → Type 0) (w : List ℕ) → Joined P w → (u : List ℕ) (k : ℕ) (v : List ℕ) → w ≡ u ++ k ∷ v → PartAt P u k v
part_at P _ none [] k v e = absurd (cc)
part_at P _ none (x ∷ u) k v e = absurd (cc)
part_at P _ (more p q h rest) u k v e = go (lies p q u k v e) (λ t g. part_at P q rest t k v g)
  where
    go : Lies p q u k v → ((t : List ℕ) → q ≡ t ++ k ∷ v → PartAt P t k v) → PartAt P u k v
    go (in_left t f g) later = record {
      before = [];
      left = u;
      right = t;
      after = q;
      before_is = none;
      after_is = rest;
      part = subst P f h;
      u_is = refl;
      v_is = g;
    }
    go (in_right t f g) later = PartAt-more P p t k u v h f (later t g)

-- the numbers of an expression go from n on
abbrev pub InRange : Regex → ℕ → ℕ → Type 0
InRange e n k = (n ≤ k) × (k < n + count e)

pub in_range : (e : Regex) (n : ℕ) (w : List ℕ) → IsWord e n w → (u : List ℕ) (k : ℕ) (v : List ℕ) → w ≡ u ++ k ∷ v → InRange e n k
in_range (one a) n w h [] k v e = (let same : k ≡ n = cc in omega arith, let same : k ≡ n = cc in omega arith)
in_range (one a) n w h (x ∷ []) k v e = absurd (cc)
in_range (one a) n w h (x ∷ y ∷ u) k v e = absurd (cc)
in_range empty n w h [] k v e = absurd (cc)
in_range empty n w h (x ∷ u) k v e = absurd (cc)
in_range (cat a b) n w h u k v e = go (lies h.0 h.1 u k v (sym h.2 ∙ e)) (in_range a n h.0 h.3) (in_range b (n + count a) h.1 h.4)
  where
    go : Lies h.0 h.1 u k v → ((u : List ℕ) (k : ℕ) (v : List ℕ) → h.0 ≡ u ++ k ∷ v → InRange a n k)
        → ((u : List ℕ) (k : ℕ) (v : List ℕ) → h.1 ≡ u ++ k ∷ v → InRange b (n + count a) k) → InRange (cat a b) n k
    go (in_left t f g) l r = let i = l u k t f in (omega arith, omega arith)
    go (in_right t f g) l r = let i = r t k v g in (omega arith, omega arith)
in_range (alt a b) n w h u k v e = go h (λ g. in_range a n w g u k v e) (λ g. in_range b (n + count a) w g u k v e)
  where
    go : IsWord a n w ⊎ IsWord b (n + count a) w → (IsWord a n w → InRange a n k) → (IsWord b (n + count a) w → InRange b (n + count a) k)
        → InRange (alt a b) n k
    go (inl g) l r = let i = l g in (omega arith, omega arith)
    go (inr g) l r = let i = r g in (omega arith, omega arith)
in_range (star a) n w h u k v e =
    let r = part_at (IsWord a n) w h u k v e in
    in_range a n _ r.part r.left k r.right refl

regroup : (k : ℕ) (b l r a u v : List ℕ) → u ≡ b ++ l → v ≡ r ++ a → b ++ ((l ++ k ∷ r) ++ a) ≡ u ++ k ∷ v
regroup k b l r a u v e f = rw (e, f) (simp append_assoc)

-- two joins that share an element can be crossed there, if their parts can
Joined-cross : (P : List ℕ → Type 0) (k : ℕ) (u v u' v' : List ℕ) → PartAt P u k v → PartAt P u' k v'
    → ((l r l' r' : List ℕ) → P (l ++ k ∷ r) → P (l' ++ k ∷ r') → P (l ++ k ∷ r')) → Joined P (u ++ k ∷ v')
Joined-cross P k u v u' v' x y c =
    let part = c x.left x.right y.left y.right x.part y.part in
    let whole = Joined-append P x.before _ x.before_is (more (x.left ++ k ∷ y.right) y.after part y.after_is) in
    subst (Joined P) (regroup k x.before x.left y.right y.after u v' x.u_is y.v_is) whole

-- two words that share the occurrence k can be crossed over there
pub cross : (e : Regex) (n k : ℕ) (u v u' v' w w' : List ℕ) → IsWord e n w → w ≡ u ++ k ∷ v → IsWord e n w' → w' ≡ u' ++ k ∷ v' → IsWord e n (u ++ k ∷ v')
cross (one a) n k [] v u' v' w w' h e h' e' = go u' (sym h' ∙ e')
  where
    go : (u' : List ℕ) → n ∷ [] ≡ u' ++ k ∷ v' → k ∷ v' ≡ n ∷ []
    go [] f = sym f
    go (x ∷ []) f = absurd (cc)
    go (x ∷ y ∷ r) f = absurd (cc)
cross (one a) n k (x ∷ []) v u' v' w w' h e h' e' = absurd (cc)
cross (one a) n k (x ∷ y ∷ u) v u' v' w w' h e h' e' = absurd (cc)
cross empty n k [] v u' v' w w' h e h' e' = absurd (cc)
cross empty n k (x ∷ u) v u' v' w w' h e h' e' = absurd (cc)
cross (cat a b) n k u v u' v' w w' h e h' e' = go (lies h.0 h.1 u k v (sym h.2 ∙ e)) (lies h'.0 h'.1 u' k v' (sym h'.2 ∙ e'))
    (λ t t' f f'. cross a n k u t u' t' h.0 h'.0 h.3 f h'.3 f') (λ t t' g g'. cross b (n + count a) k t v t' v' h.1 h'.1 h.4 g h'.4 g')
  where
    go : Lies h.0 h.1 u k v → Lies h'.0 h'.1 u' k v' → ((t t' : List ℕ) → h.0 ≡ u ++ k ∷ t → h'.0 ≡ u' ++ k ∷ t' → IsWord a n (u ++ k ∷ t'))
        → ((t t' : List ℕ) → h.1 ≡ t ++ k ∷ v → h'.1 ≡ t' ++ k ∷ v' → IsWord b (n + count a) (t ++ k ∷ v')) → IsWord (cat a b) n (u ++ k ∷ v')
    go (in_left t f g) (in_left t' f' g') l r = (u ++ k ∷ t', h'.1, ap (λ x. u ++ k ∷ x) g' ∙ sym (append_assoc u (k ∷ t') h'.1), l t t' f f', h'.4)
    go (in_left t f g) (in_right t' f' g') l r =
        let i = in_range a n h.0 h.3 u k t f in
        let j = in_range b (n + count a) h'.1 h'.4 t' k v' g' in
        absurd (omega arith)
    go (in_right t f g) (in_left t' f' g') l r =
        let i = in_range a n h'.0 h'.3 u' k t' f' in
        let j = in_range b (n + count a) h.1 h.4 t k v g in
        absurd (omega arith)
    go (in_right t f g) (in_right t' f' g') l r = (h.0, t ++ k ∷ v', ap (λ x. x ++ k ∷ v') f ∙ append_assoc h.0 t (k ∷ v'), h.3, r t t' g g')
cross (alt a b) n k u v u' v' w w' h e h' e' = go h h' (λ g g'. cross a n k u v u' v' w w' g e g' e') (λ g g'. cross b (n + count a) k u v u' v' w w' g e g' e')
  where
    go : IsWord a n w ⊎ IsWord b (n + count a) w → IsWord a n w' ⊎ IsWord b (n + count a) w'
        → (IsWord a n w → IsWord a n w' → IsWord a n (u ++ k ∷ v'))
        → (IsWord b (n + count a) w → IsWord b (n + count a) w' → IsWord b (n + count a) (u ++ k ∷ v')) → IsWord (alt a b) n (u ++ k ∷ v')
    go (inl g) (inl g') l r = inl (l g g')
    go (inl g) (inr g') l r =
        let i = in_range a n w g u k v e in
        let j = in_range b (n + count a) w' g' u' k v' e' in
        absurd (omega arith)
    go (inr g) (inl g') l r =
        let i = in_range a n w' g' u' k v' e' in
        let j = in_range b (n + count a) w g u k v e in
        absurd (omega arith)
    go (inr g) (inr g') l r = inr (r g g')
cross (star a) n k u v u' v' w w' h e h' e' =
    Joined-cross (IsWord a n) k u v u' v' (part_at (IsWord a n) w h u k v e) (part_at (IsWord a n) w' h' u' k v' e')
    (λ l r l' r' p p'. cross a n k l r l' r' _ _ p refl p' refl)
