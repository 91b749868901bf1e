-- The relations of specs/Glushkov.antt say exactly how words begin, end and go on.
use Rattle.std.proofs.Common.{◌≡◌, ℕ, ◌+◌, ◌⊎◌, inl, inr, Bool, true, false, ◌&&◌, ◌||◌, List, [], ◌∷◌, ◌++◌, refl, sym, ap, ◌∙◌, subst, append_assoc, append-nil}
use Rattle.rbg_game.specs.Rules.{Regex, one, empty, cat, alt, star, count}
use Rattle.legal_moves.specs.Words.{Joined, none, more, IsWord}
use Rattle.legal_moves.specs.Glushkov.{is_nullable, IsFirst, IsLast, IsNext}
use Rattle.legal_moves.proofs.Lists.{Lies, in_left, in_right, lies, Begins, in_first, in_second, begins, nil_left, nil_right, cons_end}
use Rattle.legal_moves.proofs.WordLemmas.{PartAt, part_at}

-- each expression has a word
pub some_word : (e : Regex) (n : ℕ) → (w : List ℕ) × IsWord e n w
some_word (one a) n = (n ∷ [], refl)
some_word empty n = ([], refl)
some_word (cat a b) n =
    let u = some_word a n in
    let v = some_word b (n + count a) in
    (u.0 ++ v.0, (u.0, v.0, refl, u.1, v.1))
some_word (alt a b) n = let u = some_word a n in (u.0, inl u.1)
some_word (star a) n = ([], none)

both : (a b : Bool) → a && b ≡ true → (a ≡ true) × (b ≡ true)
both true b h = (refl, h)
both false b h = absurd (cc)

either : (a b : Bool) → a || b ≡ true → (a ≡ true) ⊎ (b ≡ true)
either true b h = inl refl
either false b h = inr h

and_true : (a b : Bool) → a ≡ true → b ≡ true → a && b ≡ true
and_true true b h k = k
and_true false b h k = absurd (cc)

or_left : (a b : Bool) → a ≡ true → a || b ≡ true
or_left true b h = refl
or_left false b h = absurd (cc)

or_right : (a b : Bool) → b ≡ true → a || b ≡ true
or_right true b h = refl
or_right false b h = h

pub empty_word : (e : Regex) (n : ℕ) → is_nullable e ≡ true → IsWord e n []
empty_word (one a) n h = absurd (cc)
empty_word empty n h = refl
empty_word (cat a b) n h =
    let p = both (is_nullable a) (is_nullable b) h in
    ([], [], refl, empty_word a n p.0, empty_word b (n + count a) p.1)
empty_word (alt a b) n h = go (either (is_nullable a) (is_nullable b) h) (empty_word a n) (empty_word b (n + count a))
  where
    go : (is_nullable a ≡ true) ⊎ (is_nullable b ≡ true) → (is_nullable a ≡ true → IsWord a n [])
        → (is_nullable b ≡ true → IsWord b (n + count a) []) → IsWord (alt a b) n []
    go (inl p) l r = inl (l p)
    go (inr p) l r = inr (r p)
empty_word (star a) n h = none

pub is_nullable-by_word : (e : Regex) (n : ℕ) (w : List ℕ) → IsWord e n w → w ≡ [] → is_nullable e ≡ true
is_nullable-by_word (one a) n w h e = absurd (cc)
is_nullable-by_word empty n w h e = refl
is_nullable-by_word (cat a b) n w h e =
    let nil = sym h.2 ∙ e in
    and_true (is_nullable a) (is_nullable b) (is_nullable-by_word a n h.0 h.3 (nil_left h.0 h.1 nil))
    (is_nullable-by_word b (n + count a) h.1 h.4 (nil_right h.0 h.1 nil))
is_nullable-by_word (alt a b) n w h e = go h (λ p. is_nullable-by_word a n w p e) (λ p. is_nullable-by_word b (n + count a) w p e)
  where
    go : IsWord a n w ⊎ IsWord b (n + count a) w → (IsWord a n w → is_nullable a ≡ true) → (IsWord b (n + count a) w → is_nullable b ≡ true)
        → is_nullable (alt a b) ≡ true
    go (inl p) l r = or_left (is_nullable a) (is_nullable b) (l p)
    go (inr p) l r = or_right (is_nullable a) (is_nullable b) (r p)
is_nullable-by_word (star a) n w h e = refl

-- a word of the part, alone in the star
joined_one : (P : List ℕ → Type 0) (w : List ℕ) → P w → Joined P w
joined_one P w h = subst (Joined P) (append-nil w) (more w [] h none)

pub first_word : (e : Regex) (n k : ℕ) → IsFirst e n k → (v : List ℕ) × IsWord e n (k ∷ v)
first_word (one a) n k h = ([], ap (λ x. x ∷ []) h)
first_word empty n k h = absurd h
first_word (cat a b) n k h = go h (first_word a n k) (first_word b (n + count a) k)
  where
    go : IsFirst a n k ⊎ (is_nullable a ≡ true) × IsFirst b (n + count a) k → (IsFirst a n k → (v : List ℕ) × IsWord a n (k ∷ v))
        → (IsFirst b (n + count a) k → (v : List ℕ) × IsWord b (n + count a) (k ∷ v)) → (v : List ℕ) × IsWord (cat a b) n (k ∷ v)
    go (inl f) l r =
        let u = l f in
        let v = some_word b (n + count a) in
        (u.0 ++ v.0, (k ∷ u.0, v.0, refl, u.1, v.1))
    go (inr f) l r = let v = r f.1 in (v.0, ([], k ∷ v.0, refl, empty_word a n f.0, v.1))
first_word (alt a b) n k h = go h (first_word a n k) (first_word b (n + count a) k)
  where
    go : IsFirst a n k ⊎ IsFirst b (n + count a) k → (IsFirst a n k → (v : List ℕ) × IsWord a n (k ∷ v))
        → (IsFirst b (n + count a) k → (v : List ℕ) × IsWord b (n + count a) (k ∷ v)) → (v : List ℕ) × IsWord (alt a b) n (k ∷ v)
    go (inl f) l r = let u = l f in (u.0, inl u.1)
    go (inr f) l r = let u = r f in (u.0, inr u.1)
first_word (star a) n k h = let u = first_word a n k h in (u.0, joined_one (IsWord a n) (k ∷ u.0) u.1)

pub IsFirst-by_word : (e : Regex) (n : ℕ) (w : List ℕ) → IsWord e n w → (k : ℕ) (v : List ℕ) → w ≡ k ∷ v → IsFirst e n k
IsFirst-by_word (one a) n w h k v e = cc
IsFirst-by_word empty n w h k v e = absurd (cc)
IsFirst-by_word (cat a b) n w h k v e = go (begins h.0 h.1 k v (sym h.2 ∙ e)) (λ t f. IsFirst-by_word a n h.0 h.3 k t f)
    (λ f. IsFirst-by_word b (n + count a) h.1 h.4 k v f)
  where
    go : Begins h.0 h.1 k v → ((t : List ℕ) → h.0 ≡ k ∷ t → IsFirst a n k) → (h.1 ≡ k ∷ v → IsFirst b (n + count a) k) → IsFirst (cat a b) n k
    go (in_first t f g) l r = inl (l t f)
    go (in_second f g) l r = inr (is_nullable-by_word a n h.0 h.3 f, r g)
IsFirst-by_word (alt a b) n w h k v e = go h (λ p. IsFirst-by_word a n w p k v e) (λ p. IsFirst-by_word b (n + count a) w p k v e)
  where
    go : IsWord a n w ⊎ IsWord b (n + count a) w → (IsWord a n w → IsFirst a n k) → (IsWord b (n + count a) w → IsFirst b (n + count a) k)
        → IsFirst (alt a b) n k
    go (inl p) l r = inl (l p)
    go (inr p) l r = inr (r p)
IsFirst-by_word (star a) n w h k v e =
    let r = part_at (IsWord a n) w h [] k v e in
    IsFirst-by_word a n _ r.part k r.right (ap (λ x. x ++ k ∷ r.right) (nil_right r.before r.left (sym r.u_is)))

pub last_word : (e : Regex) (n k : ℕ) → IsLast e n k → (u : List ℕ) × IsWord e n (u ++ k ∷ [])
last_word (one a) n k h = ([], ap (λ x. x ∷ []) h)
last_word empty n k h = absurd h
last_word (cat a b) n k h = go h (last_word a n k) (last_word b (n + count a) k)
  where
    go : IsLast b (n + count a) k ⊎ (is_nullable b ≡ true) × IsLast a n k → (IsLast a n k → (u : List ℕ) × IsWord a n (u ++ k ∷ []))
        → (IsLast b (n + count a) k → (u : List ℕ) × IsWord b (n + count a) (u ++ k ∷ [])) → (u : List ℕ) × IsWord (cat a b) n (u ++ k ∷ [])
    go (inl f) l r =
        let u = some_word a n in
        let v = r f in
        (u.0 ++ v.0, (u.0, v.0 ++ k ∷ [], append_assoc u.0 v.0 (k ∷ []), u.1, v.1))
    go (inr f) l r =
        let u = l f.1 in
        (u.0, (u.0 ++ k ∷ [], [], sym (append-nil (u.0 ++ k ∷ [])), u.1, empty_word b (n + count a) f.0))
last_word (alt a b) n k h = go h (last_word a n k) (last_word b (n + count a) k)
  where
    go : IsLast a n k ⊎ IsLast b (n + count a) k → (IsLast a n k → (u : List ℕ) × IsWord a n (u ++ k ∷ []))
        → (IsLast b (n + count a) k → (u : List ℕ) × IsWord b (n + count a) (u ++ k ∷ [])) → (u : List ℕ) × IsWord (alt a b) n (u ++ k ∷ [])
    go (inl f) l r = let u = l f in (u.0, inl u.1)
    go (inr f) l r = let u = r f in (u.0, inr u.1)
last_word (star a) n k h = let u = last_word a n k h in (u.0, joined_one (IsWord a n) (u.0 ++ k ∷ []) u.1)

pub IsLast-by_word : (e : Regex) (n : ℕ) (w : List ℕ) → IsWord e n w → (u : List ℕ) (k : ℕ) → w ≡ u ++ k ∷ [] → IsLast e n k
IsLast-by_word (one a) n w h [] k e = cc
IsLast-by_word (one a) n w h (x ∷ u) k e =
    let tail : u ++ k ∷ [] ≡ [] = cc in
    absurd (cons_end u k [] tail)
IsLast-by_word empty n w h u k e = absurd (cons_end u k [] (sym e ∙ h))
IsLast-by_word (cat a b) n w h u k e = go (lies h.0 h.1 u k [] (sym h.2 ∙ e)) (λ t f. IsLast-by_word a n h.0 h.3 u k f)
    (λ t g. IsLast-by_word b (n + count a) h.1 h.4 t k g)
  where
    go : Lies h.0 h.1 u k [] → ((t : List ℕ) → h.0 ≡ u ++ k ∷ [] → IsLast a n k)
        → ((t : List ℕ) → h.1 ≡ t ++ k ∷ [] → IsLast b (n + count a) k) → IsLast (cat a b) n k
    go (in_left t f g) l r = inr (
      is_nullable-by_word b (n + count a) h.1 h.4 (nil_right t h.1 (sym g)),
      l t (f ∙ ap (λ x. u ++ k ∷ x) (nil_left t h.1 (sym g))),
    )
    go (in_right t f g) l r = inl (r t g)
IsLast-by_word (alt a b) n w h u k e = go h (λ p. IsLast-by_word a n w p u k e) (λ p. IsLast-by_word b (n + count a) w p u k e)
  where
    go : IsWord a n w ⊎ IsWord b (n + count a) w → (IsWord a n w → IsLast a n k) → (IsWord b (n + count a) w → IsLast b (n + count a) k) → IsLast (alt a b) n k
    go (inl p) l r = inl (l p)
    go (inr p) l r = inr (r p)
IsLast-by_word (star a) n w h u k e =
    let r = part_at (IsWord a n) w h u k [] e in
    IsLast-by_word a n _ r.part r.left k (ap (λ x. r.left ++ k ∷ x) (nil_left r.right r.after (sym r.v_is)))

-- words in which l stands right after k
abbrev pub HasPair : Regex → ℕ → ℕ → ℕ → Type 0
HasPair e n k l = (u : List ℕ) × (v : List ℕ) × IsWord e n (u ++ k ∷ l ∷ v)

-- a word that ends in k, and one that begins with l, make one with the pair
meet : (k l : ℕ) (u v : List ℕ) → (u ++ k ∷ []) ++ l ∷ v ≡ u ++ k ∷ l ∷ v
meet k l u v = append_assoc u (k ∷ []) (l ∷ v)

pub next_word : (e : Regex) (n k l : ℕ) → IsNext e n k l → HasPair e n k l
next_word (one a) n k l h = absurd h
next_word empty n k l h = absurd h
next_word (cat a b) n k l h = go h (next_word a n k l) (next_word b (n + count a) k l)
  where
    go : IsNext (cat a b) n k l → (IsNext a n k l → HasPair a n k l) → (IsNext b (n + count a) k l → HasPair b (n + count a) k l) → HasPair (cat a b) n k l
    go (inl f) p r =
        let w = p f in
        let v = some_word b (n + count a) in
        (w.0, w.1 ++ v.0, (w.0 ++ k ∷ l ∷ w.1, v.0, sym (append_assoc w.0 (k ∷ l ∷ w.1) v.0), w.2, v.1))
    go (inr (inl f)) p r =
        let u = some_word a n in
        let w = r f in
        (u.0 ++ w.0, w.1, (u.0, w.0 ++ k ∷ l ∷ w.1, append_assoc u.0 w.0 (k ∷ l ∷ w.1), u.1, w.2))
    go (inr (inr f)) p r =
        let u = last_word a n k f.0 in
        let v = first_word b (n + count a) l f.1 in
        (u.0, v.0, (u.0 ++ k ∷ [], l ∷ v.0, sym (meet k l u.0 v.0), u.1, v.1))
next_word (alt a b) n k l h = go h (next_word a n k l) (next_word b (n + count a) k l)
  where
    go : IsNext (alt a b) n k l → (IsNext a n k l → HasPair a n k l) → (IsNext b (n + count a) k l → HasPair b (n + count a) k l) → HasPair (alt a b) n k l
    go (inl f) p r = let w = p f in (w.0, w.1, inl w.2)
    go (inr f) p r = let w = r f in (w.0, w.1, inr w.2)
next_word (star a) n k l h = go h (next_word a n k l)
  where
    go : IsNext (star a) n k l → (IsNext a n k l → HasPair a n k l) → HasPair (star a) n k l
    go (inl f) p = let w = p f in (w.0, w.1, joined_one (IsWord a n) _ w.2)
    go (inr f) p =
        let u = last_word a n k f.0 in
        let v = first_word a n l f.1 in
        (u.0, v.0, subst (Joined (IsWord a n)) (meet k l u.0 v.0) (more (u.0 ++ k ∷ []) (l ∷ v.0) u.1 (joined_one (IsWord a n) (l ∷ v.0) v.1)))

pub IsNext-by_word : (e : Regex) (n : ℕ) (w : List ℕ) → IsWord e n w → (u : List ℕ) (k l : ℕ) (v : List ℕ) → w ≡ u ++ k ∷ l ∷ v → IsNext e n k l
IsNext-by_word (one a) n w h [] k l v e = absurd (cc)
IsNext-by_word (one a) n w h (x ∷ u) k l v e =
    let tail : u ++ k ∷ l ∷ v ≡ [] = cc in
    absurd (cons_end u k (l ∷ v) tail)
IsNext-by_word empty n w h u k l v e = absurd (cons_end u k (l ∷ v) (sym e ∙ h))
IsNext-by_word (cat a b) n w h u k l v e = go (lies h.0 h.1 u k (l ∷ v) (sym h.2 ∙ e)) (λ t f. IsNext-by_word a n h.0 h.3 u k l t f)
    (λ t g. IsNext-by_word b (n + count a) h.1 h.4 t k l v g)
  where
    split : (t : List ℕ) → h.0 ≡ u ++ k ∷ t → Begins t h.1 l v → ((s : List ℕ) → h.0 ≡ u ++ k ∷ l ∷ s → IsNext a n k l) → IsNext (cat a b) n k l
    split t f (in_first s g g') p = inl (p s (f ∙ ap (λ x. u ++ k ∷ x) g))
    split t f (in_second g g') p = inr (inr (IsLast-by_word a n h.0 h.3 u k (f ∙ ap (λ x. u ++ k ∷ x) g), IsFirst-by_word b (n + count a) h.1 h.4 l v g'))

    go : Lies h.0 h.1 u k (l ∷ v) → ((s : List ℕ) → h.0 ≡ u ++ k ∷ l ∷ s → IsNext a n k l)
        → ((t : List ℕ) → h.1 ≡ t ++ k ∷ l ∷ v → IsNext b (n + count a) k l) → IsNext (cat a b) n k l
    go (in_left t f g) p r = split t f (begins t h.1 l v (sym g)) p
    go (in_right t f g) p r = inr (inl (r t g))
IsNext-by_word (alt a b) n w h u k l v e = go h (λ p. IsNext-by_word a n w p u k l v e) (λ p. IsNext-by_word b (n + count a) w p u k l v e)
  where
    go : IsWord a n w ⊎ IsWord b (n + count a) w → (IsWord a n w → IsNext a n k l) → (IsWord b (n + count a) w → IsNext b (n + count a) k l)
        → IsNext (alt a b) n k l
    go (inl p) l' r = inl (l' p)
    go (inr p) l' r = inr (r p)
IsNext-by_word (star a) n w h u k l v e = go (part_at (IsWord a n) w h u k (l ∷ v) e) (λ w' p u' v' f. IsNext-by_word a n w' p u' k l v' f)
  where
    split : (r : PartAt (IsWord a n) u k (l ∷ v)) → Begins r.right r.after l v
        → ((w' : List ℕ) → IsWord a n w' → (u' v' : List ℕ) → w' ≡ u' ++ k ∷ l ∷ v' → IsNext a n k l) → IsNext (star a) n k l
    split r (in_first s g g') p = inl (p _ r.part r.left s (ap (λ x. r.left ++ k ∷ x) g))
    split r (in_second g g') p = inr (IsLast-by_word a n _ r.part r.left k (ap (λ x. r.left ++ k ∷ x) g), IsFirst-by_word (star a) n r.after r.after_is l v g')

    go : PartAt (IsWord a n) u k (l ∷ v) → ((w' : List ℕ) → IsWord a n w' → (u' v' : List ℕ) → w' ≡ u' ++ k ∷ l ∷ v' → IsNext a n k l) → IsNext (star a) n k l
    go r p = split r (begins r.right r.after l v (sym r.v_is)) p
