-- Tests and places in lists that are mapped.
use Rattle.std.proofs.Common.{◌≡◌, ℕ, ◌+◌, ◌<◌, ◌≤◌, Bool, true, false, List, [], ◌∷◌, ◌++◌, length, take, get_or, map, fold, inl, inr, refl, ap, sym, ◌∙◌, append_assoc, arith}
use Rattle.std.specs.Prelude.{position}
use Rattle.std.specs.List.{list_any, position_or_len}
use Rattle.std.proofs.lemmas.Bool.{cases_Bool}
use Rattle.std.proofs.lemmas.List.{length-map, map-append, get_or-map, map_push, map_more, take_all}
use Rattle.std.proofs.lemmas.List.Folds.{fold_stuck, list_any_at}
use Rattle.std.proofs.lemmas.List.Sums.{fold_more}

pub any_map : {X Y : Type 0} (p : Y → Bool) (f : X → Y) (xs : List X) → list_any p (map f xs) ≡ list_any (λ x. p (f x)) xs
any_map p f [] = refl
any_map p f (x ∷ xs) = rw (any_map p f xs) refl

pub place_map : {X Y : Type 0} (p : Y → Bool) (f : X → Y) (xs : List X) → position_or_len p (map f xs) ≡ position_or_len (λ x. p (f x)) xs
place_map p f [] = refl
place_map p f (x ∷ xs) = rw (place_map p f xs) refl

pub position_map : {X Y : Type 0} (p : Y → Bool) (f : X → Y) (xs : List X) → position p (map f xs) ≡ position (λ x. p (f x)) xs
position_map p f xs = rw (place_map p f xs, length-map xs f) refl

pub map_map : {X Y Z : Type 0} (g : Y → Z) (f : X → Y) (xs : List X) → map g (map f xs) ≡ map (λ x. g (f x)) xs
map_map g f [] = refl
map_map g f (x ∷ xs) = ap (λ ys. g (f x) ∷ ys) (map_map g f xs)

-- ---- a loop over a list that is mapped

-- one turn of a fold
pub fold_turn : {X Y S : Type 0} (g : S → Y → S) (s : S) (f : X → Y) (xs : List X) (i : ℕ) (d : X) → i < length xs
    → fold g s (take (i + 1) (map f xs)) ≡ g (fold g s (take i (map f xs))) (f (get_or xs i d))
fold_turn g s f xs i d below =
    fold_more g s (map f xs) i (f d) (omega (arith, length-map xs f)) ∙ ap (g (fold g s (take i (map f xs)))) (get_or-map f xs i d (f d) below)

-- the whole fold
pub fold_end : {X Y S : Type 0} (g : S → Y → S) (s : S) (f : X → Y) (xs : List X) (i : ℕ) → length xs ≤ i → fold g s (take i (map f xs)) ≡ fold g s (map f xs)
fold_end g s f xs i all = ap (fold g s) (take_all i (map f xs) (omega (arith, length-map xs f)))

-- a turn after which the state stays the same
pub fold_stops : {X Y S : Type 0} (g : S → Y → S) (z : S) → ((y : Y) → g z y ≡ z) → (s : S) (f : X → Y) (xs : List X) (i : ℕ) (d : X)
    → i < length xs → g (fold g s (take i (map f xs))) (f (get_or xs i d)) ≡ z → fold g s (map f xs) ≡ z
fold_stops g z stays s f xs i d below h =
    sym (fold_stuck g z stays s (map f xs) i (f d) (omega (arith, length-map xs f))
    (ap (g (fold g s (take i (map f xs)))) (get_or-map f xs i d (f d) below) ∙ h))

-- where no element passes a test, one of them does not
pub none_at : {X Y : Type 0} (p : Y → Bool) (f : X → Y) (xs : List X) (i : ℕ) (d : X) → i < length xs → list_any p (map f xs) ≡ false
    → p (f (get_or xs i d)) ≡ false
none_at p f xs i d below h = elim (cases_Bool (p (f (get_or xs i d)))) [
  | inl on ↦ (
      let some : list_any (λ y. p (f y)) xs ≡ true = list_any_at (λ y. p (f y)) xs i d below on in
      let none : list_any (λ y. p (f y)) xs ≡ false = sym (any_map p f xs) ∙ h in
      absurd (cc))
  | inr off ↦ off
]

-- where no element passes a test, this one does not
pub none_here : {X : Type 0} (p : X → Bool) (xs : List X) (i : ℕ) (d : X) → i < length xs → list_any p xs ≡ false → p (get_or xs i d) ≡ false
none_here p xs i d below none = elim (cases_Bool (p (get_or xs i d))) [
  | inl on ↦ (let some : list_any p xs ≡ true = list_any_at p xs i d below on in absurd (cc))
  | inr off ↦ off
]

-- one turn of a loop that makes one list of another
pub map_turn : {X Y Z : Type 0} (f : X → Z) (g : Y → Z) (made more : List X) (new : X) (ys : List Y) (i : ℕ) (d : Y) → i < length ys
    → more ≡ made ++ new ∷ [] → f new ≡ g (get_or ys i d) → map f made ≡ map g (take i ys) → map f more ≡ map g (take (i + 1) ys)
map_turn f g made more new ys i d below pushed same so_far =
    ap (map f) pushed ∙ map_push f made new ∙ ap (λ zs. map f made ++ zs ∷ []) same ∙ ap (λ zs. zs ++ g (get_or ys i d) ∷ []) so_far
    ∙ sym (map_more g ys i d below)

-- the same after a list that was there
pub turn_behind : {X Y Z : Type 0} (f : X → Z) (g : Y → Z) (made more : List X) (new : X) (old : List Z) (ys : List Y) (i : ℕ) (d : Y)
    → i < length ys → more ≡ made ++ new ∷ [] → f new ≡ g (get_or ys i d) → map f made ≡ old ++ map g (take i ys) → map f more ≡ old ++ map g (take (i + 1) ys)
turn_behind f g made more new old ys i d below pushed same so_far =
    ap (map f) pushed ∙ map_push f made new ∙ ap (λ z. map f made ++ z ∷ []) same ∙ ap (λ zs. zs ++ g (get_or ys i d) ∷ []) so_far
    ∙ append_assoc old (map g (take i ys)) (g (get_or ys i d) ∷ []) ∙ ap (λ zs. old ++ zs) (sym (map_more g ys i d below))

-- the same where the new list is of what is made of the elements
pub plain_behind : {Y Z : Type 0} (g : Y → Z) (made more : List Z) (new : Z) (old : List Z) (ys : List Y) (i : ℕ) (d : Y) → i < length ys
    → more ≡ made ++ new ∷ [] → new ≡ g (get_or ys i d) → made ≡ old ++ map g (take i ys) → more ≡ old ++ map g (take (i + 1) ys)
plain_behind g made more new old ys i d below pushed same so_far =
    pushed ∙ ap (λ z. made ++ z ∷ []) same ∙ ap (λ zs. zs ++ g (get_or ys i d) ∷ []) so_far
    ∙ append_assoc old (map g (take i ys)) (g (get_or ys i d) ∷ []) ∙ ap (λ zs. old ++ zs) (sym (map_more g ys i d below))

-- after the last turn
pub end_behind : {Y Z : Type 0} (g : Y → Z) {all : List Z} (old : List Z) (ys : List Y) (i : ℕ) → length ys ≤ i → all ≡ old
    ++ map g (take i ys) → all ≡ old ++ map g ys
end_behind g old ys i over so_far = so_far ∙ ap (λ zs. old ++ map g zs) (take_all i ys over)

-- a list of two that are mapped twice
pub two_maps : {X Y Z : Type 0} (g : Y → Z) (f : X → Y) (xs ys : List X) → map g (map f xs ++ map f ys) ≡ map (λ x. g (f x)) xs ++ map (λ x. g (f x)) ys
two_maps g f xs ys =
    map-append g (map f xs) (map f ys) ∙ ap (λ zs. zs ++ map g (map f ys)) (map_map g f xs) ∙ ap (λ zs. map (λ x. g (f x)) xs ++ zs) (map_map g f ys)
