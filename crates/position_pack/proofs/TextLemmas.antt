-- Lists with commas.
use Rattle.std.proofs.Common.{◌≡◌, ℕ, zero, suc, ◌+◌, ◌<◌, List, [], ◌∷◌, ◌++◌, length, take, map, get_or, ap, sym, ◌∙◌, append_assoc, append-nil, add-one, arith}
use Rattle.std.specs.List.{flat_map}
use Rattle.std.proofs.lemmas.List.Concat.{flat_map-cons}
use Rattle.position_pack.specs.Texts.{with_commas}
use Rattle.position_pack.specs.lemmas.Texts.{comma_before}

-- the tail of a list with commas
abbrev commas : List (List ℕ) → List ℕ
commas = flat_map (λ y. 44 ∷ y)

-- one item more
commas_more : {X : Type 0} (f : X → List ℕ) (xs : List X) (d : X) (i : ℕ) → i < length xs
    → commas (map f (take (suc i) xs)) ≡ commas (map f (take i xs)) ++ (44 ∷ f (get_or xs i d))
commas_more f [] d i lt = absurd (omega (arith, lt))
commas_more f (x ∷ xs) d zero lt = flat_map-cons (λ y. 44 ∷ y) (f x) [] ∙ append-nil (44 ∷ f x)
commas_more f (x ∷ xs) d (suc i) lt =
    flat_map-cons (λ y. 44 ∷ y) (f x) (map f (take (suc i) xs)) ∙ ap (λ ys. (44 ∷ f x) ++ ys) (commas_more f xs d i (omega (arith, lt)))
    ∙ sym (append_assoc (44 ∷ f x) (commas (map f (take i xs))) (44 ∷ f (get_or xs i d)))
    ∙ ap (λ ys. ys ++ (44 ∷ f (get_or xs i d))) (sym (flat_map-cons (λ y. 44 ∷ y) (f x) (map f (take i xs))))

pub one_more_item : {X : Type 0} (f : X → List ℕ) (xs : List X) (d : X) (i : ℕ) → i < length xs
    → with_commas (map f (take (i + 1) xs)) ≡ with_commas (map f (take i xs)) ++ comma_before i ++ f (get_or xs i d)
one_more_item f [] d i lt = absurd (omega (arith, lt))
one_more_item f (x ∷ xs) d zero lt = append-nil (f x)
one_more_item f (x ∷ xs) d (suc i) lt =
    rw add-one (ap (λ ys. f x ++ ys) (commas_more f xs d i (omega (arith, lt))) ∙ sym (append_assoc (f x) (commas (map f (take i xs))) (44 ∷ f (get_or xs i d)))
    ∙ sym (append_assoc (f x ++ commas (map f (take i xs))) (44 ∷ []) (f (get_or xs i d))))
