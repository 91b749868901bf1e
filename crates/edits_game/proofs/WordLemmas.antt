-- What holds of each of a list holds of the one of which a part is known.
use Rattle.std.proofs.Common.{◌≡◌, ℕ, zero, suc, List, [], ◌∷◌, Some, option_map, slice_get, All}
use Rattle.std.proofs.lemmas.List.Elements.{All-head, All-tail}

pub of_part : {A B : Type 0} (P : A → Type 0) (f : A → B) (xs : List A) (i : ℕ) (y : B) → All P xs → option_map f (slice_get xs i) ≡ Some y
    → (x : A) × P x × (f x ≡ y)
of_part P f [] i y all is = absurd (cc)
of_part P f (x ∷ xs) zero y all is = (x, All-head P x xs all, cc)
of_part P f (x ∷ xs) (suc i) y all is = of_part P f xs i y (All-tail P x xs all) is
