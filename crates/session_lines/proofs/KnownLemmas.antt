-- The line of a known move, part by part.
use Rattle.std.proofs.Common.{◌≡◌, ℕ, List, [], ◌∷◌, ◌++◌, ap, ◌∙◌, append_assoc}

regroup : (old n v w e : List ℕ) → (((old ++ (n ++ (32 ∷ v))) ++ (32 ∷ [])) ++ w) ++ e ≡ old ++ (n ++ (32 ∷ (v ++ (32 ∷ (w ++ e)))))
regroup old n v w e = simp append_assoc

pub known_line_is : (old n v w e one two three four : List ℕ) → one ≡ old ++ (n ++ (32 ∷ v)) → two ≡ one ++ (32 ∷ []) → three ≡ two ++ w → four ≡ three ++ e
    → four ≡ old ++ (n ++ (32 ∷ (v ++ (32 ∷ (w ++ e)))))
known_line_is old n v w e one two three four first space word end =
    end ∙ ap (λ t. t ++ e) (word ∙ ap (λ t. t ++ w) (space ∙ ap (λ t. t ++ (32 ∷ [])) first)) ∙ regroup old n v w e
