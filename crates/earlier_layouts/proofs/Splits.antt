-- A list that is split piece by piece.
use Rattle.std.proofs.Common.{◌≡◌, ◌∙◌, sym, ap, ap₂, ℕ, List, ◌++◌, take, drop, append_assoc}
use Rattle.std.proofs.lemmas.List.{take-append-drop}

-- the next piece joins what was split off
pub split_on : (all done rest front back : List ℕ) (n : ℕ) → all ≡ done ++ rest → front ≡ take n rest → back ≡ drop n rest → all ≡ (done ++ front) ++ back
split_on all done rest front back n is front_is back_is =
    let parts : rest ≡ front ++ back = sym (take-append-drop n rest) ∙ ap₂ (λ (a b : List ℕ). a ++ b) (sym front_is) (sym back_is) in
    is ∙ ap (λ (b : List ℕ). done ++ b) parts ∙ sym (append_assoc done front back)

-- and stands before what is left
pub split_between : (all done rest front back : List ℕ) (n : ℕ) → all ≡ done ++ rest → front ≡ take n rest → back ≡ drop n rest → all ≡ done ++ (front ++ back)
split_between all done rest front back n is front_is back_is =
    let parts : rest ≡ front ++ back = sym (take-append-drop n rest) ∙ ap₂ (λ (a b : List ℕ). a ++ b) (sym front_is) (sym back_is) in
    is ∙ ap (λ (b : List ℕ). done ++ b) parts

-- two parts make the whole
pub both_parts : (all front back : List ℕ) (n : ℕ) → front ≡ take n all → back ≡ drop n all → all ≡ front ++ back
both_parts all front back n front_is back_is = sym (take-append-drop n all) ∙ ap₂ (λ (a b : List ℕ). a ++ b) (sym front_is) (sym back_is)
