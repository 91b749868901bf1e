use Rattle.std.proofs.Common.{◌≡◌, ◌-◌, ℕ, zero, suc, List, [], ◌++◌, take, replicate, refl, ap, ◌∙◌, arith}
use Rattle.legal_moves.proofs.searches.ChainLemmas.{chained_none}
use Rattle.legal_moves.proofs.search.chains.Chains.emptied.Goals as goal

take_none : (n : ℕ) → take {A = ℕ} n [] ≡ []
take_none zero = refl
take_none (suc n) = refl

-- nothing grows to this many zeros
zeros : (n k : ℕ) (xs ys : List ℕ) → xs ≡ [] → k ≡ 0 → ys ≡ take n xs ++ replicate (n - k) 0 → ys ≡ replicate n 0
zeros n k xs ys none small is =
    let all : n - k ≡ n = omega arith in
    is ∙ ap (λ zs. take n zs ++ replicate (n - k) 0) none ∙ ap (λ zs. zs ++ replicate (n - k) 0) (take_none n) ∙ ap (λ m. replicate m 0) all

pub returns : goal.returns
returns c = chained_none _ (zeros 512 _ _ _ c.clear.ensures.items c.clear.ensures.len c.in_ok-resize.ensures.items) c.clear-2.ensures.items
