-- A record that is written as it is changes nothing.
use Rattle.std.proofs.Common.{◌≡◌, ℕ, zero, suc, List, [], ◌∷◌, Some, ap, slice_get, slice_set}
use Rattle.retrograde.specs.declared.records.Record.{Record}
use Rattle.retrograde.specs.Changes.{with_record}
use Rattle.retrograde.specs.Stored.{Stored, HasRecord}

same_set : {A : Type 0} (xs : List A) (i : ℕ) (x : A) → slice_get xs i ≡ Some x → slice_set xs i x ≡ xs
same_set [] i x is = absurd (cc)
same_set (y ∷ xs) zero x is = cc
same_set (y ∷ xs) (suc i) x is = ap (λ zs. y ∷ zs) (same_set xs i x is)

pub written_back : (stored : Stored (List ℕ)) (i : ℕ) (r : Record) → HasRecord stored i r → with_record stored i r ≡ stored
written_back stored i r has = ap (λ rs. record stored { records = rs }) (same_set stored.records i r has)
