-- How many records pass a test.
use Rattle.std.proofs.Common.{◌≡◌, ◌∙◌, sym, ap, Bool, true, false, cond, List, [], ◌∷◌, ◌++◌}
use Rattle.std.specs.Prelude.{count_by}
use Rattle.retrograde.specs.declared.records.Record.{Record}
use Rattle.retrograde.specs.Changes.{fresh_record}
use Rattle.retrograde.proofs.Additions.{count_push}

-- a fresh record, put after or not, is not counted
pub count_fresh : (test : Record → Bool) → test fresh_record ≡ false → (xs ys zs : List Record) (r : Record) (b : Bool) → ys ≡ xs → r ≡ fresh_record
    → zs ≡ cond b (ys ++ r ∷ []) ys → count_by test xs ≡ count_by test zs
count_fresh test fails xs ys zs r true same is made =
    sym (ap (λ rs. count_by test rs) made ∙ count_push test ys r (ap test is ∙ fails) ∙ ap (λ rs. count_by test rs) same)
count_fresh test fails xs ys zs r false same is made = sym (ap (λ rs. count_by test rs) (made ∙ same))
