-- What reading a settled number adds.
use Rattle.std.proofs.Common.{◌≡◌, ◌∙◌, sym, ap, subst, ℕ, ◌+◌, List, [], ◌∷◌, ◌++◌, length, arith, length-append}
use Rattle.retrograde.specs.Stored.{Stored}
use Rattle.retrograde.specs.Changes.{with_settled}
use Rattle.game_file.specs.Bytes.{IsNumber}
use Rattle.earlier_layouts.specs.Spelled.{AreSpelled}
use Rattle.earlier_layouts.specs.lemmas.Items.{spelled_more}
use Rattle.earlier_layouts.specs.lemmas.ImageReads.{AddsOrder}

-- one more settled number
pub one_more_number : (bytes one : List ℕ) (count n : ℕ) (first old new : Stored (List ℕ)) → AddsOrder bytes count first old
    → IsNumber one n → new ≡ with_settled old n
    → AddsOrder (bytes ++ one) (count + 1) first new
one_more_number bytes one count n first old new so_far of added =
    let order : new.order ≡ old.order ++ n ∷ [] = ap (λ (s : Stored (List ℕ)). s.order) added in
    record {
      spelled = subst (λ (ns : List ℕ). AreSpelled IsNumber (bytes ++ one) ns) (sym order) (spelled_more IsNumber bytes old.order one n so_far.spelled of);
      counted = omega (arith, ap length order, length-append old.order (n ∷ []), so_far.counted);
      others = record {
        positions = ap (λ (s : Stored (List ℕ)). s.positions) added ∙ so_far.others.positions;
        records = ap (λ (s : Stored (List ℕ)). s.records) added ∙ so_far.others.records;
        edges = ap (λ (s : Stored (List ℕ)). s.has_edge) added ∙ so_far.others.edges;
      };
    }
