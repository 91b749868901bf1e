use Rattle.std.proofs.Common.{◌≡◌, ◌∙◌, ap, sym, ℕ, List, length, arith}
use Rattle.arrayvec.specs.ArrayVec.{ArrayVec}
use Rattle.retrograde.specs.declared.records.Record.{Record}
use Rattle.std.specs.Prelude.{count_by}
use Rattle.retrograde.specs.Stored.{is_expanded, is_processed}
use Rattle.table.proofs.Copies.{zip_same, position_same, pair_same, numbered_copy, edges_same, stored_same}
use Rattle.table.proofs.memory.MemTable.copy.Goals as goal

pub invariant_of-result : goal.invariant_of-result
invariant_of-result c =
    let t = c.args.self.now in
    let positions : c.in_ok-positions.positions.items ≡ t.positions.items = zip_same _
    (position_same (λ x y. y ≡ x) (λ x y is. is)) t.positions.items c.in_ok-positions.positions.items c.in_ok-positions.ensures.cases.0 in
    let numbers : c.in_ok-numbers.numbers.entries ≡ t.numbers.entries = zip_same _
    (pair_same _ (λ x y. y ≡ x) (position_same (λ x y. y ≡ x) (λ x y is. is))
    (λ x y is. is)) t.numbers.entries c.in_ok-numbers.numbers.entries c.in_ok-numbers.ensures.cases in
    let records : c.in_ok-records.records.items ≡ t.records.items = zip_same (λ x y. y ≡ x)
    (λ x y is. is) t.records.items c.in_ok-records.records.items c.in_ok-records.ensures.cases.0 in
    let edges : c.in_ok-edges.edges.keys ≡ t.edges.keys = zip_same _
    (pair_same (λ x y. y ≡ x) (λ x y. y ≡ x) (λ x y is. is) (λ x y is. is)) t.edges.keys c.in_ok-edges.edges.keys c.in_ok-edges.ensures.cases in
    let order : c.in_ok-order.order.items ≡ t.order.items = zip_same (λ x y. y ≡ x)
    (λ x y is. is) t.order.items c.in_ok-order.order.items c.in_ok-order.ensures.cases.0 in
    record {
      numbered = numbered_copy t.positions.items c.in_ok-positions.positions.items t.numbers c.in_ok-numbers.numbers positions numbers t.numbered;
      recorded = ap (λ (rs : List Record). length rs) records ∙ t.recorded ∙ sym (ap (λ (ps : List (ArrayVec ℕ)). length ps) positions);
      few = (let same : length c.in_ok-positions.positions.items ≡ length t.positions.items = ap
          (λ (ps : List (ArrayVec ℕ)). length ps) positions in omega (arith, same, t.few));
      known = λ i p is. (let same : length c.in_ok-positions.positions.items ≡ length t.positions.items = ap
          (λ (ps : List (ArrayVec ℕ)). length ps) positions in
          let both = t.known i p (sym (edges_same t.edges c.in_ok-edges.edges edges i p) ∙ is) in (omega (arith, same, both.0), omega (arith, same, both.1)));
      settled = (let same : length c.in_ok-positions.positions.items ≡ length t.positions.items = ap (λ (ps : List (ArrayVec ℕ)). length ps) positions in
          let listed : length c.in_ok-order.order.items ≡ length t.order.items = ap (λ (ns : List ℕ). length ns) order in
          omega (arith, same, listed, t.settled));
      expanded_is = t.expanded_is ∙ sym (ap (λ (rs : List Record). count_by (λ r. is_expanded r.state) rs) records);
      processed_is = t.processed_is ∙ sym (ap (λ (rs : List Record). count_by (λ r. is_processed r.state) rs) records);
    }

pub returns-clause-same : goal.returns-clause-same
returns-clause-same c =
    let t = c.args.self.now in
    let positions : c.in_ok-positions.positions.items ≡ t.positions.items = zip_same _
    (position_same (λ x y. y ≡ x) (λ x y is. is)) t.positions.items c.in_ok-positions.positions.items c.in_ok-positions.ensures.cases.0 in
    let records : c.in_ok-records.records.items ≡ t.records.items = zip_same (λ x y. y ≡ x)
    (λ x y is. is) t.records.items c.in_ok-records.records.items c.in_ok-records.ensures.cases.0 in
    let edges : c.in_ok-edges.edges.keys ≡ t.edges.keys = zip_same _
    (pair_same (λ x y. y ≡ x) (λ x y. y ≡ x) (λ x y is. is) (λ x y is. is)) t.edges.keys c.in_ok-edges.edges.keys c.in_ok-edges.ensures.cases in
    let order : c.in_ok-order.order.items ≡ t.order.items = zip_same (λ x y. y ≡ x)
    (λ x y is. is) t.order.items c.in_ok-order.order.items c.in_ok-order.ensures.cases.0 in
    stored_same t.positions.items c.in_ok-positions.positions.items t.records.items c.in_ok-records.records.items t.edges c.in_ok-edges.edges t.order.items c.in_ok-order.order.items positions records edges order
