-- A table whose parts fit together has counts in order.
use Rattle.std.proofs.Common.{◌≡◌, ℕ, ◌+◌, ◌^◌, ◌≤◌, Bool, true, false, cond, List, [], ◌∷◌, length, refl, ap, arith}
use Rattle.std.specs.Prelude.{count_by}
use Rattle.std.proofs.lemmas.List.Sums.{sum_by-cons, count_by-le-length}
use Rattle.retrograde.specs.declared.records.Counts.{Counts}
use Rattle.retrograde.specs.declared.records.Record.{Record}
use Rattle.retrograde.specs.declared.records.State.{State}
use Rattle.retrograde.specs.declared.records.State.TheVariants.{Known, Expanded, Settled, Processed}
use Rattle.retrograde.specs.Stored.{Stored, IsTable, is_expanded, is_settled, is_processed}
use Rattle.retrograde.specs.Changes.{counts_of}
use Rattle.game_file.specs.Numbers.{AreWithinLimits}
use Rattle.game_file.specs.declared.sizes.Sizes.{Sizes}

one_le : (a b : Bool) → (a ≡ true → b ≡ true) → cond a 1 0 ≤ cond b 1 0
one_le true b so = let e : ◌≡◌ {A = ℕ} (cond b 1 0) 1 = ap (λ (x : Bool). cond x 1 0) (so refl) in omega (arith, e)
one_le false b so = omega arith

count_le : (p q : Record → Bool) → ((r : Record) → p r ≡ true → q r ≡ true) → (rs : List Record) → count_by p rs ≤ count_by q rs
count_le p q so [] = omega arith
count_le p q so (r ∷ rs) =
    let one : count_by p (r ∷ rs) ≡ cond (p r) 1 0 + count_by p rs = sum_by-cons (λ z. cond (p z) 1 0) r rs in
    let two : count_by q (r ∷ rs) ≡ cond (q r) 1 0 + count_by q rs = sum_by-cons (λ z. cond (q z) 1 0) r rs in
    let first : cond (p r) 1 0 ≤ cond (q r) 1 0 = one_le (p r) (q r) (so r) in
    omega (arith, one, two, first, count_le p q so rs)

settled_expanded : (s : State) → is_settled s ≡ true → is_expanded s ≡ true
settled_expanded Known is = absurd (cc)
settled_expanded Expanded is = refl
settled_expanded Settled is = refl
settled_expanded Processed is = refl

processed_settled : (s : State) → is_processed s ≡ true → is_settled s ≡ true
processed_settled Known is = absurd (cc)
processed_settled Expanded is = absurd (cc)
processed_settled Settled is = absurd (cc)
processed_settled Processed is = refl

pub within_limits : (table : Stored (List ℕ)) (sizes : Sizes) → IsTable table → counts_of table ≡ sizes.counts → sizes.text ≤ 65536 → sizes.packed ≤ 240
    → sizes.counts.known ≤ 2 ^ 24 → AreWithinLimits sizes
within_limits table sizes is counts text packed few =
    let known : length table.positions ≡ sizes.counts.known = ap (λ (c : Counts). c.known) counts in
    let expanded : count_by (λ r. is_expanded r.state) table.records ≡ sizes.counts.expanded = ap (λ (c : Counts). c.expanded) counts in
    let settled : length table.order ≡ sizes.counts.settled = ap (λ (c : Counts). c.settled) counts in
    let processed : count_by (λ r. is_processed r.state) table.records ≡ sizes.counts.processed = ap (λ (c : Counts). c.processed) counts in
    record {
      text = text;
      packed = packed;
      started = omega (arith, known, is.started);
      known = few;
      expanded = omega (arith, expanded, known, is.records, count_by-le-length (λ r. is_expanded r.state) table.records);
      settled =
          omega (
            arith,
            settled,
            expanded,
            is.counted,
            count_le (λ r. is_settled r.state) (λ r. is_expanded r.state)
                (λ r. settled_expanded r.state) table.records,
          );
      processed =
          omega (
            arith,
            settled,
            processed,
            is.counted,
            count_le (λ r. is_processed r.state) (λ r. is_settled r.state)
                (λ r. processed_settled r.state) table.records,
          );
    }
