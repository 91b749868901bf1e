use Rattle.std.proofs.Common.{◌≡◌, ◌≤◌, ◌<◌, ℕ, length, get_or, arith, ap}
use Rattle.position_pack.proofs.ValueBytes.{three_at, spell, at_most, one_more}
use Rattle.position_pack.proofs.parts.values_of.Goals as goal

pub returns-then-value-bound : goal.returns-then-value-bound
returns-then-value-bound c = λ values are.
    let lt = c.loop-index-test.true in
    let same = c.deref-bound-items.ensures.0 in
    let here = ap (λ bs. get_or bs c.loop-index.index 0) same in
    omega (
      arith,
      at_most values c.args.bytes.now are.bytes_are c.loop-index.index (omega (arith, are.as_many, lt, ap length same)),
      are.within c.loop-index.index (omega (arith, are.as_many, lt, ap length same)),
      c.value_at-value.ensures,
      c.if-value-bound.true,
      here,
    )

pub loop-index-preserved : goal.loop-index-preserved
loop-index-preserved c =
    let bytes = c.args.bytes.now in
    let bounds = c.args.bounds.now.items in
    let here = ap (λ bs. get_or bs c.loop-index.index 0) c.deref-bound-items.ensures.0 in
    record {
      as_many = omega arith;
      values_are = one_more (λ k v. v ≡ three_at bytes k) c.loop-index.values.items c.value_at-value.result c.loop-index.index c.push.new.self.items c.loop-index.invariant.as_many c.push.ensures.items c.loop-index.invariant.values_are c.value_at-value.ensures;
      within = one_more (λ k v. v ≤ get_or bounds k 0) c.loop-index.values.items c.value_at-value.result c.loop-index.index c.push.new.self.items c.loop-index.invariant.as_many c.push.ensures.items c.loop-index.invariant.within (omega (arith, here, c.if-value-bound.false));
    }

pub returns : goal.returns
returns c =
    let many = ap length c.deref-bound-items.ensures.0 in
    let bytes : (i : ℕ) → get_or c.args.bytes.now i 0 < 256 = λ i. omega (arith, c.type_inv.bytes i) in
    record {
      bytes_are = spell c.loop-index.values.items c.args.bytes.now (omega (arith, many, c.requires, c.loop-index.invariant.as_many)) bytes
          (λ k lt. c.loop-index.invariant.values_are k (omega (arith, lt, c.loop-index.invariant.as_many)));
      as_many = omega (arith, many, c.loop-index.invariant.as_many);
      within = λ k lt. c.loop-index.invariant.within k (omega (arith, lt, c.loop-index.invariant.as_many));
    }
