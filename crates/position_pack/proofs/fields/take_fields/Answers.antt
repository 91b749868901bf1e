use Rattle.std.proofs.Common.{◌≡◌, Bool, true, false, refl, ℕ, ◌+◌, ◌^◌, ◌++◌, ◌≤◌, ◌<◌, List, ◌∷◌, [], length, drop, get_or, replicate, ap, sym, ◌∙◌, subst, append_assoc, append-nil, arith}
use Rattle.std.specs.Prelude.{MatchBool}
use Rattle.std.specs.List.{sum_by}
use Rattle.std.proofs.lemmas.Bool.{eqb-true, eqb-false}
use Rattle.std.proofs.lemmas.List.{length-append}
use Rattle.position_pack.specs.Bits.{width, bits_of, field_bits}
use Rattle.position_pack.specs.lemmas.Streams.{left}
use Rattle.position_pack.proofs.BitLemmas.{length-bits, bits-zero}
use Rattle.position_pack.proofs.ByteLemmas.{all_bits, length-all_bits, zeros_behind}
use Rattle.position_pack.proofs.ReadLemmas.{AreBehind, IsNext, next_sound, next_complete, sum_drop, read_all, all_behind, left_held, held_zero, none_behind, none_summed}
use Rattle.position_pack.proofs.fields.take_fields.Goals as goal

pub loop-most-init : goal.loop-most-init
loop-most-init c =
    let all = length-all_bits c.args.bytes.now in
    record {
      reader = record { few = omega arith; low = omega arith; within = omega arith };
      as_many = ap length c.requires.none;
      enough = omega (arith, all, c.requires.long);
      few = omega (arith, all, c.requires.long);
      sound = λ ys zs behind. subst (λ xs. AreBehind c.args.greatest.now (all_bits c.args.bytes.now) (xs ++ ys) zs) (sym c.requires.none) behind;
      complete = λ xs zs behind. (xs, ap (λ ys. ys ++ xs) (sym c.requires.none), behind);
    }

pub returns-then-value-most : goal.returns-then-value-most
returns-then-value-most c = λ fields are.
    let greatest = c.args.greatest.now in
    let k = c.loop-most.most-index in
    let word : get_or greatest k 0 < 2 ^ 32 = omega (arith, c.type_inv.greatest k) in
    let there = c.loop-most.invariant.complete fields _ (all_behind greatest c.args.bytes.now fields are) in
    let next : IsNext (get_or greatest k 0) c.take-value.result (drop (k + 1) greatest) (left c.args.bytes.now c.take-value.new.reader) there.0 _ =
    next_complete greatest k c.take-value.result (left c.args.bytes.now c.loop-most.reader)
    (left c.args.bytes.now c.take-value.new.reader) c.loop-most-test.true word
    (subst (λ w. c.take-value.result < 2 ^ w) c.width_of.ensures.is c.take-value.ensures.low)
    (c.take-value.ensures.bits ∙ ap
    (λ w. bits_of w c.take-value.result ++ left c.args.bytes.now c.take-value.new.reader) c.width_of.ensures.is) there.0 _ there.2 in
    omega (arith, next.le, c.if-value-most.true)

pub loop-most-preserved : goal.loop-most-preserved
loop-most-preserved c =
    let greatest = c.args.greatest.now in
    let k = c.loop-most.most-index in
    let v = c.take-value.result in
    let old = left c.args.bytes.now c.loop-most.reader in
    let rest = left c.args.bytes.now c.take-value.new.reader in
    let word : get_or greatest k 0 < 2 ^ 32 = omega (arith, c.type_inv.greatest k) in
    let low : v < 2 ^ width (get_or greatest k 0) = subst (λ w. v < 2 ^ w) c.width_of.ensures.is c.take-value.ensures.low in
    let bits : old ≡ bits_of (width (get_or greatest k 0)) v ++ rest = c.take-value.ensures.bits ∙ ap (λ w. bits_of w v ++ rest) c.width_of.ensures.is in
    let many : length old ≡ width (get_or greatest k 0) + length rest = ap length bits
    ∙ length-append (bits_of (width (get_or greatest k 0)) v) rest ∙ ap (λ n. n + length rest) (length-bits (width (get_or greatest k 0)) v) in
    let sum = sum_drop greatest k c.loop-most-test.true in
    let longer : (ys : List ℕ) → c.push.new.self.items ++ ys ≡ c.loop-most.fields.items
    ++ (v ∷ ys) = λ ys. ap (λ xs. xs ++ ys) c.push.ensures.items ∙ append_assoc c.loop-most.fields.items (v ∷ []) ys in
    record {
      reader = c.take-value.ensures.reader;
      as_many = c.push.ensures.len ∙ ap (λ n. n + 1) c.loop-most.invariant.as_many;
      enough = omega (arith, many, sum, c.loop-most.invariant.enough);
      few = omega (arith, many, sum, c.loop-most.invariant.few);
      sound = λ ys zs behind. subst (λ xs. AreBehind greatest (all_bits c.args.bytes.now) xs zs) (sym (longer ys))
          (c.loop-most.invariant.sound (v ∷ ys) zs
          (next_sound greatest k v old rest c.loop-most-test.true (omega (arith, c.if-value-most.false)) bits ys zs behind));
      complete = λ xs zs behind.
          let there = c.loop-most.invariant.complete xs zs behind in
          let next : IsNext (get_or greatest k 0) v (drop (k + 1) greatest) rest there.0 zs =
          next_complete greatest k v old rest c.loop-most-test.true word low bits there.0 zs there.2 in
          (next.others, there.1 ∙ ap (λ ys. c.loop-most.fields.items ++ ys) next.begins ∙ sym (longer next.others), next.behind);
    }

-- by the answer of a test
choose : {A B : Type 0} (b : Bool) → (b ≡ true → A) → (b ≡ false → B) → MatchBool b A B
choose true h k = h refl
choose false h k = k refl

pub returns : goal.returns
returns c =
    let greatest = c.args.greatest.now in
    let k = c.loop-most.most-index in
    let r = c.loop-most.reader in
    let last : length greatest ≤ k = omega (arith, c.loop-most-test.false) in
    let none : sum_by width (drop k greatest) ≡ 0 = none_summed greatest k last in
    let held = left_held c.args.bytes.now r.next r.count r.held (omega (arith, c.loop-most.invariant.few, none)) in
    let bits = left c.args.bytes.now r in
    choose _ (λ is.
    let zeros : bits ≡ replicate r.count 0 = held ∙ ap (bits_of r.count) (eqb-true r.held 0 is) ∙ bits-zero r.count in
    let all = c.loop-most.invariant.sound [] bits (none_behind greatest bits k last) in
    let fields = subst (λ xs. AreBehind greatest (all_bits c.args.bytes.now) xs bits) (append-nil c.loop-most.fields.items) all in
    read_all greatest c.args.bytes.now c.loop-most.fields.items bits r.count
    (λ i. omega (arith, c.type_inv.bytes i)) c.loop-most.invariant.reader.few zeros fields)
    (λ isnt fields are.
    let there = c.loop-most.invariant.complete fields _ (all_behind greatest c.args.bytes.now fields are) in
    eqb-false r.held 0 isnt (held_zero greatest bits there.0 k r.count r.held
    (zeros_behind (field_bits greatest fields)) last c.loop-most.invariant.reader.low held there.2))
