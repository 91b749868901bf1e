use Rattle.std.proofs.Common.{◌∙◌, ℕ, List, sym, ap, arith}
use Rattle.std.specs.Ordering.{nat_cmp, ordering_then}
use Rattle.std.specs.declared.cmp.Ordering.{Ordering}
use Rattle.btree.specs.Page.{key_cmp}
use Rattle.btree.proofs.pages.Numbers.{front_cmp, first_decides}
use Rattle.btree.proofs.page.order.order_of.Goals as goal

pub returns-in-Equal : goal.returns-in-Equal
returns-in-Equal c =
    let rest : List ℕ = c.split_at.result.1.now in
    let rest' : List ℕ = c.split_at-2.result.1.now in
    c.order_by_four-in-Equal.ensures
    ∙ ap (λ (o : Ordering). ordering_then o (key_cmp rest rest'))
    (sym c.in-Equal.is ∙ c.cmp.ensures ∙ (λ i. nat_cmp (c.read_u64.ensures i) (c.read_u64-2.ensures i)))
    ∙ sym (front_cmp 8 c.args.one.now c.args.other.now c.split_at.result.0.now rest c.split_at-2.result.0.now rest'
    c.split_at.ensures.front c.split_at.ensures.back c.split_at-2.ensures.front c.split_at-2.ensures.back c.split_at.ensures.front_len c.split_at-2.ensures.front_len
    (λ k. omega (arith, c.type_inv.one k)) (λ k. omega (arith, c.type_inv.other k)))

pub returns-in_default : goal.returns-in_default
returns-in_default c =
    let rest : List ℕ = c.split_at.result.1.now in
    let rest' : List ℕ = c.split_at-2.result.1.now in
    sym (first_decides c.cmp.result (key_cmp rest rest') c.in_default.not-Equal)
    ∙ ap (λ (o : Ordering). ordering_then o (key_cmp rest rest')) (c.cmp.ensures ∙ (λ i. nat_cmp (c.read_u64.ensures i) (c.read_u64-2.ensures i)))
    ∙ sym (front_cmp 8 c.args.one.now c.args.other.now c.split_at.result.0.now rest c.split_at-2.result.0.now rest'
    c.split_at.ensures.front c.split_at.ensures.back c.split_at-2.ensures.front c.split_at-2.ensures.back c.split_at.ensures.front_len c.split_at-2.ensures.front_len
    (λ k. omega (arith, c.type_inv.one k)) (λ k. omega (arith, c.type_inv.other k)))
