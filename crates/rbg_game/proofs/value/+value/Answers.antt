use Rattle.std.proofs.Common.{rules, length, map, fold, refl, sym, ap, ◌∙◌, subst, arith, ◌+ℤ◌, ◌*ℤ◌}
use Rattle.std.proofs.lemmas.List.{take_all, length-map}
use Rattle.rbg_game.specs.Expressions.{number, sum, product, sum_all, product_all, value_of, HasSmallParts, NamesBelow}
use Rattle.rbg_game.specs.Meaning.{expression_of}
use Rattle.rbg_game.specs.declared.rules.Expr.{the_lemmas}
use Rattle.rbg_game.proofs.MeaningLemmas.{expression_of-Negation, expression_of-Sum, expression_of-Product}
use Rattle.rbg_game.proofs.ValueLemmas.{item_part, turn_fits, turn_is, minus_fits, minus_value, sum_value, product_value, sum_small, product_small, sum_named, product_named}
use Rattle.rbg_game.proofs.value.+value.Goals as goal

pub overflow_sub-result : goal.overflow_sub-result
overflow_sub-result t c =
    let values = c.args.values.now in
    let same = ap expression_of c.in-Negation.is ∙ expression_of-Negation c.in-Negation.part in
    minus_fits values (expression_of c.in-Negation.part.value) c.value.result (subst (HasSmallParts values) same c.requires.small)
    (c.value.ensures ∙ ap (λ e. value_of values (expression_of e)) c.deref.ensures)

pub returns-in-Negation : goal.returns-in-Negation
returns-in-Negation t c =
    let values = c.args.values.now in
    let same = ap expression_of c.in-Negation.is ∙ expression_of-Negation c.in-Negation.part in
    minus_value values (expression_of c.in-Negation.part.value) c.value.result (subst (HasSmallParts values) same c.requires.small)
    (c.value.ensures ∙ ap (λ e. value_of values (expression_of e)) c.deref.ensures)
    ∙ sym (ap (value_of values) same)

pub value-total-requires : goal.value-total-requires
value-total-requires t c =
    let values = c.args.values.now in
    let items = c.deref-term-items.result.now in
    let same = ap expression_of c.in-Sum.is ∙ expression_of-Sum c.in-Sum.terms
    ∙ ap (λ xs. sum_all (map expression_of xs)) (sym c.deref-term-items.ensures.value) in
    let named = item_part (NamesBelow (length values)) sum (λ a b h. h.0)
    (number 0) items c.loop-term.term-index c.term-item.result c.loop-term-test.true c.term-item.is
    (sum_named (length values) (map expression_of c.deref-term-items.result.now) (subst (NamesBelow (length values)) same c.requires.names)) in
    let small = item_part (HasSmallParts values) sum (λ a b h. h.1)
    (number 0) items c.loop-term.term-index c.term-item.result c.loop-term-test.true c.term-item.is
    (sum_small values (map expression_of c.deref-term-items.result.now) (subst (HasSmallParts values) same c.requires.small)) in
    (search (rules, the_lemmas), (named.1, small.2))

pub overflow_add-total : goal.overflow_add-total
overflow_add-total t c =
    let values = c.args.values.now in
    let same = ap expression_of c.in-Sum.is ∙ expression_of-Sum c.in-Sum.terms
    ∙ ap (λ xs. sum_all (map expression_of xs)) (sym c.deref-term-items.ensures.value) in
    turn_fits values sum ◌+ℤ◌ (λ a b. refl) (λ a b h. h.1) (λ a b h. h.2) (number 0) c.deref-term-items.result.now c.loop-term.term-index c.term-item.result _ c.value-total.result c.loop-term-test.true c.term-item.is (sum_small values (map expression_of c.deref-term-items.result.now) (subst (HasSmallParts values) same c.requires.small)) c.loop-term.invariant c.value-total.ensures

pub loop-term-preserved : goal.loop-term-preserved
loop-term-preserved t c =
    let values = c.args.values.now in
    let same = ap expression_of c.in-Sum.is ∙ expression_of-Sum c.in-Sum.terms
    ∙ ap (λ xs. sum_all (map expression_of xs)) (sym c.deref-term-items.ensures.value) in
    turn_is values sum ◌+ℤ◌ (λ a b. refl) (λ a b h. h.1) (λ a b h. h.2) (number 0) c.deref-term-items.result.now c.loop-term.term-index c.term-item.result _ c.value-total.result c.loop-term-test.true c.term-item.is (sum_small values (map expression_of c.deref-term-items.result.now) (subst (HasSmallParts values) same c.requires.small)) c.loop-term.invariant c.value-total.ensures

pub returns-after-loop-term : goal.returns-after-loop-term
returns-after-loop-term t c =
    let values = c.args.values.now in
    let items = c.deref-term-items.result.now in
    let same = ap expression_of c.in-Sum.is ∙ expression_of-Sum c.in-Sum.terms
    ∙ ap (λ xs. sum_all (map expression_of xs)) (sym c.deref-term-items.ensures.value) in
    let whole = take_all c.loop-term.term-index (map expression_of items) (omega (arith, length-map items expression_of)) in
    c.loop-term.invariant ∙ ap (λ xs. value_of values (fold sum (number 0) xs)) whole
    ∙ sum_value values (map expression_of c.deref-term-items.result.now) ∙ sym (ap (value_of values) same)

pub value-total-requires-in-loop-factor : goal.value-total-requires-in-loop-factor
value-total-requires-in-loop-factor t c =
    let values = c.args.values.now in
    let items = c.deref-factor-items.result.now in
    let same = ap expression_of c.in-Product.is ∙ expression_of-Product c.in-Product.factors
    ∙ ap (λ xs. product_all (map expression_of xs)) (sym c.deref-factor-items.ensures.value) in
    let named = item_part (NamesBelow (length values)) product (λ a b h. h.0)
    (number 1) items c.loop-factor.factor-index c.factor-item.result c.loop-factor-test.true c.factor-item.is
    (product_named (length values) (map expression_of c.deref-factor-items.result.now) (subst (NamesBelow (length values)) same c.requires.names)) in
    let small = item_part (HasSmallParts values) product (λ a b h. h.1)
    (number 1) items c.loop-factor.factor-index c.factor-item.result c.loop-factor-test.true c.factor-item.is
    (product_small values (map expression_of c.deref-factor-items.result.now) (subst (HasSmallParts values) same c.requires.small)) in
    (search (rules, the_lemmas), (named.1, small.2))

pub overflow_mul-total : goal.overflow_mul-total
overflow_mul-total t c =
    let values = c.args.values.now in
    let same = ap expression_of c.in-Product.is ∙ expression_of-Product c.in-Product.factors
    ∙ ap (λ xs. product_all (map expression_of xs)) (sym c.deref-factor-items.ensures.value) in
    turn_fits values product ◌*ℤ◌ (λ a b. refl) (λ a b h. h.1) (λ a b h. h.2) (number 1) c.deref-factor-items.result.now c.loop-factor.factor-index c.factor-item.result _ c.value-total-in-loop-factor.result c.loop-factor-test.true c.factor-item.is (product_small values (map expression_of c.deref-factor-items.result.now) (subst (HasSmallParts values) same c.requires.small)) c.loop-factor.invariant c.value-total-in-loop-factor.ensures

pub loop-factor-preserved : goal.loop-factor-preserved
loop-factor-preserved t c =
    let values = c.args.values.now in
    let same = ap expression_of c.in-Product.is ∙ expression_of-Product c.in-Product.factors
    ∙ ap (λ xs. product_all (map expression_of xs)) (sym c.deref-factor-items.ensures.value) in
    turn_is values product ◌*ℤ◌ (λ a b. refl) (λ a b h. h.1) (λ a b h. h.2) (number 1) c.deref-factor-items.result.now c.loop-factor.factor-index c.factor-item.result _ c.value-total-in-loop-factor.result c.loop-factor-test.true c.factor-item.is (product_small values (map expression_of c.deref-factor-items.result.now) (subst (HasSmallParts values) same c.requires.small)) c.loop-factor.invariant c.value-total-in-loop-factor.ensures

pub returns-after-loop-factor : goal.returns-after-loop-factor
returns-after-loop-factor t c =
    let values = c.args.values.now in
    let items = c.deref-factor-items.result.now in
    let same = ap expression_of c.in-Product.is ∙ expression_of-Product c.in-Product.factors
    ∙ ap (λ xs. product_all (map expression_of xs)) (sym c.deref-factor-items.ensures.value) in
    let whole = take_all c.loop-factor.factor-index (map expression_of items) (omega (arith, length-map items expression_of)) in
    c.loop-factor.invariant ∙ ap (λ xs. value_of values (fold product (number 1) xs)) whole
    ∙ product_value values (map expression_of c.deref-factor-items.result.now) ∙ sym (ap (value_of values) same)
