use Rattle.std.proofs.Common.{◌≡◌, ◌∙◌, ◌++◌, ◌<◌, ◌≤◌, ◌^◌, ℕ, Some, false, true, length, sym, ap, subst, arith}
use Rattle.game_file.specs.Bytes.{IsNumber}
use Rattle.tree_table.specs.Causes.{IsNoForest, IsNoTable}
use Rattle.tree_table.proofs.Faults.{passed_on, read_for}
use Rattle.btree.specs.Page.{Item}
use Rattle.btree.specs.Entries.{next_after as next_in}
use Rattle.tree_table.specs.declared.tree.Tree.TheVariants.{Edges}
use Rattle.tree_table.specs.lemmas.Keys.{key_behind}
use Rattle.tree_table.proofs.Found.{filled_with, unfilled_entry}
use Rattle.tree_table.proofs.NextEdges.{no_more, is_edge, of_another, within, next_edge, later}
use Rattle.tree_table.proofs.read.edge_after.Goals as goal

pub returns-in_err-more-clause-cause : goal.returns-in_err-more-clause-cause
returns-in_err-more-clause-cause g c =
    passed_on _ c.from_residual.result _ c.from_residual.ensures
    (read_for IsNoForest IsNoTable c.args.slot.now (g.P.Pages.store c.args.store.now) (g.P.Pages.store c.entry_after.new.store) _
    (λ none honest text table h. none honest text h.entries h.forest) c.in_err-more.ensures.cause)

pub returns-then-not-more-clause-none : goal.returns-then-not-more-clause-none
returns-then-not-more-clause-none g c = λ honest text table h.
    let slot = c.args.slot.now in
    let old = g.P.Pages.store c.args.store.now in
    let few : slot.sizes.counts.known ≤ 2 ^ 24 = omega (arith, c.requires.few) in
    let small : c.args.successor < 2 ^ 32 = omega (arith, c.ranges.successor) in
    let short = c.key_behind-key.ensures.small in
    let key : c.deref.result.now ≡ key_behind c.args.successor c.args.after = c.deref.ensures.0 ∙ c.key_behind-key.ensures.bytes in
    let answer = c.in_ok-more.ensures.found honest text h.entries h.forest ∙ ap (next_in (h.entries Edges)) key in
    no_more slot text table old few h c.args.successor small c.args.after short (unfilled_entry _ _ _ c.if-not-more.true answer)

pub returns-in_default-clause-cause : goal.returns-in_default-clause-cause
returns-in_default-clause-cause g c = λ honest text table h.
    let slot = c.args.slot.now in
    let old = g.P.Pages.store c.args.store.now in
    let few : slot.sizes.counts.known ≤ 2 ^ 24 = omega (arith, c.requires.few) in
    let small : c.args.successor < 2 ^ 32 = omega (arith, c.ranges.successor) in
    let short = c.key_behind-key.ensures.small in
    let key : c.deref.result.now ≡ key_behind c.args.successor c.args.after = c.deref.ensures.0 ∙ c.key_behind-key.ensures.bytes in
    let answer = c.in_ok-more.ensures.found honest text h.entries h.forest ∙ ap (next_in (h.entries Edges)) key in
    let e : Item = (c.entry_after.new.into.key.items, c.entry_after.new.into.value.items) in
    let next : Some e ≡ next_in (h.entries Edges) (key_behind c.args.successor c.args.after) = filled_with _ _ _ c.if-not-more.false answer in
    c.in_default.ensures.none (ap length c.deref-2.ensures.0 ∙ is_edge slot text table old few h c.args.successor small c.args.after short e next)

pub returns-then-next-successor-clause-none : goal.returns-then-next-successor-clause-none
returns-then-next-successor-clause-none g c = λ honest text table h.
    let slot = c.args.slot.now in
    let old = g.P.Pages.store c.args.store.now in
    let few : slot.sizes.counts.known ≤ 2 ^ 24 = omega (arith, c.requires.few) in
    let small : c.args.successor < 2 ^ 32 = omega (arith, c.ranges.successor) in
    let short = c.key_behind-key.ensures.small in
    let key : c.deref.result.now ≡ key_behind c.args.successor c.args.after = c.deref.ensures.0 ∙ c.key_behind-key.ensures.bytes in
    let answer = c.in_ok-more.ensures.found honest text h.entries h.forest ∙ ap (next_in (h.entries Edges)) key in
    let e : Item = (c.entry_after.new.into.key.items, c.entry_after.new.into.value.items) in
    let next : Some e ≡ next_in (h.entries Edges) (key_behind c.args.successor c.args.after) = filled_with _ _ _ c.if-not-more.false answer in
    let (front, back, parts, one, two) = c.in-Some.ensures.some in
    let both : e.0 ≡ front ++ back = sym c.deref-2.ensures.0 ∙ parts in
    let first : IsNumber front c.in-Some.next = subst (λ (n : ℕ). IsNumber front n) c.in-Some.next-is one in
    let second : IsNumber back c.in-Some.predecessor = subst (λ (n : ℕ). IsNumber back n) c.in-Some.predecessor-is two in
    of_another slot text table old few h c.args.successor small c.args.after short e next front back c.in-Some.next c.in-Some.predecessor both first second c.if-next-successor.true

pub returns-then-predecessor-slot-clause-cause : goal.returns-then-predecessor-slot-clause-cause
returns-then-predecessor-slot-clause-cause g c = λ honest text table h.
    let slot = c.args.slot.now in
    let old = g.P.Pages.store c.args.store.now in
    let few : slot.sizes.counts.known ≤ 2 ^ 24 = omega (arith, c.requires.few) in
    let small : c.args.successor < 2 ^ 32 = omega (arith, c.ranges.successor) in
    let short = c.key_behind-key.ensures.small in
    let key : c.deref.result.now ≡ key_behind c.args.successor c.args.after = c.deref.ensures.0 ∙ c.key_behind-key.ensures.bytes in
    let answer = c.in_ok-more.ensures.found honest text h.entries h.forest ∙ ap (next_in (h.entries Edges)) key in
    let e : Item = (c.entry_after.new.into.key.items, c.entry_after.new.into.value.items) in
    let next : Some e ≡ next_in (h.entries Edges) (key_behind c.args.successor c.args.after) = filled_with _ _ _ c.if-not-more.false answer in
    let (front, back, parts, one, two) = c.in-Some.ensures.some in
    let both : e.0 ≡ front ++ back = sym c.deref-2.ensures.0 ∙ parts in
    let first : IsNumber front c.in-Some.next = subst (λ (n : ℕ). IsNumber front n) c.in-Some.next-is one in
    let second : IsNumber back c.in-Some.predecessor = subst (λ (n : ℕ). IsNumber back n) c.in-Some.predecessor-is two in
    let low = within slot text table old few h c.args.successor small c.args.after short e next front back c.in-Some.next c.in-Some.predecessor both first second in
    omega (arith, low, c.if-predecessor-slot.true)

pub returns-then-is_after-clause-next : goal.returns-then-is_after-clause-next
returns-then-is_after-clause-next g c = λ honest text table h.
    let slot = c.args.slot.now in
    let old = g.P.Pages.store c.args.store.now in
    let few : slot.sizes.counts.known ≤ 2 ^ 24 = omega (arith, c.requires.few) in
    let small : c.args.successor < 2 ^ 32 = omega (arith, c.ranges.successor) in
    let short = c.key_behind-key.ensures.small in
    let key : c.deref.result.now ≡ key_behind c.args.successor c.args.after = c.deref.ensures.0 ∙ c.key_behind-key.ensures.bytes in
    let answer = c.in_ok-more.ensures.found honest text h.entries h.forest ∙ ap (next_in (h.entries Edges)) key in
    let e : Item = (c.entry_after.new.into.key.items, c.entry_after.new.into.value.items) in
    let next : Some e ≡ next_in (h.entries Edges) (key_behind c.args.successor c.args.after) = filled_with _ _ _ c.if-not-more.false answer in
    let (front, back, parts, one, two) = c.in-Some.ensures.some in
    let both : e.0 ≡ front ++ back = sym c.deref-2.ensures.0 ∙ parts in
    let first : IsNumber front c.in-Some.next = subst (λ (n : ℕ). IsNumber front n) c.in-Some.next-is one in
    let second : IsNumber back c.in-Some.predecessor = subst (λ (n : ℕ). IsNumber back n) c.in-Some.predecessor-is two in
    next_edge slot text table old few h c.args.successor small c.args.after short e next front back c.in-Some.next c.in-Some.predecessor both first second c.if-next-successor.false

pub returns-else-is_after-clause-cause : goal.returns-else-is_after-clause-cause
returns-else-is_after-clause-cause g c = λ honest text table h.
    let slot = c.args.slot.now in
    let old = g.P.Pages.store c.args.store.now in
    let few : slot.sizes.counts.known ≤ 2 ^ 24 = omega (arith, c.requires.few) in
    let small : c.args.successor < 2 ^ 32 = omega (arith, c.ranges.successor) in
    let short = c.key_behind-key.ensures.small in
    let key : c.deref.result.now ≡ key_behind c.args.successor c.args.after = c.deref.ensures.0 ∙ c.key_behind-key.ensures.bytes in
    let answer = c.in_ok-more.ensures.found honest text h.entries h.forest ∙ ap (next_in (h.entries Edges)) key in
    let e : Item = (c.entry_after.new.into.key.items, c.entry_after.new.into.value.items) in
    let next : Some e ≡ next_in (h.entries Edges) (key_behind c.args.successor c.args.after) = filled_with _ _ _ c.if-not-more.false answer in
    let (front, back, parts, one, two) = c.in-Some.ensures.some in
    let both : e.0 ≡ front ++ back = sym c.deref-2.ensures.0 ∙ parts in
    let first : IsNumber front c.in-Some.next = subst (λ (n : ℕ). IsNumber front n) c.in-Some.next-is one in
    let second : IsNumber back c.in-Some.predecessor = subst (λ (n : ℕ). IsNumber back n) c.in-Some.predecessor-is two in
    let after = later slot text table old few h c.args.successor small c.args.after short e next front back c.in-Some.next c.in-Some.predecessor both first second c.if-next-successor.false in
    let never : false ≡ true = c.if-is_after.ensures.1 after in cc
