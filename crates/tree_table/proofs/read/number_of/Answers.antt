use Rattle.std.proofs.Common.{◌∙◌, ℕ, List, sym, ap, subst, arith}
use Rattle.game_file.specs.Bytes.{IsNumber}
use Rattle.btree.specs.Entries.{find_entry}
use Rattle.tree_table.specs.declared.tree.Tree.TheVariants.{Positions}
use Rattle.tree_table.specs.Causes.{IsNoForest, IsNoTable}
use Rattle.tree_table.proofs.Faults.{passed_on, read_for}
use Rattle.tree_table.proofs.Found.{filled, unfilled}
use Rattle.tree_table.proofs.TableReads.{position_there, position_read, position_absent}
use Rattle.tree_table.proofs.read.number_of.Goals as goal

pub returns-in_err-known-clause-cause : goal.returns-in_err-known-clause-cause
returns-in_err-known-clause-cause g c =
    passed_on _ c.from_residual.result _ c.from_residual.ensures
    (read_for IsNoForest IsNoTable c.args.slot.now (g.P.Pages.store c.args.store.now) (g.P.Pages.store c.value_into.new.store) _
    (λ none honest text table h. none honest text h.entries h.forest)
    c.in_err-known.ensures.cause)

pub returns-then-not-known-clause-unknown : goal.returns-then-not-known-clause-unknown
returns-then-not-known-clause-unknown g c = λ honest text table h.
    position_absent c.args.slot.now text table (g.P.Pages.store c.args.store.now) h c.args.packed.now.items
    (unfilled _ _ _ c.if-not-known.true
    (c.in_ok-known.ensures.found honest text h.entries h.forest ∙ ap (find_entry (h.entries Positions)) (c.deref.ensures.0)))

pub returns-in_default-clause-cause : goal.returns-in_default-clause-cause
returns-in_default-clause-cause g c = λ honest text table h.
    let (i, is, got, low) = position_there c.args.slot.now text table
    (g.P.Pages.store c.args.store.now) h c.args.packed.now.items c.value_into.new.into.items
    (filled _ _ _ c.if-not-known.false
    (c.in_ok-known.ensures.found honest text h.entries h.forest ∙ ap (find_entry (h.entries Positions)) (c.deref.ensures.0))) in
    c.in_default.ensures.none i (subst (λ (b : List ℕ). IsNumber b i) (sym c.deref-2.ensures.0) is)

pub returns-then-number-slot-clause-found : goal.returns-then-number-slot-clause-found
returns-then-number-slot-clause-found g c = λ honest text table h.
    (position_read c.args.slot.now text table (g.P.Pages.store c.args.store.now) h c.args.packed.now.items c.value_into.new.into.items c.in-Some.number
    (filled _ _ _ c.if-not-known.false
    (c.in_ok-known.ensures.found honest text h.entries h.forest ∙ ap (find_entry (h.entries Positions)) (c.deref.ensures.0)))
    (subst (λ (b : List ℕ). IsNumber b c.in-Some.number) c.deref-2.ensures.0 c.in-Some.ensures.some)).0

pub returns-else-number-slot-clause-cause : goal.returns-else-number-slot-clause-cause
returns-else-number-slot-clause-cause g c = λ honest text table h.
    let within = position_read c.args.slot.now text table
    (g.P.Pages.store c.args.store.now) h c.args.packed.now.items c.value_into.new.into.items c.in-Some.number
    (filled _ _ _ c.if-not-known.false
    (c.in_ok-known.ensures.found honest text h.entries h.forest ∙ ap (find_entry (h.entries Positions)) (c.deref.ensures.0)))
    (subst (λ (b : List ℕ). IsNumber b c.in-Some.number) c.deref-2.ensures.0 c.in-Some.ensures.some) in
    omega (arith, within.1, c.if-number-slot.false)
