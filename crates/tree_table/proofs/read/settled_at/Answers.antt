use Rattle.std.proofs.Common.{◌∙◌, ℕ, List, ap, subst}
use Rattle.game_file.specs.Bytes.{IsNumber}
use Rattle.btree.specs.Entries.{find_entry}
use Rattle.tree_table.specs.declared.tree.Tree.TheVariants.{Order}
use Rattle.tree_table.specs.Causes.{IsNoForest, IsNoTable}
use Rattle.tree_table.proofs.Faults.{passed_on, read_for}
use Rattle.tree_table.proofs.Found.{filled, unfilled}
use Rattle.tree_table.proofs.TableReads.{settled_read, settled_absent, settled_broken}
use Rattle.tree_table.proofs.read.settled_at.Goals as goal

pub returns-in_err-settled-clause-cause : goal.returns-in_err-settled-clause-cause
returns-in_err-settled-clause-cause g c =
    passed_on _ c.from_residual.result _ c.from_residual.ensures
    (read_for IsNoForest IsNoTable c.args.slot.now (g.P.Pages.store c.args.store.now) (g.P.Pages.store c.value_into.new.store) _
    (λ none honest text table h. none honest text h.entries h.forest)
    c.in_err-settled.ensures.cause)

pub returns-then-not-settled-clause-cause : goal.returns-then-not-settled-clause-cause
returns-then-not-settled-clause-cause g c = λ honest text table h.
    settled_absent c.args.slot.now text table (g.P.Pages.store c.args.store.now) h c.args.place c.requires.settled
    (unfilled _ _ _ c.if-not-settled.true
    (c.in_ok-settled.ensures.found honest text h.entries h.forest ∙ ap (find_entry (h.entries Order)) (c.number_key-key.ensures)))

pub returns-in-Some-clause-number : goal.returns-in-Some-clause-number
returns-in-Some-clause-number g c = λ honest text table h.
    settled_read c.args.slot.now text table (g.P.Pages.store c.args.store.now) h c.args.place c.value_into.new.into.items c.in-Some.number c.requires.settled
    (filled _ _ _ c.if-not-settled.false
    (c.in_ok-settled.ensures.found honest text h.entries h.forest ∙ ap (find_entry (h.entries Order)) (c.number_key-key.ensures)))
    (subst (λ (b : List ℕ). IsNumber b c.in-Some.number) c.deref.ensures.0 c.in-Some.ensures.some)

pub returns-in-None-clause-cause : goal.returns-in-None-clause-cause
returns-in-None-clause-cause g c = λ honest text table h.
    settled_broken c.args.slot.now text table (g.P.Pages.store c.args.store.now) h c.args.place c.value_into.new.into.items c.requires.settled
    (filled _ _ _ c.if-not-settled.false
    (c.in_ok-settled.ensures.found honest text h.entries h.forest ∙ ap (find_entry (h.entries Order)) (c.number_key-key.ensures)))
    (subst (λ (b : List ℕ). (n : ℕ) → IsNumber b n → ⊥) c.deref.ensures.0 c.in-None.ensures.none)
