use Rattle.std.proofs.Common.{◌≡◌, ℕ, List, Some, ◌∙◌, sym, subst}
use Rattle.std.proofs.lemmas.Option.{same_Some}
use Rattle.game_file.specs.Bytes.{IsNumber}
use Rattle.btree.specs.Entries.{find_entry}
use Rattle.tree_table.specs.WorkTable.{forest_there}
use Rattle.tree_file.specs.lemmas.Right.{IsNumberAt}
use Rattle.tree_file.proofs.CheckExits.{passed_on, read_plain}
use Rattle.tree_file.proofs.Readers.{absent, there}
use Rattle.tree_file.proofs.number.number_by.Goals as goal

pub returns-in_err-find_key-clause-cause : goal.returns-in_err-find_key-clause-cause
returns-in_err-find_key-clause-cause g c =
    passed_on _ c.from_residual.result _ c.from_residual.ensures
    (λ slot tree is. read_plain (λ entries. (n : ℕ) × IsNumberAt (entries tree) c.args.key.now n) slot (g.P.Pages.store c.args.store.now)
    (g.P.Pages.store c.find_key.new.store) _ (c.in_err-find_key.ensures.cause slot tree is))

pub returns-then-not-branch-clause-cause : goal.returns-then-not-branch-clause-cause
returns-then-not-branch-clause-cause g c = λ slot tree is honest text entries h (n, at).
    absent c.find_key.new.reader c.in_ok-find_key.field-0 at.value (find_entry (entries tree) c.args.key.now) c.if-not-branch.true
    (c.in_ok-find_key.ensures.found slot tree is honest text entries (forest_there slot text entries (g.P.Pages.store c.args.store.now) h)) at.found

pub returns-in-Some-clause-number : goal.returns-in-Some-clause-number
returns-in-Some-clause-number g c = λ slot tree is honest text entries h. record {
  value = c.value.result.now;
  found = there c.find_key.new.reader c.in_ok-find_key.field-0 c.value.result.now
      (find_entry (entries tree) c.args.key.now) c.if-not-branch.false c.value.ensures
      (c.in_ok-find_key.ensures.found slot tree is honest text entries (forest_there slot text entries (g.P.Pages.store c.args.store.now) h));
  is = c.in-Some.ensures.some;
}

pub returns-in-None-clause-cause : goal.returns-in-None-clause-cause
returns-in-None-clause-cause g c = λ slot tree is honest text entries h (n, at).
    let here : find_entry (entries tree) c.args.key.now ≡ Some c.value.result.now =
    there c.find_key.new.reader c.in_ok-find_key.field-0 c.value.result.now (find_entry (entries tree) c.args.key.now) c.if-not-branch.false c.value.ensures
    (c.in_ok-find_key.ensures.found slot tree is honest text entries (forest_there slot text entries (g.P.Pages.store c.args.store.now) h)) in
    let same : c.value.result.now ≡ at.value = same_Some c.value.result.now at.value (sym here ∙ at.found) in
    c.in-None.ensures.none n (subst (λ (b : List ℕ). IsNumber b n) (sym same) at.is)
