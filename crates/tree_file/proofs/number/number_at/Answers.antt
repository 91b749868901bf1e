use Rattle.std.proofs.Common.{◌∙◌, ◌≡◌, ℕ, List, Some, None, sym, ap, subst}
use Rattle.std.proofs.lemmas.Option.{same_Some}
use Rattle.game_file.specs.Bytes.{IsNumber}
use Rattle.btree.specs.Answers.{found_bytes}
use Rattle.tree_table.specs.WorkTable.{forest_there}
use Rattle.tree_file.specs.lemmas.Right.{IsNumberAt}
use Rattle.tree_file.proofs.CheckExits.{passed_on, read_plain}
use Rattle.tree_file.proofs.number.number_at.Goals as goal

pub returns-in_err-value-clause-cause : goal.returns-in_err-value-clause-cause
returns-in_err-value-clause-cause g c =
    passed_on _ c.from_residual.result _ c.from_residual.ensures
    (read_plain (λ entries. (n : ℕ) × IsNumberAt (entries c.args.tree) c.args.key.now n)
    c.args.slot.now (g.P.Pages.store c.args.store.now) (g.P.Pages.store c.value_at.new.store) _
    c.in_err-value.ensures.cause)

pub returns-in_default-clause-cause : goal.returns-in_default-clause-cause
returns-in_default-clause-cause g c = λ honest text entries h (n, at).
    let none : None ≡ Some at.value = sym (ap found_bytes c.in_default.is)
    ∙ c.in_ok-value.ensures.found honest text entries (forest_there c.args.slot.now text entries (g.P.Pages.store c.args.store.now) h) ∙ at.found in cc

pub returns-in-Some-number_in-clause-number : goal.returns-in-Some-number_in-clause-number
returns-in-Some-number_in-clause-number g c = λ honest text entries h. record {
  value = c.in-Some.value.items;
  found = sym (sym (ap found_bytes c.in-Some.is) ∙ c.in_ok-value.ensures.found honest text entries
      (forest_there c.args.slot.now text entries (g.P.Pages.store c.args.store.now) h));
  is = subst (λ (b : List ℕ). IsNumber b c.in-Some-number_in.number) c.deref.ensures.0 c.in-Some-number_in.ensures.some;
}

pub returns-in-None-clause-cause : goal.returns-in-None-clause-cause
returns-in-None-clause-cause g c = λ honest text entries h (n, at).
    let same : c.in-Some.value.items ≡ at.value =
    same_Some c.in-Some.value.items at.value
    (sym (ap found_bytes c.in-Some.is) ∙ c.in_ok-value.ensures.found honest text entries
    (forest_there c.args.slot.now text entries (g.P.Pages.store c.args.store.now) h) ∙ at.found) in
    c.in-None.ensures.none n (subst (λ (b : List ℕ). IsNumber b n) (sym same ∙ sym c.deref.ensures.0) at.is)
