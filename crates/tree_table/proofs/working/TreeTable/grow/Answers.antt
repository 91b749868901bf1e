use Rattle.std.proofs.Common.{◌≡◌, ◌≢◌, Result, Ok, Err}
use Rattle.std.specs.Prelude.{OnErr, IfErr}
use Rattle.page_store.specs.Causes.{GrowCause}
use Rattle.page_store.specs.declared.fault.PageFault.TheVariants.{Disk}
use Rattle.tree_table.specs.Commits.{HasNotGrown}
use mathlib.Core.Logic.{∥∥₁_elim, ∥∥₁_prop}
use Rattle.tree_table.specs.WorkTable.{work_of, HoldsWork}
use Rattle.tree_table.specs.lemmas.StandingTable.{was_honest}
use Rattle.tree_table.proofs.Grown.{grow_calm, grow_left, grow_work}
use Rattle.tree_table.proofs.working.TreeTable.grow.Goals as goal

pub invariant_of-self : goal.invariant_of-self
invariant_of-self g c =
    let self = c.args.self.now in
    let root = c.args.root.now in
    let old = g.P.Pages.store self.store in
    let new = g.P.Pages.store c.grow-result.new.self in
    let told = c.grow-result.ensures in
    record {
      reads = tt;
      some = self.some;
      short = self.short;
      few = self.few;
      points = self.points;
      holds = λ honest.
          let was = was_honest told.grows.goes_on honest.disk in
          ∥∥₁_elim (self.holds (record { disk = was; whole = honest.whole })) ∥∥₁_prop (λ (h : HoldsWork (work_of self.slot self.text.items self.torn old)).
          ∣ grow_work root c.args.pages self.slot self.text.items self.torn old new c.grow-result.result self.few c.requires.calm c.requires.more told.ok
          told.kept_marks (told.kept_pages was) h ∣₁);
      long = tt;
      last = λ honest. tt;
    }

pub returns-clause-calm : goal.returns-clause-calm
returns-clause-calm g c =
    let old = g.P.Pages.store c.args.self.now.store in
    let new = g.P.Pages.store c.grow-result.new.self in
    let told = c.grow-result.ensures in
    grow_calm c.args.root.now c.args.pages old new c.grow-result.result c.requires.calm told.ok told.kept_marks

-- what is said of a refusal, by three clauses
of_refusal : {X E A : Type 0} (P Q R : E → Type 0) (r : Result X E) → ((e : E) → P e → Q e → A → R e) → IfErr r P → IfErr r Q → OnErr r A → IfErr r R
of_refusal P Q R (Ok x) so p q a = tt
of_refusal P Q R (Err e) so p q a = so e p q a

pub returns-clause-err : goal.returns-clause-err
returns-clause-err g c =
    let old = g.P.Pages.store c.args.self.now.store in
    let new = g.P.Pages.store c.grow-result.new.self in
    let told = c.grow-result.ensures in
    of_refusal (GrowCause old new) (λ fault. fault ≢ Disk → new ≡ old) (HasNotGrown old new) c.grow-result.result
    (λ fault cause untouched left. record { left = left; untouched = untouched; cause = cause }) told.cause told.untouched
    (grow_left old new c.grow-result.result told.grows.goes_on told.kept_root told.kept_marks told.kept_pages)
