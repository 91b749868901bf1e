use Rattle.table.proofs.Exits.{fault_then, passed_on}
use Rattle.audit.proofs.Exits.{since, cause_since}
use Rattle.std.proofs.Common.{◌≡◌, ◌∙◌, subst, ℕ, List, Bool, true, length}
use Rattle.std.specs.Prelude.{IfOk, Ok}
use Rattle.std.specs.declared.result.Result.{Result}
use Rattle.retrograde.specs.Stored.{Stored, IsTable, expanded_count}
use Rattle.audit.specs.declared.verdict.Verdict.TheVariants.{Right}
use Rattle.audit.specs.declared.fault.AuditFault.{AuditFault}
use Rattle.audit.specs.Answers.{IsAnswer}
use Rattle.audit.specs.lemmas.Conditions.{AreFloors}
use Rattle.audit.specs.lemmas.Edges.{AreArrivals}
use Rattle.audit.proofs.AnswerLemmas.{right_sound, right_so}
use Rattle.table.proofs.Frames.{read_then}
use Rattle.audit.proofs.whole.audit.Goals as goal

is_ok : (b : Bool) → b ≡ true → ◌≡◌ {A = Result Bool AuditFault} (Ok b) (Ok true)
is_ok b is = cc

pub returns-then-branch-clause-answer : goal.returns-then-branch-clause-answer
returns-then-branch-clause-answer g c = λ honest table.
    let h1 = c.in_ok-floors.ensures.read.honest.0 honest in
    let graph = g.M.GameGraph.graph c.args.source.now in
    let IsWide = g.M.GameGraph.is_wide c.args.source.now in
    let right = subst (λ (t : Stored (List ℕ)). IsTable t → AreFloors t (length t.order) c.in_ok-floors.floors.items
    → ◌≡◌ {A = Result Bool AuditFault} (Ok c.in_ok-adds_up.field-0) (Ok true) → IsAnswer graph IsWide t Right)
    (c.in_ok-floors.ensures.read.same honest) (rw c.deref.ensures.value at c.in_ok-adds_up.ensures.right h1) in
    let added = right table (c.in_ok-floors.ensures.floors honest table) (is_ok c.in_ok-adds_up.field-0 c.if-branch.true) in
    search (added)

pub returns-then-branch-clause-sound : goal.returns-then-branch-clause-sound
returns-then-branch-clause-sound g c = λ honest table is.
    let h1 = c.in_ok-floors.ensures.read.honest.0 honest in
    let stored = g.T.Table.stored c.args.table.now in
    let graph = g.M.GameGraph.graph c.args.source.now in
    let IsWide = g.M.GameGraph.is_wide c.args.source.now in
    let right = subst (λ (t : Stored (List ℕ)). IsTable t → AreFloors t (length t.order) c.in_ok-floors.floors.items
    → ◌≡◌ {A = Result Bool AuditFault} (Ok c.in_ok-adds_up.field-0) (Ok true) → IsAnswer graph IsWide t Right)
    (c.in_ok-floors.ensures.read.same honest) (rw c.deref.ensures.value at c.in_ok-adds_up.ensures.right h1) in
    let added : IsAnswer graph IsWide stored Right =
    right table (c.in_ok-floors.ensures.floors honest table) (is_ok c.in_ok-adds_up.field-0 c.if-branch.true) in
    right_sound graph IsWide stored table added

pub returns-then-branch-clause-so : goal.returns-then-branch-clause-so
returns-then-branch-clause-so g c = λ honest table is.
    let h1 = c.in_ok-floors.ensures.read.honest.0 honest in
    let stored = g.T.Table.stored c.args.table.now in
    let graph = g.M.GameGraph.graph c.args.source.now in
    let IsWide = g.M.GameGraph.is_wide c.args.source.now in
    let right = subst (λ (t : Stored (List ℕ)). IsTable t → AreFloors t (length t.order) c.in_ok-floors.floors.items
    → ◌≡◌ {A = Result Bool AuditFault} (Ok c.in_ok-adds_up.field-0) (Ok true) → IsAnswer graph IsWide t Right)
    (c.in_ok-floors.ensures.read.same honest) (rw c.deref.ensures.value at c.in_ok-adds_up.ensures.right h1) in
    let added : IsAnswer graph IsWide stored Right =
    right table (c.in_ok-floors.ensures.floors honest table) (is_ok c.in_ok-adds_up.field-0 c.if-branch.true) in
    right_so graph IsWide stored table added

pub returns-clause-answer : goal.returns-clause-answer
returns-clause-answer g c = λ honest table.
    let h1 = c.in_ok-floors.ensures.read.honest.0 honest in
    let h2 = c.in_ok-adds_up.ensures.read.honest.0 h1 in
    let h3 = c.in_ok-arrivals.ensures.read.honest.0 h2 in
    let graph = g.M.GameGraph.graph c.args.source.now in
    let IsWide = g.M.GameGraph.is_wide c.args.source.now in
    let stored = g.T.Table.stored c.args.table.now in
    let same2 = c.in_ok-adds_up.ensures.read.same h1 ∙ c.in_ok-floors.ensures.read.same honest in
    let arrivals = subst (λ (t : Stored (List ℕ)). IsTable t → AreArrivals graph t (expanded_count t) c.in_ok-arrivals.arrivals.items) same2
    (c.in_ok-arrivals.ensures.arrivals h2) in
    let answer = subst (λ (t : Stored (List ℕ)). IsTable t → AreFloors t (length t.order) c.in_ok-floors.floors.items
    → AreArrivals graph t (expanded_count t) c.in_ok-arrivals.arrivals.items → IfOk c.first_wrong.result (IsAnswer graph IsWide t))
    (c.in_ok-arrivals.ensures.read.same h2 ∙ same2) (rw (c.deref-2.ensures.value, c.deref-3.ensures.value) at c.first_wrong.ensures.answer h3) in
    answer table (c.in_ok-floors.ensures.floors honest table) (arrivals table)

pub returns-clause-sound : goal.returns-clause-sound
returns-clause-sound g c = λ honest table is.
    let h1 = c.in_ok-floors.ensures.read.honest.0 honest in
    let h2 = c.in_ok-adds_up.ensures.read.honest.0 h1 in
    let h3 = c.in_ok-arrivals.ensures.read.honest.0 h2 in
    let graph = g.M.GameGraph.graph c.args.source.now in
    let IsWide = g.M.GameGraph.is_wide c.args.source.now in
    let stored = g.T.Table.stored c.args.table.now in
    let same2 = c.in_ok-adds_up.ensures.read.same h1 ∙ c.in_ok-floors.ensures.read.same honest in
    let arrivals = subst (λ (t : Stored (List ℕ)). IsTable t → AreArrivals graph t (expanded_count t) c.in_ok-arrivals.arrivals.items) same2
    (c.in_ok-arrivals.ensures.arrivals h2) in
    let answer = subst (λ (t : Stored (List ℕ)). IsTable t → AreFloors t (length t.order) c.in_ok-floors.floors.items
    → AreArrivals graph t (expanded_count t) c.in_ok-arrivals.arrivals.items → IfOk c.first_wrong.result (IsAnswer graph IsWide t))
    (c.in_ok-arrivals.ensures.read.same h2 ∙ same2) (rw (c.deref-2.ensures.value, c.deref-3.ensures.value) at c.first_wrong.ensures.answer h3) in
    right_sound graph IsWide stored table (rw is at answer table (c.in_ok-floors.ensures.floors honest table) (arrivals table))

pub returns-clause-so : goal.returns-clause-so
returns-clause-so g c = λ honest table is.
    let h1 = c.in_ok-floors.ensures.read.honest.0 honest in
    let h2 = c.in_ok-adds_up.ensures.read.honest.0 h1 in
    let h3 = c.in_ok-arrivals.ensures.read.honest.0 h2 in
    let graph = g.M.GameGraph.graph c.args.source.now in
    let IsWide = g.M.GameGraph.is_wide c.args.source.now in
    let stored = g.T.Table.stored c.args.table.now in
    let same2 = c.in_ok-adds_up.ensures.read.same h1 ∙ c.in_ok-floors.ensures.read.same honest in
    let arrivals = subst (λ (t : Stored (List ℕ)). IsTable t → AreArrivals graph t (expanded_count t) c.in_ok-arrivals.arrivals.items) same2
    (c.in_ok-arrivals.ensures.arrivals h2) in
    let answer = subst (λ (t : Stored (List ℕ)). IsTable t → AreFloors t (length t.order) c.in_ok-floors.floors.items
    → AreArrivals graph t (expanded_count t) c.in_ok-arrivals.arrivals.items → IfOk c.first_wrong.result (IsAnswer graph IsWide t))
    (c.in_ok-arrivals.ensures.read.same h2 ∙ same2) (rw (c.deref-2.ensures.value, c.deref-3.ensures.value) at c.first_wrong.ensures.answer h3) in
    right_so graph IsWide stored table (rw is at answer table (c.in_ok-floors.ensures.floors honest table) (arrivals table))

pub returns-in_err-arrivals-clause-read : goal.returns-in_err-arrivals-clause-read
returns-in_err-arrivals-clause-read g c =
    read_then g.met.T.Table.stays_then
    (read_then g.met.T.Table.stays_then c.in_ok-floors.ensures.read c.in_ok-adds_up.ensures.read)
    c.in_err-arrivals.ensures.read

pub returns-clause-read : goal.returns-clause-read
returns-clause-read g c =
    read_then g.met.T.Table.stays_then
    (read_then g.met.T.Table.stays_then (read_then g.met.T.Table.stays_then c.in_ok-floors.ensures.read c.in_ok-adds_up.ensures.read)
    c.in_ok-arrivals.ensures.read)
    c.first_wrong.ensures.read

pub returns-in_err-floors-clause-err : goal.returns-in_err-floors-clause-err
returns-in_err-floors-clause-err g c =
    passed_on _ c.from_residual.result _ c.from_residual.ensures (since (λ none. absurd none) (λ f why. why) c.in_err-floors.ensures.err)

pub returns-in_err-adds_up-clause-err : goal.returns-in_err-adds_up-clause-err
returns-in_err-adds_up-clause-err g c =
    passed_on _ c.from_residual-in_err-adds_up.result _ c.from_residual-in_err-adds_up.ensures
    (cause_since g.met.T.Table.stays_goes_on g.met.T.Table.fails_since c.in_ok-floors.ensures.read c.in_err-adds_up.ensures.err)

pub returns-in_err-arrivals-clause-err : goal.returns-in_err-arrivals-clause-err
returns-in_err-arrivals-clause-err g c =
    passed_on _ c.from_residual-in_err-arrivals.result _ c.from_residual-in_err-arrivals.ensures
    (cause_since g.met.T.Table.stays_goes_on g.met.T.Table.fails_since
    (read_then g.met.T.Table.stays_then c.in_ok-floors.ensures.read c.in_ok-adds_up.ensures.read) c.in_err-arrivals.ensures.err)

pub returns-clause-err : goal.returns-clause-err
returns-clause-err g c =
    fault_then c.first_wrong.result
    (λ f why. cause_since g.met.T.Table.stays_goes_on g.met.T.Table.fails_since
    (read_then g.met.T.Table.stays_then (read_then g.met.T.Table.stays_then c.in_ok-floors.ensures.read c.in_ok-adds_up.ensures.read)
    c.in_ok-arrivals.ensures.read) why) c.first_wrong.ensures.err
