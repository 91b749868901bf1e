use Rattle.table.proofs.Exits.{passed_on}
use Rattle.audit.proofs.Exits.{since, table_since}
use Rattle.std.proofs.Common.{◌≡◌, ◌∙◌, ◌↔◌, sym, subst, rules, ℕ, List, true, ◌<◌}
use Rattle.std.proofs.lemmas.Option.{same_Some}
use Rattle.retrograde.specs.Audit.{IsReached}
use Rattle.retrograde.specs.Stored.{Stored, IsTable, HasRecord, expanded_count}
use Rattle.audit.specs.lemmas.Conditions.{IsLowest, IsFloor, own_condition}
use Rattle.table.proofs.Frames.{read_then}
use Rattle.audit.proofs.number.own_failing.Goals as goal

pub returns-clause-lowest : goal.returns-clause-lowest
returns-clause-lowest g c = λ honest table floor x at.
    let h1 = c.in_ok-at.ensures.read.honest.0 honest in
    let h2 = c.in_ok-kept.ensures.read.honest.0 h1 in
    let h3 = c.in_ok-is_reached.ensures.read.honest.0 h2 in
    let same1 = c.in_ok-at.ensures.read.same honest in
    let same2 = c.in_ok-kept.ensures.read.same h1 ∙ same1 in
    let same3 = c.in_ok-is_reached.ensures.read.same h2 ∙ same2 in
    let graph = g.M.GameGraph.graph c.args.source.now in
    let stored = g.T.Table.stored c.args.table.now in
    let y = c.in_ok-at.at.items in
    let here : y ≡ x = same_Some y x (sym (c.in_ok-at.ensures.position honest) ∙ at) in
    let has = subst (λ (t : Stored (List ℕ)). HasRecord t c.args.number c.in_ok-kept.kept) same1 (c.in_ok-kept.ensures.record h1) in
    let there : c.in_ok-is_reached.field-0 ≡ true = search rules in
    let reached = subst (λ (t : Stored (List ℕ)). (c.in_ok-is_reached.field-0 ≡ true) ↔ IsReached graph t c.args.number y) same2
    (c.in_ok-is_reached.ensures.reached h2) in
    let lowest = subst (λ (t : Stored (List ℕ)). IsTable t → HasRecord t c.args.number c.in_ok-kept.kept → IsFloor t c.args.number c.args.floor
    → IsReached graph t c.args.number y → IsLowest (own_condition graph t c.args.number y) c.in_ok-reason.reason) same3 (c.in_ok-reason.ensures.lowest h3) in
    subst (λ (z : List ℕ). IsLowest (own_condition graph stored c.args.number z) c.in_ok-reason.reason) here (lowest table has floor (reached.0 there))

pub returns-in_err-kept-clause-err : goal.returns-in_err-kept-clause-err
returns-in_err-kept-clause-err g c = table_since g.met.T.Table.stays_goes_on g.met.T.Table.fails_since
    c.in_ok-at.ensures.read _ c.from_residual-in_err-kept.result c.from_residual-in_err-kept.ensures c.in_err-kept.ensures.room c.in_err-kept.ensures.fault

pub returns-in_err-is_reached-clause-read : goal.returns-in_err-is_reached-clause-read
returns-in_err-is_reached-clause-read g c =
    read_then g.met.T.Table.stays_then
    (read_then g.met.T.Table.stays_then c.in_ok-at.ensures.read c.in_ok-kept.ensures.read)
    c.in_err-is_reached.ensures.read

pub returns-in_err-is_reached-clause-err : goal.returns-in_err-is_reached-clause-err
returns-in_err-is_reached-clause-err g c = table_since g.met.T.Table.stays_goes_on g.met.T.Table.fails_since
    (read_then g.met.T.Table.stays_then c.in_ok-at.ensures.read c.in_ok-kept.ensures.read)
    _ c.from_residual-in_err-is_reached.result c.from_residual-in_err-is_reached.ensures c.in_err-is_reached.ensures.room c.in_err-is_reached.ensures.fault

pub returns-in_err-reason-clause-read : goal.returns-in_err-reason-clause-read
returns-in_err-reason-clause-read g c =
    read_then g.met.T.Table.stays_then
    (read_then g.met.T.Table.stays_then (read_then g.met.T.Table.stays_then c.in_ok-at.ensures.read c.in_ok-kept.ensures.read)
    c.in_ok-is_reached.ensures.read)
    c.in_err-reason.ensures.read

pub returns-in_err-reason-clause-err : goal.returns-in_err-reason-clause-err
returns-in_err-reason-clause-err g c =
    passed_on _ c.from_residual-in_err-reason.result _ c.from_residual-in_err-reason.ensures
    (since (λ wide honest.
    let h1 = c.in_ok-at.ensures.read.honest.0 honest in
    let h2 = c.in_ok-kept.ensures.read.honest.0 h1 in
    let same = c.in_ok-is_reached.ensures.read.same h2 ∙ (c.in_ok-kept.ensures.read.same h1 ∙ c.in_ok-at.ensures.read.same honest) in
    let it = wide (c.in_ok-is_reached.ensures.read.honest.0 h2) in
    let within = subst (λ (t : Stored (List ℕ)). c.args.number < expanded_count t) same it.0 in
    (c.args.number, c.in_ok-at.at.items, c.in_ok-at.ensures.position honest, within, it.1))
    (λ fault. g.met.T.Table.fails_since _ _ _ fault
    (g.met.T.Table.stays_goes_on _ _
    (g.met.T.Table.stays_then _ _ _ (g.met.T.Table.stays_then _ _ _ c.in_ok-at.ensures.read.stays c.in_ok-kept.ensures.read.stays)
    c.in_ok-is_reached.ensures.read.stays)))
    c.in_err-reason.ensures.err)

pub returns-then-not-branch-clause-read : goal.returns-then-not-branch-clause-read
returns-then-not-branch-clause-read g c =
    read_then g.met.T.Table.stays_then (read_then g.met.T.Table.stays_then c.in_ok-at.ensures.read c.in_ok-kept.ensures.read) c.in_ok-is_reached.ensures.read

pub returns-clause-read : goal.returns-clause-read
returns-clause-read g c =
    read_then g.met.T.Table.stays_then
    (read_then g.met.T.Table.stays_then (read_then g.met.T.Table.stays_then c.in_ok-at.ensures.read c.in_ok-kept.ensures.read)
    c.in_ok-is_reached.ensures.read)
    c.in_ok-reason.ensures.read
