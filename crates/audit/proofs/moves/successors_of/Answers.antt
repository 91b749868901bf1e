use Rattle.legal_moves.specs.declared.fault.MoveFault.{MoveFault}
use Rattle.table.proofs.Exits.{passed_on}
use Rattle.audit.proofs.Exits.{of_search, since, table_since}
use Rattle.std.proofs.Common.{◌≡◌, ◌∙◌, ◌↔◌, rules, subst, ℕ, List, true, false, All, ap, refl, Err}
use Rattle.std.specs.List.{AllZip}
use Rattle.retrograde.specs.Stored.{Stored, HasRecord}
use Rattle.table.specs.Memory.{bytes_of_each}
use Rattle.audit.proofs.MoveLemmas.{unknown_fails, no_edge_fails, not_counted, counted}
use Rattle.table.proofs.Frames.{read_then}
use Rattle.audit.proofs.moves.successors_of.Goals as goal

pub returns-in_default-clause-fails : goal.returns-in_default-clause-fails
returns-in_default-clause-fails g c = λ honest table has.
    let (y, here, unknown) = rw (c.in_default.is, c.deref.ensures.value) at c.in_ok-numbers.ensures.unknown honest in
    unknown_fails (g.M.GameGraph.graph c.args.source.now) (g.T.Table.stored c.args.table.now) c.args.number c.args.at.now.items
    (bytes_of_each c.in_ok-found.found.items)
    c.in_ok-found.ensures.exact y here unknown

pub returns-then-not-branch-clause-fails : goal.returns-then-not-branch-clause-fails
returns-then-not-branch-clause-fails g c = λ honest table has.
    let h = c.in_ok-numbers.ensures.read.honest.0 honest in
    let stored = g.T.Table.stored c.args.table.now in
    let numbers = rw (c.in-Some.is, c.deref.ensures.value) at c.in_ok-numbers.ensures.numbers honest in
    let same = c.in_ok-numbers.ensures.read.same honest in
    let all = subst (λ (t : Stored (List ℕ)). (c.in_ok-has_edges.field-0 ≡ true) ↔ All (λ j. t.has_edge j c.args.number ≡ true) c.in-Some.numbers.items) same
    (rw c.deref-2.ensures.value at c.in_ok-has_edges.ensures.all h) in
    no_edge_fails (g.M.GameGraph.graph c.args.source.now) stored c.args.number c.args.at.now.items (bytes_of_each c.in_ok-found.found.items)
    c.in_ok-found.ensures.exact table c.in-Some.numbers.items numbers (λ edges. let passes : c.in_ok-has_edges.field-0 ≡ true = all.1 edges in search rules)

pub returns-then-is_counted-clause-records : goal.returns-then-is_counted-clause-records
returns-then-is_counted-clause-records g c = λ honest table has.
    let h = c.in_ok-numbers.ensures.read.honest.0 honest in
    let h2 = c.in_ok-has_edges.ensures.read.honest.0 h in
    let stored = g.T.Table.stored c.args.table.now in
    let numbers = rw (c.in-Some.is, c.deref.ensures.value) at c.in_ok-numbers.ensures.numbers honest in
    let same = c.in_ok-numbers.ensures.read.same honest in
    let same2 = c.in_ok-has_edges.ensures.read.same h ∙ same in
    let all = subst (λ (t : Stored (List ℕ)). (c.in_ok-has_edges.field-0 ≡ true) ↔ All (λ j. t.has_edge j c.args.number ≡ true) c.in-Some.numbers.items) same
    (rw c.deref-2.ensures.value at c.in_ok-has_edges.ensures.all h) in
    let zip = subst (λ (t : Stored (List ℕ)). AllZip (HasRecord t) c.in-Some.numbers.items c.in_ok-records.records.items) same2
    (rw c.deref-3.ensures.value at c.in_ok-records.ensures.records h2) in
    let facts = rw (c.deref-4.ensures.value, c.mover.ensures) at c.is_counted.ensures in
    let there : c.in_ok-has_edges.field-0 ≡ true = search rules in
    counted (g.M.GameGraph.graph c.args.source.now) stored c.args.number c.args.at.now.items (bytes_of_each c.in_ok-found.found.items)
    c.in_ok-found.ensures.exact table c.in-Some.numbers.items numbers c.in_ok-records.records.items zip c.args.kept has (all.0 there)
    (facts.0 c.if-is_counted.true)

pub returns-clause-fails : goal.returns-clause-fails
returns-clause-fails g c = λ honest table has.
    let h = c.in_ok-numbers.ensures.read.honest.0 honest in
    let h2 = c.in_ok-has_edges.ensures.read.honest.0 h in
    let stored = g.T.Table.stored c.args.table.now in
    let numbers = rw (c.in-Some.is, c.deref.ensures.value) at c.in_ok-numbers.ensures.numbers honest in
    let same2 = c.in_ok-has_edges.ensures.read.same h ∙ c.in_ok-numbers.ensures.read.same honest in
    let zip = subst (λ (t : Stored (List ℕ)). AllZip (HasRecord t) c.in-Some.numbers.items c.in_ok-records.records.items) same2
    (rw c.deref-3.ensures.value at c.in_ok-records.ensures.records h2) in
    let facts = rw (c.deref-4.ensures.value, c.mover.ensures) at c.is_counted.ensures in
    not_counted (g.M.GameGraph.graph c.args.source.now) stored c.args.number c.args.at.now.items (bytes_of_each c.in_ok-found.found.items)
    c.in_ok-found.ensures.exact table c.in-Some.numbers.items numbers c.in_ok-records.records.items zip c.args.kept has
    (λ are. let passes : c.is_counted.result ≡ true = facts.1 are in let fails : c.is_counted.result ≡ false = c.if-is_counted.false in cc)

pub returns-in_err-found-clause-err : goal.returns-in_err-found-clause-err
returns-in_err-found-clause-err g c =
    passed_on _ c.from_residual.result _ c.from_residual.ensures (of_search _ (λ is. c.in_err-found.ensures.wide (ap (λ (f : MoveFault). Err f) is)))

pub returns-in_err-numbers-clause-err : goal.returns-in_err-numbers-clause-err
returns-in_err-numbers-clause-err g c =
    passed_on _ c.from_residual-in_err-numbers.result _ c.from_residual-in_err-numbers.ensures
    (since (λ none. absurd none)
    (λ fault fails. fails)
    c.in_err-numbers.ensures.err)

pub returns-in_err-has_edges-clause-read : goal.returns-in_err-has_edges-clause-read
returns-in_err-has_edges-clause-read g c = read_then g.met.T.Table.stays_then c.in_ok-numbers.ensures.read c.in_err-has_edges.ensures.read

pub returns-in_err-has_edges-clause-err : goal.returns-in_err-has_edges-clause-err
returns-in_err-has_edges-clause-err g c = table_since g.met.T.Table.stays_goes_on g.met.T.Table.fails_since
    c.in_ok-numbers.ensures.read
    _ c.from_residual-in_err-has_edges.result c.from_residual-in_err-has_edges.ensures c.in_err-has_edges.ensures.room c.in_err-has_edges.ensures.fault

pub returns-in_err-records-clause-read : goal.returns-in_err-records-clause-read
returns-in_err-records-clause-read g c =
    read_then g.met.T.Table.stays_then
    (read_then g.met.T.Table.stays_then c.in_ok-numbers.ensures.read c.in_ok-has_edges.ensures.read) c.in_err-records.ensures.read

pub returns-in_err-records-clause-err : goal.returns-in_err-records-clause-err
returns-in_err-records-clause-err g c =
    passed_on _ c.from_residual-in_err-records.result _ c.from_residual-in_err-records.ensures
    (since (λ none. absurd none)
    (λ fault. g.met.T.Table.fails_since _ _ _ fault
    (g.met.T.Table.stays_goes_on _ _ (g.met.T.Table.stays_then _ _ _ c.in_ok-numbers.ensures.read.stays c.in_ok-has_edges.ensures.read.stays)))
    c.in_err-records.ensures.err)

pub returns-then-not-branch-clause-read : goal.returns-then-not-branch-clause-read
returns-then-not-branch-clause-read g c = read_then g.met.T.Table.stays_then c.in_ok-numbers.ensures.read c.in_ok-has_edges.ensures.read

pub returns-then-is_counted-clause-read : goal.returns-then-is_counted-clause-read
returns-then-is_counted-clause-read g c =
    read_then g.met.T.Table.stays_then
    (read_then g.met.T.Table.stays_then c.in_ok-numbers.ensures.read c.in_ok-has_edges.ensures.read) c.in_ok-records.ensures.read

pub returns-clause-read : goal.returns-clause-read
returns-clause-read g c =
    read_then g.met.T.Table.stays_then
    (read_then g.met.T.Table.stays_then c.in_ok-numbers.ensures.read c.in_ok-has_edges.ensures.read) c.in_ok-records.ensures.read

pub returns-in_default-clause-narrow : goal.returns-in_default-clause-narrow
returns-in_default-clause-narrow g c =
    λ ok. c.in_ok-found.ensures.narrow refl

pub returns-then-not-branch-clause-narrow : goal.returns-then-not-branch-clause-narrow
returns-then-not-branch-clause-narrow g c =
    λ ok. c.in_ok-found.ensures.narrow refl

pub returns-then-is_counted-clause-narrow : goal.returns-then-is_counted-clause-narrow
returns-then-is_counted-clause-narrow g c =
    λ ok. c.in_ok-found.ensures.narrow refl

pub returns-clause-narrow : goal.returns-clause-narrow
returns-clause-narrow g c =
    λ ok. c.in_ok-found.ensures.narrow refl
