use Rattle.std.proofs.Common.{◌≡◌, ◌∙◌, ◌≤◌, ◌<◌, ◌^◌, ap, Err, length, arith}
use Rattle.retrograde.specs.declared.records.Counts.{Counts}
use Rattle.retrograde.specs.Stored.{expanded_count, processed_count}
use Rattle.retrograde.specs.Sound.{IsLocallySound}
use Rattle.retrograde.proofs.Finished.{element}
use Rattle.settle.proofs.SettleLemmas.{IsDone, done_from, fits_from, never_stuck_from}
use Rattle.frontier.specs.declared.fault.StepFault.{StepFault}
use Rattle.table.proofs.Exits.{passed_on}
use Rattle.frontier.proofs.Frames.{in_conflict, given_up_since}
use Rattle.frontier.proofs.Units.{none_left, stopped}
use Rattle.settle.proofs.Pages.{marking_full, processing_takes, processing_full}
use Rattle.settle.proofs.settle.settle_one.Goals as goal

pub returns-in_err-next-clause-err : goal.returns-in_err-next-clause-err
returns-in_err-next-clause-err g c =
    passed_on _ c.from_residual.result _ c.from_residual.ensures
    (stopped c.in_err-next.ensures.err
    (λ honest sound is. c.in_err-next.ensures.consistent honest sound.table (ap (λ (f : StepFault). Err f) is))
    (λ honest is.
    let counts = g.met.T.Table.counts_are c.args.table.now honest in
    let all : expanded_count (g.T.Table.stored c.args.table.now) ≡ length (g.T.Table.stored c.args.table.now).positions =
    omega (arith, ap (λ (k : Counts). k.expanded) counts, ap (λ (k : Counts). k.known) counts, c.requires.expanded) in
    let within : processed_count (g.T.Table.stored c.args.table.now) < length (g.T.Table.stored c.args.table.now).order =
    omega (arith, ap (λ (k : Counts). k.processed) counts, ap (λ (k : Counts). k.settled) counts, c.requires.waiting) in
    let (s, place) = element (g.T.Table.stored c.args.table.now).order (processed_count (g.T.Table.stored c.args.table.now)) within in
    let none = g.met.T.Table.full_free _ _ (none_left _ _ c.in_err-next.ensures.err.left is) in
    marking_full (g.M.GameGraph.graph c.args.source.now) (g.T.Table.stored c.args.table.now) s place all _ _ c.in_err-next.ensures.takes none))

pub returns-in_err-lower_all-clause-err : goal.returns-in_err-lower_all-clause-err
returns-in_err-lower_all-clause-err g c =
    passed_on _ c.from_residual-in_err-lower_all.result _ c.from_residual-in_err-lower_all.ensures
    (stopped
    (given_up_since g.met.T.Table.goes_on_then g.met.T.Table.fails_since c.in_ok-next.ensures.ok.ahead c.in_err-lower_all.ensures.err)
    (λ honest sound is.
    let counts = g.met.T.Table.counts_are c.args.table.now honest in
    let few : length (g.T.Table.stored c.args.table.now).positions ≤ 2 ^ 24 = omega (arith, ap (λ (k : Counts). k.known) counts, c.requires.limit) in
    let (p, stuck) = c.in_err-lower_all.ensures.stuck (c.in_ok-next.ensures.ok.honest.0 honest) (ap (λ (f : StepFault). Err f) is) in
    never_stuck_from (g.M.GameGraph.graph c.args.source.now) (g.M.GameGraph.is_wide c.args.source.now) (g.T.Table.stored c.args.table.now) sound
    c.in_ok-next.next.number c.in_ok-next.next.kept c.in_ok-next.next.winner (c.in_ok-next.ensures.marked honest).next few
    (g.T.Table.stored c.process_next.new.table) (c.in_ok-next.ensures.marked honest).marked p stuck)
    (λ honest is.
    let counts = g.met.T.Table.counts_are c.args.table.now honest in
    let all : expanded_count (g.T.Table.stored c.args.table.now) ≡ length (g.T.Table.stored c.args.table.now).positions =
    omega (arith, ap (λ (k : Counts). k.expanded) counts, ap (λ (k : Counts). k.known) counts, c.requires.expanded) in
    let none = g.met.T.Table.full_free _ _ (none_left _ _ c.in_err-lower_all.ensures.err.left is) in
    processing_full (g.M.GameGraph.graph c.args.source.now) (g.T.Table.stored c.args.table.now) c.in_ok-next.next.number
    (c.in_ok-next.ensures.marked honest).next.place all c.in_ok-next.next.kept (g.T.Table.stored c.process_next.new.table)
    (c.in_ok-next.ensures.marked honest).marked _ _ _
    c.in_ok-next.ensures.takes (c.in_err-lower_all.ensures.takes (c.in_ok-next.ensures.ok.honest.0 honest)) none))

pub returns-then-settled-before-clause-err : goal.returns-then-settled-before-clause-err
returns-then-settled-before-clause-err g c =
    stopped (in_conflict (g.met.T.Table.goes_on_then _ _ _ c.in_ok-next.ensures.ok.ahead c.in_ok-lower_all.ensures.ok.ahead))
    (λ honest sound is.
    let counts = g.met.T.Table.counts_are c.args.table.now honest in
    let few : length (g.T.Table.stored c.args.table.now).positions ≤ 2 ^ 24 = omega (arith, ap (λ (k : Counts). k.known) counts, c.requires.limit) in
    let full : expanded_count (g.T.Table.stored c.args.table.now) ≡ length (g.T.Table.stored c.args.table.now).positions =
    omega (arith, ap (λ (k : Counts). k.expanded) counts, ap (λ (k : Counts). k.known) counts, c.requires.expanded) in
    let h = c.in_ok-next.ensures.ok.honest.0 honest in
    let done = done_from (g.M.GameGraph.graph c.args.source.now) (g.M.GameGraph.is_wide c.args.source.now) (g.T.Table.stored c.args.table.now) sound
    c.in_ok-next.next.number c.in_ok-next.next.kept c.in_ok-next.next.winner (c.in_ok-next.ensures.marked honest).next full few
    (g.T.Table.stored c.process_next.new.table) (g.T.Table.stored c.lower_all.new.table) (c.in_ok-next.ensures.marked honest).marked
    (c.in_ok-lower_all.ensures.lowered h) in
    let after = c.counts-settled.ensures ∙ g.met.T.Table.counts_are c.lower_all.new.table (c.in_ok-lower_all.ensures.ok.honest.0 h) in
    omega (
      arith,
      done.longer,
      ap (λ (k : Counts). k.settled) (c.counts-before.ensures ∙ counts),
      ap (λ (k : Counts). k.settled) after,
      c.if-settled-before.true,
    ))
    (λ honest is. absurd (cc))

pub returns-clause-settled : goal.returns-clause-settled
returns-clause-settled g c =
    let it : (honest : g.T.Table.is_honest c.args.table.now)
    (sound : IsLocallySound (g.M.GameGraph.graph c.args.source.now) (g.M.GameGraph.is_wide c.args.source.now) (g.T.Table.stored c.args.table.now))
    → IsDone (g.M.GameGraph.graph c.args.source.now) (g.M.GameGraph.is_wide c.args.source.now) (g.T.Table.stored c.args.table.now) sound
    c.in_ok-next.next.number c.in_ok-next.next.kept c.in_ok-next.next.winner (c.in_ok-next.ensures.marked honest).next (g.T.Table.stored c.lower_all.new.table)
    = λ honest sound.
    let counts = g.met.T.Table.counts_are c.args.table.now honest in
    let few : length (g.T.Table.stored c.args.table.now).positions ≤ 2 ^ 24 = omega (arith, ap (λ (k : Counts). k.known) counts, c.requires.limit) in
    let full : expanded_count (g.T.Table.stored c.args.table.now) ≡ length (g.T.Table.stored c.args.table.now).positions =
    omega (arith, ap (λ (k : Counts). k.expanded) counts, ap (λ (k : Counts). k.known) counts, c.requires.expanded) in
    done_from (g.M.GameGraph.graph c.args.source.now) (g.M.GameGraph.is_wide c.args.source.now) (g.T.Table.stored c.args.table.now) sound
    c.in_ok-next.next.number c.in_ok-next.next.kept c.in_ok-next.next.winner (c.in_ok-next.ensures.marked honest).next full few
    (g.T.Table.stored c.process_next.new.table) (g.T.Table.stored c.lower_all.new.table) (c.in_ok-next.ensures.marked honest).marked
    (c.in_ok-lower_all.ensures.lowered (c.in_ok-next.ensures.ok.honest.0 honest)) in
    λ honest. record {
      newly =
          let before = ap (λ (k : Counts). k.settled) (c.counts-before.ensures ∙ g.met.T.Table.counts_are c.args.table.now honest) in
          let h = c.in_ok-lower_all.ensures.ok.honest.0 (c.in_ok-next.ensures.ok.honest.0 honest) in
          let after = ap (λ (k : Counts). k.settled) (c.counts-settled.ensures ∙ g.met.T.Table.counts_are c.lower_all.new.table h) in
          omega (arith, before, after, c.if-settled-before.false);
      settles = λ sound. (_, _, _, (it honest sound).settles);
    }

pub returns-clause-worked : goal.returns-clause-worked
returns-clause-worked g c =
    let it : (honest : g.T.Table.is_honest c.args.table.now)
    (sound : IsLocallySound (g.M.GameGraph.graph c.args.source.now) (g.M.GameGraph.is_wide c.args.source.now) (g.T.Table.stored c.args.table.now))
    → IsDone (g.M.GameGraph.graph c.args.source.now) (g.M.GameGraph.is_wide c.args.source.now) (g.T.Table.stored c.args.table.now) sound
    c.in_ok-next.next.number c.in_ok-next.next.kept c.in_ok-next.next.winner (c.in_ok-next.ensures.marked honest).next (g.T.Table.stored c.lower_all.new.table)
    = λ honest sound.
    let counts = g.met.T.Table.counts_are c.args.table.now honest in
    let few : length (g.T.Table.stored c.args.table.now).positions ≤ 2 ^ 24 = omega (arith, ap (λ (k : Counts). k.known) counts, c.requires.limit) in
    let full : expanded_count (g.T.Table.stored c.args.table.now) ≡ length (g.T.Table.stored c.args.table.now).positions =
    omega (arith, ap (λ (k : Counts). k.expanded) counts, ap (λ (k : Counts). k.known) counts, c.requires.expanded) in
    done_from (g.M.GameGraph.graph c.args.source.now) (g.M.GameGraph.is_wide c.args.source.now) (g.T.Table.stored c.args.table.now) sound
    c.in_ok-next.next.number c.in_ok-next.next.kept c.in_ok-next.next.winner (c.in_ok-next.ensures.marked honest).next full few
    (g.T.Table.stored c.process_next.new.table) (g.T.Table.stored c.lower_all.new.table) (c.in_ok-next.ensures.marked honest).marked
    (c.in_ok-lower_all.ensures.lowered (c.in_ok-next.ensures.ok.honest.0 honest)) in
    λ honest. record {
      fits = λ table.
          let counts = g.met.T.Table.counts_are c.args.table.now honest in
          let full : expanded_count (g.T.Table.stored c.args.table.now) ≡ length (g.T.Table.stored c.args.table.now).positions =
          omega (arith, ap (λ (k : Counts). k.expanded) counts, ap (λ (k : Counts). k.known) counts, c.requires.expanded) in
          fits_from (g.M.GameGraph.graph c.args.source.now) (g.T.Table.stored c.args.table.now) table full
          c.in_ok-next.next.number c.in_ok-next.next.kept c.in_ok-next.next.winner (c.in_ok-next.ensures.marked honest).next
          (g.T.Table.stored c.process_next.new.table) (g.T.Table.stored c.lower_all.new.table) (c.in_ok-next.ensures.marked honest).marked
          (c.in_ok-lower_all.ensures.lowered (c.in_ok-next.ensures.ok.honest.0 honest));
      done = λ sound. (it honest sound).unit;
      takes =
          let counts = g.met.T.Table.counts_are c.args.table.now honest in
          let all : expanded_count (g.T.Table.stored c.args.table.now) ≡ length (g.T.Table.stored c.args.table.now).positions =
          omega (arith, ap (λ (k : Counts). k.expanded) counts, ap (λ (k : Counts). k.known) counts, c.requires.expanded) in
          processing_takes (g.M.GameGraph.graph c.args.source.now) (g.T.Table.stored c.args.table.now) c.in_ok-next.next.number
          (c.in_ok-next.ensures.marked honest).next.place all c.in_ok-next.next.kept (g.T.Table.stored c.process_next.new.table)
          (c.in_ok-next.ensures.marked honest).marked _ _ _
          c.in_ok-next.ensures.takes (c.in_ok-lower_all.ensures.takes (c.in_ok-next.ensures.ok.honest.0 honest));
    }
