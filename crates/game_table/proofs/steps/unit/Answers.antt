use Rattle.std.proofs.Common.{◌≡◌, ◌∙◌, ◌≤◌, ap, length, refl, arith}
use Rattle.std.proofs.lemmas.List.Sums.{count_by-le-length}
use Rattle.retrograde.specs.declared.records.Counts.{Counts}
use Rattle.retrograde.specs.declared.records.Record.{Record}
use Rattle.retrograde.specs.Stored.{expanded_count, is_expanded}
use Rattle.table.proofs.Frames.{unread, as_written}
use Rattle.frontier.proofs.Frames.{as_grown, in_conflict}
use Rattle.frontier.proofs.Units.{stopped}
use Rattle.game_table.proofs.WorkLemmas.{is_finished, on_refusal, unlike_is_unfinished, unprocessed_is_unfinished}
use Rattle.game_table.specs.Units.{expands, settles}
use Rattle.game_table.proofs.steps.unit.Goals as goal

pub returns-then-counts-clause-tried : goal.returns-then-counts-clause-tried
returns-then-counts-clause-tried g c = λ honest.
    let it = c.in_ok-expand_one.ensures.worked honest in record {
      fits = it.fits;
      sound = λ sound. (it.done sound).sound;
      one = λ sound done. (it.done sound).step;
      exact = λ sound done. let (x, ys, is) = (c.in_ok-expand_one.ensures.expanded honest).expands sound in expands is;
      takes = λ done. it.takes;
      finished = λ sound none. absurd (cc);
    }

pub returns-then-counts-3-clause-tried : goal.returns-then-counts-3-clause-tried
returns-then-counts-3-clause-tried g c = λ honest.
    let it = c.in_ok-settle_one.ensures.worked honest in
    let counts = c.counts-counts.ensures ∙ g.met.T.Table.counts_are c.args.table.now honest in
    let all : expanded_count (g.T.Table.stored c.args.table.now) ≡ length (g.T.Table.stored c.args.table.now).positions =
    omega (arith, ap (λ (k : Counts). k.expanded) counts, ap (λ (k : Counts). k.known) counts, c.if-counts.false, c.if-counts-2.false) in record {
      fits = it.fits;
      sound = λ sound. (it.done sound).sound;
      one = λ sound done. (it.done sound).step;
      exact = λ sound done. let (s, r, w, is) = (c.in_ok-settle_one.ensures.settled honest).settles sound in settles all is;
      takes = λ done. it.takes;
      finished = λ sound none. absurd (cc);
    }

pub returns-clause-tried : goal.returns-clause-tried
returns-clause-tried g c = λ honest. record {
  fits = λ table. table;
  sound = λ sound. sound;
  one = λ sound done. absurd (cc);
  exact = λ sound done. absurd (cc);
  takes = λ done. absurd (cc);
  finished = λ sound none. (
    refl,
    is_finished (g.T.Table.stored c.args.table.now) c.counts-counts.result (c.counts-counts.ensures ∙ g.met.T.Table.counts_are c.args.table.now honest)
        sound.table c.if-counts.false c.if-counts-2.false c.if-counts-3.false,
  );
}

pub returns-then-counts-2-clause-err : goal.returns-then-counts-2-clause-err
returns-then-counts-2-clause-err g c =
    stopped (in_conflict (g.met.T.Table.stays_goes_on _ _ (g.met.T.Table.stays_here _)))
    (λ honest sound is.
    let counts = c.counts-counts.ensures ∙ g.met.T.Table.counts_are c.args.table.now honest in
    let few : expanded_count (g.T.Table.stored c.args.table.now) ≤ length (g.T.Table.stored c.args.table.now).records =
    count_by-le-length (λ (r : Record). is_expanded r.state) (g.T.Table.stored c.args.table.now).records in
    omega (arith, ap (λ (k : Counts). k.expanded) counts, ap (λ (k : Counts). k.known) counts, few, sound.table.records, c.if-counts-2.true))
    (λ honest is. absurd (cc))

pub returns-in_err-expand_one-clause-unfinished : goal.returns-in_err-expand_one-clause-unfinished
returns-in_err-expand_one-clause-unfinished g c = λ honest table.
    let counts = c.counts-counts.ensures ∙ g.met.T.Table.counts_are c.args.table.now honest in
    on_refusal c.from_residual.result _
    (unlike_is_unfinished (g.T.Table.stored c.args.table.now) c.counts-counts.result counts (λ same. omega (arith, same, c.if-counts.true)))

pub returns-then-counts-2-clause-unfinished : goal.returns-then-counts-2-clause-unfinished
returns-then-counts-2-clause-unfinished g c = λ honest table.
    let counts = c.counts-counts.ensures ∙ g.met.T.Table.counts_are c.args.table.now honest in
    unlike_is_unfinished (g.T.Table.stored c.args.table.now) c.counts-counts.result counts (λ same. omega (arith, same, c.if-counts-2.true))

pub returns-in_err-settle_one-clause-unfinished : goal.returns-in_err-settle_one-clause-unfinished
returns-in_err-settle_one-clause-unfinished g c = λ honest table.
    let counts = c.counts-counts.ensures ∙ g.met.T.Table.counts_are c.args.table.now honest in
    on_refusal c.from_residual-in_err-settle_one.result _
    (unprocessed_is_unfinished (g.T.Table.stored c.args.table.now) c.counts-counts.result counts table c.if-counts-3.true)

pub returns-then-counts-3-clause-ok : goal.returns-then-counts-3-clause-ok
returns-then-counts-3-clause-ok g c = as_grown c.in_ok-settle_one.ensures.ok

pub returns-clause-ok : goal.returns-clause-ok
returns-clause-ok g c = as_grown (as_written g.met.T.Table.stays_goes_on (unread {stored = g.T.Table.stored} g.met.T.Table.stays_here _))
