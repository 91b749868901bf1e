use Rattle.std.proofs.Common.{◌≡◌, ◌≤◌, ◌+◌, ◌^◌, rules, ap, length, List, ℕ, inl, refl, sym, subst, arith}
use Rattle.retrograde.specs.declared.records.Counts.{Counts}
use Rattle.retrograde.specs.Stored.{Stored, view_of}
use Rattle.retrograde.specs.View.{IsFinished}
use Rattle.table.proofs.Frames.{unread, as_written}
use Rattle.frontier.proofs.Frames.{as_grown, grown_then}
use Rattle.table.proofs.Exits.{passed_on}
use Rattle.frontier.proofs.Exits.{leaves_after}
use Rattle.game_table.specs.Stops.{AreWorked}
use Rattle.game_table.specs.lemmas.OneTable.{none_of_finished}
use Rattle.game_table.proofs.WorkLemmas.{none_done, one_more, one_unit_more, one_write_more}
use Rattle.game_table.proofs.steps.work.Goals as goal

pub loop-done-init : goal.loop-done-init
loop-done-init g c = record {
  ok = as_grown (as_written g.met.T.Table.stays_goes_on (unread {stored = g.T.Table.stored} g.met.T.Table.stays_here _));
  source = refl;
  sound = λ honest sound. sound;
  works = λ honest sound.
      let few : length (g.T.Table.stored c.args.table.now).positions ≤ 2 ^ 24 = omega
      (arith, ap (λ (k : Counts). k.known) (g.met.T.Table.counts_are c.args.table.now honest), c.requires.limit) in
      none_done (g.M.GameGraph.graph c.args.source.now) (g.M.GameGraph.is_wide c.args.source.now) (g.T.Table.stored c.args.table.now) sound few;
  by_units = λ honest sound. refl;
  takes = λ honest sound. (0, (refl, refl), omega arith);
  fits = λ honest fits. fits;
  idle = λ is. refl;
}

pub loop-done-preserved : goal.loop-done-preserved
loop-done-preserved g c = record {
  ok = grown_then g.met.T.Table.goes_on_then c.loop-done.invariant.ok c.in_ok-unit.ensures.ok;
  source = refl;
  sound = λ honest sound. (c.in_ok-unit.ensures.tried (c.loop-done.invariant.ok.honest.0 honest)).sound (c.loop-done.invariant.sound honest sound);
  works = λ honest sound.
      let h = c.loop-done.invariant.ok.honest.0 honest in
      let now = c.loop-done.invariant.sound honest sound in
      one_more (g.M.GameGraph.graph c.args.source.now) (g.M.GameGraph.is_wide c.args.source.now) (g.T.Table.stored c.args.table.now)
      (g.T.Table.stored c.loop-done.table) (g.T.Table.stored c.unit.new.table)
      c.loop-done.done (c.loop-done.invariant.works honest sound) ((c.in_ok-unit.ensures.tried h).one now (search rules));
  by_units = λ honest sound.
      let h = c.loop-done.invariant.ok.honest.0 honest in
      let now = c.loop-done.invariant.sound honest sound in
      one_unit_more (g.M.GameGraph.graph c.args.source.now) (g.T.Table.stored c.args.table.now) (g.T.Table.stored c.loop-done.table)
      (g.T.Table.stored c.unit.new.table)
      c.loop-done.done (c.loop-done.invariant.by_units honest sound) now.table ((c.in_ok-unit.ensures.tried h).exact now (search rules));
  takes = λ honest sound.
      let h = c.loop-done.invariant.ok.honest.0 honest in
      let now = c.loop-done.invariant.sound honest sound in
      let (before, write, so_far) = c.loop-done.invariant.takes honest sound in
      let (last, writes, took) = (c.in_ok-unit.ensures.tried h).takes (search rules) in (
        before + last,
        one_write_more (g.M.GameGraph.graph c.args.source.now) (g.M.GameGraph.is_wide c.args.source.now) (g.T.Table.stored c.args.table.now)
            (g.T.Table.stored c.loop-done.table) (g.T.Table.stored c.unit.new.table)
            c.loop-done.done before last write now ((c.in_ok-unit.ensures.tried h).exact now (search rules)) writes,
        omega (arith, so_far, took),
      );
  fits = λ honest fits. (c.in_ok-unit.ensures.tried (c.loop-done.invariant.ok.honest.0 honest)).fits (c.loop-done.invariant.fits honest fits);
  idle = λ is. absurd (omega (arith, is));
}

pub returns-in_err-unit-clause-err : goal.returns-in_err-unit-clause-err
returns-in_err-unit-clause-err g c =
    let it = c.loop-done.invariant in
    let old = g.T.Table.stored c.args.table.now in
    let now = g.T.Table.stored c.loop-done.table in
    let unit = c.in_err-unit.ensures.err in
    passed_on _ c.from_residual.result _ c.from_residual.ensures
    (record {
      left = leaves_after _ _ _ _ _ (g.met.T.Table.goes_on_then _ _ _ it.ok.ahead) (λ f. g.met.T.Table.fails_since _ _ _ f it.ok.ahead) unit.left;
      cause = λ honest sound. record {
        done = c.loop-done.done;
        fewer = omega arith;
        reached = now;
        works = it.works honest sound;
        sound = it.sound honest sound;
        cause = unit.cause (it.ok.honest.0 honest);
      };
      unfinished = λ honest sound finished.
          let none = none_of_finished (g.M.GameGraph.graph c.args.source.now) c.loop-done.done old now finished (it.by_units honest sound) in
          let same : now ≡ old = ap g.T.Table.stored (it.idle none) in
          c.in_err-unit.ensures.unfinished (it.ok.honest.0 honest) (it.sound honest sound).table
          (subst (λ (t : Stored (List ℕ)). IsFinished (view_of t)) (sym same) finished);
      consistent = λ honest sound. unit.consistent (it.ok.honest.0 honest) (it.sound honest sound);
      full = λ honest sound is.
          let (before, write, so_far) = it.takes honest sound in
          let (next, writes, few) = unit.full (it.ok.honest.0 honest) is in
          record {
            done = c.loop-done.done;
            fewer = omega arith;
            reached = now;
            before = before;
            write = write;
            sound = it.sound honest sound;
            next = next;
            writes = writes;
            few = omega (arith, so_far, few);
          };
    })

pub returns-clause-worked : goal.returns-clause-worked
returns-clause-worked g c = λ honest.
    let it = c.loop-done.invariant in
    let same : c.loop-done.done ≡ c.args.units = omega arith in
    subst (λ (n : ℕ). AreWorked (g.M.GameGraph.graph c.args.source.now) (g.M.GameGraph.is_wide c.args.source.now) c.args.units
    (g.T.Table.stored c.args.table.now) (g.T.Table.stored c.loop-done.table) (g.T.Table.free c.args.table.now) (g.T.Table.free c.loop-done.table) n) same
    (record {
      fits = λ table. it.fits honest table;
      done = λ sound. record { works = it.works honest sound; by_units = it.by_units honest sound; all = inl same; sound = it.sound honest sound };
      takes = λ sound. it.takes honest sound;
    })
