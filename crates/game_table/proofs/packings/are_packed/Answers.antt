use Rattle.std.proofs.Common.{◌≡◌, ◌∙◌, ap, subst, refl, ◌<◌, ℕ, List, Some, length, slice_get, arith}
use Rattle.std.proofs.lemmas.Option.{slice_get_within}
use Rattle.retrograde.specs.declared.records.Counts.{Counts}
use Rattle.retrograde.specs.Stored.{Stored}
use Rattle.table.proofs.Frames.{unread, read_then}
use Rattle.game_table.proofs.Packed.{packed_next}
use Rattle.game_table.proofs.packings.are_packed.Goals as goal

pub loop-number-preserved : goal.loop-number-preserved
loop-number-preserved g c = record {
  packing = refl;
  read = read_then g.met.T.Table.stays_then c.loop-number.invariant.read c.in_ok-position.ensures.read;
  packed = λ honest.
      let h = c.loop-number.invariant.read.honest.0 honest in
      let at = subst (λ (t : Stored (List ℕ)). slice_get t.positions c.loop-number.number ≡ Some c.in_ok-position.position.items)
      (c.loop-number.invariant.read.same honest) (c.in_ok-position.ensures.position h) in
      packed_next c.args.packing.now (g.T.Table.stored c.args.table.now).positions c.loop-number.number c.in_ok-position.position.items at
      (c.is_packed.ensures.0 c.if-not-is_packed.false) (c.loop-number.invariant.packed honest);
}

pub returns-clause-are : goal.returns-clause-are
returns-clause-are g c = λ honest.
    let count = ap (λ (k : Counts). k.known) (c.counts-number-end.ensures ∙ g.met.T.Table.counts_are c.args.table.now honest) in (
      (λ is i x number.
          let within : i < length (g.T.Table.stored c.args.table.now).positions = slice_get_within _ _ _ number in
          c.loop-number.invariant.packed honest i x (omega (arith, count, within, c.loop-number-test.false)) number),
      (λ are. refl),
    )

pub loop-number-init : goal.loop-number-init
loop-number-init g c =
    record { packing = refl; read = unread g.met.T.Table.stays_here _; packed = λ honest i x below. absurd (omega (arith, below)) }

pub returns-then-not-is_packed-clause-read : goal.returns-then-not-is_packed-clause-read
returns-then-not-is_packed-clause-read g c = read_then g.met.T.Table.stays_then c.loop-number.invariant.read c.in_ok-position.ensures.read

pub returns-in_err-position-clause-read : goal.returns-in_err-position-clause-read
returns-in_err-position-clause-read g c = read_then g.met.T.Table.stays_then c.loop-number.invariant.read c.in_err-position.ensures.read
