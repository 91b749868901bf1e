use Rattle.std.proofs.Common.{◌≡◌, ◌∙◌, ◌+◌, ap, subst, sym, ℕ, List, length, slice_get, arith}
use Rattle.std.specs.Prelude.{IfSome}
use Rattle.std.proofs.lemmas.List.{length_push}
use Rattle.retrograde.specs.Stored.{Stored, IsTable, view_of}
use Rattle.legal_moves.specs.Compiled.{compiled_game, packing_kind}
use Rattle.best_line.proofs.ListLemmas.{each_push}
use Rattle.best_line.proofs.Exits.{nothing_at}
use Rattle.best_line.specs.lemmas.Found.{IsToldMove}
use Rattle.best_line.specs.declared.known.KnownMove.{KnownMove}
use Rattle.table.proofs.Frames.{unread, read_then}
use Rattle.best_line.proofs.moves.told_moves.Goals as goal

pub loop-k-init : goal.loop-k-init
loop-k-init g c =
    record {
      read = unread g.met.T.Table.stays_here _;
      lengths = ap (λ (moves : List KnownMove). length moves) c.new-known.ensures.items;
      told = λ h table k move at. absurd (nothing_at c.new-known.result.items c.new-known.ensures.items k move at);
    }

pub loop-k-preserved : goal.loop-k-preserved
loop-k-preserved g c = record {
  read = read_then g.met.T.Table.stays_then c.loop-k.invariant.read c.in_ok-one.ensures.read;
  lengths =
      let one : length c.push.new.self.items ≡ length c.loop-k.known.items + 1 = ap
      (λ (moves : List KnownMove). length moves) c.in_ok-push.ensures.items ∙ length_push c.loop-k.known.items _ in
      omega (arith, c.loop-k.invariant.lengths);
  told = λ honest table.
      let h = c.loop-k.invariant.read.honest.0 honest in
      let same = c.loop-k.invariant.read.same honest in
      let table' = subst (λ (t : Stored (List ℕ)). IsTable t) (sym same) table in
      let kind = packing_kind c.args.compiled.now in
      let game = compiled_game c.args.compiled.now in
      let view = view_of (g.T.Table.stored c.args.table.now) in
      let Told : ℕ → KnownMove → Type 0 = λ k move. IfSome (slice_get c.args.moves.now k) (λ m. IsToldMove kind game view m move) in
      let now =
      subst (λ (t : Stored (List ℕ)). IfSome (slice_get c.args.moves.now c.loop-k.k) (λ m. IsToldMove kind game (view_of t) m c.in_ok-one.one)) same
      (c.in_ok-one.ensures.told h table') in
      each_push Told c.loop-k.known.items c.push.new.self.items c.in_ok-one.one c.in_ok-push.ensures.items (c.loop-k.invariant.told honest table)
      (subst (λ (k : ℕ). Told k c.in_ok-one.one) (sym c.loop-k.invariant.lengths) now);
}

pub told_move-requires-clause-index : goal.told_move-requires-clause-index
told_move-requires-clause-index g c = omega (arith, c.loop-k-test.true, c.len-k-end.ensures)

pub returns-clause-told : goal.returns-clause-told
returns-clause-told g c = λ honest table. record {
  as_many = omega (arith, c.loop-k.invariant.lengths, c.loop-k-test.false, c.loop-k.auto.k-end, c.len-k-end.ensures);
  each = c.loop-k.invariant.told honest table;
}
