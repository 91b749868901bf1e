use Rattle.std.proofs.Common.{◌∙◌, ◌+◌, ◌<◌, ℕ, List, All, not, ap, sym, subst, length, arith}
use Rattle.std.proofs.lemmas.List.{length-map, length_push, take_all}
use Rattle.std.proofs.lemmas.List.Elements.{All-nil, All-push, All-weaker}
use Rattle.arrayvec.specs.ArrayVec.{ArrayVec}
use Rattle.table.specs.Memory.{bytes_of_each}
use Rattle.retrograde.specs.declared.records.Counts.{Counts}
use Rattle.retrograde.specs.Stored.{Stored}
use Rattle.frontier.specs.lemmas.GivenNumbers.{AreNumbersOf}
use Rattle.table.proofs.Exits.{passed_on}
use Rattle.table.proofs.Frames.{unread, read_then}
use Rattle.frontier.proofs.Frames.{out_of_memory, given_up_since}
use Rattle.frontier.proofs.NumberLemmas.{IsNumberOf, numbers_push, next_after, pushed}
use Rattle.frontier.proofs.NotedLemmas.{take_at}
use Rattle.frontier.proofs.numbers.numbers_of.Goals as goal

pub loop-position-preserved : goal.loop-position-preserved
loop-position-preserved g c = record {
  read = read_then g.met.T.Table.stays_then c.loop-position.invariant.read c.in_ok-number.ensures.read;
  known = omega (arith, c.loop-position.invariant.known, c.max-next.ensures);
  few = omega (arith, c.loop-position.invariant.few, c.in_ok-number.ensures.within, c.max-next.ensures);
  lengths =
      let items = pushed _ _ _ _ (c.is_err.ensures.negation ∙ ap not c.if-is_err.false) c.push.ensures.items in
      ap (λ (ns : List ℕ). length ns) items ∙
      (length_push c.loop-position.each.items c.in_ok-number.number ∙ ap (λ (n : ℕ). n + 1) c.loop-position.invariant.lengths);
  within =
      let items = pushed _ _ _ _ (c.is_err.ensures.negation ∙ ap not c.if-is_err.false) c.push.ensures.items in
      let longer : (n : ℕ) → n < c.loop-position.next → n < c.max-next.result = λ n less. omega (arith, less, c.max-next.ensures) in
      let last : c.in_ok-number.number < c.max-next.result = omega (arith, c.max-next.ensures) in
      subst (λ (ns : List ℕ). All (λ i. i < c.max-next.result) ns) (sym items)
      (All-push (λ i. i < c.max-next.result) c.loop-position.each.items c.in_ok-number.number
      (All-weaker (λ i. i < c.loop-position.next) (λ i. i < c.max-next.result) longer c.loop-position.each.items c.loop-position.invariant.within) last);
  numbers = λ honest.
      let h = c.loop-position.invariant.read.honest.0 honest in
      let y = c.position-item.result.items in
      let same = c.loop-position.invariant.read.same honest in
      let is = subst (λ (t : Stored (List ℕ)). IsNumberOf t.positions c.loop-position.next y c.in_ok-number.number) same (c.in_ok-number.ensures.number h) in
      let items = pushed _ _ _ _ (c.is_err.ensures.negation ∙ ap not c.if-is_err.false) c.push.ensures.items in
      let step = take_at (λ p. p.items) c.args.positions.now c.loop-position.position-index c.position-item.result c.loop-position-test.true c.position-item.is in
      let before = c.loop-position.invariant.numbers honest in
      rw (step, items)
      (numbers_push (g.T.Table.stored c.args.table.now).positions _ c.loop-position.each.items _ c.loop-position.next y c.in_ok-number.number c.max-next.result
      (omega arith) before is (next_after c.loop-position.next c.in_ok-number.number c.max-next.result c.in_ok-number.ensures.within c.max-next.ensures));
}

pub loop-position-init : goal.loop-position-init
loop-position-init g c =
    record {
      read = unread g.met.T.Table.stays_here _;
      known = let count = ap (λ (k : Counts). k.known) c.counts-next.ensures in omega arith;
      few = let count = ap (λ (k : Counts). k.known) c.counts-next.ensures in omega arith;
      lengths = ap (λ (ns : List ℕ). length ns) c.new-each.ensures.items;
      within = subst (λ (ns : List ℕ). All (λ i. i < c.counts-next.result.known) ns) (sym c.new-each.ensures.items)
          (All-nil (λ i. i < c.counts-next.result.known));
      numbers = λ honest.
          let count = ap (λ (k : Counts). k.known) (c.counts-next.ensures ∙ g.met.T.Table.counts_are _ honest) in
          rw c.new-each.ensures.items (sym count);
    }

pub number_or_next-requires : goal.number_or_next-requires
number_or_next-requires g c =
    let count = ap (λ (k : Counts). k.known) c.loop-position.invariant.read.counts in omega (arith, c.loop-position.invariant.known)

pub overflow_add-number : goal.overflow_add-number
overflow_add-number g c =
    omega (arith, c.in_ok-number.ensures.within, c.loop-position.invariant.few, c.requires.limit, c.requires.few, c.loop-position-test.true)

pub returns-then-is_err-clause-consistent : goal.returns-then-is_err-clause-consistent
returns-then-is_err-clause-consistent g c =
    λ is. cc

pub returns-clause-numbers : goal.returns-clause-numbers
returns-clause-numbers g c =
    λ honest.
    let long = length-map c.args.positions.now (λ (p : ArrayVec ℕ). p.items) in
    let all = take_all c.loop-position.position-index (bytes_of_each c.args.positions.now) (omega (arith, long, c.loop-position-test.false)) in
    subst (λ (ys : List (List ℕ)). AreNumbersOf (g.T.Table.stored c.args.table.now).positions (length (g.T.Table.stored c.args.table.now).positions) ys
    c.loop-position.each.items c.loop-position.next) all (c.loop-position.invariant.numbers honest)

pub returns-clause-given : goal.returns-clause-given
returns-clause-given g c = record {
  lengths = omega (arith, c.loop-position.invariant.lengths, c.loop-position-test.false, c.loop-position.auto.position-index-end);
  within = c.loop-position.invariant.within;
  next = c.loop-position.invariant.known;
}

pub returns-in_err-number-clause-read : goal.returns-in_err-number-clause-read
returns-in_err-number-clause-read g c = read_then g.met.T.Table.stays_then c.loop-position.invariant.read c.in_err-number.ensures.read

pub returns-in_err-number-clause-err : goal.returns-in_err-number-clause-err
returns-in_err-number-clause-err g c =
    passed_on _ c.from_residual.result _ c.from_residual.ensures
    (given_up_since g.met.T.Table.goes_on_then g.met.T.Table.fails_since (g.met.T.Table.stays_goes_on _ _ c.loop-position.invariant.read.stays)
    c.in_err-number.ensures.err)

pub returns-then-is_err-clause-read : goal.returns-then-is_err-clause-read
returns-then-is_err-clause-read g c = read_then g.met.T.Table.stays_then c.loop-position.invariant.read c.in_ok-number.ensures.read

pub returns-then-is_err-clause-err : goal.returns-then-is_err-clause-err
returns-then-is_err-clause-err g c =
    out_of_memory (g.met.T.Table.stays_goes_on _ _ (read_then g.met.T.Table.stays_then c.loop-position.invariant.read c.in_ok-number.ensures.read).stays)

pub returns-clause-read : goal.returns-clause-read
returns-clause-read g c = c.loop-position.invariant.read
