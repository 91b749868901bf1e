use Rattle.std.proofs.Common.{◌≡◌, ◌∙◌, ◌≤◌, ◌<◌, ◌^◌, sym, ap, subst, ℕ, List, Some, Err, All, length, refl, arith, slice_get}
use Rattle.std.proofs.lemmas.Cmp.{nat_list_cmp_total}
use Rattle.std.proofs.lemmas.List.{length-map}
use Rattle.arrayvec.specs.ArrayVec.{ArrayVec}
use Rattle.rbg_game.specs.declared.roles.Role.{Role}
use Rattle.table.specs.Memory.{bytes_of_each}
use Rattle.retrograde.specs.declared.records.Counts.{Counts}
use Rattle.retrograde.specs.Stored.{Stored, expanded_count}
use Rattle.retrograde.specs.Sound.{IsLocallySound}
use Rattle.retrograde.specs.Successors.{packed_cmp, IsSuccessorList}
use Rattle.retrograde.specs.lemmas.Expansion.{AreNoted}
use Rattle.retrograde.specs.Expands.{IsTooMany}
use Rattle.retrograde.proofs.Expands.{choice, no_choice}
use Rattle.frontier.specs.lemmas.GivenNumbers.{AreNumbersOf}
use Rattle.frontier.proofs.NumberLemmas.{too_many}
use Rattle.frontier.specs.declared.fault.StepFault.{StepFault}
use Rattle.table.proofs.Frames.{read_then, as_written}
use Rattle.frontier.proofs.Frames.{as_grown, grown_then, given_up_since}
use Rattle.frontier.proofs.Counted.{below, full_or_not, waits, waits_still, grew, more_known}
use Rattle.table.proofs.Exits.{passed_on}
use Rattle.frontier.proofs.Exits.{search_cause}
use Rattle.frontier.proofs.Units.{none_left, refused, stopped, stopped_reading, stopped_searching}
use Rattle.frontier.proofs.ExpandLemmas.{IsDone, successor_list, done, fits, room}
use Rattle.frontier.proofs.expand.expand_one.Given
use Rattle.frontier.proofs.Pages.{expanding_takes, expanding_full}
use Rattle.frontier.proofs.expand.expand_one.Goals as goal

pub returns-in_err-packed-clause-err : goal.returns-in_err-packed-clause-err
returns-in_err-packed-clause-err g c =
    passed_on _ c.from_residual.result _ c.from_residual.ensures (stopped_reading c.in_err-packed.ensures.fault c.in_err-packed.ensures.room)

pub returns-in_err-found-clause-err : goal.returns-in_err-found-clause-err
returns-in_err-found-clause-err g c =
    passed_on _ c.from_residual-in_err-found.result _ c.from_residual-in_err-found.ensures
    (stopped_searching c.in_err-found.ensures.others (g.met.T.Table.stays_goes_on _ _ c.in_ok-packed.ensures.read.stays)
    (λ honest.
    let number : c.counts-before.result.expanded ≡ expanded_count (g.T.Table.stored c.args.table.now) = ap (λ (k : Counts). k.expanded)
    (c.counts-before.ensures ∙ g.met.T.Table.counts_are _ honest) in
    let at = subst (λ (k : ℕ). slice_get (g.T.Table.stored c.args.table.now).positions k ≡ Some c.in_ok-packed.packed.items) number
    (c.in_ok-packed.ensures.position honest) in
    (search_cause _ c.in_err-found.ensures.others (g.M.GameGraph.graph c.args.source.now) (g.M.GameGraph.is_wide c.args.source.now)
    (g.T.Table.stored c.args.table.now)
    c.in_ok-packed.packed.items at (λ is. c.in_err-found.ensures.wide (ap (λ (f : StepFault). Err f) is))))
    (λ honest. (c.in_ok-packed.ensures.read.honest.0 honest, c.in_ok-packed.ensures.read.same honest)))

pub returns-then-keeper_chooses-clause-err : goal.returns-then-keeper_chooses-clause-err
returns-then-keeper_chooses-clause-err g c =
    refused tt (g.met.T.Table.stays_goes_on _ _ c.in_ok-packed.ensures.read.stays)
    (λ honest refused.
    let number : c.counts-before.result.expanded ≡ expanded_count (g.T.Table.stored c.args.table.now) = ap (λ (k : Counts). k.expanded)
    (c.counts-before.ensures ∙ g.met.T.Table.counts_are _ honest) in
    let at = subst (λ (k : ℕ). slice_get (g.T.Table.stored c.args.table.now).positions k ≡ Some c.in_ok-packed.packed.items) number
    (c.in_ok-packed.ensures.position honest) in
    let ys = bytes_of_each c.in_ok-found.found.items in
    let few = length-map c.in_ok-found.found.items (λ (p : ArrayVec ℕ). p.items) in
    let list : IsSuccessorList packed_cmp (g.M.GameGraph.graph c.args.source.now) c.in_ok-packed.packed.items ys =
    successor_list _ _ ys c.in_ok-found.ensures.exact in
    let more : 1 < length ys = omega (arith, few, c.len.ensures, c.in_ok-found.found.ok.0, (c.keeper_chooses.ensures.chooses c.if-keeper_chooses.true).1) in
    let it = choice packed_cmp nat_list_cmp_total (g.M.GameGraph.graph c.args.source.now) c.in_ok-packed.packed.items ys list more
    (sym c.mover.ensures ∙ (c.keeper_chooses.ensures.chooses c.if-keeper_chooses.true).0) in
    (c.in_ok-packed.packed.items, at, (number, c.in_ok-found.ensures.narrow refl, it)))
    (λ honest. (c.in_ok-packed.ensures.read.honest.0 honest, c.in_ok-packed.ensures.read.same honest))

pub numbers_of-requires-clause-few : goal.numbers_of-requires-clause-few
numbers_of-requires-clause-few g c =
    subst (λ (n : ℕ). n ≤ 65536) (sym c.deref.ensures.len) c.in_ok-found.ensures.few

pub numbers_of-requires-clause-limit : goal.numbers_of-requires-clause-limit
numbers_of-requires-clause-limit g c =
    subst (λ (k : Counts). k.known ≤ 2 ^ 24) (sym c.in_ok-packed.ensures.read.counts) c.requires.limit

pub returns-in_err-numbers-clause-err : goal.returns-in_err-numbers-clause-err
returns-in_err-numbers-clause-err g c =
    passed_on _ c.from_residual-in_err-numbers.result _ c.from_residual-in_err-numbers.ensures
    (stopped
    (given_up_since g.met.T.Table.goes_on_then g.met.T.Table.fails_since (g.met.T.Table.stays_goes_on _ _ c.in_ok-packed.ensures.read.stays)
    c.in_err-numbers.ensures.err)
    (λ honest sound is. c.in_err-numbers.ensures.consistent (ap (λ (f : StepFault). Err f) is))
    (λ honest is.
    let none = g.met.T.Table.full_free _ _ (none_left _ _ c.in_err-numbers.ensures.err.left is) in
    expanding_full (g.M.GameGraph.graph c.args.source.now) (g.T.Table.stored c.args.table.now) c.in_ok-packed.packed.items c.in_ok-found.found.items
    c.counts-before.result.expanded (ap (λ (k : Counts). k.expanded) (c.counts-before.ensures ∙ g.met.T.Table.counts_are _ honest))
    (c.in_ok-packed.ensures.position honest) c.in_ok-found.ensures.exact (length c.in_ok-found.found.items) refl
    (g.T.Table.free c.args.table.now) (g.T.Table.free c.numbers_of.new.table)
    (omega (arith, g.met.T.Table.stays_free _ _ c.in_ok-packed.ensures.read.stays, g.met.T.Table.stays_free _ _ c.in_err-numbers.ensures.read.stays)) none))

pub returns-then-numbers-gt-MAX_POSITIONS-clause-err : goal.returns-then-numbers-gt-MAX_POSITIONS-clause-err
returns-then-numbers-gt-MAX_POSITIONS-clause-err g c =
    refused tt (g.met.T.Table.stays_goes_on _ _ (g.met.T.Table.stays_then _ _ _ c.in_ok-packed.ensures.read.stays c.in_ok-numbers.ensures.read.stays))
    (λ honest refused.
    let number : c.counts-before.result.expanded ≡ expanded_count (g.T.Table.stored c.args.table.now) = ap (λ (k : Counts). k.expanded)
    (c.counts-before.ensures ∙ g.met.T.Table.counts_are _ honest) in
    let at = subst (λ (k : ℕ). slice_get (g.T.Table.stored c.args.table.now).positions k ≡ Some c.in_ok-packed.packed.items) number
    (c.in_ok-packed.ensures.position honest) in
    let graph = g.M.GameGraph.graph c.args.source.now in
    let ys = bytes_of_each c.in_ok-found.found.items in
    let few = length-map c.in_ok-found.found.items (λ (p : ArrayVec ℕ). p.items) in
    let list : IsSuccessorList packed_cmp graph c.in_ok-packed.packed.items ys = successor_list _ _ ys c.in_ok-found.ensures.exact in
    let forced : graph.mover c.in_ok-packed.packed.items ≡ Role.Keeper → length ys ≤ 1 =
    λ keeper. omega (
      arith,
      few,
      c.len.ensures,
      c.in_ok-found.found.ok.0,
      c.keeper_chooses.ensures.forced c.if-keeper_chooses.false (c.mover.ensures ∙ keeper),
    ) in
    let one = c.in_ok-packed.ensures.read.same honest in
    let are = c.in_ok-numbers.ensures.numbers (c.in_ok-packed.ensures.read.honest.0 honest) in
    let here = subst (λ (t : Stored (List ℕ)). AreNumbersOf t.positions
    (length t.positions) ys c.in_ok-numbers.numbers.each.items c.in_ok-numbers.numbers.next) one (rw c.deref.ensures.value at are) in
    let many : IsTooMany packed_cmp graph (2 ^ 24) (g.T.Table.stored c.args.table.now).positions c.in_ok-packed.packed.items =
    too_many packed_cmp nat_list_cmp_total (g.T.Table.stored c.args.table.now).positions c.counts-before.result.expanded graph c.in_ok-packed.packed.items ys
    c.in_ok-numbers.numbers.each.items c.in_ok-numbers.numbers.next (2 ^ 24)
    (g.T.Table.stored c.args.table.now) refl list here c.if-numbers-gt-MAX_POSITIONS.true in
    (c.in_ok-packed.packed.items, at, (c.in_ok-found.ensures.narrow refl, no_choice packed_cmp graph c.in_ok-packed.packed.items ys list forced, many)))
    (λ honest.
    let h1 = c.in_ok-packed.ensures.read.honest.0 honest in
    (c.in_ok-numbers.ensures.read.honest.0 h1, c.in_ok-numbers.ensures.read.same h1 ∙ c.in_ok-packed.ensures.read.same honest))

pub note_all-requires-clause-ascending : goal.note_all-requires-clause-ascending
note_all-requires-clause-ascending g c =
    rw c.deref-3.ensures.value
    ((successor_list (g.M.GameGraph.graph c.args.source.now) c.in_ok-packed.packed.items
    (bytes_of_each c.in_ok-found.found.items) c.in_ok-found.ensures.exact).ascending)

pub note_all-requires-clause-predecessor : goal.note_all-requires-clause-predecessor
note_all-requires-clause-predecessor g c =
    waits c.counts-before.result _ _ c.counts-before.ensures (c.in_ok-numbers.ensures.read.counts ∙ c.in_ok-packed.ensures.read.counts) c.requires.waiting

pub note_all-requires-clause-lengths : goal.note_all-requires-clause-lengths
note_all-requires-clause-lengths g c =
    ap (λ (ns : List ℕ). length ns) c.deref-2.ensures.value
    ∙ (c.in_ok-numbers.ensures.given.lengths ∙ ap (λ (ps : List (ArrayVec ℕ)). length ps) (c.deref.ensures.value ∙ sym c.deref-3.ensures.value))

pub note_all-requires-clause-limit : goal.note_all-requires-clause-limit
note_all-requires-clause-limit g c =
    subst (λ (ns : List ℕ). All (λ i. i < 2 ^ 24) ns) (sym c.deref-2.ensures.value)
    (λ k d inside. below _ c.in_ok-numbers.numbers.next _ (c.in_ok-numbers.ensures.given.within k d inside) c.if-numbers-gt-MAX_POSITIONS.false)

pub note_all-requires-clause-numbers : goal.note_all-requires-clause-numbers
note_all-requires-clause-numbers g c =
    λ h2.
    let h1 = c.in_ok-numbers.ensures.read.honest.1 h2 in
    let ys = bytes_of_each c.in_ok-found.found.items in
    let are = rw c.deref.ensures.value at c.in_ok-numbers.ensures.numbers h1 in
    let here = subst (λ (t : Stored (List ℕ)). AreNumbersOf t.positions
    (length t.positions) ys c.in_ok-numbers.numbers.each.items c.in_ok-numbers.numbers.next) (sym (c.in_ok-numbers.ensures.read.same h1)) are in
    (c.in_ok-numbers.numbers.next, rw (c.deref-2.ensures.value, c.deref-3.ensures.value) here)

pub returns-in_err-note_all-clause-err : goal.returns-in_err-note_all-clause-err
returns-in_err-note_all-clause-err g c =
    passed_on _ c.from_residual-in_err-note_all.result _ c.from_residual-in_err-note_all.ensures
    (stopped
    (given_up_since g.met.T.Table.goes_on_then g.met.T.Table.fails_since
    (g.met.T.Table.stays_goes_on _ _ (g.met.T.Table.stays_then _ _ _ c.in_ok-packed.ensures.read.stays c.in_ok-numbers.ensures.read.stays))
    c.in_err-note_all.ensures.err)
    (λ honest sound is. c.in_err-note_all.ensures.consistent (ap (λ (f : StepFault). Err f) is))
    (λ honest is.
    let none = g.met.T.Table.full_free _ _ (none_left _ _ c.in_err-note_all.ensures.err.left is) in
    expanding_full (g.M.GameGraph.graph c.args.source.now) (g.T.Table.stored c.args.table.now) c.in_ok-packed.packed.items c.in_ok-found.found.items
    c.counts-before.result.expanded (ap (λ (k : Counts). k.expanded) (c.counts-before.ensures ∙ g.met.T.Table.counts_are _ honest))
    (c.in_ok-packed.ensures.position honest) c.in_ok-found.ensures.exact (length c.deref-2.result.now) (ap (λ (ns : List ℕ). length ns) c.deref-2.ensures.value
    ∙ (c.in_ok-numbers.ensures.given.lengths ∙ ap (λ (ps : List (ArrayVec ℕ)). length ps) c.deref.ensures.value))
    (g.T.Table.free c.args.table.now) (g.T.Table.free c.note_all.new.table)
    (omega (
      arith,
      g.met.T.Table.stays_free _ _ c.in_ok-packed.ensures.read.stays,
      g.met.T.Table.stays_free _ _ c.in_ok-numbers.ensures.read.stays,
      c.in_err-note_all.ensures.takes,
    )) none))

pub finish-requires : goal.finish-requires
finish-requires g c =
    waits_still c.counts-before.result _ _ c.counts-before.ensures
    (c.in_ok-numbers.ensures.read.counts ∙ c.in_ok-packed.ensures.read.counts) _ c.in_ok-note_all.ensures.ok.more c.requires.waiting

pub returns-in_err-finish-clause-err : goal.returns-in_err-finish-clause-err
returns-in_err-finish-clause-err g c =
    passed_on _ c.from_residual-in_err-finish.result _ c.from_residual-in_err-finish.ensures
    (stopped
    (given_up_since g.met.T.Table.goes_on_then g.met.T.Table.fails_since (g.met.T.Table.goes_on_then _ _ _
    (g.met.T.Table.stays_goes_on _ _ (g.met.T.Table.stays_then _ _ _ c.in_ok-packed.ensures.read.stays c.in_ok-numbers.ensures.read.stays))
    c.in_ok-note_all.ensures.ok.ahead)
    c.in_err-finish.ensures.err)
    (λ honest sound is.
    let h1 = c.in_ok-packed.ensures.read.honest.0 honest in
    let h2 = c.in_ok-numbers.ensures.read.honest.0 h1 in
    let h3 = c.in_ok-note_all.ensures.ok.honest.0 h2 in
    let ys = bytes_of_each c.in_ok-found.found.items in
    let same = c.in_ok-numbers.ensures.read.same h1 ∙ c.in_ok-packed.ensures.read.same honest in
    let noted = subst (λ (t : Stored (List ℕ)). AreNoted c.counts-before.result.expanded ys t (g.T.Table.stored c.note_all.new.table)) same
    (rw c.deref-3.ensures.value at c.in_ok-note_all.ensures.noted h2) in
    let counts = g.met.T.Table.counts_are c.args.table.now honest in
    let waiting : expanded_count (g.T.Table.stored c.args.table.now) < length (g.T.Table.stored c.args.table.now).positions =
    subst (λ (k : Counts). k.expanded < k.known) counts c.requires.waiting in
    let fits : length (g.T.Table.stored c.note_all.new.table).order < length (g.T.Table.stored c.note_all.new.table).positions
    = room (g.M.GameGraph.graph c.args.source.now) (g.M.GameGraph.is_wide c.args.source.now) (g.T.Table.stored c.args.table.now) sound ys
    (g.T.Table.stored c.note_all.new.table) c.counts-before.result.expanded noted waiting in
    let full : length (g.T.Table.stored c.note_all.new.table).positions ≤ length
    (g.T.Table.stored c.note_all.new.table).order = c.in_err-finish.ensures.full h3 (ap (λ (f : StepFault). Err f) is) in
    full_or_not _ _ fits full)
    (λ honest is.
    let none = g.met.T.Table.full_free _ _ (none_left _ _ c.in_err-finish.ensures.err.left is) in
    expanding_full (g.M.GameGraph.graph c.args.source.now) (g.T.Table.stored c.args.table.now) c.in_ok-packed.packed.items c.in_ok-found.found.items
    c.counts-before.result.expanded (ap (λ (k : Counts). k.expanded) (c.counts-before.ensures ∙ g.met.T.Table.counts_are _ honest))
    (c.in_ok-packed.ensures.position honest) c.in_ok-found.ensures.exact (length c.deref-2.result.now) (ap (λ (ns : List ℕ). length ns) c.deref-2.ensures.value
    ∙ (c.in_ok-numbers.ensures.given.lengths ∙ ap (λ (ps : List (ArrayVec ℕ)). length ps) c.deref.ensures.value))
    (g.T.Table.free c.args.table.now) (g.T.Table.free c.finish.new.table)
    (omega (
      arith,
      g.met.T.Table.stays_free _ _ c.in_ok-packed.ensures.read.stays,
      g.met.T.Table.stays_free _ _ c.in_ok-numbers.ensures.read.stays,
      c.in_ok-note_all.ensures.takes,
      c.in_err-finish.ensures.takes,
    )) none))

pub overflow_sub-result : goal.overflow_sub-result
overflow_sub-result g c =
    grew c.counts-before.result _ _ c.counts-before.ensures
    (c.in_ok-numbers.ensures.read.counts
    ∙ c.in_ok-packed.ensures.read.counts) _ c.in_ok-note_all.ensures.ok.more _ _ c.in_ok-finish.ensures.ok.known c.counts.ensures

pub overflow_cast-len : goal.overflow_cast-len
overflow_cast-len g c =
    omega (arith, c.len-2.ensures, c.in_ok-found.ensures.few)

-- what the unit has done

is_done : (g : Given.Over) (c : goal.After-drop-found-2 g) → g.T.Table.is_honest c.args.table.now
    → IsLocallySound (g.M.GameGraph.graph c.args.source.now) (g.M.GameGraph.is_wide c.args.source.now) (g.T.Table.stored c.args.table.now)
    → IsDone (g.M.GameGraph.graph c.args.source.now) (g.M.GameGraph.is_wide c.args.source.now) (g.T.Table.stored c.args.table.now)
    (g.T.Table.stored c.finish.new.table)
is_done g c honest sound =
    let h1 = c.in_ok-packed.ensures.read.honest.0 honest in
    let h2 = c.in_ok-numbers.ensures.read.honest.0 h1 in
    let h3 = c.in_ok-note_all.ensures.ok.honest.0 h2 in
    let h4 = c.in_ok-finish.ensures.ok.honest.0 h3 in
    let graph = g.M.GameGraph.graph c.args.source.now in
    let ys = bytes_of_each c.in_ok-found.found.items in
    let few = length-map c.in_ok-found.found.items (λ (p : ArrayVec ℕ). p.items) in
    let list : IsSuccessorList packed_cmp graph c.in_ok-packed.packed.items ys = successor_list _ _ ys c.in_ok-found.ensures.exact in
    let forced : graph.mover c.in_ok-packed.packed.items ≡ Role.Keeper → length ys ≤ 1 =
    λ keeper. omega (
      arith,
      few,
      c.len.ensures,
      c.in_ok-found.found.ok.0,
      c.keeper_chooses.ensures.forced c.if-keeper_chooses.false (c.mover.ensures ∙ keeper),
    ) in
    let same = c.in_ok-numbers.ensures.read.same h1 ∙ c.in_ok-packed.ensures.read.same honest in
    let noted = subst (λ (t : Stored (List ℕ)). AreNoted c.counts-before.result.expanded ys t (g.T.Table.stored c.note_all.new.table)) same
    (rw c.deref-3.ensures.value at c.in_ok-note_all.ensures.noted h2) in
    let count = ap (λ (k : Counts). k.known) (g.met.T.Table.counts_are c.finish.new.table h4) in
    let few' = c.in_ok-note_all.ensures.ok.room
    (subst (λ (k : Counts). k.known ≤ 2 ^ 24) (sym (c.in_ok-numbers.ensures.read.counts ∙ c.in_ok-packed.ensures.read.counts)) c.requires.limit) in
    let room : length (g.T.Table.stored c.finish.new.table).positions ≤ 2 ^ 24 =
    subst (λ (n : ℕ). n ≤ 2 ^ 24) count (subst (λ (n : ℕ). n ≤ 2 ^ 24) (sym c.in_ok-finish.ensures.ok.known) few') in
    done graph (g.M.GameGraph.is_wide c.args.source.now) (g.T.Table.stored c.args.table.now) (g.T.Table.stored c.finish.new.table) sound
    c.in_ok-packed.packed.items ys (g.T.Table.stored c.note_all.new.table) c.counts-before.result.expanded _ c.ahead.result
    (ap (λ (k : Counts). k.expanded) (c.counts-before.ensures ∙ g.met.T.Table.counts_are _ honest)) (c.in_ok-packed.ensures.position honest) list forced
    (c.in_ok-found.ensures.narrow refl) noted (omega (arith, few, c.len-2.ensures, c.in_ok-found.found.ok.0)) c.ahead.ensures
    (c.in_ok-finish.ensures.expanded h3) room

pub returns-clause-expanded : goal.returns-clause-expanded
returns-clause-expanded g c = λ honest. record {
  more =
      let h1 = c.in_ok-packed.ensures.read.honest.0 honest in
      let h2 = c.in_ok-numbers.ensures.read.honest.0 h1 in
      let h4 = c.in_ok-finish.ensures.ok.honest.0 (c.in_ok-note_all.ensures.ok.honest.0 h2) in
      let first = ap (λ (k : Counts). k.known) (g.met.T.Table.counts_are c.args.table.now honest) in
      let last = ap (λ (k : Counts). k.known) (g.met.T.Table.counts_are c.finish.new.table h4) in
      more_known c.counts-before.result _ _ c.counts-before.ensures
      (c.in_ok-numbers.ensures.read.counts
      ∙ c.in_ok-packed.ensures.read.counts) _ c.in_ok-note_all.ensures.ok.more _ _ c.in_ok-finish.ensures.ok.known c.counts.ensures _ _ first last;
  expands = λ sound. (is_done g c honest sound).expands;
  last = λ sound. (is_done g c honest sound).last;
}

pub returns-clause-worked : goal.returns-clause-worked
returns-clause-worked g c = λ honest. record {
  fits = λ table.
      let h1 = c.in_ok-packed.ensures.read.honest.0 honest in
      let h2 = c.in_ok-numbers.ensures.read.honest.0 h1 in
      let h3 = c.in_ok-note_all.ensures.ok.honest.0 h2 in
      let ys = bytes_of_each c.in_ok-found.found.items in
      let few = length-map c.in_ok-found.found.items (λ (p : ArrayVec ℕ). p.items) in
      let same = c.in_ok-numbers.ensures.read.same h1 ∙ c.in_ok-packed.ensures.read.same honest in
      let noted = subst (λ (t : Stored (List ℕ)). AreNoted c.counts-before.result.expanded ys t
      (g.T.Table.stored c.note_all.new.table)) same (rw c.deref-3.ensures.value at c.in_ok-note_all.ensures.noted h2) in
      fits (g.M.GameGraph.graph c.args.source.now) (g.T.Table.stored c.args.table.now) (g.T.Table.stored c.finish.new.table)
      (g.T.Table.stored c.note_all.new.table) table
      c.in_ok-packed.packed.items ys c.counts-before.result.expanded _ c.ahead.result
      (ap (λ (k : Counts). k.expanded) (c.counts-before.ensures ∙ g.met.T.Table.counts_are _ honest)) (c.in_ok-packed.ensures.position honest)
      noted (omega (arith, few, c.len-2.ensures, c.in_ok-found.found.ok.0)) c.ahead.ensures (c.in_ok-finish.ensures.expanded h3);
  done = λ sound. (is_done g c honest sound).done;
  takes =
      expanding_takes (g.M.GameGraph.graph c.args.source.now) (g.T.Table.stored c.args.table.now) c.in_ok-packed.packed.items c.in_ok-found.found.items
      c.counts-before.result.expanded (ap (λ (k : Counts). k.expanded) (c.counts-before.ensures ∙ g.met.T.Table.counts_are _ honest))
      (c.in_ok-packed.ensures.position honest) c.in_ok-found.ensures.exact (length c.deref-2.result.now)
      (ap (λ (ns : List ℕ). length ns) c.deref-2.ensures.value
      ∙ (c.in_ok-numbers.ensures.given.lengths ∙ ap (λ (ps : List (ArrayVec ℕ)). length ps) c.deref.ensures.value))
      (g.T.Table.free c.args.table.now) (g.T.Table.free c.finish.new.table)
      (omega (
        arith,
        g.met.T.Table.stays_free _ _ c.in_ok-packed.ensures.read.stays,
        g.met.T.Table.stays_free _ _ c.in_ok-numbers.ensures.read.stays,
        c.in_ok-note_all.ensures.takes,
        c.in_ok-finish.ensures.takes,
      ));
}

pub returns-clause-ok : goal.returns-clause-ok
returns-clause-ok g c =
    grown_then g.met.T.Table.goes_on_then (grown_then g.met.T.Table.goes_on_then
    (as_grown (as_written g.met.T.Table.stays_goes_on (read_then g.met.T.Table.stays_then c.in_ok-packed.ensures.read c.in_ok-numbers.ensures.read)))
    c.in_ok-note_all.ensures.ok) (as_grown c.in_ok-finish.ensures.ok)
