use Rattle.std.proofs.Common.{◌≡◌, ℕ, ◌<◌, inl, inr, length, sym, subst, arith}
use Rattle.std.specs.Prelude.{slice_index_or}
use Rattle.std.proofs.lemmas.Bool.{cases_eq}
use Rattle.page_store.specs.lemmas.Frames.{read_then}
use Rattle.tree_file.specs.lemmas.Right.{IsRightNumber, IsRightPlaced, AreRight}
use Rattle.tree_file.specs.declared.places.Placed.{Placed}
use Rattle.tree_file.specs.declared.places.Placed.TheVariants.{Nowhere}
use Rattle.tree_file.proofs.MadeTable.{right_spell}
use Rattle.tree_file.proofs.CheckExits.{passed_on, check_since, plain_check, told_before}
use Rattle.tree_file.proofs.Refusals.{not_spelled}
use Rattle.tree_file.proofs.FoundPlaces.{its_place, right_there, right_so}
use Rattle.tree_file.proofs.check.check_entries.Goals as goal

pub returns-in_err-placed-clause-cause : goal.returns-in_err-placed-clause-cause
returns-in_err-placed-clause-cause g c =
    passed_on _ c.from_residual.result _ c.from_residual.ensures
    (not_spelled c.args.slot.now (g.P.Pages.store c.args.store.now) (g.P.Pages.store c.find_places.new.store) _ c.in_err-placed.ensures.cause)

pub loop-number-init : goal.loop-number-init
loop-number-init g c = record {
  of = c.reader_of-reader.ensures.is;
  reading = c.reader_of-reader.ensures.reading (g.P.Pages.store c.find_places.new.store);
  read = c.in_ok-placed.ensures.read;
  numbers = λ honest text entries h i low. absurd (omega (arith, low));
}

pub returns-in_err-check_number-clause-cause : goal.returns-in_err-check_number-clause-cause
returns-in_err-check_number-clause-cause g c =
    let slot = c.args.slot.now in
    let old = g.P.Pages.store c.args.store.now in
    let mid = g.P.Pages.store c.loop-number.store in
    let new = g.P.Pages.store c.check_number.new.store in
    let number = c.loop-number.number in
    let items = c.in_ok-placed.placed.items in
    let within : number < length items = omega (arith, c.loop-number-test.true, c.in_ok-placed.ensures.long) in
    let place : c.index.result.now ≡ slice_index_or items number Nowhere = its_place items number c.index.result.now within c.index.ensures in
    passed_on _ c.from_residual-in_err-check_number.result _ c.from_residual-in_err-check_number.ensures
    (not_spelled slot old new _
    (check_since (λ entries. IsRightPlaced slot.sizes entries number c.index.result.now)
    (λ entries. AreRight slot.sizes entries 0 slot.sizes.counts.known) slot old mid new _
    c.loop-number.invariant.read
    (λ honest text entries h right.
    subst (λ (p : Placed). IsRightPlaced slot.sizes entries number p) (sym place)
    (right_so slot.sizes entries items (c.in_ok-placed.ensures.places honest text entries h) number within right c.loop-number-test.true))
    (plain_check (λ entries. IsRightPlaced slot.sizes entries number c.index.result.now) slot mid new _ c.in_err-check_number.ensures.cause)))

pub loop-number-preserved : goal.loop-number-preserved
loop-number-preserved g c =
    let slot = c.args.slot.now in
    let old = g.P.Pages.store c.args.store.now in
    let mid = g.P.Pages.store c.loop-number.store in
    let number = c.loop-number.number in
    let items = c.in_ok-placed.placed.items in
    let within : number < length items = omega (arith, c.loop-number-test.true, c.in_ok-placed.ensures.long) in
    let place : c.index.result.now ≡ slice_index_or items number Nowhere = its_place items number c.index.result.now within c.index.ensures in
    record {
      of = c.check_number.ensures.of;
      reading = c.in_ok-check_number.ensures.reading;
      read = read_then c.loop-number.invariant.read c.in_ok-check_number.ensures.read;
      numbers = λ honest text entries h i low. elim (cases_eq i number) [
        | inl is ↦
            let at = told_before (λ es. IsRightPlaced slot.sizes es number c.index.result.now) slot old mid
            c.loop-number.invariant.read c.in_ok-check_number.ensures.right honest text entries h in
            subst (λ (m : ℕ). IsRightNumber slot.sizes entries m) (sym is)
            (right_there slot.sizes entries items (c.in_ok-placed.ensures.places honest text entries h) number within
            (subst (λ (p : Placed). IsRightPlaced slot.sizes entries number p) place at))
        | inr before ↦ c.loop-number.invariant.numbers honest text entries h i (omega (arith, low, before))
      ];
    }

pub returns-clause-table : goal.returns-clause-table
returns-clause-table g c = λ honest text entries h many.
    let sizes = c.args.slot.now.sizes in
    let right : AreRight sizes entries 0 sizes.counts.known = record {
      places = (c.in_ok-placed.ensures.places honest text entries h).are.known;
      numbers = λ i first low. c.loop-number.invariant.numbers honest text entries h i (omega (arith, low, c.loop-number-test.false));
    } in
    right_spell sizes entries c.requires.limits many right

pub returns-in_err-check_number-clause-read : goal.returns-in_err-check_number-clause-read
returns-in_err-check_number-clause-read g c = read_then c.loop-number.invariant.read c.in_err-check_number.ensures.read

pub returns-clause-read : goal.returns-clause-read
returns-clause-read g c = c.loop-number.invariant.read
