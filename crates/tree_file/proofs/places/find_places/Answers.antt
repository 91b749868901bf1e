use Rattle.std.proofs.Common.{◌≡◌, ◌∙◌, ℕ, List, sym, subst, arith}
use Rattle.page_store.specs.lemmas.Frames.{read_refl, read_then}
use Rattle.tree_table.specs.declared.tree.Tree.TheVariants.{Order}
use Rattle.tree_table.specs.Entries.{number_key}
use Rattle.tree_file.specs.lemmas.Right.{IsNumberAt, AreRight, AreMarkedByPlaces}
use Rattle.tree_file.proofs.CheckExits.{passed_on, check_since, plain_check, told_before}
use Rattle.tree_file.proofs.FoundPlaces.{none_placed, placed_more, placed_twice, place_known, place_missing, take_long}
use Rattle.tree_file.proofs.places.find_places.Goals as goal

pub loop-place-init : goal.loop-place-init
loop-place-init g c = record {
  of = c.reader_of-reader.ensures.is;
  reading = c.reader_of-reader.ensures.reading (g.P.Pages.store c.args.store.now);
  read = read_refl (g.P.Pages.store c.args.store.now);
  long = c.in_ok-placed.ensures.long;
  so_far = λ honest text entries h. none_placed c.args.slot.now.sizes entries c.in_ok-placed.placed.items c.in_ok-placed.ensures.none;
}

pub returns-in_err-number-clause-cause : goal.returns-in_err-number-clause-cause
returns-in_err-number-clause-cause g c =
    let slot = c.args.slot.now in
    let old = g.P.Pages.store c.args.store.now in
    let mid = g.P.Pages.store c.loop-place.store in
    let new = g.P.Pages.store c.number_by.new.store in
    passed_on _ c.from_residual-in_err-number.result _ c.from_residual-in_err-number.ensures
    (check_since (λ entries. (n : ℕ) × IsNumberAt (entries Order) c.number_key.result n)
    (λ entries. AreRight slot.sizes entries 0 slot.sizes.counts.known) slot old mid new _
    c.loop-place.invariant.read
    (λ honest text entries h right.
    let (n, at) = place_missing slot.sizes entries c.loop-place.place c.loop-place-test.true right in
    (n, subst (λ (k : List ℕ). IsNumberAt (entries Order) k n) (sym c.number_key.ensures) at))
    (plain_check (λ entries. (n : ℕ) × IsNumberAt (entries Order) c.number_key.result n) slot mid new _
    (c.in_err-number.ensures.cause slot Order c.loop-place.invariant.of)))

pub returns-then-number-counts-clause-cause : goal.returns-then-number-counts-clause-cause
returns-then-number-counts-clause-cause g c = λ honest text entries h right.
    let slot = c.args.slot.now in
    let old = g.P.Pages.store c.args.store.now in
    let mid = g.P.Pages.store c.loop-place.store in
    let at = told_before (λ es. IsNumberAt (es Order) c.number_key.result c.in_ok-number.number) slot old mid
    c.loop-place.invariant.read (c.in_ok-number.ensures.number slot Order c.loop-place.invariant.of) honest text entries h in
    let here : IsNumberAt (entries Order) (number_key c.loop-place.place) c.in_ok-number.number =
    subst (λ (k : List ℕ). IsNumberAt (entries Order) k c.in_ok-number.number) c.number_key.ensures at in
    let low = place_known slot.sizes entries c.loop-place.place c.in_ok-number.number here c.loop-place-test.true right in
    omega (arith, low, c.if-number-counts.true)

pub returns-then-not-is_new-clause-cause : goal.returns-then-not-is_new-clause-cause
returns-then-not-is_new-clause-cause g c = λ honest text entries h right.
    let slot = c.args.slot.now in
    let old = g.P.Pages.store c.args.store.now in
    let mid = g.P.Pages.store c.loop-place.store in
    let at = told_before (λ es. IsNumberAt (es Order) c.number_key.result c.in_ok-number.number) slot old mid
    c.loop-place.invariant.read (c.in_ok-number.ensures.number slot Order c.loop-place.invariant.of) honest text entries h in
    let here : IsNumberAt (entries Order) (number_key c.loop-place.place) c.in_ok-number.number =
    subst (λ (k : List ℕ). IsNumberAt (entries Order) k c.in_ok-number.number) c.number_key.ensures at in
    placed_twice slot.sizes entries c.loop-place.place c.in_ok-number.number c.loop-place.placed.items
    (c.loop-place.invariant.so_far honest text entries h) here c.loop-place.invariant.long (omega (arith, c.if-number-counts.false))
    c.take_place-is_new.result c.take_place-is_new.new.placed.items
    (rw c.placed_at.ensures at c.take_place-is_new.ensures.free) c.take_place-is_new.ensures.taken
    c.loop-place-test.true c.if-not-is_new.true right

pub loop-place-preserved : goal.loop-place-preserved
loop-place-preserved g c =
    let slot = c.args.slot.now in
    let old = g.P.Pages.store c.args.store.now in
    let mid = g.P.Pages.store c.loop-place.store in
    record {
      of = c.number_by.ensures.of slot Order c.loop-place.invariant.of;
      reading = c.in_ok-number.ensures.reading;
      read = read_then c.loop-place.invariant.read c.in_ok-number.ensures.read;
      long =
          take_long c.in_ok-number.number c.placed_at.result c.loop-place.placed.items c.take_place-is_new.new.placed.items c.take_place-is_new.result
          c.take_place-is_new.ensures.free c.take_place-is_new.ensures.taken c.if-not-is_new.false
          ∙ c.loop-place.invariant.long;
      so_far = λ honest text entries h.
          let at = told_before (λ es. IsNumberAt (es Order) c.number_key.result c.in_ok-number.number) slot old mid
          c.loop-place.invariant.read (c.in_ok-number.ensures.number slot Order c.loop-place.invariant.of) honest text entries h in
          let here : IsNumberAt (entries Order) (number_key c.loop-place.place) c.in_ok-number.number =
          subst (λ (k : List ℕ). IsNumberAt (entries Order) k c.in_ok-number.number) c.number_key.ensures at in
          placed_more slot.sizes entries c.loop-place.place c.in_ok-number.number c.loop-place.placed.items
          (c.loop-place.invariant.so_far honest text entries h) here c.loop-place.invariant.long (omega (arith, c.if-number-counts.false))
          c.take_place-is_new.result c.take_place-is_new.new.placed.items
          (rw c.placed_at.ensures at c.take_place-is_new.ensures.free) c.take_place-is_new.ensures.taken
          c.if-not-is_new.false;
    }

pub returns-clause-places : goal.returns-clause-places
returns-clause-places g c = λ honest text entries h.
    let slot = c.args.slot.now in
    let end : c.loop-place.place ≡ slot.sizes.counts.settled = omega (arith, c.loop-place-test.false, c.loop-place.auto.place-end) in
    subst (λ (k : ℕ). AreMarkedByPlaces slot.sizes entries k c.loop-place.placed.items) end (c.loop-place.invariant.so_far honest text entries h)

pub returns-in_err-placed-clause-read : goal.returns-in_err-placed-clause-read
returns-in_err-placed-clause-read g c = read_refl _

pub returns-in_err-number-clause-read : goal.returns-in_err-number-clause-read
returns-in_err-number-clause-read g c = read_then c.loop-place.invariant.read c.in_err-number.ensures.read

pub returns-then-number-counts-clause-read : goal.returns-then-number-counts-clause-read
returns-then-number-counts-clause-read g c = read_then c.loop-place.invariant.read c.in_ok-number.ensures.read

pub returns-then-not-is_new-clause-read : goal.returns-then-not-is_new-clause-read
returns-then-not-is_new-clause-read g c = read_then c.loop-place.invariant.read c.in_ok-number.ensures.read

pub returns-clause-read : goal.returns-clause-read
returns-clause-read g c = c.loop-place.invariant.read
