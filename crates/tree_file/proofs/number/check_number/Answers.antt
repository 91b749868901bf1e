use Rattle.page_store.specs.Frames.{PagesRead}
use Rattle.std.proofs.Common.{◌∙◌, ◌≡◌, ℕ, List, Some, false, true, refl, sym, ap, subst}
use Rattle.std.proofs.lemmas.Option.{same_Some}
use Rattle.page_store.specs.lemmas.Frames.{read_then}
use Rattle.retrograde.specs.declared.records.Record.{Record}
use Rattle.game_file.specs.Bytes.{IsCell}
use Rattle.btree.specs.Entries.{find_entry}
use Rattle.btree.specs.lemmas.Leaves.{reading_stays}
use Rattle.tree_table.specs.declared.tree.Tree.TheVariants.{Positions, Records}
use Rattle.tree_table.specs.Entries.{number_key}
use Rattle.tree_table.specs.WorkTable.{forest_there}
use Rattle.tree_file.specs.lemmas.Right.{IsNumberAt, IsRightPlaced, FitsPlaced}
use Rattle.tree_file.proofs.CheckExits.{passed_on, plain_since, read_plain, told_before}
use Rattle.tree_file.proofs.Readers.{absent, cell_there, there}
use Rattle.tree_file.proofs.FoundPlaces.{one_cell_at, one_number_at}
use Rattle.tree_file.proofs.number.check_number.Goals as goal

pub returns-in_err-find_key-clause-cause : goal.returns-in_err-find_key-clause-cause
returns-in_err-find_key-clause-cause g c =
    passed_on _ c.from_residual.result _ c.from_residual.ensures
    (read_plain (λ entries. IsRightPlaced c.args.slot.now.sizes entries c.args.number c.args.placed) c.args.slot.now (g.P.Pages.store c.args.store.now)
    (g.P.Pages.store c.find_key.new.store) _ (c.in_err-find_key.ensures.cause c.args.slot.now Records c.requires.of))

pub returns-then-not-branch-clause-cause : goal.returns-then-not-branch-clause-cause
returns-then-not-branch-clause-cause g c = λ honest text entries h right.
    absent c.find_key.new.reader c.in_ok-find_key.field-0 right.cell.value (find_entry (entries Records) (number_key c.args.number)) c.if-not-branch.true
    (c.in_ok-find_key.ensures.found c.args.slot.now Records c.requires.of honest text entries
    (forest_there c.args.slot.now text entries (g.P.Pages.store c.args.store.now) h)
    ∙ ap (find_entry (entries Records)) c.number_key.ensures) right.cell.found

pub returns-in_default-clause-cause : goal.returns-in_default-clause-cause
returns-in_default-clause-cause g c = λ honest text entries h right.
    let here : find_entry (entries Records) (number_key c.args.number) ≡ Some c.value.result.now =
    there c.find_key.new.reader c.in_ok-find_key.field-0 c.value.result.now
    (find_entry (entries Records) (number_key c.args.number)) c.if-not-branch.false c.value.ensures
    (c.in_ok-find_key.ensures.found c.args.slot.now Records c.requires.of honest text entries
    (forest_there c.args.slot.now text entries (g.P.Pages.store c.args.store.now) h)
    ∙ ap (find_entry (entries Records)) c.number_key.ensures) in
    let same : c.value.result.now ≡ right.cell.value = same_Some c.value.result.now right.cell.value (sym here ∙ right.cell.found) in
    c.in_default.ensures.none (right.position, right.kept)
    (subst (λ (b : List ℕ). IsCell c.args.slot.now.sizes.packed b (right.position, right.kept)) (sym same) right.cell.is)

pub returns-in_err-back-clause-cause : goal.returns-in_err-back-clause-cause
returns-in_err-back-clause-cause g c =
    let slot = c.args.slot.now in
    let old = g.P.Pages.store c.args.store.now in
    let mid = g.P.Pages.store c.find_key.new.store in
    let read : PagesRead old mid = c.in_ok-find_key.ensures.read in
    let cell = cell_there slot old c.find_key.new.reader c.in_ok-find_key.field-0 c.value.result.now c.in-Some.position.now c.in-Some.kept c.args.number c.number_key.result c.number_key.ensures
    c.if-not-branch.false c.value.ensures c.in-Some.ensures.some (c.in_ok-find_key.ensures.found slot Records c.requires.of) in
    passed_on _ c.from_residual-in_err-back.result _ c.from_residual-in_err-back.ensures
    (plain_since (λ entries. (n : ℕ) × IsNumberAt (entries Positions) c.in-Some.position.now n)
    (λ entries. IsRightPlaced slot.sizes entries c.args.number c.args.placed) slot old mid (g.P.Pages.store c.number_at.new.store) _ read
    (λ honest text entries h right.
    let cells = one_cell_at slot.sizes.packed (entries Records) c.args.number _ _ right.cell (cell honest text entries h) in
    let same : right.position ≡ c.in-Some.position.now = ap (λ (d : List ℕ × Record). d.0) cells in
    (c.args.number, subst (λ (k : List ℕ). IsNumberAt (entries Positions) k c.args.number) same right.back))
    c.in_err-back.ensures.cause)

pub returns-then-back-number-clause-cause : goal.returns-then-back-number-clause-cause
returns-then-back-number-clause-cause g c = λ honest text entries h right.
    let slot = c.args.slot.now in
    let old = g.P.Pages.store c.args.store.now in
    let mid = g.P.Pages.store c.find_key.new.store in
    let read : PagesRead old mid = c.in_ok-find_key.ensures.read in
    let cell = cell_there slot old c.find_key.new.reader c.in_ok-find_key.field-0 c.value.result.now c.in-Some.position.now c.in-Some.kept c.args.number c.number_key.result c.number_key.ensures
    c.if-not-branch.false c.value.ensures c.in-Some.ensures.some (c.in_ok-find_key.ensures.found slot Records c.requires.of) in
    let cells = one_cell_at slot.sizes.packed (entries Records) c.args.number _ _ right.cell (cell honest text entries h) in
    let same : right.position ≡ c.in-Some.position.now = ap (λ (d : List ℕ × Record). d.0) cells in
    let at = told_before (λ es. IsNumberAt (es Positions) c.in-Some.position.now c.in_ok-back.back) slot old mid
    read c.in_ok-back.ensures.number honest text entries h in
    c.if-back-number.true (one_number_at (entries Positions) c.in-Some.position.now c.in_ok-back.back c.args.number at
    (subst (λ (k : List ℕ). IsNumberAt (entries Positions) k c.args.number) same right.back))

pub returns-then-fits_placed-clause-reading : goal.returns-then-fits_placed-clause-reading
returns-then-fits_placed-clause-reading g c =
    reading_stays c.find_key.new.reader (g.P.Pages.store c.find_key.new.store) (g.P.Pages.store c.number_at.new.store)
    c.in_ok-back.ensures.read.works c.in_ok-back.ensures.read.unchanged c.in_ok-find_key.ensures.reader.reading

pub returns-then-fits_placed-clause-right : goal.returns-then-fits_placed-clause-right
returns-then-fits_placed-clause-right g c = λ honest text entries h.
    let slot = c.args.slot.now in
    let old = g.P.Pages.store c.args.store.now in
    let mid = g.P.Pages.store c.find_key.new.store in
    let read : PagesRead old mid = c.in_ok-find_key.ensures.read in
    let cell = cell_there slot old c.find_key.new.reader c.in_ok-find_key.field-0 c.value.result.now c.in-Some.position.now c.in-Some.kept c.args.number c.number_key.result c.number_key.ensures
    c.if-not-branch.false c.value.ensures c.in-Some.ensures.some (c.in_ok-find_key.ensures.found slot Records c.requires.of) in
    let at = told_before (λ es. IsNumberAt (es Positions) c.in-Some.position.now c.in_ok-back.back) slot old mid
    read c.in_ok-back.ensures.number honest text entries h in
    record {
      position = c.in-Some.position.now;
      kept = c.in-Some.kept;
      cell = cell honest text entries h;
      back = subst (λ (n : ℕ). IsNumberAt (entries Positions) c.in-Some.position.now n) c.if-back-number.false at;
      fits = c.if-fits_placed.ensures.0 refl;
    }

pub returns-else-fits_placed-clause-cause : goal.returns-else-fits_placed-clause-cause
returns-else-fits_placed-clause-cause g c = λ honest text entries h right.
    let slot = c.args.slot.now in
    let old = g.P.Pages.store c.args.store.now in
    let cell = cell_there slot old c.find_key.new.reader c.in_ok-find_key.field-0 c.value.result.now c.in-Some.position.now c.in-Some.kept c.args.number c.number_key.result c.number_key.ensures
    c.if-not-branch.false c.value.ensures c.in-Some.ensures.some (c.in_ok-find_key.ensures.found slot Records c.requires.of) in
    let cells = one_cell_at slot.sizes.packed (entries Records) c.args.number _ _ right.cell (cell honest text entries h) in
    let fits = subst (λ (d : List ℕ × Record). FitsPlaced slot.sizes.counts c.args.number c.args.placed d.1) cells right.fits in
    let never : false ≡ true = c.if-fits_placed.ensures.1 fits in cc

pub returns-in_err-find_key-clause-of : goal.returns-in_err-find_key-clause-of
returns-in_err-find_key-clause-of g c = c.find_key.ensures.reader.of c.args.slot.now Records c.requires.of

pub returns-then-not-branch-clause-of : goal.returns-then-not-branch-clause-of
returns-then-not-branch-clause-of g c = c.find_key.ensures.reader.of c.args.slot.now Records c.requires.of

pub returns-in_default-clause-of : goal.returns-in_default-clause-of
returns-in_default-clause-of g c = c.find_key.ensures.reader.of c.args.slot.now Records c.requires.of

pub returns-in_err-back-clause-of : goal.returns-in_err-back-clause-of
returns-in_err-back-clause-of g c = c.find_key.ensures.reader.of c.args.slot.now Records c.requires.of

pub returns-then-back-number-clause-of : goal.returns-then-back-number-clause-of
returns-then-back-number-clause-of g c = c.find_key.ensures.reader.of c.args.slot.now Records c.requires.of

pub returns-then-fits_placed-clause-of : goal.returns-then-fits_placed-clause-of
returns-then-fits_placed-clause-of g c = c.find_key.ensures.reader.of c.args.slot.now Records c.requires.of

pub returns-else-fits_placed-clause-of : goal.returns-else-fits_placed-clause-of
returns-else-fits_placed-clause-of g c = c.find_key.ensures.reader.of c.args.slot.now Records c.requires.of

pub returns-in_err-back-clause-read : goal.returns-in_err-back-clause-read
returns-in_err-back-clause-read g c = read_then c.in_ok-find_key.ensures.read c.in_err-back.ensures.read

pub returns-then-back-number-clause-read : goal.returns-then-back-number-clause-read
returns-then-back-number-clause-read g c = read_then c.in_ok-find_key.ensures.read c.in_ok-back.ensures.read

pub returns-then-fits_placed-clause-read : goal.returns-then-fits_placed-clause-read
returns-then-fits_placed-clause-read g c = read_then c.in_ok-find_key.ensures.read c.in_ok-back.ensures.read

pub returns-else-fits_placed-clause-read : goal.returns-else-fits_placed-clause-read
returns-else-fits_placed-clause-read g c = read_then c.in_ok-find_key.ensures.read c.in_ok-back.ensures.read
