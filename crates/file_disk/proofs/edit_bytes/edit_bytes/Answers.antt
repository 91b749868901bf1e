use Rattle.std.proofs.Common.{rules, ◌≡◌, List, ℕ, length, ap, sym, ◌∙◌, subst}
use Rattle.file_disk.specs.Bytes.{bytes_at}
use Rattle.file_disk.proofs.SectorPlaces.{part_lent, part_long, changed_part, changed_others}
use Rattle.file_disk.proofs.edit_bytes.edit_bytes.Goals as goal

pub edit_part-requires-clause-long : goal.edit_part-requires-clause-long
edit_part-requires-clause-long g c =
    ap (λ (b : List ℕ). length b) (part_lent c.args.at 4096 c.deref_mut.result.now c.args.bytes.now.items c.deref_mut.ensures.value)
    ∙ part_long c.args.bytes.now.items c.args.at 4096 c.requires.within

pub edit_part-requires-clause-fits : goal.edit_part-requires-clause-fits
edit_part-requires-clause-fits g c =
    subst (λ (b : List ℕ). g.E.PageEdit.fits c.args.edit.now c.args.span b)
    (sym (part_lent c.args.at 4096 c.deref_mut.result.now c.args.bytes.now.items c.deref_mut.ensures.value)) c.requires.fits

pub returns-clause-edited : goal.returns-clause-edited
returns-clause-edited g c =
    let old : List ℕ = c.args.bytes.now.items in
    let lent : List ℕ = c.deref_mut.result.now in
    let from : List ℕ = c.edit_part.new.part in
    let len : c.args.bytes.now.len ≡ length old = search rules in
    let edited : g.E.PageEdit.edits c.args.edit.now (bytes_at old c.args.at 4096) from =
    subst (λ (b : List ℕ). g.E.PageEdit.edits c.args.edit.now b from) (part_lent c.args.at 4096 lent old c.deref_mut.ensures.value)
    c.edit_part.ensures.edited in
    subst (λ (b : List ℕ). g.E.PageEdit.edits c.args.edit.now (bytes_at old c.args.at 4096) b)
    (sym (changed_part c.args.at 4096 c.args.bytes.now.len old lent from c.deref_mut.ensures.value len c.edit_part.ensures.long c.requires.within)) edited

pub returns-clause-others : goal.returns-clause-others
returns-clause-others g c =
    let len : c.args.bytes.now.len ≡ length c.args.bytes.now.items = search rules in
    changed_others c.args.at 4096 c.args.bytes.now.len c.args.bytes.now.items c.deref_mut.result.now c.edit_part.new.part c.deref_mut.ensures.value len
    c.edit_part.ensures.long c.requires.within
