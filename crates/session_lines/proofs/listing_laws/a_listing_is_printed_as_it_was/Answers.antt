use Rattle.sector_disk.specs.lemmas.Moments.{still_honest}
use Rattle.session_lines.specs.lemmas.Printed.{next_printed, printed_rows}
use Rattle.session_lines.proofs.listing_laws.a_listing_is_printed_as_it_was.Goals as goal

pub returns-clause-told : goal.returns-clause-told
returns-clause-told g c = next_printed

pub returns-clause-answered : goal.returns-clause-answered
returns-clause-answered g c = λ version old new ahead lasts table honest it.
    (still_honest ahead honest, g.met.F.Versions.version_lasts version table old new honest lasts it)

pub returns-clause-about_others : goal.returns-clause-about_others
returns-clause-about_others g c = λ version old new ahead last table honest it. (still_honest ahead honest, last version table it)

pub returns-clause-rows : goal.returns-clause-rows
returns-clause-rows g c = λ version begun table asked rows honest it printed.
    printed_rows g.F.GameFile.state g.F.Versions.is_version version table printed honest it
