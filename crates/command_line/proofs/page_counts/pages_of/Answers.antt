use Rattle.command_line.proofs.Units.{counted, not_counted}
use Rattle.command_line.proofs.page_counts.pages_of.Goals as goal

pub returns-in_default : goal.returns-in_default
returns-in_default c = not_counted _ _ _ c.unit_of-unit.ensures.unit c.unit_of-unit.ensures.alone c.in_default.ensures

pub returns : goal.returns
returns c = counted _ _ _ c.unit_of-unit.ensures.unit c.unit_of-unit.ensures.alone _ _ c.in-Some.ensures c.whole_pages.ensures
