use Rattle.page_store.specs.lemmas.Frames.{marks_none}
use Rattle.earlier_layouts.proofs.read.read_named.Goals as goal

pub returns-in-None-clause-only : goal.returns-in-None-clause-only
returns-in-None-clause-only g c = marks_none (g.P.Pages.store c.args.store.now)
