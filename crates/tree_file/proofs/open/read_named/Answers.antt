use Rattle.page_store.specs.lemmas.Frames.{marks_none}
use Rattle.std.proofs.Common.{Option, subst}
use Rattle.tree_table.specs.declared.slot.TreeSlot.{TreeSlot}
use Rattle.tree_table.specs.Slot.{SaysTrees}
use Rattle.tree_file.proofs.open.read_named.Goals as goal

pub read_game-requires : goal.read_game-requires
read_game-requires g c = subst (λ (game : Option TreeSlot). SaysTrees (g.P.Pages.store c.args.store.now).root game) c.in-Some.is c.requires

pub returns-in-None-clause-only : goal.returns-in-None-clause-only
returns-in-None-clause-only g c = marks_none (g.P.Pages.store c.args.store.now)
