use Rattle.page_store.specs.lemmas.Frames.{read_refl}
use Rattle.btree.proofs.find.look.look_at.Goals as goal

pub returns-in-Some-seen_in-clause-read : goal.returns-in-Some-seen_in-clause-read
returns-in-Some-seen_in-clause-read g c = read_refl _

pub returns-in-None-seen_in-clause-read : goal.returns-in-None-seen_in-clause-read
returns-in-None-seen_in-clause-read g c = read_refl _
