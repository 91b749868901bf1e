use Rattle.page_store.specs.lemmas.Frames.{read_refl}
use Rattle.btree.proofs.find.ahead.ahead_at.Goals as goal

pub returns-in-Some-ahead_in-clause-read : goal.returns-in-Some-ahead_in-clause-read
returns-in-Some-ahead_in-clause-read g c = read_refl _

pub returns-in-None-ahead_in-clause-read : goal.returns-in-None-ahead_in-clause-read
returns-in-None-ahead_in-clause-read g c = read_refl _
