use Rattle.std.proofs.Common.{sym, subst}
use Rattle.witness.specs.lemmas.Sittings.{IsBehindSittings}
use Rattle.witness.proofs.Behind.{behind_create}
use Rattle.witness.proofs.Told.{not_made}
use Rattle.witness.proofs.sittings.make.Goals as goal

pub returns-in-Ok-clause-made : goal.returns-in-Ok-clause-made
returns-in-Ok-clause-made g c =
    subst (IsBehindSittings g.F.GameFile.stores) (sym c.close.ensures.disk)
    (behind_create g.F.GameFile.stores _ _ _ c.requires c.in-Ok.ensures.created)

pub returns-in-Err-clause-fault : goal.returns-in-Err-clause-fault
returns-in-Err-clause-fault g c = not_made g.F.GameFile.stores _ _ _ c.in-Err.refused.fault c.requires c.in-Err.ensures.cause
