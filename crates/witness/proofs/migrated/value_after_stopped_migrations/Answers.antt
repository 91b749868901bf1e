use Rattle.witness.proofs.Migrations.{not_begun}
use Rattle.witness.proofs.migrated.value_after_stopped_migrations.Goals as goal

pub stopped-requires : goal.stopped-requires
stopped-requires c = not_begun _ c.in-Ok-make_finished.ensures.made
