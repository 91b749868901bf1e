use Rattle.recover.specs.lemmas.Layouts.{our_layouts}
use Rattle.witness.proofs.Migrations.{goes_on_behind, refused_for}
use Rattle.witness.proofs.migrated.end_migration.Goals as goal

pub migrate-requires : goal.migrate-requires
migrate-requires c = our_layouts

pub returns-in-Ok-clause-goes_on : goal.returns-in-Ok-clause-goes_on
returns-in-Ok-clause-goes_on c =
    goes_on_behind _ _ _ _ c.requires c.stopped_migrations_go_on.ensures.migrated c.stopped_migrations_go_on.ensures.current c.in-Ok._which
    c.in-Ok.ensures.migrated c.in-Ok.ensures.current

pub returns-in-Err-clause-fault : goal.returns-in-Err-clause-fault
returns-in-Err-clause-fault c =
    refused_for _ _ _ c.requires c.stopped_migrations_go_on.ensures.leaves c.an_image_stores_one_table_of_all_layouts.ensures c.in-Err.refused.fault
    c.in-Err.ensures.cause
