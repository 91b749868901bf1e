use Rattle.recover.specs.lemmas.Layouts.{our_layouts}
use Rattle.session.proofs.files.migrate_file.Goals as goal

pub migrate_on-disk-requires : goal.migrate_on-disk-requires
migrate_on-disk-requires c = our_layouts
