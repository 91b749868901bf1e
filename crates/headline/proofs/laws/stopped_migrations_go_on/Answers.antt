use Rattle.earlier_layouts.specs.Held.{Stores}
use Rattle.tree_table.specs.Held.{StoresTrees}
use Rattle.recover.specs.Migrations.{EitherLayout}
use Rattle.headline.specs.lemmas.Migrations.{one_of_all, migrations_leave, migrated_goes_on, current_goes_on}
use Rattle.headline.proofs.laws.stopped_migrations_go_on.Goals as goal

pub returns-clause-leaves : goal.returns-clause-leaves
returns-clause-leaves c = λ kept left image are. migrations_leave (EitherLayout Stores (StoresTrees 2)) (StoresTrees 3) one_of_all kept are image

pub returns-clause-migrated : goal.returns-clause-migrated
returns-clause-migrated c = λ kept before disk back count now. migrated_goes_on (EitherLayout Stores (StoresTrees 2)) (StoresTrees 3) one_of_all kept

pub returns-clause-current : goal.returns-clause-current
returns-clause-current c = λ kept before disk back count now. current_goes_on (EitherLayout Stores (StoresTrees 2)) (StoresTrees 3) one_of_all kept
