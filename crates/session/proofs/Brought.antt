-- What is told of a table that was brought into today's layout.
use Rattle.std.proofs.Common.{◌≡◌, ℕ, refl}
use Rattle.sector_disk.specs.Disk.{Disk}
use Rattle.game_file.specs.Kept.{Layout}
use Rattle.recover.specs.declared.migration.Migration.{Migration}
use Rattle.recover.specs.declared.migration.Migration.TheVariants.{Migrated, Current}
use Rattle.recover.specs.Migrations.{EitherLayout, IsCurrent, IsMigrated}
use Rattle.session.specs.Commands.{IsBrought, brought}

-- each answer is told as what it is
pub brought_so : (First Second Today : ℕ → Layout) (disk back : Disk) (count now : ℕ) (which : Migration)
    → (which ≡ Migrated → IsMigrated (EitherLayout First Second) Today disk count back now)
    → (which ≡ Current → IsCurrent (EitherLayout First Second) Today disk count back now)
    → IsBrought First Second Today disk count (brought which) back now
brought_so First Second Today disk back count now Migrated migrated current = migrated refl
brought_so First Second Today disk back count now Current migrated current = current refl
