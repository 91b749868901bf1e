-- What comes of a command on a table that was opened for it.
use Rattle.std.proofs.Common.{ℕ, List, inl}
use Rattle.sector_disk.specs.Disk.{Disk}
use Rattle.game_file.specs.Calls.{IsAsked}
use Rattle.game_file.specs.Kept.{Layout}
use Rattle.game_file.specs.State.{State}
use Rattle.solver.specs.Opened.{IsOpened}
use Rattle.session.specs.Commands.{Came, made, refused, replied, told_text, audited, another, brought, grown, GivesBack}
use Rattle.session.specs.Commands.{IsAbout, IsAudit, IsAuditOf, IsAudited, IsAuditedAbout, IsTextTold, IsTextOf}

pub audit_done : (Stores : ℕ → Layout) (disk : Disk) (count : ℕ) (was is : State) (back : Disk) (now : ℕ) → IsOpened Stores disk count was
    → IsAsked Stores was is
    → GivesBack is back now → (came : Came) → IsAudited was is came → IsAudit Stores disk count came back now
audit_done Stores disk count was is back now opened asked gives made it = absurd it
audit_done Stores disk count was is back now opened asked gives (refused why) it = inl (was, is, opened, asked, gives, it)
audit_done Stores disk count was is back now opened asked gives (replied said) it = absurd it
audit_done Stores disk count was is back now opened asked gives (told_text text) it = absurd it
audit_done Stores disk count was is back now opened asked gives (audited verdict counts) it = (was, is, opened, asked, gives, it)
audit_done Stores disk count was is back now opened asked gives another it = absurd it
audit_done Stores disk count was is back now opened asked gives (brought which) it = absurd it
audit_done Stores disk count was is back now opened asked gives grown it = absurd it

-- the text of its game was asked for
pub text_done : (Stores : ℕ → Layout) (disk : Disk) (count : ℕ) (was : State) (back : Disk) (now : ℕ) → IsOpened Stores disk count was → GivesBack was back now
    → (came : Came) → IsTextOf was came → IsTextTold Stores disk count came back now
text_done Stores disk count was back now opened gives made it = absurd it
text_done Stores disk count was back now opened gives (refused why) it = inl (was, opened, gives, it.0, it.1)
text_done Stores disk count was back now opened gives (replied said) it = absurd it
text_done Stores disk count was back now opened gives (told_text text) it = (was, opened, gives, it)
text_done Stores disk count was back now opened gives (audited verdict counts) it = absurd it
text_done Stores disk count was back now opened gives another it = absurd it
text_done Stores disk count was back now opened gives (brought which) it = absurd it
text_done Stores disk count was back now opened gives grown it = absurd it

-- it was to be about a text
pub audit_of_done : (Stores : ℕ → Layout) (text : List ℕ) (disk : Disk) (count : ℕ) (was is : State) (back : Disk) (now : ℕ) → IsOpened Stores disk count was
    → IsAsked Stores was is → GivesBack is back now → (came : Came) → IsAuditedAbout text was is came → IsAuditOf Stores text disk count came back now
audit_of_done Stores text disk count was is back now opened asked gives made it = absurd it
audit_of_done Stores text disk count was is back now opened asked gives (refused why) it = inl (was, is, opened, asked, gives, it)
audit_of_done Stores text disk count was is back now opened asked gives (replied said) it = absurd it
audit_of_done Stores text disk count was is back now opened asked gives (told_text other) it = absurd it
audit_of_done Stores text disk count was is back now opened asked gives (audited verdict counts) it = (was, is, opened, asked, gives, it.0, it.1)
audit_of_done Stores text disk count was is back now opened asked gives another it = (was, is, opened, asked, gives, it)
audit_of_done Stores text disk count was is back now opened asked gives (brought which) it = absurd it
audit_of_done Stores text disk count was is back now opened asked gives grown it = absurd it

-- a table that is about the text is audited as any other
pub about_audited : (text : List ℕ) (was is : State) → IsAbout text was → (came : Came) → IsAudited was is came → IsAuditedAbout text was is came
about_audited text was is about made it = absurd it
about_audited text was is about (refused why) it = it
about_audited text was is about (replied said) it = absurd it
about_audited text was is about (told_text other) it = absurd it
about_audited text was is about (audited verdict counts) it = (about, it)
about_audited text was is about another it = absurd it
about_audited text was is about (brought which) it = absurd it
about_audited text was is about grown it = absurd it
