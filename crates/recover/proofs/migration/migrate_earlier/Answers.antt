use Rattle.std.proofs.Common.{◌≡◌, inl, inr, true, false, sym, ◌∙◌}
use Rattle.recover.specs.Migrations.{EitherLayout}
use Rattle.recover.proofs.Migrations.{is_migrated, not_migrated, not_migrated_so}
use Rattle.recover.proofs.Refusals.{first_cause, none_of_it, read_again, second_cause}
use Rattle.recover.proofs.migration.migrate_earlier.Goals as goal

pub returns-in-Ok-clause-migrated : goal.returns-in-Ok-clause-migrated
returns-in-Ok-clause-migrated g c = λ first count read.
    is_migrated g.Second.EarlierFile.stores (EitherLayout g.First.EarlierFile.stores g.Second.EarlierFile.stores) g.Today.GameFile.stores
    (λ pages image kept it. inr it) first _ _ count _ _ read c.in-Ok.ensures.moved

pub returns-then-not-is_older-clause-refused : goal.returns-then-not-is_older-clause-refused
returns-then-not-is_older-clause-refused g c = λ first count read.
    not_migrated g.Second.EarlierFile.stores (EitherLayout g.First.EarlierFile.stores g.Second.EarlierFile.stores) g.Today.GameFile.stores
    (λ pages image kept it. inr it) first _ _ count _ _ read c.in-Err.refused.fault c.in-Err.ensures.refused

pub returns-then-not-is_older-clause-cause : goal.returns-then-not-is_older-clause-cause
returns-then-not-is_older-clause-cause g c = λ first count read no_today.
    second_cause g.First.EarlierFile.stores g.Second.EarlierFile.stores g.Today.GameFile.stores c.requires first _ count _ read _ _
    c.in-Err.refused.fault no_today (λ is. let no : true ≡ false = sym (c.is_older.ensures.1 is) ∙ c.if-not-is_older.true in cc)
    c.in-Err.ensures.refused

pub returns-in-Ok-bring-clause-migrated : goal.returns-in-Ok-bring-clause-migrated
returns-in-Ok-bring-clause-migrated g c = λ first count read.
    let again = read_again g.Second.EarlierFile.stores g.Today.GameFile.stores first _ _ count _ _ c.in-Err.refused.fault
    (c.is_older.ensures.0 c.if-not-is_older.false) read c.in-Err.ensures.refused in
    is_migrated g.First.EarlierFile.stores (EitherLayout g.First.EarlierFile.stores g.Second.EarlierFile.stores) g.Today.GameFile.stores
    (λ pages image kept it. inl it) first _ _ count _ _ again c.in-Ok-bring.ensures.moved

pub returns-clause-refused : goal.returns-clause-refused
returns-clause-refused g c = λ first count read.
    let again = read_again g.Second.EarlierFile.stores g.Today.GameFile.stores first _ _ count _ _ c.in-Err.refused.fault
    (c.is_older.ensures.0 c.if-not-is_older.false) read c.in-Err.ensures.refused in
    not_migrated_so g.First.EarlierFile.stores (EitherLayout g.First.EarlierFile.stores g.Second.EarlierFile.stores) g.Today.GameFile.stores
    (λ pages image kept it. inl it) first _ _ count _ _ again c.in-Err-bring.refused.fault c.of_first.result c.of_first.ensures.other
    c.in-Err-bring.ensures.refused

pub returns-clause-cause : goal.returns-clause-cause
returns-clause-cause g c = λ first count read no_today.
    let older = c.is_older.ensures.0 c.if-not-is_older.false in
    let again = read_again g.Second.EarlierFile.stores g.Today.GameFile.stores first _ _ count _ _ c.in-Err.refused.fault older read
    c.in-Err.ensures.refused in
    first_cause g.First.EarlierFile.stores g.Second.EarlierFile.stores g.Today.GameFile.stores c.requires first _ count _ again _ _
    c.in-Err-bring.refused.fault c.of_first.result no_today
    (none_of_it g.Second.EarlierFile.stores g.Today.GameFile.stores first _ _ count _ _ c.in-Err.refused.fault older read c.in-Err.ensures.refused)
    c.of_first.ensures.older c.of_first.ensures.other c.in-Err-bring.ensures.refused
