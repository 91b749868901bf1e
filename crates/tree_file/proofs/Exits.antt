-- What a call gives is told of what is made of it.
use Rattle.std.proofs.Common.{Option, Result, Ok, Err, refl}
use Rattle.std.specs.Result.{OnOk, IfErr}
use Rattle.table.specs.declared.fault.TableFault.{TableFault}
use Rattle.tree_table.specs.declared.slot.TreeSlot.{TreeSlot}
use Rattle.tree_table.specs.WorkTable.{Work, WorkGoesOn, WorkFails}
use Rattle.tree_file.specs.Calls.{FileGoesOn, FileFails}
use Rattle.tree_file.specs.File.{file_of}

-- what follows of each answer
pub either_way : {X E A C : Type 0} {B : E → Type 0} (r : Result X E) → (A → C) → ((e : E) → B e → C) → OnOk r A → IfErr r B → C
either_way (Ok x) one other is cause = one is
either_way (Err e) one other is cause = other e cause

-- what follows of an answer
pub on_ok : {X E : Type 0} (P Q : Type 0) (r : Result X E) → (P → Q) → OnOk r P → OnOk r Q
on_ok P Q (Ok x) so is = so is
on_ok P Q (Err e) so is = tt

-- a call of the table that was answered, or was not, is one of its file
pub files_on : {X : Type 0} (r : Result X TableFault) (old new : Work) (game : Option TreeSlot) → OnOk r (WorkGoesOn old new)
    → OnOk r (FileGoesOn (file_of old game) (file_of new game))
files_on (Ok x) old new game ahead = record { work = ahead; game = refl }
files_on (Err e) old new game ahead = tt

pub files_fail : {X : Type 0} (r : Result X TableFault) (old new : Work) (game : Option TreeSlot) → IfErr r (WorkFails old new)
    → IfErr r (FileFails (file_of old game) (file_of new game))
files_fail (Ok x) old new game fails = tt
files_fail (Err e) old new game fails = record { work = fails; game = refl }
