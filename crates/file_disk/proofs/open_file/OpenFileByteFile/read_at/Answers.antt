use Rattle.std.proofs.Common.{refl}
use Rattle.file_disk.proofs.Unsealed.{no_word, same_word}
use Rattle.file_disk.proofs.open_file.OpenFileByteFile.read_at.Goals as goal

pub returns-clause-bytes : goal.returns-clause-bytes
returns-clause-bytes c = λ honest. absurd (no_word _ c.self.view_is honest)

pub returns-clause-unchanged : goal.returns-clause-unchanged
returns-clause-unchanged c = λ honest. absurd (no_word _ c.self.view_is honest)

pub returns-clause-lasts : goal.returns-clause-lasts
returns-clause-lasts c = λ honest. absurd (no_word _ c.self.view_is honest)

pub returns-clause-touched : goal.returns-clause-touched
returns-clause-touched c = λ honest. absurd (no_word _ c.self.view_is honest)

pub returns-clause-counted : goal.returns-clause-counted
returns-clause-counted c = λ honest. absurd (no_word _ c.self.view_is honest)

pub returns-clause-same_honest : goal.returns-clause-same_honest
returns-clause-same_honest c = same_word _ _ c.self.view_is refl
