use Rattle.file_disk.proofs.Unsealed.{no_word}
use Rattle.file_disk.proofs.open_file.OpenFileByteFile.len.Goals as goal

pub returns-in-Ok-clause-is : goal.returns-in-Ok-clause-is
returns-in-Ok-clause-is c = λ honest. absurd (no_word _ c.self.view_is honest)

pub returns-in-Err-clause-none : goal.returns-in-Err-clause-none
returns-in-Err-clause-none c = λ honest. absurd (no_word _ c.self.view_is honest)
