use Rattle.std.proofs.Common.{refl}
use Rattle.file_disk.proofs.Unsealed.{no_word, same_word}
use Rattle.file_disk.proofs.open_file.OpenFileByteFile.sync.Goals as goal

pub returns-clause-all : goal.returns-clause-all
returns-clause-all c = λ honest. absurd (no_word _ c.self.view_is honest)

pub returns-clause-unchanged : goal.returns-clause-unchanged
returns-clause-unchanged c = λ honest. absurd (no_word _ c.self.view_is honest)

pub returns-clause-noted : goal.returns-clause-noted
returns-clause-noted c = λ honest. absurd (no_word _ c.self.view_is honest)

pub returns-clause-tried : goal.returns-clause-tried
returns-clause-tried c = λ honest. absurd (no_word _ c.self.view_is honest)

pub returns-clause-counted : goal.returns-clause-counted
returns-clause-counted c = λ honest. absurd (no_word _ c.self.view_is honest)

pub returns-clause-same_honest : goal.returns-clause-same_honest
returns-clause-same_honest c = same_word _ _ c.self.view_is refl
