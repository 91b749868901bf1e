use Rattle.std.proofs.Common.{refl}
use Rattle.file_disk.proofs.Unsealed.{no_word, same_word}
use Rattle.file_disk.proofs.open_file.OpenFileByteFile.set_len.Goals as goal

pub returns-clause-resized : goal.returns-clause-resized
returns-clause-resized c = λ honest. absurd (no_word _ c.self.view_is honest)

pub returns-clause-kept : goal.returns-clause-kept
returns-clause-kept c = λ honest. absurd (no_word _ c.self.view_is honest)

pub returns-clause-lasts : goal.returns-clause-lasts
returns-clause-lasts c = λ honest. absurd (no_word _ c.self.view_is honest)

pub returns-clause-noted : goal.returns-clause-noted
returns-clause-noted c = λ honest. absurd (no_word _ c.self.view_is honest)

pub returns-clause-tried : goal.returns-clause-tried
returns-clause-tried c = λ honest. absurd (no_word _ c.self.view_is honest)

pub returns-clause-counted : goal.returns-clause-counted
returns-clause-counted c = λ honest. absurd (no_word _ c.self.view_is honest)

pub returns-clause-same_honest : goal.returns-clause-same_honest
returns-clause-same_honest c = same_word _ _ c.self.view_is refl
