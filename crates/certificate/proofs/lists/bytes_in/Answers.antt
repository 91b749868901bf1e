use Rattle.std.proofs.Common.{refl}
use Rattle.certificate.specs.Format.{letters}
use Rattle.certificate.specs.lemmas.Parts.{IsLettersRefused as cause}
use Rattle.certificate.proofs.lists.bytes_in.Goals as goal

pub returns-in-Ok-clause-read : goal.returns-in-Ok-clause-read
unfolding letters
returns-in-Ok-clause-read c = (c.in-Ok.ensures.exact (refl, refl), c.in-Ok.ensures.bytes)

pub returns-in-Err-OutOfMemory-clause-fault : goal.returns-in-Err-OutOfMemory-clause-fault
returns-in-Err-OutOfMemory-clause-fault c = cause.no_memory

pub returns-in-Err-DecodeError-clause-fault : goal.returns-in-Err-DecodeError-clause-fault
unfolding letters
returns-in-Err-DecodeError-clause-fault c = cause.no_letters (λ bytes are same.
    let decodes = (c.in-Err-DecodeError.ensures.strict (refl, refl) bytes are).1 same in
    let fails = rw c.in-Err-DecodeError.field-0-is at c.in-Err-DecodeError.ensures.err in
    cc)
