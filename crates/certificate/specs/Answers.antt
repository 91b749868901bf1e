-- What is printed of a certificate, and with which status.
use Rattle.std.specs.Prelude.{ℕ, List, [], ◌∷◌, ◌++◌, codes, Option}
use Rattle.std.specs.Fmt.{decimal}
use Rattle.rbg_text.specs.Token.{Text}
use Rattle.certificate.specs.Claims.{IsCertified}
use Rattle.certificate.specs.Codes.{fault_code}
use Rattle.certificate.specs.Refusals.{IsCertificateRefused}
use Rattle.certificate.specs.declared.fault.CertificateFault.{CertificateFault}
use Rattle.certificate.specs.declared.fault.CertificateFault.TheVariants.{OutOfMemory}

-- the value, the position that has it, and how many positions were looked at
abbrev pub shown_lines : List ℕ → List ℕ → ℕ → List ℕ
shown_lines value position looked =
    codes "certified " ++ value ++ 10 ∷ codes "position " ++ position ++ 10 ∷ codes "looked " ++ decimal looked ++ 10 ∷ []

-- `refused CODE`
abbrev pub refusal_line : CertificateFault → List ℕ
refusal_line fault = codes "refused " ++ fault_code fault ++ 10 ∷ []

-- 5 for want of memory, and else 1
abbrev pub status_of : CertificateFault → ℕ
status_of OutOfMemory = 5
status_of _ = 1

-- the status and what is written of a certificate, beside which the text of a game may be given: a value that is certified is so; and a code
-- with which it is refused has its cause
pub data IsCertificateAnswer (certificate : List ℕ) (given : Option Text) : ℕ → List ℕ → Type 0 where
  certified : (value position : List ℕ) (looked : ℕ) → IsCertified certificate given position value
      → IsCertificateAnswer certificate given 0 (shown_lines value position looked)
  refused : (fault : CertificateFault) → IsCertificateRefused certificate given fault → IsCertificateAnswer certificate given (status_of fault) (refusal_line fault)
