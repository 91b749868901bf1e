-- The codes of refusals.
use Rattle.std.specs.Prelude.{ℕ, List, codes}
use Rattle.certificate.specs.declared.fault.CertificateFault.{CertificateFault}
use Rattle.certificate.specs.declared.fault.CertificateFault.TheVariants.{Malformed, NoGame, OtherGame, NoPosition}
use Rattle.certificate.specs.declared.fault.CertificateFault.TheVariants.{DoesNotFollow, NotShown, TooWide, OutOfMemory}

-- the code that is printed for it
abbrev pub fault_code : CertificateFault → List ℕ
fault_code Malformed = codes "C1"
fault_code (NoGame why) = codes "C2"
fault_code OtherGame = codes "C3"
fault_code NoPosition = codes "C4"
fault_code DoesNotFollow = codes "C5"
fault_code NotShown = codes "C6"
fault_code TooWide = codes "C7"
fault_code OutOfMemory = codes "C8"
