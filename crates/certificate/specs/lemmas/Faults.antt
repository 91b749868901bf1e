-- Faults of what a check asks, as faults of a certificate.
use Rattle.legal_moves.specs.declared.fault.MoveFault.{MoveFault}
use Rattle.legal_moves.specs.declared.fault.MoveFault.TheVariants as search
use Rattle.rbg_read.specs.declared.fault.GameFault.{GameFault}
use Rattle.rbg_read.specs.declared.fault.GameFault.TheVariants as text
use Rattle.certificate.specs.declared.fault.CertificateFault.{CertificateFault}
use Rattle.certificate.specs.declared.fault.CertificateFault.TheVariants.{NoGame, TooWide, OutOfMemory}

-- that of a search for moves
abbrev pub of_search : MoveFault → CertificateFault
of_search search.TooWide = TooWide
of_search search.OutOfMemory = OutOfMemory

-- that of a text
abbrev pub of_text : GameFault → CertificateFault
of_text text.OutOfMemory = OutOfMemory
of_text why = NoGame why
