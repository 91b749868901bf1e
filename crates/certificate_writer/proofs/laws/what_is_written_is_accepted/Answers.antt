use Rattle.certificate.proofs.RightLemmas.{is_accepted}
use Rattle.certificate_writer.proofs.WrittenLemmas.{beside}
use Rattle.certificate_writer.proofs.laws.what_is_written_is_accepted.Goals as goal

pub returns : goal.returns
returns c = λ number bytes kept given status written from is answer.
    let here = beside bytes kept.text given is from.acceptable in
    is_accepted bytes given here.shows here.narrow status written answer
