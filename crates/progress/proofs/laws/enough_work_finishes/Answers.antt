use Rattle.progress.proofs.Work.{enough_work_finishes}
use Rattle.progress.proofs.laws.enough_work_finishes.Goals as goal

pub returns : goal.returns
returns c = enough_work_finishes
