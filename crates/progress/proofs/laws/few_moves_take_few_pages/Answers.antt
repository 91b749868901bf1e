use Rattle.progress.proofs.Pages.{short_with_few}
use Rattle.progress.proofs.laws.few_moves_take_few_pages.Goals as goal

pub returns : goal.returns
returns c = short_with_few
