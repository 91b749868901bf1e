use Rattle.page_store.proofs.ChangedMarks.{marked}
use Rattle.page_store.proofs.TurnedMarks.{put_noted}
use Rattle.page_store.proofs.blocks.put_mark.Goals as goal

pub returns-clause-marked : goal.returns-clause-marked
returns-clause-marked c = marked _ _ _ c.requires.within

pub returns-clause-noted : goal.returns-clause-noted
returns-clause-noted c = put_noted _ _ _ _ c.requires.within c.requires.noted
