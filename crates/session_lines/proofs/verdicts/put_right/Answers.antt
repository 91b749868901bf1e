use Rattle.session_lines.specs.Verdicts.{IsRightLine, finished, unfinished}
use Rattle.session_lines.proofs.PartLemmas.{on_err_by}
use Rattle.session_lines.proofs.Printed.{told_at_once, not_done}
use Rattle.session_lines.proofs.verdicts.put_right.Goals as goal

pub returns-then-processed-settled-clause-all : goal.returns-then-processed-settled-clause-all
returns-then-processed-settled-clause-all g c =
    told_at_once (IsRightLine c.args.counts) _ _ c.put_line.result _ c.put_line.ensures.all (finished (c.if-expanded-known.true, c.if-processed-settled.true))

pub returns-then-processed-settled-clause-part : goal.returns-then-processed-settled-clause-part
returns-then-processed-settled-clause-part g c =
    on_err_by c.put_line.result (λ part. (_, finished (c.if-expanded-known.true, c.if-processed-settled.true), part)) c.put_line.ensures.part

pub returns-else-expanded-known-clause-all : goal.returns-else-expanded-known-clause-all
returns-else-expanded-known-clause-all g c =
    told_at_once (IsRightLine c.args.counts) _ _ c.put_line-else-expanded-known.result _ c.put_line-else-expanded-known.ensures.all
    (unfinished (not_done c.args.counts c.else-expanded-known.either))

pub returns-else-expanded-known-clause-part : goal.returns-else-expanded-known-clause-part
returns-else-expanded-known-clause-part g c =
    on_err_by c.put_line-else-expanded-known.result (λ part. (_, unfinished (not_done c.args.counts c.else-expanded-known.either), part))
    c.put_line-else-expanded-known.ensures.part
