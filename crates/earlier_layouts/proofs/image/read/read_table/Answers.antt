use Rattle.std.proofs.Common.{rules}
use Rattle.earlier_layouts.proofs.TableLemmas.{first_of}
use Rattle.earlier_layouts.proofs.image.read.read_table.Goals as goal

pub returns-in_err-table-clause-damaged : goal.returns-in_err-table-clause-damaged
returns-in_err-table-clause-damaged c = λ is text stored table s.
    let (x, of) = first_of c.args.sizes.now c.args.bytes.now c.split_at.result.0.now c.split_at.result.1.now c.split_at-2.result.0.now c.split_at-2.result.1.now text stored s
    c.requires.limits.started c.split_at.ensures.front c.split_at.ensures.back c.split_at-2.ensures.front c.split_at-2.ensures.back
    c.split_at.ensures.front_len c.split_at-2.ensures.front_len in
    c.in_err-table.ensures.damaged (search rules) x of

pub returns-in_err-read_into-clause-damaged : goal.returns-in_err-read_into-clause-damaged
returns-in_err-read_into-clause-damaged c = λ is text stored table s. c.in_err-read_into.ensures.damaged (search rules) text stored table s
