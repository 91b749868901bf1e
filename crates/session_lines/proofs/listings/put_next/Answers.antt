use Rattle.session_lines.proofs.Plain.{text_or_refusal}
use Rattle.session_lines.proofs.ReplyLines.{replied_by, untold_by}
use Rattle.session_lines.proofs.listings.put_next.Goals as goal

pub returns-clause-replied : goal.returns-clause-replied
returns-clause-replied g c = λ ready honest.
    replied_by _ _ _ c.put_text.result
    (λ status line is some table fits version.
    text_or_refusal _ _ c.next_text-answered.result (c.next_text-answered.ensures.text ready honest table fits version)
    (c.next_text-answered.ensures.cause table ready some version) status line is) c.put_text.ensures.written

pub returns-clause-untold : goal.returns-clause-untold
returns-clause-untold g c = λ ready honest.
    untold_by _ _ _ _ c.put_text.result
    (λ status line is some table fits version.
    text_or_refusal _ _ c.next_text-answered.result (c.next_text-answered.ensures.text ready honest table fits version)
    (c.next_text-answered.ensures.cause table ready some version) status line is) c.put_text.ensures.part
