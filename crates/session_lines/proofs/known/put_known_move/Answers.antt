use Rattle.session_lines.proofs.KnownLemmas.{known_line_is}
use Rattle.session_lines.proofs.known.put_known_move.Goals as goal

pub returns : goal.returns
returns c =
    known_line_is _ _ _ _ _ _ _ _ _ c.in_ok-put_number_and_value.ensures c.in_ok-push.ensures.items (rw c.deref.ensures at c.in_ok-put_word.ensures)
    (rw c.deref-2.ensures.value at c.in_ok-put_end.ensures)
