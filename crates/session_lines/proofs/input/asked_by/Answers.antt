use Rattle.std.proofs.Common.{inl, inr, rules}
use Rattle.session_lines.specs.Asked.{of_text}
use Rattle.session_lines.proofs.AskLemmas.{no_words, in_words, finds, values, ends_with_nothing, nothing, begins_with_space}
use Rattle.session_lines.proofs.input.asked_by.Goals as goal

-- src/input.rt
pub returns-then-is_empty : goal.returns-then-is_empty
returns-then-is_empty c = (search rules, λ short. no_words _ _ _ c.next_word.ensures (nothing _ (search rules)))

pub returns-in-32 : goal.returns-in-32
returns-in-32 c =
    (search rules, λ short. of_text _ (finds _ _ _ _ c.next_word.ensures (search rules) (begins_with_space _ c.in-32.len_at_least (search rules))))

pub returns-in_default : goal.returns-in_default
returns-in_default c =
    (search rules, λ short. of_text _ (inl (finds _ _ _ _ c.next_word.ensures (search rules) (ends_with_nothing _ _ _ c.next_word.ensures (search rules)))))

pub returns-in-32-rest : goal.returns-in-32-rest
returns-in-32-rest c =
    (search rules, λ short. of_text _ (values _ _ _ _ c.next_word.ensures (search rules) (begins_with_space _ c.in-32-rest.len_at_least (search rules))))

pub returns-in_default-rest : goal.returns-in_default-rest
returns-in_default-rest c =
    (search rules, λ short. of_text _ (inr (values _ _ _ _ c.next_word.ensures (search rules) (ends_with_nothing _ _ _ c.next_word.ensures (search rules)))))

pub returns : goal.returns
returns c = (search rules, λ short. in_words _ _ _ _ c.next_word.ensures (search rules) (search rules) (search rules) c.words_asked.ensures)
