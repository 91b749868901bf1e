use Rattle.std.proofs.Common.{rules, []}
use Rattle.session_lines.specs.declared.input.Asked.TheVariants.{Usage}
use Rattle.session_lines.proofs.AskLemmas.{one_word, two_words, three_words, four_words, nothing}
use Rattle.session_lines.proofs.input.words_asked.Goals as goal

-- src/input.rt
pub returns-then-is_empty : goal.returns-then-is_empty
returns-then-is_empty c = one_word _ _ _ [] [] _ [] [] _ c.next_word.ensures (nothing _ (search rules)) c.word_asked.ensures

pub returns-then-is_empty-2 : goal.returns-then-is_empty-2
returns-then-is_empty-2 c = two_words _ _ _ _ [] _ _ [] _ c.next_word.ensures (search rules) c.next_word-2.ensures
    (nothing _ (search rules)) c.one_asked.ensures

pub returns-then-is_empty-3 : goal.returns-then-is_empty-3
returns-then-is_empty-3 c =
    three_words _ _ _ _ _ _ _ _ _ c.next_word.ensures (search rules) c.next_word-2.ensures (search rules) c.next_word-3.ensures
    (nothing _ (search rules)) c.two_asked.ensures

pub returns-else-is_empty-3 : goal.returns-else-is_empty-3
returns-else-is_empty-3 c =
    four_words _ _ _ _ _ _ _ _ Usage c.next_word.ensures (search rules) c.next_word-2.ensures (search rules) c.next_word-3.ensures (search rules)
