use Rattle.std.proofs.Common.{◌∙◌, arith}
use Rattle.tree_table.proofs.slot.put_sizes.Goals as goal

pub returns : goal.returns
returns c = record {
  text = c.put_word-6.ensures.before 20 (omega arith) ∙ c.put_word-5.ensures.before 20 (omega arith)
      ∙ c.put_word-4.ensures.before 20 (omega arith) ∙ c.put_word-3.ensures.before 20 (omega arith)
      ∙ c.put_word-2.ensures.before 20 (omega arith) ∙ c.put_word.ensures.is;
  packed = c.put_word-6.ensures.before 24 (omega arith) ∙ c.put_word-5.ensures.before 24 (omega arith)
      ∙ c.put_word-4.ensures.before 24 (omega arith) ∙ c.put_word-3.ensures.before 24 (omega arith) ∙ c.put_word-2.ensures.is;
  known = c.put_word-6.ensures.before 28 (omega arith) ∙ c.put_word-5.ensures.before 28 (omega arith)
      ∙ c.put_word-4.ensures.before 28 (omega arith) ∙ c.put_word-3.ensures.is;
  expanded = c.put_word-6.ensures.before 32 (omega arith) ∙ c.put_word-5.ensures.before 32 (omega arith) ∙ c.put_word-4.ensures.is;
  settled = c.put_word-6.ensures.before 36 (omega arith) ∙ c.put_word-5.ensures.is;
  processed = c.put_word-6.ensures.is;
  before = λ k low.
      c.put_word-6.ensures.before k (omega (arith, low)) ∙ c.put_word-5.ensures.before k (omega (arith, low))
      ∙ c.put_word-4.ensures.before k (omega (arith, low)) ∙ c.put_word-3.ensures.before k (omega (arith, low))
      ∙ c.put_word-2.ensures.before k (omega (arith, low)) ∙ c.put_word.ensures.before k (omega (arith, low));
  ahead = λ k low.
      c.put_word-6.ensures.ahead k (omega (arith, low)) ∙ c.put_word-5.ensures.ahead k (omega (arith, low))
      ∙ c.put_word-4.ensures.ahead k (omega (arith, low)) ∙ c.put_word-3.ensures.ahead k (omega (arith, low))
      ∙ c.put_word-2.ensures.ahead k (omega (arith, low)) ∙ c.put_word.ensures.ahead k (omega (arith, low));
  behind = λ k high.
      c.put_word-6.ensures.behind k (omega (arith, high)) ∙ c.put_word-5.ensures.behind k (omega (arith, high))
      ∙ c.put_word-4.ensures.behind k (omega (arith, high)) ∙ c.put_word-3.ensures.behind k (omega (arith, high))
      ∙ c.put_word-2.ensures.behind k (omega (arith, high)) ∙ c.put_word.ensures.behind k (omega (arith, high));
}
