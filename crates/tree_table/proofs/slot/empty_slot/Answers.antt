use Rattle.std.proofs.Common.{◌≡◌, ◌∙◌, ◌≤◌, ◌<◌, ℕ, inr, refl, arith}
use Rattle.std.specs.Prelude.{slice_index}
use Rattle.game_file.specs.Fields.{layout_in}
use Rattle.game_file.specs.lemmas.Goals.{goal_is}
use Rattle.game_file.specs.lemmas.Words.{long_same, long_zero, word_zero, zeros}
use Rattle.tree_table.proofs.slot.empty_slot.Goals as goal

-- all is zero but the layout and the number of pages
before : (c : goal.After-put_word-2) (k : ℕ) → 4 ≤ k → k < 68 → slice_index c.put_word-2.new.root k ≡ 0
before c k low high = c.put_word-2.ensures.ahead k high ∙ c.put_word.ensures.behind k low ∙ zeros 512 k

behind : (c : goal.After-put_word-2) (k : ℕ) → 72 ≤ k → slice_index c.put_word-2.new.root k ≡ 0
behind c k low = c.put_word-2.ensures.behind k low ∙ c.put_word.ensures.behind k (omega (arith, low)) ∙ zeros 512 k

first : (c : goal.After-put_word-2) (k : ℕ) → 4 ≤ k → slice_index c.put_word.new.root k ≡ 0
first c k low = c.put_word.ensures.behind k low ∙ zeros 512 k

layout : (c : goal.After-put_word-2) → layout_in c.put_word-2.new.root ≡ c.args.layout
layout c = c.put_word-2.ensures.before 0 (omega arith) ∙ c.put_word.ensures.is

pub returns : goal.returns
returns c = record {
  layout = layout c;
  pages = λ late. c.put_word-2.ensures.is ∙ c.number_of_pages.ensures.said (omega (arith, late, layout c));
  empty = record {
    packing = c.put_word-2.ensures.before 4 (omega arith) ∙ word_zero c.put_word.new.root 4 (first c);
    fields = λ k low high. before c k (omega (arith, low)) high;
    goal = goal_is c.put_word-2.new.root 0 (word_zero c.put_word-2.new.root 72 (behind c)) (inr refl);
  };
  commits =
      long_same c.put_word.new.root c.put_word-2.new.root 8 (λ k low high. c.put_word-2.ensures.ahead k (omega (arith, high)))
      ∙ long_zero c.put_word.new.root 8 (λ k low. first c k (omega (arith, low)));
  fields = λ k low high. before c k low high;
  behind = λ k low high. behind c k low;
  unsaid = λ early. c.put_word-2.ensures.is ∙ c.number_of_pages.ensures.unsaid early;
}
