use Rattle.std.proofs.Common.{◌≡◌, ◌≤◌, ◌∙◌, inl, refl, sym, arith}
use Rattle.game_file.specs.Fields.{layout_in, word_at}
use Rattle.game_file.specs.lemmas.Goals.{goal_is}
use Rattle.game_file.specs.lemmas.Words.{word_same}
use Rattle.earlier_layouts.proofs.committing.empty_root.Goals as goal

pub returns-clause-pages : goal.returns-clause-pages
returns-clause-pages c = λ late.
    word_same c.empty_slot-root.result c.put_long.new.root 68 (λ k low high. c.put_long.ensures.behind k (omega (arith, low)))
    ∙ c.empty_slot-root.ensures.pages (omega (arith, c.empty_slot-root.ensures.layout))

pub returns-clause-empty : goal.returns-clause-empty
returns-clause-empty c =
    let root = c.put_long.new.root in
    let bare = c.empty_slot-root.result in
    let told = c.empty_slot-root.ensures in
    let same : layout_in root ≡ layout_in bare = c.put_long.ensures.before 0 (omega arith) in
    let was : 3 ≤ layout_in bare = omega (arith, told.layout) in
    let now : 3 ≤ layout_in root = omega (arith, told.layout, same) in
    let points : word_at root 72 ≡ word_at bare 72 = word_same bare root 72 (λ k low high. c.put_long.ensures.behind k (omega (arith, low))) in
    record {
      packing = c.put_long.ensures.before 4 (omega arith) ∙ told.empty.packing;
      fields = λ k low high. c.put_long.ensures.behind k (omega (arith, low)) ∙ told.empty.fields k low high;
      goal = goal_is root (word_at root 72) refl (inl now) ∙ points ∙ sym (goal_is bare (word_at bare 72) refl (inl was)) ∙ told.empty.goal;
    }
