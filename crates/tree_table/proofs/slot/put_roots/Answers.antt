use Rattle.std.proofs.Common.{◌≡◌, ◌∙◌, arith}
use Rattle.game_file.specs.Fields.{word_at}
use Rattle.tree_table.specs.Slot.{roots_in}
use Rattle.tree_table.proofs.slot.put_roots.Goals as goal

pub returns-clause-roots : goal.returns-clause-roots
returns-clause-roots c =
    let positions : word_at c.put_word-4.new.root 44 ≡ c.args.roots.positions = c.put_word-4.ensures.before 44 (omega arith)
    ∙ c.put_word-3.ensures.before 44 (omega arith) ∙ c.put_word-2.ensures.before 44 (omega arith) ∙ c.put_word.ensures.is in
    let records : word_at c.put_word-4.new.root 48 ≡ c.args.roots.records = c.put_word-4.ensures.before 48 (omega arith)
    ∙ c.put_word-3.ensures.before 48 (omega arith) ∙ c.put_word-2.ensures.is in
    let edges : word_at c.put_word-4.new.root 52 ≡ c.args.roots.edges = c.put_word-4.ensures.before 52 (omega arith) ∙ c.put_word-3.ensures.is in
    let order : word_at c.put_word-4.new.root 56 ≡ c.args.roots.order = c.put_word-4.ensures.is in
    let same : roots_in c.put_word-4.new.root ≡ c.args.roots = λ i. record { positions = positions i; records = records i; edges = edges i; order = order i } in
    same
