use Rattle.std.proofs.Common.{◌≡◌, ℕ, ◌+◌, ◌*◌, ◌/◌, ◌%◌, List, ◌++◌, length, ◌∙◌, arith}
use Rattle.btree.specs.lemmas.Items.{items-front}
use Rattle.btree.specs.Page.{items_of, behind_of}
use Rattle.btree.proofs.page.write.page_of.Goals as goal

made : (key behind count n : ℕ) (front items rest : List ℕ) → n ≡ count → front ≡ items → length items ≡ count * (key + behind)
    → items_of key behind n (front ++ rest) ≡ items_of key behind count items
made key behind count n front items rest many same long =
    (λ i. items_of key behind (many i) (same i ++ rest)) ∙ items-front key behind count items rest long

halves : (n : ℕ) → 256 * (n / 256) + n % 256 ≡ n
halves n = omega arith

pub returns-clause-items : goal.returns-clause-items
returns-clause-items c =
    made c.args.widths.key (behind_of c.args.widths c.args.kind) c.args.count _ _ c.args.items.now _
    (halves c.args.count) c.copy_from_slice.ensures.after c.requires.long
