use Rattle.std.proofs.Common.{◌≡◌, ℕ, ◌<◌, ◌^◌, ◌+◌, [], ◌∷◌, ◌++◌, rules, subst}
use Rattle.tree_table.specs.Entries.{edge_key}
use Rattle.tree_file.specs.lemmas.Told.{AreTallied}
use Rattle.tree_file.proofs.Told.{tally_more}
use Rattle.tree_file.proofs.edges.EdgeCountVisitor.entry.Goals as goal

pub returns-clause-told : goal.returns-clause-told
returns-clause-told c = λ es so_far.
    let one_more : c.args.self.now.count + 1 ≡ c.in_ok-count.count = search rules in
    let is : c.args.key.now ≡ edge_key c.in_ok-to.to c.in_ok-to.from = search rules in
    let to_small : c.in_ok-to.to < 2 ^ 32 = search rules in
    let from_small : c.in_ok-to.from < 2 ^ 32 = search rules in
    subst (λ (n : ℕ). AreTallied n c.past-self.result (es ++ (c.args.key.now, c.args._value.now) ∷ [])) one_more
    (tally_more c.args.self.now.count c.args.self.now.above c.past.result c.past-self.result c.in_ok-to.to c.in_ok-to.from es
    (c.args.key.now, c.args._value.now) so_far
    is to_small from_small c.past.ensures c.past-self.ensures)
