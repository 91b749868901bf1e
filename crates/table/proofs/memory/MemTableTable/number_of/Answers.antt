use Rattle.std.proofs.Common.{◌∙◌}
use Rattle.table.proofs.NumberLemmas.{number_found, number_within, number_missing}
use Rattle.table.proofs.memory.MemTableTable.number_of.Goals as goal

pub returns-clause-found : goal.returns-clause-found
returns-clause-found c = λ honest.
    number_found c.args.self.now.positions.items c.args.self.now.numbers c.args.self.now.numbered c.args.packed.now c.copied.result
    (c.copied.ensures ∙ c.get.ensures.value)

pub returns-clause-unknown : goal.returns-clause-unknown
returns-clause-unknown c = λ honest.
    number_missing c.args.self.now.positions.items c.args.self.now.numbers c.args.self.now.numbered c.args.packed.now c.copied.result
    (c.copied.ensures ∙ c.get.ensures.value)

pub returns-clause-within : goal.returns-clause-within
returns-clause-within c =
    number_within c.args.self.now.positions.items c.args.self.now.numbers c.args.self.now.numbered c.args.packed.now c.copied.result
    (c.copied.ensures ∙ c.get.ensures.value)
