use Rattle.std.proofs.Common.{arith, ◌+◌, ◌-◌}
use Rattle.game_file.specs.lemmas.Words.{word_before, long_there}
use Rattle.game_file.proofs.fields.put_long.Goals as goal

pub returns-clause-is : goal.returns-clause-is
returns-clause-is c =
    long_there c.args.at (c.args.at + 8 - c.args.at) c.args.number c.args.root.now c.write_u64.new.buf _
    (omega (arith, c.told-root, c.requires)) (omega (arith, c.ranges.number)) c.write_u64.ensures

pub returns-clause-before : goal.returns-clause-before
returns-clause-before c = λ k low. word_before c.args.at (c.args.at + 8 - c.args.at) k c.args.root.now c.write_u64.new.buf low
    (omega (arith, c.told-root, c.requires))
