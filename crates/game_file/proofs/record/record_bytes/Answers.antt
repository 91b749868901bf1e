use Rattle.std.proofs.Common.{◌∙◌, arith}
use Rattle.game_file.proofs.record.record_bytes.Goals as goal

pub returns : goal.returns
returns c =
    let one = c.put_word.ensures in
    let two = c.put_word-2.ensures in
    let three = c.put_word-3.ensures in
    record {
      is = record {
        long = c.put_word-3.array_long;
        state = three.ahead 0 (omega arith) ∙ two.ahead 0 (omega arith) ∙ one.ahead 0 (omega arith) ∙ c.state_byte.ensures;
        winner = three.ahead 1 (omega arith) ∙ two.ahead 1 (omega arith) ∙ one.ahead 1 (omega arith) ∙ c.winner_byte.ensures;
        distance = three.before 4 (omega arith) ∙ two.before 4 (omega arith) ∙ one.is;
        left = three.before 8 (omega arith) ∙ two.is;
        successors = three.is;
      };
      third = three.ahead 2 (omega arith) ∙ two.ahead 2 (omega arith) ∙ one.ahead 2 (omega arith);
      fourth = three.ahead 3 (omega arith) ∙ two.ahead 3 (omega arith) ∙ one.ahead 3 (omega arith);
    }
