use Rattle.std.proofs.Common.{arith}
use Rattle.rbg_game.specs.Meaning.{regex_of}
use Rattle.rbg_game.proofs.CountLemmas.{count_within}
use Rattle.position_pack.proofs.numbers.read_place.Goals as goal

pub action_count-requires : goal.action_count-requires
action_count-requires c = omega (arith, count_within (regex_of c.args.game.now.rules), c.requires.few_actions)

pub overflow_cast-action_count : goal.overflow_cast-action_count
overflow_cast-action_count c = omega (arith, count_within (regex_of c.args.game.now.rules), c.requires.few_actions, c.action_count.ensures)

pub overflow_cast-result : goal.overflow_cast-result
overflow_cast-result c = omega (
  arith,
  count_within (regex_of c.args.game.now.rules),
  c.requires.few_actions,
  c.action_count.ensures,
  c.in_ok-place.ensures.allowed,
)
