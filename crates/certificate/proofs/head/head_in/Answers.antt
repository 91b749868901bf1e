use Rattle.rbg_game.specs.Goals.{points_of}
use Rattle.certificate.proofs.HeadLemmas.{all_read, begun, from_goal, no_goal, no_position, no_text, no_value}
use Rattle.certificate.proofs.head.head_in.Goals as goal

pub returns-in_default-clause-none : goal.returns-in_default-clause-none
returns-in_default-clause-none c = λ few b begins. c.in_default.ensures (from_goal b) (begun c.args.bytes.now b begins)

pub returns-in_default-goal_in-clause-none : goal.returns-in_default-goal_in-clause-none
returns-in_default-goal_in-clause-none c = λ few b begins.
    no_goal c.args.bytes.now c.in-Some.from_goal.now few c.in-Some.ensures b begins c.in_default-goal_in.ensures

pub returns-in_default-text_in-clause-none : goal.returns-in_default-text_in-clause-none
returns-in_default-text_in-clause-none c = λ few b begins.
    no_text c.args.bytes.now c.in-Some.from_goal.now few c.in-Some.ensures b begins (points_of c.in-Some-goal_in.goal) c.in-Some-goal_in.from_text.now
    c.in-Some-goal_in.ensures c.in_default-text_in.ensures

pub returns-in_default-behind-clause-none : goal.returns-in_default-behind-clause-none
returns-in_default-behind-clause-none c = λ few b begins.
    no_position c.args.bytes.now c.in-Some.from_goal.now few c.in-Some.ensures b begins (points_of c.in-Some-goal_in.goal) c.in-Some-goal_in.from_text.now
    c.in-Some-goal_in.ensures c.in-Some-text_in.text.now c.in-Some-text_in.from_position.now c.in-Some-text_in.ensures.0 c.in-Some-text_in.ensures.1
    c.in_default-behind.ensures

pub returns-in_default-behind-2-clause-none : goal.returns-in_default-behind-2-clause-none
returns-in_default-behind-2-clause-none c = λ few b begins.
    no_value c.args.bytes.now c.in-Some.from_goal.now few c.in-Some.ensures b begins (points_of c.in-Some-goal_in.goal) c.in-Some-goal_in.from_text.now
    c.in-Some-goal_in.ensures c.in-Some-text_in.text.now c.in-Some-text_in.from_position.now c.in-Some-text_in.ensures.0 c.in-Some-text_in.ensures.1
    c.in-Some-behind.position.now c.in-Some-behind.from_value.now c.in-Some-behind.ensures.0 c.in-Some-behind.ensures.1 c.in_default-behind-2.ensures

pub returns-clause-begins : goal.returns-clause-begins
returns-clause-begins c =
    all_read c.args.bytes.now c.in-Some.from_goal.now (points_of c.in-Some-goal_in.goal) c.in-Some-goal_in.from_text.now c.in-Some-text_in.text.now
    c.in-Some-text_in.from_position.now c.in-Some-behind.position.now c.in-Some-behind.from_value.now c.in-Some-behind-2.value.now c.in-Some-behind-2.lists.now
    c.in-Some.ensures c.in-Some-goal_in.ensures c.in-Some-text_in.ensures.1 c.in-Some-behind.ensures.0 c.in-Some-behind.ensures.1
    c.in-Some-behind-2.ensures.0 c.in-Some-behind-2.ensures.1
