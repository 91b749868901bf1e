use Rattle.std.proofs.Common.{[], map, ap}
use Rattle.rbg_read.proofs.Lists.{map_turn, end_behind}
use Rattle.rbg_read.proofs.build.all_named.Goals as goal

pub loop-word-init : goal.loop-word-init
loop-word-init c = ap (map (λ n. n.bytes.items)) c.new-names.ensures.items

pub loop-word-preserved : goal.loop-word-preserved
loop-word-preserved c =
    map_turn (λ n. n.bytes.items) (λ w.
    w.now) c.loop-word.names.items c.push.new.self.items c.in_ok-named.field-0 c.args.words.now c.loop-word.word-index
    (record { ref_ptr = (0, 0); now = [] })
    c.loop-word-test.true c.in_ok-push.ensures.items c.in_ok-named.ensures c.loop-word.invariant

pub returns : goal.returns
returns c = end_behind (λ w. w.now) [] c.args.words.now c.loop-word.word-index c.loop-word-test.false c.loop-word.invariant
