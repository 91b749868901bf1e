use Rattle.std.proofs.Common.{◌≡◌, take, map}
use Rattle.rbg_read.proofs.build.all_named.Given as goal

abbrev pub invariant-loop-word : goal.invariant-loop-word
invariant-loop-word l = map (λ n. n.bytes.items) l.names.items ≡ map (λ w. w.now) (take l.word-index l.words)
