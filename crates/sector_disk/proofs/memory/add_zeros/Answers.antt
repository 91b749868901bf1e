use Rattle.std.proofs.Common.{rules, ◌≡◌, [], ◌∷◌, ◌++◌, ◌∙◌, ap, append_assoc}
use Rattle.std.specs.Prelude.{replicate}
use Rattle.std.proofs.lemmas.List.{replicate_more}
use Rattle.sector_disk.specs.Disk.{Image}
use Rattle.sector_disk.proofs.memory.add_zeros.Goals as goal

pub loop-preserved : goal.loop-preserved
loop-preserved c =
    let pushed : c.push.new.self.items ≡ c.loop.contents.items ++ replicate 512 0 ∷ [] = search rules in
    pushed ∙ ap (λ (p : Image). p ++ replicate 512 0 ∷ []) c.loop.invariant
    ∙ append_assoc c.args.contents.now.items (replicate c.loop.counter (replicate 512 0)) (replicate 512 0 ∷ [])
    ∙ ap (λ (p : Image). c.args.contents.now.items ++ p) (replicate_more c.loop.counter (replicate 512 0))
