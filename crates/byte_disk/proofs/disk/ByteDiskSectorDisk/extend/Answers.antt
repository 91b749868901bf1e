use Rattle.std.proofs.Common.{rules, arith, ◌≡◌, ℕ, [], ◌∷◌, ◌++◌, length, ◌∙◌, ap}
use Rattle.sector_disk.specs.declared.log.Event.TheVariants.{Extended}
use Rattle.sector_disk.specs.lemmas.Moments.{extends_failed}
use Rattle.byte_disk.specs.Pasts.{events_of}
use Rattle.byte_disk.proofs.Kept.{kept_extend, longer}
use Rattle.byte_disk.proofs.disk.ByteDiskSectorDisk.extend.Goals as goal

pub returns-clause-kept : goal.returns-clause-kept
returns-clause-kept c =
    let long : c.len-before.result ≡ length c.args.self.now.contents.items = search rules in
    let is = c.note_extension.ensures ∙ ap (λ (n : ℕ). events_of c.args.self.now.past.value ++ Extended n ∷ []) long in
    λ honest. longer _ _ _ _ _ is c.in_ok-lengthen.ensures.longer

pub returns-clause-time : goal.returns-clause-time
returns-clause-time c =
    let long : c.len-before.result ≡ length c.args.self.now.contents.items = search rules in
    let is = c.note_extension.ensures ∙ ap (λ (n : ℕ). events_of c.args.self.now.past.value ++ Extended n ∷ []) long in
    extends_failed c.args.sectors _ _
    (kept_extend _ _ _ _ c.args.sectors _ is c.in_ok-lengthen.ensures.longer (omega (arith, long, c.requires)))
    c.in_ok-lengthen.ensures.cause.later
