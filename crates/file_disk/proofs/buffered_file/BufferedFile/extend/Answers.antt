use Rattle.std.proofs.Common.{rules, sym, subst, ◌∙◌, ◌≡◌, Bool, true, false}
use Rattle.std.specs.Prelude.{IsTrue}
use Rattle.file_disk.proofs.Flushes.{on_true, true_on}
use Rattle.file_disk.proofs.Events.{cuts, lengthens, lengthens_none}
use Rattle.file_disk.proofs.Shown.{none_waits, shows_as, cut_keeps, longer_zeros, longer_keeps}
use Rattle.file_disk.proofs.buffered_file.BufferedFile.extend.Goals as goal

pub returns-clause-zeros : goal.returns-clause-zeros
returns-clause-zeros g c = λ honest.
    let now : IsTrue (g.F.ByteFile.honest c.set_len.new.self) = subst (λ (b : Bool). IsTrue b) (sym c.set_len.ensures.same_honest) honest in
    true_on c.set_len-longer.result (λ done k from to.
    none_waits _ _ _ _ _ c.args.self.now.inside k from
    ∙ longer_zeros _ _ _ _ _ k (c.if-not-set_len.ensures.resized honest) (on_true _ (c.set_len-longer.ensures.resized now) done) from to)

pub returns-clause-kept : goal.returns-clause-kept
returns-clause-kept g c = λ honest k lt.
    let found : c.args.self.now.lost ≡ false = search rules in
    let now : IsTrue (g.F.ByteFile.honest c.set_len.new.self) = subst (λ (b : Bool). IsTrue b) (sym c.set_len.ensures.same_honest) honest in
    shows_as _ _ _ _ _ k
    (longer_keeps _ _ _ _ _ k (c.set_len.ensures.kept honest) (c.set_len-longer.ensures.kept now) (c.args.self.now.long honest found) c.requires lt)

pub returns-clause-touched : goal.returns-clause-touched
returns-clause-touched g c = λ honest.
    let found : c.args.self.now.lost ≡ false = search rules in
    let now : IsTrue (g.F.ByteFile.honest c.set_len.new.self) = subst (λ (b : Bool). IsTrue b) (sym c.set_len.ensures.same_honest) honest in
    let long = c.args.self.now.long honest found in
    let ends = c.args.self.now.ends honest in
    lengthens _ _ _ _ _ c.set_len-longer.result c.requires long ends (c.set_len.ensures.kept honest) (c.set_len-longer.ensures.kept now)
    (cuts _ _ _ _ true c.requires long ends (c.set_len.ensures.kept honest) (c.if-not-set_len.ensures.noted honest) tt)
    (c.set_len-longer.ensures.noted now) (c.set_len-longer.ensures.tried now)

pub returns-then-self-clause-touched : goal.returns-then-self-clause-touched
returns-then-self-clause-touched g c = λ honest. lengthens_none _ _ _

pub returns-then-not-set_len-clause-kept : goal.returns-then-not-set_len-clause-kept
returns-then-not-set_len-clause-kept g c = λ honest k lt.
    let found : c.args.self.now.lost ≡ false = search rules in
    shows_as _ _ _ _ _ k (cut_keeps _ _ _ k (c.set_len.ensures.kept honest) (c.args.self.now.long honest found) lt)

pub returns-then-not-set_len-clause-touched : goal.returns-then-not-set_len-clause-touched
returns-then-not-set_len-clause-touched g c = λ honest.
    let found : c.args.self.now.lost ≡ false = search rules in
    cuts _ _ _ _ false c.requires (c.args.self.now.long honest found) (c.args.self.now.ends honest) (c.set_len.ensures.kept honest) tt
    (c.if-not-set_len.ensures.tried honest)
