use Rattle.page_store.specs.lemmas.Frames.{marked_on, passed_on, sealed_on}
use Rattle.tree_file.proofs.SealedStore.{read_found}
use Rattle.tree_file.proofs.open.read_all.Goals as goal

pub returns-in_err-text-clause-cause : goal.returns-in_err-text-clause-cause
returns-in_err-text-clause-cause g c = passed_on _ c.from_residual.result _ c.from_residual.ensures c.in_err-text.ensures.cause

pub returns-in_err-text-clause-on : goal.returns-in_err-text-clause-on
returns-in_err-text-clause-on g c = marked_on c.read_named.ensures.only

pub returns-clause-on : goal.returns-clause-on
returns-clause-on g c = sealed_on c.read_named.ensures.only c.seal.ensures.marks c.seal.ensures.others

pub returns-clause-found : goal.returns-clause-found
returns-clause-found g c =
    read_found (g.P.Pages.store c.args.store.now) (g.P.Pages.store c.read_named.new.store) (g.P.Pages.store c.seal.new.self) c.read_named.ensures.only
    c.seal.ensures.marks c.seal.ensures.others
    (g.met.P.Pages.sound c.args.store.now) c.requires.waits c.args.slot.now.game c.in_ok-text.text.items c.args.slot.now.commits
    c.requires.says c.requires.commits c.requires.enough c.in_ok-text.ensures.read
