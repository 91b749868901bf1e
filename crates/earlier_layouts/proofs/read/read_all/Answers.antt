use Rattle.std.proofs.Common.{length, subst, arith}
use Rattle.page_store.specs.lemmas.Frames.{marked_on, marks_none, sealed_on}
use Rattle.page_store.specs.lemmas.Works.{works_refl}
use Rattle.page_store.specs.Store.{reads}
use Rattle.earlier_layouts.specs.Slot.{IsNoSlot}
use Rattle.earlier_layouts.proofs.ChainReads.{no_slot_keeps}
use Rattle.earlier_layouts.proofs.SlotReads.{sealed_backed}
use Rattle.earlier_layouts.proofs.read.read_all.Goals as goal

pub returns-then-capacity-lt-MIN_PAGES-clause-works : goal.returns-then-capacity-lt-MIN_PAGES-clause-works
returns-then-capacity-lt-MIN_PAGES-clause-works g c = works_refl (g.P.Pages.store c.args.store.now)

pub returns-in_default-clause-works : goal.returns-in_default-clause-works
returns-in_default-clause-works g c = works_refl (g.P.Pages.store c.args.store.now)

pub returns-clause-backed : goal.returns-clause-backed
returns-clause-backed g c = λ still wait.
    sealed_backed (g.P.Pages.store c.args.store.now) (g.P.Pages.store c.read_named.new.store) (g.P.Pages.store c.seal.new.self) _ _
    (g.met.P.Pages.sound c.args.store.now)
    c.in_ok-game.ensures.only c.in_ok-game.ensures.read c.seal.ensures.marks c.seal.ensures.others
    (omega (arith, c.capacity.ensures, c.if-capacity-lt-MIN_PAGES.false)) wait

pub returns-then-capacity-lt-MIN_PAGES-clause-on : goal.returns-then-capacity-lt-MIN_PAGES-clause-on
returns-then-capacity-lt-MIN_PAGES-clause-on g c = marked_on (marks_none (g.P.Pages.store c.args.store.now))

pub returns-in_default-clause-on : goal.returns-in_default-clause-on
returns-in_default-clause-on g c = marked_on (marks_none (g.P.Pages.store c.args.store.now))

pub returns-in_err-game-clause-on : goal.returns-in_err-game-clause-on
returns-in_err-game-clause-on g c = marked_on c.read_named.ensures.only

pub returns-clause-on : goal.returns-clause-on
returns-clause-on g c = sealed_on c.in_ok-game.ensures.only c.seal.ensures.marks c.seal.ensures.others

pub returns-in_default-clause-cause : goal.returns-in_default-clause-cause
returns-in_default-clause-cause g c = λ honest wait kept keeps.
    let store = g.P.Pages.store c.args.store.now in
    absurd (no_slot_keeps store.root (length store.marks) (reads store) (g.met.P.Pages.sound c.args.store.now).few
    (subst IsNoSlot c.root-root.ensures c.in_default.ensures.none) kept keeps)
