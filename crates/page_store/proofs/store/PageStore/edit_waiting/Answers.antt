use Rattle.std.proofs.Common.{refl, sym, subst, arith}
use Rattle.page_store.specs.Cache.{IsCacheOf}
use Rattle.page_store.specs.Holds.{holds_of}
use Rattle.page_store.specs.InStore.{store_in}
use Rattle.page_store.specs.Store.{Store, IsSoundStore, store_of}
use Rattle.page_store.specs.lemmas.Works.{closes_same}
use Rattle.page_store.proofs.CachedPages.{carried}
use Rattle.page_store.proofs.EditedPages.{same_store, page_edited}
use Rattle.page_store.proofs.Soundness.{reads_else, sectors_else, works_write, was_honest, sound_works}
use Rattle.page_store.proofs.store.PageStore.edit_waiting.Goals as goal

pub invariant_of-self : goal.invariant_of-self
invariant_of-self g c =
    let was = c.args.self.now in
    let same = same_store was.root.bytes was.marks.items was.closed (holds_of was.taken was.holders.items) (c.edit_page.ensures.same c.if-not-edit_page.true)
    c.edit_page.ensures.failures in
    record {
      sound = subst (λ (s : Store). IsSoundStore s) (sym same) was.sound;
      blocks = was.blocks;
      unused = was.unused;
      cached = subst (λ (s : Store). IsCacheOf s was.cache) (sym same) was.cached;
    }

pub returns-then-not-edit_page-clause-same : goal.returns-then-not-edit_page-clause-same
returns-then-not-edit_page-clause-same g c = λ is.
    let was = c.args.self.now in
    same_store was.root.bytes was.marks.items was.closed (holds_of was.taken was.holders.items) (c.edit_page.ensures.same c.if-not-edit_page.true)
    c.edit_page.ensures.failures

pub invariant_of-self-2 : goal.invariant_of-self-2
invariant_of-self-2 g c =
    let was = c.args.self.now in
    let put = c.edit_page.ensures.put in
    let works = works_write (store_in was) (store_of (g.D.SectorDisk.disk c.edit_page.new.self) (g.D.SectorDisk.failures c.edit_page.new.self) was.root.bytes was.marks.items was.closed (holds_of was.taken was.holders.items))
    c.args.page was.sound c.requires.fresh refl refl refl put.kept put.time put.same_size (omega (arith, c.edit_page.ensures.failures))
    (λ closed. c.requires.open) (closes_same refl c.edit_page.ensures.spared) in
    record {
      sound = sound_works _ _ was.sound works was.sound.system;
      blocks = was.blocks;
      unused = was.unused;
      cached = carried _ _ _ _ was.cached (λ p held there. (c.forget.ensures p held there).1) (was_honest put.time) (λ p held there kept. kept)
          (λ h p held there behind. sectors_else _ _ _ put.kept h p (c.forget.ensures p held there).0);
    }

pub returns-clause-edited : goal.returns-clause-edited
returns-clause-edited g c = λ done.
    let was = c.args.self.now in
    let put = c.edit_page.ensures.put in
    record {
      edited = λ h is. page_edited _ _ _ _ (c.edit_page.ensures.edited h c.if-not-edit_page.false);
      others = λ h. reads_else _ _ _ put.kept h;
      left = λ is. absurd (cc);
      marks = refl;
      open_ = c.requires.open;
      untouched = tt;
      cause = tt;
      works = works_write _ _ _ was.sound c.requires.fresh refl refl refl put.kept put.time put.same_size (omega (arith, c.edit_page.ensures.failures))
          (λ closed. c.requires.open) (closes_same refl c.edit_page.ensures.spared);
    }

pub returns-clause-same : goal.returns-clause-same
returns-clause-same g c = λ is. absurd (cc)
