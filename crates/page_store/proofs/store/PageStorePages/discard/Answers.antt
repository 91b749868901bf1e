use Rattle.std.proofs.Common.{refl, rules}
use Rattle.page_store.proofs.Soundness.{discarded_works, discarded_sound}
use Rattle.page_store.proofs.CachedPages.{empty_cache}
use Rattle.page_store.proofs.Unused.{unused_turned}
use Rattle.page_store.proofs.store.PageStorePages.discard.Goals as goal

pub returns-clause-works : goal.returns-clause-works
returns-clause-works g c = discarded_works _ _ (record { disk = refl; failures = refl; root = refl; closed = refl; holds = refl }) (search rules)

pub invariant_of-self : goal.invariant_of-self
invariant_of-self g c = record {
  sound = discarded_sound _ _
      (record { disk = refl; failures = refl; root = refl; closed = refl; holds = refl }) (search rules) c.args.self.now.sound;
  blocks = c.turn.ensures.noted;
  unused = unused_turned _ _ _ _ _ _ c.args.self.now.unused c.turn.ensures.turned;
  cached = empty_cache _ _ c.clear.ensures;
}
