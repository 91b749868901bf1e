use Rattle.std.proofs.Common.{rules}
use Rattle.page_store.proofs.CachedPages.{empty_cache}
use Rattle.page_store.proofs.Unused.{unused_turned}
use Rattle.page_store.proofs.store.PageStorePages.seal.Goals as goal

pub invariant_of-self-clause-cached : goal.invariant_of-self-clause-cached
invariant_of-self-clause-cached g c = empty_cache _ _ c.clear.ensures

pub first_unused-self-requires : goal.first_unused-self-requires
first_unused-self-requires g c = search (rules, unused_turned _ _ _ _ _ _ c.args.self.now.unused c.turn.ensures.turned)
