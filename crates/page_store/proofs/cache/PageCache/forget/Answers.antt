use Rattle.std.proofs.Common.{rules}
use Rattle.page_store.proofs.CachedPages.{let_go_of, left_apart}
use Rattle.page_store.proofs.NotedPages.{fewer_noted, none_placed}
use Rattle.page_store.proofs.cache.PageCache.forget.Goals as goal

pub invariant_of-self : goal.invariant_of-self
invariant_of-self c = record {
  apart = rw c.demote.ensures.numbers (rw c.demote.ensures.kept (left_apart _ _ _ _ c.args.self.now.apart c.in-Some.ensures.there));
  few = search rules;
  hinted = c.demote.new.self.hinted;
  noted = fewer_noted _ _ _ _ _ (none_placed c.demote.new.self.numbers.items c.demote.new.self.kept.items c.in-Some.place) c.demote.new.self.noted;
}

pub returns : goal.returns
returns c = rw c.demote.ensures.numbers (rw c.demote.ensures.kept (let_go_of _ _ _ _ c.args.self.now.apart c.in-Some.ensures.there))
