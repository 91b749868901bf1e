use Rattle.std.proofs.Common.{◌≡◌, ◌+◌, ◌<◌, length, get_or, sym, ◌∙◌, arith}
use Rattle.std.proofs.lemmas.Grind.{get_or_default_zero}
use Rattle.page_store.proofs.CachedPages.{within_numbers}
use Rattle.page_store.proofs.NotedPages.{same_remainder}
use Rattle.page_store.proofs.cache.PageCache.make_way.Goals as goal

pub returns-then-hint-eq0-clause-apart : goal.returns-then-hint-eq0-clause-apart
returns-then-hint-eq0-clause-apart c = λ p place there. (
  there,
  λ same.
      let hints = c.args.self.now.hints.items in
      let within : c.hint_of.result < length hints = omega (arith, c.hint_of.ensures, c.args.self.now.hinted) in
      let told : get_or hints c.hint_of.result 0 ≡ place + 1 = same_remainder _ _ hints c.args.page c.hint_of.result c.args.self.now.noted c.hint_of.ensures p place there same in
      let hint : get_or hints c.hint_of.result 0 ≡ c.index.result.now = sym (get_or_default_zero hints _ _ within) ∙ sym c.index.ensures in
      omega (arith, told, hint, c.from-hint.ensures, c.if-hint-eq0.true),
)

pub returns-then-hint-len-clause-apart : goal.returns-then-hint-len-clause-apart
returns-then-hint-len-clause-apart c = λ p place there. (
  there,
  λ same.
      let hints = c.args.self.now.hints.items in
      let within : c.hint_of.result < length hints = omega (arith, c.hint_of.ensures, c.args.self.now.hinted) in
      let told : get_or hints c.hint_of.result 0 ≡ place + 1 = same_remainder _ _ hints c.args.page c.hint_of.result c.args.self.now.noted c.hint_of.ensures p place there same in
      let hint : get_or hints c.hint_of.result 0 ≡ c.index.result.now = sym (get_or_default_zero hints _ _ within) ∙ sym c.index.ensures in
      let here = within_numbers _ _ p place there in
      omega (arith, told, hint, c.from-hint.ensures, c.if-hint-len.true, c.len.ensures, c.args.self.now.numbers.ok.0, here),
)
