use Rattle.std.proofs.Common.{arith}
use Rattle.page_store.proofs.CachedPages.{empty_cache}
use Rattle.page_store.proofs.TurnedMarks.{all_are_noted}
use Rattle.page_store.proofs.Unused.{unused_past}
use Rattle.page_store.proofs.store.PageStore.open_with_cache.Goals as goal

pub invariant_of-result-clause-cached : goal.invariant_of-result-clause-cached
invariant_of-result-clause-cached g c = empty_cache _ _ c.in-Ok-Ok-Ok-Ok.ensures'''

pub invariant_of-result-clause-blocks : goal.invariant_of-result-clause-blocks
invariant_of-result-clause-blocks g c =
    all_are_noted _ _ (omega (
      arith,
      c.in-Ok-Ok-Ok-Ok.ensures.length,
      c.in-Ok-Ok-Ok-Ok.ensures'.room,
    )) c.in-Ok-Ok-Ok-Ok.ensures'.few c.in-Ok-Ok-Ok-Ok.ensures'.each

pub returns-in-Err-NotATable-clause-ok : goal.returns-in-Err-NotATable-clause-ok
returns-in-Err-NotATable-clause-ok g c = tt

pub returns-in-Err-NotATable-clause-refused : goal.returns-in-Err-NotATable-clause-refused
returns-in-Err-NotATable-clause-refused g c =
    record {
      goes_on = c.open.ensures.left.time;
      failures = c.open.ensures.left.failures;
      same_size = c.open.ensures.left.same_size;
      same = c.open.ensures.left.same;
      leaves = c.open.ensures.left.moments;
    }

pub returns-in-Err-clause-ok : goal.returns-in-Err-clause-ok
returns-in-Err-clause-ok g c = tt

pub returns-in-Err-clause-refused : goal.returns-in-Err-clause-refused
returns-in-Err-clause-refused g c =
    record {
      goes_on = c.open.ensures.left.time;
      failures = c.open.ensures.left.failures;
      same_size = c.open.ensures.left.same_size;
      same = c.open.ensures.left.same;
      leaves = c.open.ensures.left.moments;
    }

pub returns-in_default-clause-ok : goal.returns-in_default-clause-ok
returns-in_default-clause-ok g c = tt

pub returns-in_default-clause-refused : goal.returns-in_default-clause-refused
returns-in_default-clause-refused g c =
    record {
      goes_on = c.open.ensures.left.time;
      failures = c.open.ensures.left.failures;
      same_size = c.open.ensures.left.same_size;
      same = c.open.ensures.left.same;
      leaves = c.open.ensures.left.moments;
    }

pub returns-in-Ok-Ok-Ok-Ok-clause-refused : goal.returns-in-Ok-Ok-Ok-Ok-clause-refused
returns-in-Ok-Ok-Ok-Ok-clause-refused g c = tt

pub returns-in-Ok-Ok-Ok-Ok-clause-cause : goal.returns-in-Ok-Ok-Ok-Ok-clause-cause
returns-in-Ok-Ok-Ok-Ok-clause-cause g c = tt

pub returns-in_default-clause-cause : goal.returns-in_default-clause-cause
returns-in_default-clause-cause g c = tt

pub invariant_of-result-clause-unused : goal.invariant_of-result-clause-unused
invariant_of-result-clause-unused g c = unused_past _ _ (omega (arith, c.in-Ok-Ok-Ok-Ok.ensures.length))
