use Rattle.std.proofs.Common.{◌∙◌, List, length, ap, arith}
use Rattle.std.proofs.lemmas.List.{length-take-le}
use Rattle.page_store.specs.lemmas.Frames.{marks_then}
use Rattle.page_chain.proofs.Exits.{passed_on, none_answered}
use Rattle.page_chain.proofs.ReadPages.{none_read, read_more, read_chain, chain_ends, link_cause}
use Rattle.page_chain.proofs.read.read_chain.Goals as goal

pub loop-init : goal.loop-init
loop-init g c = none_read _ _ _ _ c.new-pages.ensures.items c.new-content.ensures.items

pub loop-preserved : goal.loop-preserved
loop-preserved g c = read_more _ _ _ _ _ _ _ _ _ _ _ c.loop.invariant c.in_ok-next.ensures.linked c.read_link.ensures.marks

pub returns-in_err-next : goal.returns-in_err-next
returns-in_err-next g c = record {
  ok = none_answered _ c.from_residual.result c.from_residual.ensures.0;
  only = marks_then c.loop.invariant.only c.read_link.ensures.marks;
  cause = passed_on _ c.from_residual.result _ c.from_residual.ensures
      (link_cause (g.P.Pages.store c.read_link.new.store) c.args.size _ c.loop.invariant
      (omega (arith, c.loop-test.true, c.pages_for-end.ensures.no_more)) c.in_err-next.ensures.cause);
}

pub returns-then-next-ne0 : goal.returns-then-next-ne0
returns-then-next-ne0 g c = record {
  ok = tt;
  only = c.loop.invariant.only;
  cause = λ honest ps content same wait chain.
      c.if-next-ne0.true (chain_ends _ c.loop.invariant (omega (arith, c.pages_for-end.ensures.enough, c.loop-test.false))
      (omega (arith, c.pages_for-end.ensures.no_more, c.loop.auto.counter-end)) honest ps content same chain);
}

pub returns : goal.returns
returns g c =
    let read = c.loop.invariant in
    let cut = c.truncate.ensures.items in
    record {
      ok = record {
        chain = λ honest.
            read_chain _ _ read c.if-next-ne0.false (omega (arith, c.pages_for-end.ensures.enough, c.loop-test.false))
            (omega (arith, c.pages_for-end.ensures.no_more, c.loop.auto.counter-end)) cut honest;
        long = ap (λ (xs : List _). length xs) cut ∙ length-take-le _ _ (omega (arith, read.long, c.pages_for-end.ensures.enough, c.loop-test.false));
        marked = read.marked;
        waited = read.waited;
        kept = read.kept;
      };
      only = read.only;
      cause = tt;
    }
