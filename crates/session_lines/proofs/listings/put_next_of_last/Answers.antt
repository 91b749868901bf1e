use Rattle.std.proofs.Common.{inr}
use Rattle.session_lines.proofs.ReplyLines.{replied_by, untold_by}
use Rattle.session_lines.proofs.listings.put_next_of_last.Goals as goal

pub returns-clause-replied : goal.returns-clause-replied
returns-clause-replied g c = λ ready honest.
    replied_by _ _ _ c.put_next-written.result
    (λ status text told. inr (record {
      others = c.pop.new.self.items;
      listing = c.in-Some.listing;
      moved = c.put_next-written.new.listing;
      was = c.in-Some.ensures.items;
      is = c.push_reserved.ensures.items;
      same = c.put_next-written.ensures.same;
      all = λ other table there. g.met.F.Versions.version_lasts other table _ _ honest c.put_next-written.ensures.left.lasts there;
      told = told;
    }))
    (c.put_next-written.ensures.replied ready honest)

pub returns-clause-untold : goal.returns-clause-untold
returns-clause-untold g c = λ ready honest.
    untold_by _ _ _ _ c.put_next-written.result
    (λ status text told. inr (record {
      others = c.pop.new.self.items;
      listing = c.in-Some.listing;
      moved = c.put_next-written.new.listing;
      was = c.in-Some.ensures.items;
      is = c.push_reserved.ensures.items;
      same = c.put_next-written.ensures.same;
      all = λ other table there. g.met.F.Versions.version_lasts other table _ _ honest c.put_next-written.ensures.left.lasts there;
      told = told;
    }))
    (c.put_next-written.ensures.untold ready honest)
