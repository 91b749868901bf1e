use Rattle.progress.proofs.Work.{it_gets_there}
use Rattle.progress.proofs.laws.it_gets_there.Goals as goal

pub returns : goal.returns
returns g c = λ sittings left image kept game n history may holds is_read few many.
    it_gets_there g.F.GameFile.stores g.met.F.GameFile.stores_one sittings image kept game n (c.the_headline.ensures sittings left image history may)
    holds is_read few many
