use Rattle.progress.proofs.Brief.{it_gets_there}
use Rattle.progress.proofs.laws.it_gets_there_in_brief.Goals as goal

pub returns : goal.returns
returns g c = λ sittings left image history may.
    let headline = c.the_headline_in_brief.ensures sittings left image history may in
    (headline, λ table game n is says few many. it_gets_there sittings headline.table table game n headline.made headline.so is says few many)
