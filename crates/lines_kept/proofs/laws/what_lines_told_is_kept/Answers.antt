use Rattle.lines_kept.proofs.Courses.{history_of}
use Rattle.lines_kept.proofs.laws.what_lines_told_is_kept.Goals as goal

pub returns : goal.returns
returns g c = λ told left image uses may.
    let (sittings, same, history) =
    history_of g.F.GameFile.stores g.F.GameFile.state g.F.Versions.is_version g.F.Versions.are_two g.F.Versions.is_used_up g.F.GameFile.lasts uses in
    (sittings, same, c.the_headline.ensures sittings left image history may)
