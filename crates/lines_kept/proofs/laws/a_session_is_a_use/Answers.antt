use Rattle.lines_kept.proofs.Courses.{a_session_is_a_use}
use Rattle.lines_kept.proofs.laws.a_session_is_a_use.Goals as goal

pub returns : goal.returns
returns g c =
    a_session_is_a_use g.F.GameFile.stores g.F.GameFile.state g.F.Versions.is_version g.F.Versions.are_two g.F.Versions.is_used_up g.F.GameFile.lasts
