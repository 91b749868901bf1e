use Rattle.lines_kept.proofs.OnFiles.{a_command_is_a_use, made_is_a_use}
use Rattle.lines_kept.proofs.laws.a_command_is_a_use.Goals as goal

pub returns-clause-made : goal.returns-clause-made
returns-clause-made g c =
    made_is_a_use g.F.GameFile.stores g.F.GameFile.state g.F.Versions.is_version g.F.Versions.are_two g.F.Versions.is_used_up g.F.GameFile.lasts

pub returns-clause-goes_on : goal.returns-clause-goes_on
returns-clause-goes_on g c =
    a_command_is_a_use g.F.GameFile.stores g.F.GameFile.state g.F.Versions.is_version g.F.Versions.are_two g.F.Versions.is_used_up g.F.GameFile.lasts
