use Rattle.solver.proofs.OneTable.{a_command_leads_to_one, answered_commands_lead_to_one}
use Rattle.solver.proofs.laws.commands_lead_to_one_table.Goals as goal

pub returns : goal.returns
returns c = record {
  answered = answered_commands_lead_to_one;
  in_doubt = a_command_leads_to_one;
}
