use Rattle.joint_laws.proofs.ReadsAside.{reading_is_lawful, reading_leads_to_same, reading_projects_so, reading_projection_is_complete, linked_is_complete, every_reading_run_is_complete}
use Rattle.joint_laws.proofs.readings.reading_projection_is_complete.Goals as goal

pub returns : goal.returns
returns c = record {
  without = reading_is_lawful;
  same = reading_leads_to_same;
  projection = reading_projects_so;
  lawful = reading_projection_is_complete;
  linked = linked_is_complete;
  every = every_reading_run_is_complete;
}
