use Rattle.joint_laws.proofs.RunStates.{steps_have_moments, others_keep_graph}
use Rattle.joint_laws.proofs.runs.run_states_are_both_sides.Goals as goal

pub returns : goal.returns
returns c = record { steps = steps_have_moments; others = others_keep_graph }
