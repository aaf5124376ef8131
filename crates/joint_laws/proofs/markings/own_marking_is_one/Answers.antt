use Rattle.joint_laws.proofs.MarkedOnce.{own_marking_is_one, run_marks_once}
use Rattle.joint_laws.proofs.markings.own_marking_is_one.Goals as goal

pub returns : goal.returns
returns c = record { list = own_marking_is_one; run = run_marks_once }
