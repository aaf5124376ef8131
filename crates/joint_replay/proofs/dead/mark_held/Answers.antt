-- An object without a handle marks none.
use Rattle.std.proofs.Common.{sym}
use Rattle.joint_marking.proofs.Owning.{marks-none}
use Rattle.joint_replay.proofs.dead.mark_held.Goals as goal

pub returns-in_default-clause-marks : goal.returns-in_default-clause-marks
returns-in_default-clause-marks c = marks-none c.args.managed.now c.args.m c.args.owned.now (sym c.in_default.ensures)
