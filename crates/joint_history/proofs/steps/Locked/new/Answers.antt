use Rattle.joint_history.proofs.steps.Locked.new.Goals as goal

pub invariant_of-result : goal.invariant_of-result
invariant_of-result g c = (c.requires.seat.0, c.requires.seat.1, c.requires.knows, c.requires.seat.2)
