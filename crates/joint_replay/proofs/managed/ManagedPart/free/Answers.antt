-- The notices are of those that hold a handle.
use Rattle.joint_replay.proofs.managed.ManagedPart.free.Goals as goal

pub returns-clause-ok : goal.returns-clause-ok
returns-clause-ok c = rw (c.deref.ensures.value, c.in_ok-queued.ensures) at c.free_queuing.ensures.ok
