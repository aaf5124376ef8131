-- The slots and the pins were read.
use Rattle.joint_replay.proofs.Finding.{pinned-both}
use Rattle.joint_replay.proofs.roots.pinned_roots.Goals as goal

pub returns : goal.returns
returns c = pinned-both c.args.heap.now c.args.pins.now _ _ c.in_ok-roots.ensures c.in_ok-push_named.ensures
