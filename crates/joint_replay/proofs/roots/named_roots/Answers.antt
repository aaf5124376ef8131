-- Both tables of slots were read.
use Rattle.joint_replay.proofs.Finding.{named-both}
use Rattle.joint_replay.proofs.roots.named_roots.Goals as goal

pub returns : goal.returns
returns c = named-both c.args.heap.now _ _ _ c.new-roots.ensures.items (rw c.vars.ensures.slots at c.in_ok-push_named.ensures) (rw c.statics.ensures.slots at c.in_ok-push_named-2.ensures)
