-- The marked peers are those that were live and unreached at the begin.
use Rattle.joint_machine.specs.Run.{IsStored}
use Rattle.joint_replay.specs.Graphs.{parts_graph}
use Rattle.joint_replay.proofs.marking.BegunMarking.begin.Goals as goal

pub invariant_of-result : goal.invariant_of-result
invariant_of-result c = let all = rw c.deref.ensures.value at c.in_ok-stored.ensures in λ p. (
  λ m. (let w = (all p).0 m in rw (c.of.ensures, c.of-2.ensures, c.of-3.ensures) (record { existed = w.0; unreached = w.1 })),
  λ s. (let w : IsStored record { number = c.args.number; by = c.args.by; begun = parts_graph c.args.managed.now c.args.peers.now c.args.removed.now.items }
      p = rw (c.of.ensures, c.of-2.ensures, c.of-3.ensures) at s in (all p).1 (w.existed, w.unreached)),
)
