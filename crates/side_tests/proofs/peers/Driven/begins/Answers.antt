-- A begin draws once, from a plain count.
use Rattle.std.proofs.Common.{ap}
use Rattle.joint_machine.specs.Sides.{peer_rules}
use Rattle.joint_machine.specs.Told.{nothing}
use Rattle.peer_heap.specs.Sides.{seen}
use Rattle.side_tests.proofs.Counting.{counted-once, counted-same}
use Rattle.side_tests.proofs.peers.Driven.begins.Goals as goal
use Rattle.side_tests.proofs.peers.Driven.begins.Goals.{in-Ok, in-Err-MarkOpen, in-Err-OutOfMemory}

pub invariant_of-self : goal.invariant_of-self
invariant_of-self c = elim c.match-mark_begin.branch [
  | in-Ok w ↦ counted-once peer_rules (seen c.self.inside.side) (seen c.mark_begin.new.self) c.self.inside.draw c.mark_begin.new.draw _ nothing w.in-Ok.ensures.begun c.self.invariant
  | in-Err-MarkOpen w ↦ (let same = w.in-Err-MarkOpen.ensures.err in
      counted-same (seen c.self.inside.side) (seen c.mark_begin.new.self) c.self.inside.draw c.mark_begin.new.draw (ap seen same.0, same.1) c.self.invariant)
  | in-Err-OutOfMemory w ↦ (let same = w.in-Err-OutOfMemory.ensures.err in
      counted-same (seen c.self.inside.side) (seen c.mark_begin.new.self) c.self.inside.draw c.mark_begin.new.draw (ap seen same.0, same.1) c.self.invariant)
]
