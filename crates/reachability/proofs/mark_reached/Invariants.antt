-- The marking is sound, and closed but for the waiting nodes. Each turn takes a waiting node away, and each
-- node that comes to wait was not marked before.
use Rattle.std.proofs.Common.{◌≡◌, Contains, ◌+◌, ◌*◌, length, vec_capacity}
use Rattle.reachability.specs.Marks.{Leads, unmarked}
use Rattle.reachability.proofs.Marking.{Marking}
use Rattle.reachability.proofs.mark_reached.Given as goal

abbrev pub invariant-loop-x : goal.invariant-loop-x
invariant-loop-x g l = record {
  marking : Marking (Contains l.fn.roots) (Leads (g.G.Walked.nodes l.fn.g) (g.G.Walked.targets l.fn.g)) l.fn.marks l.marks l.waiting.items;
  capacity : vec_capacity l.waiting ≡ vec_capacity l.fn.waiting;
}

abbrev pub decreases-loop-x : goal.decreases-loop-x
decreases-loop-x g l = 2 * unmarked l.marks + length l.waiting.items
