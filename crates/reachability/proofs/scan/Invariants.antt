-- The targets so far are marked.
use Rattle.std.proofs.Common.{◌≡◌, Contains, take, Some, vec_capacity}
use Rattle.reachability.specs.Scans.{Scans}
use Rattle.reachability.proofs.scan.Given as goal

abbrev pub invariant-loop-i : goal.invariant-loop-i
invariant-loop-i g l = record {
  scans : Scans (λ y. Contains (take l.i (g.G.Walked.targets l.g l.x)) (Some y)) l.fn.marks l.fn.waiting.items l.marks l.waiting.items;
  capacity : vec_capacity l.waiting ≡ vec_capacity l.fn.waiting;
}
