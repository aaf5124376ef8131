-- The roots so far are marked.
use Rattle.std.proofs.Common.{◌≡◌, Contains, take, vec_capacity}
use Rattle.reachability.specs.Scans.{Scans}
use Rattle.reachability.proofs.mark_all.Given as goal

abbrev pub invariant-loop-y : goal.invariant-loop-y
invariant-loop-y l = record {
  scans : Scans (Contains (take l.y-index l.roots)) l.fn.marks l.fn.waiting.items l.marks l.waiting.items;
  capacity : vec_capacity l.waiting ≡ vec_capacity l.fn.waiting;
}
