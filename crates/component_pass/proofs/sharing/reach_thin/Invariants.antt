use Rattle.std.proofs.Common.{◌+◌, ◌-◌, length}
use Rattle.component_pass.specs.Searching.{unmarked}
use Rattle.component_pass.proofs.Nearness.{IsNearing}
use Rattle.component_pass.proofs.sharing.reach_thin.Given as goal

abbrev pub invariant-loop-at : goal.invariant-loop-at
invariant-loop-at l = record {
  nearing : IsNearing l.graph.edges (length l.graph.nodes) l.thin l.initial.near.items l.marks l.near.items l.at;
}

abbrev pub decreases-loop-at : goal.decreases-loop-at
decreases-loop-at l = unmarked l.marks + length l.near.items - l.at
