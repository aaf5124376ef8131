use Rattle.component_pass.specs.Counting.{cap}
use Rattle.std.proofs.Common.{◌<◌, ℕ, length, take}
use Rattle.component_pass.specs.Gathering.{Aims, set_at}
use Rattle.component_pass.proofs.counting.full_among.Given as goal

abbrev pub invariant-loop-x : goal.invariant-loop-x
invariant-loop-x l = record {
  none : (s : ℕ) → Aims l.graph.edges l.sets (take l.x-index l.members) s → length (set_at l.count l.lists s) < cap;
}
