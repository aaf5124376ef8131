use Rattle.component_pass.specs.Counting.{cap}
use Rattle.std.proofs.Common.{◌<◌, ℕ, length, take}
use Rattle.component_pass.specs.Gathering.{AimsFrom, set_at}
use Rattle.component_pass.proofs.counting.full_in.Given as goal

abbrev pub invariant-loop-y : goal.invariant-loop-y
invariant-loop-y l = record {
  none : (s : ℕ) → AimsFrom (take l.y-index l.row) l.sets s → length (set_at l.count l.lists s) < cap;
}
