use Rattle.std.proofs.Common.{◌≡◌, ◌-◌, ◌++◌, drop, get_or, map}
use Rattle.joint_machine.specs.Components.{circle_from}
use Rattle.array_graphs.specs.Graphs.{pair_of}
use Rattle.cycle_check.proofs.mirroring.push_circle.Given as goal

abbrev pub invariant-loop-i : goal.invariant-loop-i
invariant-loop-i l = map pair_of l.edges.items ++ circle_from (get_or l.row 0 0) (get_or l.row (l.i - 1) 0) (drop l.i l.row)
    ≡ map pair_of l.initial.edges.items ++ circle_from (get_or l.row 0 0) (get_or l.row 0 0) (drop 1 l.row)
