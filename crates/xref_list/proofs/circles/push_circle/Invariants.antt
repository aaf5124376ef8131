use Rattle.std.proofs.Common.{◌≡◌, ◌+◌, ◌-◌, ◌++◌, drop, get_or, vec_capacity, vec_len}
use Rattle.joint_machine.specs.Components.{circle_from}
use Rattle.xref_list.proofs.circles.push_circle.Given as goal

abbrev pub invariant-loop-i : goal.invariant-loop-i
invariant-loop-i l = record {
  rest : l.circles.items ++ circle_from (get_or l.members 0 0) (get_or l.members (l.i - 1) 0) (drop l.i l.members)
      ≡ l.initial.circles.items ++ circle_from (get_or l.members 0 0) (get_or l.members 0 0) (drop 1 l.members);
  count : vec_len l.circles + 1 ≡ vec_len l.initial.circles + l.i;
  capacity : vec_capacity l.circles ≡ vec_capacity l.initial.circles;
}
