-- The members so far are put last.
use Rattle.std.proofs.Common.{◌≡◌, ◌++◌, take, vec_capacity}
use Rattle.xref_list.proofs.components.append.Given as goal

abbrev pub invariant-loop-x : goal.invariant-loop-x
invariant-loop-x l = record {
  items : l.members.items ≡ l.initial.members.items ++ take l.x-index l.objs;
  capacity : vec_capacity l.members ≡ vec_capacity l.initial.members;
}
