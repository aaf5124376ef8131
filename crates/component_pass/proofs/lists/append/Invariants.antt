use Rattle.std.proofs.Common.{◌≡◌, ◌++◌, take, vec_capacity}
use Rattle.component_pass.proofs.lists.append.Given as goal

abbrev pub invariant-loop-x : goal.invariant-loop-x
invariant-loop-x l = record {
  items : l.items.items ≡ l.initial.items.items ++ take l.x-index l.row;
  capacity : vec_capacity l.items ≡ vec_capacity l.initial.items;
}
