use Rattle.std.proofs.Common.{◌≡◌, false, length, take}
use Rattle.std.specs.List.{All, Contains}
use Rattle.component_pass.specs.Counting.{Pushes, cap}
use Rattle.component_pass.proofs.leading.lead_row.Given as goal

abbrev pub invariant-loop-y : goal.invariant-loop-y
invariant-loop-y l = record {
  pushes : Pushes l.labels l.indexes l.counts cap l.count l.own l.number (Contains (take l.y-index l.row)) l.initial.ins l.initial.lists l.ins l.lists;
  marks : length l.work.marks.items ≡ l.count;
  clear : All (λ m. m ≡ false) l.work.marks.items;
}
