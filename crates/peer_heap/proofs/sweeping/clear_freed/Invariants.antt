-- The peers so far are done.
use Rattle.std.proofs.Common.{◌≡◌, map, take}
use Rattle.joint_machine.specs.Histories.{peer_numbers}
use Rattle.peer_heap.specs.Marking.{cleared_on}
use Rattle.peer_heap.proofs.sweeping.clear_freed.Given as goal

abbrev pub invariant-loop-p : goal.invariant-loop-p
invariant-loop-p l = record {
  rows : l.table.rows ≡ map (cleared_on (peer_numbers (take l.p-index l.freed))) l.fn.table.rows;
  made : l.table.made ≡ l.fn.table.made;
  last : l.table.last ≡ l.fn.table.last;
}
