-- The peers beside the rows so far are cleared.
use Rattle.std.proofs.Common.{◌≡◌, false, take, map}
use Rattle.joint_machine.specs.Histories.{managed_numbers}
use Rattle.managed_heap.specs.declared.rows.Header.{Header}
use Rattle.managed_heap.specs.Resolving.{AreCleared}
use Rattle.managed_heap.proofs.resolving.clear_peers.Given as goal

abbrev pub invariant-loop-m : goal.invariant-loop-m
invariant-loop-m l = record {
  cleared : AreCleared (map (λ (i : Header). i.peer) l.fn.headers.items) (map (λ (i : Header). i.peer) l.headers.items) (managed_numbers (take l.m-index l.rows));
  none : l.any ≡ false → l.headers.items ≡ l.fn.headers.items;
  kinds : map (λ (i : Header). i.kind) l.headers.items ≡ map (λ (i : Header). i.kind) l.fn.headers.items;
  handles : map (λ (i : Header). i.handle) l.headers.items ≡ map (λ (i : Header). i.handle) l.fn.headers.items;
}
