-- The candidates so far hold their new handles.
use Rattle.std.proofs.Common.{◌≡◌, length, map, take}
use Rattle.joint_model.specs.Listed.{answers_of}
use Rattle.joint_machine.specs.Managed.{renewed}
use Rattle.managed_heap.specs.declared.rows.Header.{Header}
use Rattle.managed_heap.proofs.resolving.renew.Given as goal

abbrev pub invariant-loop-i : goal.invariant-loop-i
invariant-loop-i l = record {
  handles : map (λ (i : Header). i.handle) l.headers.items ≡ renewed (map (λ (i : Header). i.handle) l.fn.headers.items) (take l.i l.candidates) (answers_of (take l.i l.alive.values));
  kinds : map (λ (i : Header). i.kind) l.headers.items ≡ map (λ (i : Header). i.kind) l.fn.headers.items;
  peers : map (λ (i : Header). i.peer) l.headers.items ≡ map (λ (i : Header). i.peer) l.fn.headers.items;
  len : length l.headers.items ≡ length l.fn.headers.items;
}
