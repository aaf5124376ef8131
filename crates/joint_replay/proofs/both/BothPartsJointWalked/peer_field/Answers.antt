-- The clean heap is the one of the graph.
use Rattle.std.proofs.Common.{◌≡◌, ◌<◌, sym, subst, length, None, Some}
use Rattle.joint_machine.specs.Heaps.{Heap, fields_of, slot}
use Rattle.joint_replay.specs.Plain.{cleaned}
use Rattle.joint_replay.proofs.both.BothPartsJointWalked.peer_field.Goals as goal

pub clean_field-requires : goal.clean_field-requires
clean_field-requires c = subst (λ (h : Heap). c.args.i < length (fields_of (cleaned h) c.args.p.0)) (sym c.heap.ensures) c.requires.index

pub returns-in-None-clause-value : goal.returns-in-None-clause-value
returns-in-None-clause-value c = subst (λ (h : Heap). slot (fields_of (cleaned h) c.args.p.0) c.args.i ≡ None) c.heap.ensures c.in-None.ensures.value

pub returns-in-Some-clause-value : goal.returns-in-Some-clause-value
returns-in-Some-clause-value c = subst (λ (h : Heap). slot (fields_of (cleaned h) c.args.p.0) c.args.i ≡ Some c.in-Some.q) c.heap.ensures c.in-Some.ensures.value
