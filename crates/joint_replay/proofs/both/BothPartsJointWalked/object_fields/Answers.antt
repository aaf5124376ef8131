-- The clean heap is the one of the graph.
use Rattle.std.proofs.Common.{◌∙◌, ap, length}
use Rattle.joint_machine.specs.Heaps.{Heap, fields_of}
use Rattle.joint_replay.specs.Plain.{cleaned}
use Rattle.joint_replay.proofs.both.BothPartsJointWalked.object_fields.Goals as goal

pub returns : goal.returns
returns c = c.clean_len.ensures ∙ ap (λ (h : Heap). length (fields_of (cleaned h) c.args.x.0)) c.heap.ensures
