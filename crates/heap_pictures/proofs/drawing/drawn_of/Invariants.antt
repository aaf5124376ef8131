use Rattle.std.proofs.Common.{◌≡◌, take, filter}
use Rattle.joint_replay.specs.Plain.{is_live}
use Rattle.heap_pictures.proofs.drawing.drawn_of.Given as goal

abbrev pub invariant-loop-m : goal.invariant-loop-m
invariant-loop-m l = l.drawn.items ≡ filter (is_live l.joint.graph.managed.heap) (take l.m-index l.objects)
