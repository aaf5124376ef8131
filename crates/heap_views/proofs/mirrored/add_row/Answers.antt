-- The fields of a live row.
use Rattle.std.proofs.Common.{subst}
use Rattle.joint_machine.specs.Heaps.{Heap, IsLive}
use Rattle.heap_views.proofs.Edges.{row-fields}
use Rattle.heap_views.proofs.mirrored.add_row.Goals as goal

pub returns-in_ok-add_fields-clause-edges : goal.returns-in_ok-add_fields-clause-edges
returns-in_ok-add_fields-clause-edges c =
    let live = subst (λ (h : Heap). IsLive h c.args.m) c.objects.ensures.heap (c.is_live.ensures.live.0 c.if-is_live.true) in
    row-fields c.args.joint.now.graph.managed c.args.m c.args.builder.now.edges c.add_fields.new.builder.edges live c.in_ok-add_fields.ensures.edges
