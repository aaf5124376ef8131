use Rattle.std.proofs.Common.{[], ◌++◌, ap, ◌∙◌}
use Rattle.heap_pictures.specs.declared.pictures.Side.TheVariants.{Managed}
use Rattle.heap_pictures.specs.Drawing.{field_arrows}
use Rattle.heap_pictures.proofs.Ranges.{six}
use Rattle.heap_pictures.proofs.drawing.arrows_of.Goals as goal

pub returns : goal.returns
returns c =
    six [] _ _ _ _ _ _ _ _ _ _ _ _ (c.in_ok-push_object_fields.ensures ∙ ap (λ o. o ++ field_arrows Managed c.args.view.now.joint.graph.managed.heap) c.new-arrows.ensures.items)
    c.in_ok-push_peer_fields.ensures c.in_ok-push_ties.ensures c.in_ok-push_view_slots.ensures c.in_ok-push_view_boxes.ensures c.in_ok-push_refs.ensures
