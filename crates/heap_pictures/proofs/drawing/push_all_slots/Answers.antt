use Rattle.heap_pictures.proofs.Ranges.{six}
use Rattle.heap_pictures.proofs.drawing.push_all_slots.Goals as goal

pub returns : goal.returns
returns c =
    six _ _ _ _ _ _ _ _ _ _ _ _ _ c.in_ok-push_managed_vars.ensures c.in_ok-push_managed_statics.ensures
    c.in_ok-push_pins.ensures c.in_ok-push_peer_vars.ensures c.in_ok-push_peer_statics.ensures c.in_ok-push_names.ensures
