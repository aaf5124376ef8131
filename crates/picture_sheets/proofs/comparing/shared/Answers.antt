use Rattle.std.proofs.Common.{◌∙◌}
use Rattle.picture_sheets.proofs.Stocked.{is-shared}
use Rattle.picture_sheets.proofs.comparing.shared.Goals as goal

pub returns : goal.returns
returns c d i = is-shared c.args.picture.now d c.args.other.now i c.of.result
    c.in_ok-objects.objects.items c.objects.result.now c.in_ok-peers.peers.items c.peers.result.now c.in_ok-dead.dead.items c.in_ok-candidates.candidates.items
    c.in_ok-arrows.arrows.items c.arrows.result.now c.of.ensures c.objects.ensures c.in_ok-objects.ensures c.peers.ensures c.in_ok-peers.ensures
    (c.in_ok-dead.ensures ∙ c.dead.ensures) (c.in_ok-candidates.ensures ∙ c.candidates.ensures) c.arrows.ensures c.in_ok-arrows.ensures
