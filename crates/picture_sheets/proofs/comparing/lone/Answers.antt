use Rattle.picture_sheets.proofs.Stocked.{is-lone}
use Rattle.picture_sheets.proofs.comparing.lone.Goals as goal

pub returns : goal.returns
returns c d i = is-lone c.args.picture.now d c.args.other.now i c.of.result
    c.in_ok-objects.objects.items c.objects.result.now c.in_ok-peers.peers.items c.peers.result.now c.new-dead.result.items c.new-candidates.result.items
    c.in_ok-arrows.arrows.items c.arrows.result.now c.of.ensures c.objects.ensures c.in_ok-objects.ensures c.peers.ensures c.in_ok-peers.ensures
    c.new-dead.ensures.items c.new-candidates.ensures.items c.arrows.ensures c.in_ok-arrows.ensures
