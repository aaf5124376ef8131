use Rattle.std.proofs.Common.{ap, ◌∙◌}
use Rattle.heap_pictures.specs.Pictures.{Drawing}
use Rattle.picture_text.specs.Texts.{peer_text}
use Rattle.picture_text.proofs.Chains.{changed}
use Rattle.picture_text.proofs.texts.put_sheet_peers.Goals as goal

pub returns : goal.returns
returns c =
    changed peer_text _ _ _ _ _ _ _ _ _ _
    (c.peers.ensures ∙ ap (λ (d : Drawing). d.peers) c.stay.ensures)
    (c.peers-2.ensures ∙ ap (λ (d : Drawing). d.peers) c.came.ensures)
    (c.peers-3.ensures ∙ ap (λ (d : Drawing). d.peers) c.went.ensures)
    c.in_ok-put_peers.ensures c.in_ok-put_peers-2.ensures c.in_ok-put_peers-3.ensures
