use Rattle.picture_text.proofs.Chains.{c3}
use Rattle.picture_text.proofs.texts.put_peer_heap.Goals as goal

pub returns : goal.returns
returns c = c3 _ _ _ _ _ _ _ c.in_ok-put.ensures c.in_ok-put_sheet_peers.ensures c.in_ok-put-2.ensures
