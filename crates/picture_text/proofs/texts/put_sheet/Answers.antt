use Rattle.picture_text.proofs.Chains.{c5}
use Rattle.picture_text.proofs.texts.put_sheet.Goals as goal

pub returns : goal.returns
returns c = c5 _ _ _ _ _ _ _ _ _ _ _ c.in_ok-put_head.ensures c.in_ok-put_managed.ensures c.in_ok-put_peer_heap.ensures c.in_ok-put_sheet_arrows.ensures c.in_ok-put.ensures
