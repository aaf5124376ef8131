use Rattle.picture_text.proofs.Chains.{c5}
use Rattle.picture_text.proofs.texts.put_managed.Goals as goal

pub returns : goal.returns
returns c = c5 _ _ _ _ _ _ _ _ _ _ _ c.in_ok-put.ensures c.in_ok-put_sheet_objects.ensures c.in_ok-put_sheet_candidates.ensures c.in_ok-put_sheet_dead.ensures c.in_ok-put-2.ensures
