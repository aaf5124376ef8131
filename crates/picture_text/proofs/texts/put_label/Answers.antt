use Rattle.picture_text.proofs.Chains.{c5}
use Rattle.picture_text.proofs.texts.put_label.Goals as goal

pub returns : goal.returns
returns c = c5 _ _ _ _ _ _ _ _ _ _ _ c.in_ok-put.ensures c.in_ok-put_named.ensures c.in_ok-put_byte.ensures c.in_ok-put_word.ensures c.in_ok-put_byte-2.ensures
