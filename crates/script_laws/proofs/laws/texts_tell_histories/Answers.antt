use Rattle.script_laws.proofs.OneText.{one-text}
use Rattle.script_laws.proofs.laws.texts_tell_histories.Goals as goal

pub returns : goal.returns
returns c = one-text
