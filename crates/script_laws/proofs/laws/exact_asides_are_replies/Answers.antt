use Rattle.script_laws.proofs.Asides.{exact_asides_are_replies}
use Rattle.script_laws.proofs.laws.exact_asides_are_replies.Goals as goal

pub returns : goal.returns
returns c = exact_asides_are_replies
