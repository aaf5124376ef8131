use Rattle.script_generator.proofs.EachLine.{own}
use Rattle.script_generator.proofs.laws.statics_have_one_writer.Goals as goal

pub returns : goal.returns
returns c = own
