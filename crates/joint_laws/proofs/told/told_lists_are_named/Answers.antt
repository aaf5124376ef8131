use Rattle.joint_laws.proofs.ReadingsTold.{told_is_named}
use Rattle.joint_laws.proofs.told.told_lists_are_named.Goals as goal

pub returns : goal.returns
returns c = told_is_named
