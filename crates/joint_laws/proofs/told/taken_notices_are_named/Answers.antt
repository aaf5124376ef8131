use Rattle.joint_laws.proofs.ReadingsTold.{notices_are_named}
use Rattle.joint_laws.proofs.told.taken_notices_are_named.Goals as goal

pub returns : goal.returns
returns c = notices_are_named
