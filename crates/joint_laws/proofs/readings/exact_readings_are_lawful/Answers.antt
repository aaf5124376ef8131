use Rattle.joint_laws.proofs.ExactReads.{exact_readings_are_lawful, readless_is_exact}
use Rattle.joint_laws.proofs.readings.exact_readings_are_lawful.Goals as goal

pub returns-clause-exact : goal.returns-clause-exact
returns-clause-exact c = exact_readings_are_lawful

pub returns-clause-readless : goal.returns-clause-readless
returns-clause-readless c = readless_is_exact
