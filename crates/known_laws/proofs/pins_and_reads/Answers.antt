use Rattle.known_laws.proofs.Held.{held_pins_stand, reads_are_exact}
use Rattle.known_laws.proofs.pins_and_reads.Goals as goal

pub returns-clause-stand : goal.returns-clause-stand
returns-clause-stand c = held_pins_stand

pub returns-clause-exact : goal.returns-clause-exact
returns-clause-exact c = reads_are_exact
