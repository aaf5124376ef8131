use Rattle.worked_endings.proofs.PastTheGate.{freed_pin_refused}
use Rattle.worked_endings.proofs.gates.freed_pins_are_refused.Goals as goal

pub returns : goal.returns
returns c = freed_pin_refused
