use Rattle.worked_endings.proofs.PastTheGate.{let_in_reads_refused}
use Rattle.worked_endings.proofs.gates.reads_past_the_gate_are_refused.Goals as goal

pub returns : goal.returns
returns c = let_in_reads_refused
