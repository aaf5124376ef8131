use Rattle.run_laws.proofs.Answering.{operations_are_answered}
use Rattle.run_laws.proofs.Lining.{operations_are_lines, others_keep_standing}
use Rattle.run_laws.proofs.laws.operations_are_lines.Goals as goal

pub returns : goal.returns
returns c = record { lines = operations_are_lines; standing = others_keep_standing; answered = operations_are_answered }
