use Rattle.order_table.proofs.Wholes.{tell_lines}
use Rattle.order_table.proofs.laws.entries_tell_lines.Goals as goal

pub returns : goal.returns
returns c = record { law = tell_lines }
