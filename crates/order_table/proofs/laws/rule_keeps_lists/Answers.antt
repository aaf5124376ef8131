use Rattle.order_table.proofs.Wholes.{keeps_lists}
use Rattle.order_table.proofs.laws.rule_keeps_lists.Goals as goal

pub returns : goal.returns
returns c = record { law = keeps_lists }
