use Rattle.order_table.specs.Views.{lines_of_caller}
use Rattle.order_table.specs.Tells.{IsOfCaller}
use Rattle.order_table.proofs.Parting.{parts, marks_caller}
use Rattle.order_table.proofs.orders.Order.hand.Goals as goal

pub returns-clause-parts : goal.returns-clause-parts
returns-clause-parts c = parts (IsOfCaller c.args.t) (lines_of_caller c.args.t) _ _ _ (marks_caller c.args.t) c.cut_caller.ensures.old.1 c.cut_caller.ensures.new.1
