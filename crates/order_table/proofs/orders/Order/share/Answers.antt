use Rattle.order_table.specs.Views.{lines_of_role}
use Rattle.order_table.specs.Tells.{IsOfRole}
use Rattle.order_table.proofs.Parting.{parts, marks_role}
use Rattle.order_table.proofs.orders.Order.share.Goals as goal

pub returns-clause-parts : goal.returns-clause-parts
returns-clause-parts c = parts (IsOfRole c.args.role) (lines_of_role c.args.role) _ _ _ (marks_role c.args.role) c.cut_role.ensures.old.1 c.cut_role.ensures.new.1
