use Rattle.order_table.specs.Views.{lines_of_none}
use Rattle.order_table.specs.Tells.{IsOfNone}
use Rattle.order_table.proofs.Parting.{parts, marks_none}
use Rattle.order_table.proofs.orders.Order.note.Goals as goal

pub returns-clause-parts : goal.returns-clause-parts
returns-clause-parts c = parts IsOfNone lines_of_none _ _ _ marks_none c.cut.ensures.old.1 c.cut.ensures.new.1
