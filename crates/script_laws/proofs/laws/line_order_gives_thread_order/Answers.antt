use Rattle.script_laws.proofs.ThreadOrder.{line_order_gives_thread_order}
use Rattle.script_laws.proofs.laws.line_order_gives_thread_order.Goals as goal

pub returns : goal.returns
returns c = line_order_gives_thread_order
