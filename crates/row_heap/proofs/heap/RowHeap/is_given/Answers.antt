-- The variable says it.
use Rattle.std.proofs.Common.{◌∙◌, sym, ap}
use Rattle.std.specs.Option.{is_some}
use Rattle.row_heap.specs.Marks.{is_given}
use Rattle.row_heap.proofs.heap.RowHeap.is_given.Goals as goal

pub returns-in-None : goal.returns-in-None
returns-in-None g c = sym (ap (is_given c.args.self.now.heap) c.in-None.is)

pub returns-in-Some : goal.returns-in-Some
returns-in-Some g c = c.is_some.ensures ∙ (ap is_some (sym c.var.ensures.value) ∙ sym (ap (is_given c.args.self.now.heap) c.in-Some.is))
