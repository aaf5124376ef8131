use Rattle.std.proofs.Common.{◌≡◌, ◌++◌, length}
use Rattle.std.specs.Vec.Iter.{into_iter_items, into_iter_len}
use Rattle.joint_model.specs.Listed.{entry_lists}
use Rattle.order_table.specs.Allowed.{Settled}
use Rattle.joint_history.specs.Ending.{GathersAll, TakesOwn, threads_of}
use Rattle.joint_history.proofs.gathers.gather.Given as goal

abbrev pub invariant-loop-caller : goal.invariant-loop-caller
invariant-loop-caller g l = (l.seat.order ≡ g.N.OrderName.order)
    × GathersAll l.initial.seat.view l.seat.view (entry_lists l.initial.lists) (entry_lists l.lists) (threads_of l.yielded)
    × (l.yielded ++ into_iter_items l.caller-iterator ≡ into_iter_items l.initial.caller-iterator)
    × (into_iter_len l.caller-iterator ≡ length (into_iter_items l.caller-iterator))
    × TakesOwn l.initial.seat.view l.seat.view l.yielded
    × Settled l.seat.view
