use Rattle.std.proofs.Common.{◌≡◌, ◌++◌, length}
use Rattle.std.specs.Vec.Iter.{into_iter_items, into_iter_len}
use Rattle.joint_model.specs.Listed.{entry_lists}
use Rattle.order_table.specs.Allowed.{Settled}
use Rattle.joint_history.specs.Desks.{present}
use Rattle.joint_history.specs.Ending.{GathersAll, TakesOwn, threads_of}
use Rattle.joint_history.proofs.gathers.gather_waiting.Given as goal

abbrev pub invariant-loop-waiting : goal.invariant-loop-waiting
invariant-loop-waiting g l = (l.seat.order ≡ g.N.OrderName.order)
    × GathersAll l.initial.seat.view l.seat.view (entry_lists l.initial.lists) (entry_lists l.lists) (threads_of (present l.yielded))
    × (l.yielded ++ into_iter_items l.waiting-iterator ≡ into_iter_items l.initial.waiting-iterator)
    × (into_iter_len l.waiting-iterator ≡ length (into_iter_items l.waiting-iterator))
    × TakesOwn l.initial.seat.view l.seat.view (present l.yielded)
    × Settled l.seat.view
