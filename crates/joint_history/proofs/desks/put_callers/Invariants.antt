use Rattle.std.proofs.Common.{◌≡◌, vec_len}
use Rattle.order_table.specs.Allowed.{Settled}
use Rattle.order_table.specs.Views.{Owns}
use Rattle.joint_history.specs.Callers.{KnowsNothing}
use Rattle.joint_history.specs.Desks.{ArePlaced, HoldsFrom}
use Rattle.joint_history.proofs.desks.put_callers.Given as goal

abbrev pub invariant-loop-place : goal.invariant-loop-place
invariant-loop-place g l = (l.seat.order ≡ g.N.OrderName.order) × Owns l.seat.view 0 × Owns l.seat.view 1 × KnowsNothing l.seat.view
    × HoldsFrom l.place l.seat.view × (vec_len l.callers ≡ l.place) × ArePlaced l.place l.callers.items × Settled l.seat.view
