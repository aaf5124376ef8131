-- The seat knows nothing before it is shared, and so neither does after it.
use Rattle.std.proofs.Common.{◌∙◌}
use Rattle.order_table.specs.declared.views.Role.TheVariants as role
use Rattle.order_table.specs.Tells.{IsOfRole}
use Rattle.joint_history.proofs.Desking.{nothing_on}
use Rattle.joint_history.proofs.Reserving.{opens_managed, opens_peers}
use Rattle.joint_history.proofs.shared.Shared.with_seat.Goals as goal

pub new-left-requires-clause-knows : goal.new-left-requires-clause-knows
new-left-requires-clause-knows g c =
    let n = nothing_on (IsOfRole role.Peer) c.args.seat.view c.share-peer_seat.new.seat.view c.share-peer_seat.result.view c.share-peer_seat.ensures.parts c.requires.seat.3 in
    opens_managed _ c.share-peer_seat.new.seat.view c.in-Ok.left n.0 (c.in-Ok.ensures.threads ∙ c.requires.run.0) c.in-Ok.ensures.entries c.in-Ok.ensures.state

pub new-right-requires-clause-knows : goal.new-right-requires-clause-knows
new-right-requires-clause-knows g c =
    let n = nothing_on (IsOfRole role.Peer) c.args.seat.view c.share-peer_seat.new.seat.view c.share-peer_seat.result.view c.share-peer_seat.ensures.parts c.requires.seat.3 in
    opens_peers _ c.args.peers c.share-peer_seat.result.view c.in-Ok-new.right n.1 c.requires.run.1 c.in-Ok-new.ensures
