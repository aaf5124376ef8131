-- All seats are in one, so it owns every line and knows the whole.
use Rattle.std.proofs.Common.{subst}
use Rattle.joint_model.specs.Listed.{entry_lists}
use Rattle.managed_heap.specs.Sides.{as_side}
use Rattle.peer_heap.specs.Sides.{seen}
use Rattle.order_table.specs.Rule.{AreLinesOfOneHistory as AllKnown}
use Rattle.joint_history.proofs.Joined.{owns_every}
use Rattle.joint_history.proofs.shared.Shared.take_all.Goals as goal

pub finish-requires-clause-all : goal.finish-requires-clause-all
finish-requires-clause-all g c =
    let l = as_side c.into_parts-managed_side.result.0 in
    let r = seen c.into_parts-peer_side.result.0 in
    owns_every c.gather_all.new.seat.view l r (entry_lists c.gather_all.new.lists)
    (c.gather_all.ensures.gathers l r c.into_parts-managed_side.ensures.knows.0 c.into_parts-peer_side.ensures.knows.0 c.into_parts-managed_side.ensures.seat.1 c.into_parts-peer_side.ensures.seat.1)

pub returns : goal.returns
returns g c =
    let l = as_side c.into_parts-managed_side.result.0 in
    let r = seen c.into_parts-peer_side.result.0 in
    record {
      before = c.into_parts-managed_side.result.1.view;
      seat = c.gather_all.new.seat.view;
      gathered = c.gather_all.ensures.gathers l r c.into_parts-managed_side.ensures.knows.0
          c.into_parts-peer_side.ensures.knows.0 c.into_parts-managed_side.ensures.seat.1 c.into_parts-peer_side.ensures.seat.1;
      whole = subst AllKnown c.finish.ensures.lines c.finish.ensures.whole;
      own = c.gather_all.ensures.own;
      waiting = c.gather_all.ensures.waiting;
    }
