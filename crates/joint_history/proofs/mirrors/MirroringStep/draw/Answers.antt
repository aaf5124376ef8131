-- A mirror leaves the seat settled, as each peer's entry does.
use Rattle.std.proofs.Common.{rules}
use Rattle.joint_machine.specs.Components.{mirror_edges}
use Rattle.joint_machine.specs.Told.{references_of}
use Rattle.peer_mirror.specs.Carried.{carried_to_peers}
use Rattle.peer_heap.specs.Cycles.{mirrors}
use Rattle.seat_calls.proofs.Floors.{below_floor, room_left}
use Rattle.joint_history.proofs.SeatDraws.{peer_settled}
use Rattle.joint_history.proofs.mirrors.MirroringStep.draw.Goals as goal

pub install-requires-clause-may : goal.install-requires-clause-may
install-requires-clause-may c = record {
  takes = tt;
  below = below_floor c.args.seat.now.view 1 c.args.side.now.entries c.requires.asks.5;
  room = room_left c.args.seat.now.view 1 c.args.side.now.entries c.requires.asks.5;
  bare = c.requires.asks.4;
  targets = λ m x. absurd x;
}

pub returns-clause-settled : goal.returns-clause-settled
returns-clause-settled c =
    let a = c.in_ok-refs.ensures.adds in
    let s = peer_settled _ _ c.args.seat.now _ c.args.side.now.state (mirrors c.args.self.index c.args.self.cycle c.in_ok-refs.refs c.args.self.snap)
    (references_of (carried_to_peers c.args.side.now.state.peers.issued c.args.self.graph.now.nodes (mirror_edges c.args.self.comps.now.comps c.args.self.comps.now.pairs)))
    a.draws.adds.number a.draws.adds.drawn.3 a.goes.lawful c.requires.settled in
    search rules
