-- No reservation makes a capacity smaller, or changes what a list holds.
use Rattle.std.proofs.Common.{◌≡◌, ◌+◌, ◌≤◌, vec_len, arith}
use Rattle.std.proofs.lemmas.Result.{on_ok_weaker}
use Rattle.bridge_graph.proofs.Room.{room-same, nodes-kept, edges-kept, nodes-room, edges-room}
use Rattle.bridge_graph.proofs.builder.GraphBuilder.reserve.Goals as goal

pub returns-then-edges-len-clause-kept_nodes : goal.returns-then-edges-len-clause-kept_nodes
returns-then-edges-len-clause-kept_nodes c = rw (← c.self.view_is) (room-same _)

pub returns-then-edges-len-clause-kept_edges : goal.returns-then-edges-len-clause-kept_edges
returns-then-edges-len-clause-kept_edges c = rw (← c.self.view_is) (room-same _)

pub returns-in_err-reserve-clause-kept_nodes : goal.returns-in_err-reserve-clause-kept_nodes
returns-in_err-reserve-clause-kept_nodes c = rw (← c.self.view_is) (nodes-kept _ _ _ _ _ _ c.reserve.ensures.capacity (room-same _) c.reserve.ensures.len)

pub returns-in_err-reserve-clause-kept_edges : goal.returns-in_err-reserve-clause-kept_edges
returns-in_err-reserve-clause-kept_edges c = rw (← c.self.view_is) (room-same _)

pub returns-in_err-reserve-2-clause-kept_nodes : goal.returns-in_err-reserve-2-clause-kept_nodes
returns-in_err-reserve-2-clause-kept_nodes c = rw (← c.self.view_is) (nodes-kept _ _ _ _ _ _ c.reserve.ensures.capacity c.reserve-2.ensures.capacity c.reserve.ensures.len)

pub returns-in_err-reserve-2-clause-kept_edges : goal.returns-in_err-reserve-2-clause-kept_edges
returns-in_err-reserve-2-clause-kept_edges c = rw (← c.self.view_is) (room-same _)

pub returns-in_err-reserve-3-clause-kept_nodes : goal.returns-in_err-reserve-3-clause-kept_nodes
returns-in_err-reserve-3-clause-kept_nodes c = rw (← c.self.view_is) (nodes-kept _ _ _ _ _ _ c.reserve.ensures.capacity c.reserve-2.ensures.capacity c.reserve.ensures.len)

pub returns-in_err-reserve-3-clause-kept_edges : goal.returns-in_err-reserve-3-clause-kept_edges
returns-in_err-reserve-3-clause-kept_edges c = rw (← c.self.view_is) (edges-kept _ _ _ _ _ _ _ _ c.reserve-3.ensures.capacity (room-same _) (room-same _) c.reserve-3.ensures.len)

pub returns-in_err-reserve-4-clause-kept_nodes : goal.returns-in_err-reserve-4-clause-kept_nodes
returns-in_err-reserve-4-clause-kept_nodes c = rw (← c.self.view_is) (nodes-kept _ _ _ _ _ _ c.reserve.ensures.capacity c.reserve-2.ensures.capacity c.reserve.ensures.len)

pub returns-in_err-reserve-4-clause-kept_edges : goal.returns-in_err-reserve-4-clause-kept_edges
returns-in_err-reserve-4-clause-kept_edges c = rw (← c.self.view_is) (edges-kept _ _ _ _ _ _ _ _ c.reserve-3.ensures.capacity c.reserve-4.ensures.capacity (room-same _) c.reserve-3.ensures.len)

pub returns-clause-kept_nodes : goal.returns-clause-kept_nodes
returns-clause-kept_nodes c = rw (← c.self.view_is) (nodes-kept _ _ _ _ _ _ c.reserve.ensures.capacity c.reserve-2.ensures.capacity c.reserve.ensures.len)

pub returns-clause-kept_edges : goal.returns-clause-kept_edges
returns-clause-kept_edges c = rw (← c.self.view_is) (edges-kept _ _ _ _ _ _ _ _ c.reserve-3.ensures.capacity c.reserve-4.ensures.capacity c.reserve-5.ensures.capacity c.reserve-3.ensures.len)

pub returns-clause-spare_nodes : goal.returns-clause-spare_nodes
returns-clause-spare_nodes c =
    let same : vec_len c.reserve-2.new.self ≡ vec_len c.reserve.new.self = omega (arith, c.reserve.ensures.len, c.reserve-2.ensures.len, c.self.invariant.firsts) in
    on_ok_weaker c.reserve-5.result (λ ok. nodes-room _ _ _ _ _ c.in_ok-reserve.ensures.ok c.in_ok-reserve-2.ensures.ok same) c.reserve-5.ensures.ok

pub returns-clause-spare_edges : goal.returns-clause-spare_edges
returns-clause-spare_edges c =
    let same : vec_len c.reserve-4.new.self ≡ vec_len c.reserve-3.new.self = omega (arith, c.reserve-3.ensures.len, c.reserve-4.ensures.len, c.self.invariant.nexts) in
    let most : vec_len c.reserve-3.new.self + c.args.edges ≤ 4294967295 = omega (arith, c.if-edges-len.false, c.len.ensures, c.reserve-3.ensures.len, c.self.invariant.most) in
    on_ok_weaker c.reserve-5.result (λ ok. edges-room _ _ _ _ _ _ c.in_ok-reserve-3.ensures.ok c.in_ok-reserve-4.ensures.ok (omega (arith, ok, c.len-2.ensures)) same most) c.reserve-5.ensures.ok
