-- The lists are exactly the live joint roots, and what the marking leaves out is what is marked.
use Rattle.joint_machine.specs.Histories.{managed_numbers, peer_numbers}
use Rattle.joint_replay.specs.Graphs.{parts_graph}
use Rattle.joint_replay.proofs.Rooting.{object-roots, dead-clean, dead-within}
use Rattle.std.proofs.lemmas.Result.{IfOk-weaker}
use Rattle.joint_replay.proofs.dead.dead_peers.Goals as goal

pub unreached_peers-requires-clause-objects : goal.unreached_peers-requires-clause-objects
unreached_peers-requires-clause-objects c =
    rw c.deref.ensures.value (object-roots (parts_graph c.args.managed.now c.args.peers.now c.args.removed.now) (managed_numbers c.in_ok-objects.objects.items) c.in_ok-objects.ensures)

pub unreached_peers-requires-clause-peers : goal.unreached_peers-requires-clause-peers
unreached_peers-requires-clause-peers c = rw c.deref-2.ensures.value c.in_ok-roots.ensures

pub marks_of-requires-clause-within : goal.marks_of-requires-clause-within
marks_of-requires-clause-within c =
    rw c.deref-3.ensures.value (dead-within (parts_graph c.args.managed.now c.args.peers.now c.args.removed.now) c.in_ok-dead.dead.items c.made.result
    (rw c.heap.ensures at c.made.ensures.made) c.in_ok-dead.ensures.exact)

pub returns : goal.returns
returns c =
    let g = parts_graph c.args.managed.now c.args.peers.now c.args.removed.now in
    let dead = peer_numbers c.in_ok-dead.dead.items in
    IfOk-weaker c.marks_of.result _ _ (λ v f p. (let d = dead-clean g dead c.in_ok-dead.ensures.exact p in let m = rw c.deref-3.ensures.value at (f p) in (λ x. d.0 (m.0 x), λ x. m.1 (d.1 x))))
    c.marks_of.ensures
