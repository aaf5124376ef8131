-- The list is exactly the live joint roots among the peers.
use Rattle.std.proofs.Common.{◌≡◌, ℕ, ◌↔◌, List, sym, subst, ◌∙◌}
use Rattle.std.specs.Prelude.{Contains}
use Rattle.std.proofs.lemmas.Result.{IfOk-weaker}
use Rattle.joint_machine.specs.Histories.{peer_numbers}
use Rattle.joint_machine.specs.Joint.{peer}
use Rattle.joint_marking.specs.Nodes.{IsLiveRoot}
use Rattle.joint_replay.specs.Graphs.{clean_graph, parts_graph}
use Rattle.joint_replay.proofs.Rooting.{peer-roots}
use Rattle.joint_replay.proofs.dead.peer_roots.Goals as goal

pub returns : goal.returns
returns c =
    let g = parts_graph c.args.managed.now c.args.peers.now c.args.removed.now in
    let roots = peer-roots c.args.managed.now c.args.peers.now c.args.removed.now c.in_ok-owned.owned.items c.in_ok-roots.roots.items c.push_rooted.new.roots.items
    (rw c.handles.ensures at c.in_ok-owned.ensures.exact) (rw c.heap.ensures at c.in_ok-roots.ensures) (rw c.deref.ensures.value at c.in_ok-push_rooted.ensures) in
    IfOk-weaker c.as_peers.result (λ v. peer_numbers v.items ≡ c.deref-2.result.now) _
    (λ v same. subst (λ (l : List ℕ). (k : ℕ) → Contains l k ↔ IsLiveRoot (clean_graph g) (peer k)) (sym (same ∙ c.deref-2.ensures.value)) roots) c.as_peers.ensures
