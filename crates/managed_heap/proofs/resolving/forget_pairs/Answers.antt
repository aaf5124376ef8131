-- The pairs stay whose row still has its peer beside it; where no peer was cleared, all stay.
use Rattle.std.proofs.Common.{◌∙◌, List, ap, subst, rules}
use Rattle.std.specs.Prelude.{filter}
use Rattle.joint_machine.specs.declared.names.MNum.{MNum}
use Rattle.joint_machine.specs.declared.names.PNum.{PNum}
use Rattle.joint_machine.specs.Histories.{managed_numbers}
use Rattle.managed_heap.specs.declared.rows.Header.{Header}
use Rattle.managed_heap.specs.Resolving.{AreCleared, has_peer}
use Rattle.managed_heap.specs.Rows.{pairs_of}
use Rattle.managed_heap.proofs.Forgetting.{pairs-left, pairs-same, ArePeers-left}
use Rattle.managed_heap.proofs.Peers.{peers_of}
use Rattle.managed_heap.proofs.resolving.forget_pairs.Goals as goal

pub returns-then-clear_peers-clause-pairs : goal.returns-then-clear_peers-clause-pairs
returns-then-clear_peers-clause-pairs c =
    ap pairs_of (c.retain.ensures.pairs (λ (q : PNum × MNum). has_peer (peers_of c.deref-left.result.now) q.1.0) (λ p m b said. search rules)
    ∙ ap (λ (z : List Header). filter (λ (q : PNum × MNum). has_peer (peers_of z) q.1.0) c.args.registry.now) c.deref-left.ensures.value)
    ∙ pairs-left c.args.registry.now c.args.headers.now.items c.clear_peers.new.headers.items (managed_numbers c.args.rows.now) c.requires.peers c.clear_peers.ensures.cleared

pub returns-then-clear_peers-clause-peers : goal.returns-then-clear_peers-clause-peers
returns-then-clear_peers-clause-peers c = ArePeers-left c.args.registry.now c.retain.new.self c.args.headers.now.items c.clear_peers.new.headers.items
    (managed_numbers c.args.rows.now) c.requires.peers c.clear_peers.ensures.cleared (returns-then-clear_peers-clause-pairs c)

pub returns-else-clear_peers-clause-pairs : goal.returns-else-clear_peers-clause-pairs
returns-else-clear_peers-clause-pairs c =
    let headers = c.args.headers.now.items in
    let ms = managed_numbers c.args.rows.now in
    pairs-same c.args.registry.now headers ms c.requires.peers (subst (λ (z : List Header). AreCleared (peers_of headers) (peers_of z) ms)
    (c.clear_peers.ensures.none c.if-clear_peers.false) c.clear_peers.ensures.cleared)

pub returns-else-clear_peers-clause-peers : goal.returns-else-clear_peers-clause-peers
returns-else-clear_peers-clause-peers c = ArePeers-left c.args.registry.now c.args.registry.now c.args.headers.now.items c.clear_peers.new.headers.items
    (managed_numbers c.args.rows.now) c.requires.peers c.clear_peers.ensures.cleared (returns-else-clear_peers-clause-pairs c)
