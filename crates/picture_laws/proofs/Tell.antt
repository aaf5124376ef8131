-- The nodes of a picture, and its paths.
use Rattle.std.proofs.Common.{◌≡◌, ◌↔◌, ℕ, length, map, refl, arith}
use Rattle.std.specs.Prelude.{Contains, filter}
use Rattle.joint_machine.specs.Heaps.{Heap, IsLive, numbered_at}
use Rattle.joint_machine.specs.Joint.{object, peer}
use Rattle.joint_machine.specs.Peers.{sort_of}
use Rattle.joint_machine.proofs.Members.{Contains-filter_from, Contains-filter_to, Rises-filter}
use Rattle.joint_replay.specs.Plain.{is_live}
use Rattle.joint_replay.proofs.Flags.{is_live-exact}
use Rattle.heap_views.specs.Views.{View}
use Rattle.heap_pictures.specs.declared.pictures.ObjectNode.{ObjectNode}
use Rattle.heap_pictures.specs.declared.pictures.PeerNode.{PeerNode}
use Rattle.heap_pictures.specs.Drawing.{drawing_of, numbers_to}
use Rattle.picture_laws.specs.Laws.{HasOneNodeEach, NodesAreUnfreed, PathsAreReached, PicturesTell}
use Rattle.picture_laws.proofs.Nodes.{in_range, keys, rises_range}
use Rattle.picture_laws.proofs.Sound.{path_reached}
use Rattle.picture_laws.proofs.Full.{reached_path}

objects_are : (v : View) → map (λ (n : ObjectNode). n.m) (drawing_of v).objects ≡ filter (is_live v.joint.graph.managed.heap) (numbers_to (length v.joint.graph.managed.heap.fields))
objects_are v = keys (is_live v.joint.graph.managed.heap) (λ m. record { m = m; kind = numbered_at v.joint.graph.managed.kinds m })
    (λ (n : ObjectNode). n.m) (λ x. refl) (numbers_to (length v.joint.graph.managed.heap.fields))

peers_are : (v : View) → map (λ (n : PeerNode). n.p) (drawing_of v).peers ≡ filter (is_live v.joint.graph.peers.heap) (numbers_to (length v.joint.graph.peers.heap.fields))
peers_are v = keys (is_live v.joint.graph.peers.heap) (λ p. record { p = p; sort = sort_of v.joint.graph.peers p })
    (λ (n : PeerNode). n.p) (λ x. refl) (numbers_to (length v.joint.graph.peers.heap.fields))

live_in : (h : Heap) (x : ℕ) → Contains (filter (is_live h) (numbers_to (length h.fields))) x ↔ IsLive h x
live_in h x = (
  λ c. (is_live-exact h x).0 (Contains-filter_from (is_live h) (numbers_to (length h.fields)) x c).1,
  λ l. Contains-filter_to (is_live h) (numbers_to (length h.fields)) x (in_range 1 (length h.fields) x l.made.0 (omega (arith, l.made.1))) ((is_live-exact h x).1 l),
)

nodes_are_unfreed : (v : View) → NodesAreUnfreed v
nodes_are_unfreed v (object m) = rw (objects_are v) (live_in v.joint.graph.managed.heap m)
nodes_are_unfreed v (peer p) = rw (peers_are v) (live_in v.joint.graph.peers.heap p)

has_one_node_each : (v : View) → HasOneNodeEach v
has_one_node_each v = record {
  objects = rw (objects_are v) (Rises-filter (is_live v.joint.graph.managed.heap) _ (rises_range 1 (length v.joint.graph.managed.heap.fields)));
  peers = rw (peers_are v) (Rises-filter (is_live v.joint.graph.peers.heap) _ (rises_range 1 (length v.joint.graph.peers.heap.fields)));
}

paths_are_reached : (v : View) → length v.joint.graph.managed.held ≡ length v.joint.graph.managed.heap.fields → PathsAreReached v
paths_are_reached v len x n = (path_reached v len x, reached_path v len x ((nodes_are_unfreed v x).0 n))

pub pictures_tell : PicturesTell
pictures_tell v len = (nodes_are_unfreed v, has_one_node_each v, paths_are_reached v len)
