-- The graph with clean heaps has the same edges and the same roots as the graph itself, so the same rows are reached.
use Rattle.std.proofs.Common.{ℕ, ◌↔◌, inl, inr, map, Some, sym, subst}
use Rattle.std.specs.Prelude.{Contains}
use Rattle.joint_machine.specs.Heaps.{Heap, HasField, fields_of}
use Rattle.joint_machine.specs.Joint.{Graph, Row, object, peer, IsJoined, JointEdge, IsJointRoot, IsReachedIn}
use Rattle.joint_machine.specs.Managed.{Holds}
use Rattle.joint_machine.proofs.WalkLemmas.{Reached-mono}
use Rattle.joint_machine.proofs.Members.{Contains-map, Contains-map_cases}
use Rattle.joint_marking.specs.Nodes.{IsLiveRoot}
use Rattle.joint_replay.specs.Graphs.{clean_graph}
use Rattle.joint_replay.specs.Plain.{cleaned, kept_target}
use Rattle.joint_replay.proofs.Finding.{fields-cleaned, kept-live, live-kept, live-cleaned, cleaned-live}

-- a clean heap has the same edges
pub clean-field : (h : Heap) (x y : ℕ) → HasField (cleaned h) x y → HasField h x y
clean-field h x y f =
    let r = Contains-map_cases (kept_target h) (fields_of h x) (Some y) (subst (λ l. Contains l (Some y)) (fields-cleaned h x) f.field) in
    let k = kept-live h r.0 y r.2 in
    record { live = cleaned-live h x f.live; field = subst (Contains (fields_of h x)) k.0 r.1; there = k.1 }

pub field-clean : (h : Heap) (x y : ℕ) → HasField h x y → HasField (cleaned h) x y
field-clean h x y f = record {
  live = live-cleaned h x f.live;
  field = subst (λ l. Contains l (Some y)) (sym (fields-cleaned h x))
      (subst (Contains (map (kept_target h) (fields_of h x))) (live-kept h y f.there) (Contains-map (kept_target h) (fields_of h x) (Some y) f.field));
  there = live-cleaned h y f.there;
}

-- the same objects hold the same handles
pub clean-holds : (g : Graph) (m k : ℕ) → Holds (clean_graph g).managed m k → Holds g.managed m k
clean-holds g m k h = record { live = cleaned-live g.managed.heap m h.live; held = h.held }

pub holds-clean : (g : Graph) (m k : ℕ) → Holds g.managed m k → Holds (clean_graph g).managed m k
holds-clean g m k h = record { live = live-cleaned g.managed.heap m h.live; held = h.held }

pub clean-joined : (g : Graph) (m p : ℕ) → IsJoined (clean_graph g) m p → IsJoined g m p
clean-joined g m p j = record { handle = j.handle; holds = clean-holds g m j.handle j.holds; leads = j.leads; live = cleaned-live g.peers.heap p j.live }

pub joined-clean : (g : Graph) (m p : ℕ) → IsJoined g m p → IsJoined (clean_graph g) m p
joined-clean g m p j = record { handle = j.handle; holds = holds-clean g m j.handle j.holds; leads = j.leads; live = live-cleaned g.peers.heap p j.live }

-- the same rows lead to each other
clean-edge : (g : Graph) (r t : Row) → JointEdge (clean_graph g) r t → JointEdge g r t
clean-edge g (object x) (object y) e = clean-field g.managed.heap x y e
clean-edge g (object x) (peer p) e = clean-joined g x p e
clean-edge g (peer p) (object x) e = clean-joined g x p e
clean-edge g (peer p) (peer q) e = clean-field g.peers.heap p q e

edge-clean : (g : Graph) (r t : Row) → JointEdge g r t → JointEdge (clean_graph g) r t
edge-clean g (object x) (object y) e = field-clean g.managed.heap x y e
edge-clean g (object x) (peer p) e = joined-clean g x p e
edge-clean g (peer p) (object x) e = joined-clean g x p e
edge-clean g (peer p) (peer q) e = field-clean g.peers.heap p q e

-- the same rows are roots
clean-root : (g : Graph) (r : Row) → IsJointRoot (clean_graph g) r → IsJointRoot g r
clean-root g (object x) r = r
clean-root g (peer p) r = elim r [
  | inl s ↦ inl s
  | inr a ↦ inr (elim a [
    | inl w ↦ inl (record {
      handle = w.handle;
      row = w.row;
      is_handle = record { issued = w.is_handle.issued; kept = w.is_handle.kept };
      raw_hold = w.raw_hold;
      strong_made = w.strong_made;
      leads = w.leads;
    })
    | inr w ↦ inr (record {
      handle = w.handle;
      row = w.row;
      is_handle = record { issued = w.is_handle.issued; kept = w.is_handle.kept };
      held_hold = w.held_hold;
      loose = λ m h. w.loose m (holds-clean g m w.handle h);
      leads = w.leads;
    })
  ])
]

root-clean : (g : Graph) (r : Row) → IsJointRoot g r → IsJointRoot (clean_graph g) r
root-clean g (object x) r = r
root-clean g (peer p) r = elim r [
  | inl s ↦ inl s
  | inr a ↦ inr (elim a [
    | inl w ↦ inl (record {
      handle = w.handle;
      row = w.row;
      is_handle = record { issued = w.is_handle.issued; kept = w.is_handle.kept };
      raw_hold = w.raw_hold;
      strong_made = w.strong_made;
      leads = w.leads;
    })
    | inr w ↦ inr (record {
      handle = w.handle;
      row = w.row;
      is_handle = record { issued = w.is_handle.issued; kept = w.is_handle.kept };
      held_hold = w.held_hold;
      loose = λ m h. w.loose m (clean-holds g m w.handle h);
      leads = w.leads;
    })
  ])
]

-- so the same rows are reached
pub reached-clean : (g : Graph) (r : Row) → IsReachedIn (clean_graph g) r ↔ IsReachedIn g r
reached-clean g r = (
  λ w. Reached-mono (IsJointRoot (clean_graph g)) (IsJointRoot g) (JointEdge (clean_graph g)) (JointEdge g) (λ x. clean-root g x) (λ x y. clean-edge g x y) r w,
  λ w. Reached-mono (IsJointRoot g) (IsJointRoot (clean_graph g)) (JointEdge g) (JointEdge (clean_graph g)) (λ x. root-clean g x) (λ x y. edge-clean g x y) r w,
)

-- the same rows are live roots
pub live_root-clean : (g : Graph) (r : Row) → IsLiveRoot (clean_graph g) r ↔ IsLiveRoot g r
live_root-clean g (object x) = (λ w. (cleaned-live g.managed.heap x w.0, clean-root g (object x) w.1), λ w. (live-cleaned g.managed.heap x w.0, root-clean g (object x) w.1))
live_root-clean g (peer p) = (λ w. (cleaned-live g.peers.heap p w.0, clean-root g (peer p) w.1), λ w. (live-cleaned g.peers.heap p w.0, root-clean g (peer p) w.1))
