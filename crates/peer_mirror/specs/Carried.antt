-- The mirror edges between nodes of a dead part, carried to the peers of their handles. (The Xamarin.Android
-- documentation: a bridge collection adds references between the peers of a component and along cross-references.)
use Rattle.std.specs.Prelude.{◌≡◌, ℕ, ◌-◌, ◌<◌, List, [], length, map, All, true, Some, None}
use Rattle.joint_machine.specs.Components as exact
use Rattle.joint_machine.specs.Components.{IsMember, mirror_edges}
use Rattle.joint_machine.specs.Peers.{Issued, peer_of}
use Rattle.joint_machine.specs.PeerReplay.{PeerReplay, row_of}
use Rattle.joint_machine.specs.Told.{Told, references_of}
use Rattle.bridge_graph.specs.declared.graph.Node.{Node}
use Rattle.bridge_graph.specs.Handles.{handle_at, handles_of}
use Rattle.bridge_graph.specs.Parts.{IsBridgeNode}
use Rattle.peer_heap.specs.Mirroring.{strong_row}
use Rattle.peer_heap.specs.Mirrors.{MayStand}
use Rattle.xref_list.specs.declared.components.End.{End as Answered}
use Rattle.xref_list.specs.Ends.{end_of}
use Rattle.xref_list.specs.Listing.{Listing}
use Rattle.peer_heap.specs.Sides.{PeerModel, Reserve}

-- the peer of the handle of the node with that index; 0 where there is none
abbrev pub peer_of_node : List Issued → List Node → ℕ → ℕ
peer_of_node issued nodes i = elim (handle_at nodes i)
    [ None ↦ 0 | Some h ↦ elim (peer_of issued h.0) [ None ↦ 0 | Some p ↦ p ] ]

-- an end of an edge, carried to the peer of the node's handle; a temporary stays
abbrev pub carried_end : List Issued → List Node → exact.End → exact.End
carried_end issued nodes (exact.node i) = exact.node (peer_of_node issued nodes i)
carried_end issued nodes (exact.temporary t) = exact.temporary t

-- edges, carried to the peers of their nodes' handles and to the temporaries
abbrev pub carried_to_peers : List Issued → List Node → List (exact.End × exact.End) → List (exact.End × exact.End)
carried_to_peers issued nodes edges = map (λ e. (carried_end issued nodes e.0, carried_end issued nodes e.1)) edges

-- the mirror edges of a part's components, carried to the peers
abbrev pub mirrored_edges : PeerReplay → List Node → Listing → List (exact.End × exact.End)
mirrored_edges s nodes l = carried_to_peers s.peers.issued nodes (mirror_edges l.comps l.pairs)

-- what is told beside the mirror
abbrev pub mirror_told : PeerReplay → List Node → Listing → Told
mirror_told s nodes l = references_of (mirrored_edges s nodes l)

-- the end of a mirror edge is a bridge node, or one of so many temporaries
abbrev pub IsEdgeEnd : List Node → ℕ → exact.End → Type 0
IsEdgeEnd nodes temps (exact.node i) = IsBridgeNode nodes i
IsEdgeEnd nodes temps (exact.temporary t) = t < temps

-- the answered end of an edge is carried to that end of a reference, which may stand
abbrev pub IsCarried : PeerModel → List Node → ℕ → Answered → exact.End → Type 0
IsCarried side nodes members end ref = ((e : exact.End) → end ≡ end_of members e
    → ref ≡ carried_end side.state.peers.issued nodes e) × MayStand side.state.peers.heap side.reserve.temps ref

-- each member of a component is a bridge node
abbrev pub AreBridgeNodes : List Node → List (List ℕ) → Type 0
AreBridgeNodes nodes comps = (i x : ℕ) → IsMember comps i x → IsBridgeNode nodes x

-- each handle of a part is in the table and strong
abbrev pub AreHandlesStrong : PeerReplay → List Node → Type 0
AreHandlesStrong s nodes = All (λ h. row_of s h.0 ≡ Some strong_row) (handles_of nodes)

-- these references wait, in the room that was taken for them
abbrev pub with_pushed : PeerModel → List (exact.End × exact.End) → PeerModel
with_pushed m refs = record m { reserve = record m.reserve { waiting = refs; refs = m.reserve.refs - length refs } }

-- what is reserved once a cycle over so many handles is mirrored: its own, and nothing more
abbrev pub reserve_installed : ℕ → Reserve
reserve_installed handles = record { waiting = []; refs = 0; temps = 0; next = None; left = handles; marking = true }
