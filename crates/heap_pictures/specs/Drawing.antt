-- The picture of what there is to see: a function of it. All lists stand by rising number.
use Rattle.std.specs.Prelude.{ℕ, Bool, true, false, ◌&&◌, not, if◌then◌else◌, List, [], ◌∷◌, ◌++◌, length, filter}
use Rattle.std.specs.Prelude.{Option, Some, None}
use Rattle.std.specs.List.{flat_map, range_with_len}
use Rattle.joint_machine.specs.Components.{End, node, temporary}
use Rattle.joint_machine.specs.Heaps.{Heap, slot, numbered_at, fields_of}
use Rattle.joint_machine.specs.Joint.{Joint}
use Rattle.joint_machine.specs.Managed.{candidates_of, handle_of}
use Rattle.joint_machine.specs.Peers.{Issued, is_held, is_strong, peer_of, sort_of}
use Rattle.joint_replay.specs.Plain.{dead_of, is_live, kept_target}
use Rattle.heap_views.specs.Views.{View}
use Rattle.heap_pictures.specs.declared.pictures.Arrow.{Arrow}
use Rattle.heap_pictures.specs.declared.pictures.Arrow.TheVariants as arrow
use Rattle.heap_pictures.specs.declared.pictures.ObjectNode.{ObjectNode}
use Rattle.heap_pictures.specs.declared.pictures.PeerNode.{PeerNode}
use Rattle.heap_pictures.specs.declared.pictures.Side.{Side}
use Rattle.heap_pictures.specs.declared.pictures.Side.TheVariants.{Managed, Peers}
use Rattle.heap_pictures.specs.declared.pictures.Slots.{Slots}
use Rattle.heap_pictures.specs.declared.pictures.Slots.TheVariants as slots
use Rattle.heap_pictures.specs.declared.pictures.Spot.{Spot}
use Rattle.heap_pictures.specs.declared.pictures.Spot.TheVariants as spot
use Rattle.heap_pictures.specs.declared.pictures.Style.{Style}
use Rattle.heap_pictures.specs.declared.pictures.Style.TheVariants as style
use Rattle.heap_pictures.specs.Flags.{is_in}
use Rattle.heap_pictures.specs.Pictures.{Drawing}

-- the numbers from 1 to n
abbrev pub numbers_to : ℕ → List ℕ
numbers_to n = range_with_len 1 n

-- a node for each unfreed object of either heap
abbrev pub object_node : Joint → ℕ → List ObjectNode
object_node j m = if is_live j.graph.managed.heap m then
    record { m = m; kind = numbered_at j.graph.managed.kinds m } ∷ [] else []

abbrev pub object_nodes : Joint → List ObjectNode
object_nodes j = flat_map (object_node j) (numbers_to (length j.graph.managed.heap.fields))

abbrev pub peer_node : Joint → ℕ → List PeerNode
peer_node j p = if is_live j.graph.peers.heap p then record { p = p; sort = sort_of j.graph.peers p } ∷ [] else []

abbrev pub peer_nodes : Joint → List PeerNode
peer_nodes j = flat_map (peer_node j) (numbers_to (length j.graph.peers.heap.fields))

-- the objects of a list that have a node
abbrev pub drawn_of : Joint → List ℕ → List ℕ
drawn_of j ms = filter (is_live j.graph.managed.heap) ms

-- an object of a heap
abbrev pub spot_of : Side → ℕ → Spot
spot_of Managed x = spot.Object x
spot_of Peers x = spot.Peer x

-- an arrow for each field of an unfreed object that holds another
abbrev pub field_arrow : Side → Heap → ℕ → ℕ → List Arrow
field_arrow side h x i = elim (kept_target h (slot (fields_of h x) i))
    [ None ↦ [] | Some y ↦ arrow.Field (spot_of side x) i (spot_of side y) ∷ [] ]

abbrev pub row_arrows : Side → Heap → ℕ → List Arrow
row_arrows side h x = flat_map (field_arrow side h x) (range_with_len 0 (length (fields_of h x)))

abbrev pub object_arrows : Side → Heap → ℕ → List Arrow
object_arrows side h x = if is_live h x then row_arrows side h x else []

abbrev pub field_arrows : Side → Heap → List Arrow
field_arrows side h = flat_map (object_arrows side h) (numbers_to (length h.fields))

-- whether the handle is one that isn't removed
abbrev pub is_tabled : Joint → ℕ → Bool
is_tabled j h = elim (numbered_at j.graph.removed h) [ None ↦ false | Some gone ↦ not gone ]

-- how the handle of a managed object is drawn: one that has left the table, one that a cycle made weak, or a strong
-- one; and where its peer is freed, a cleared one
abbrev pub held_style : View → ℕ → Style
held_style v h = if is_tabled v.joint h then (if is_in v.weakened h then style.Weak else style.Full) else style.Gone

abbrev pub faded_style : Joint → ℕ → Style
faded_style j h = if is_tabled j h then style.Cleared else style.Gone

-- the arrow of the handle that a managed object holds: to its peer and back, or to the bare handle where the peer is
-- freed
abbrev pub held_arrow : View → ℕ → ℕ → Option ℕ → List Arrow
held_arrow v m h None = []
held_arrow v m h (Some p) = if is_live v.joint.graph.peers.heap p then arrow.Held m h p
    (held_style v h) ∷ [] else arrow.Faded m h (faded_style v.joint h) ∷ []

abbrev pub tie : View → ℕ → List Arrow
tie v m = elim (handle_of v.joint.graph.managed m)
    [ None ↦ [] | Some h ↦ held_arrow v m h (peer_of v.joint.graph.peers.issued h) ]

abbrev pub ties : View → List Arrow
ties v = flat_map (tie v) (numbers_to (length v.joint.graph.managed.heap.fields))

-- what a slot of that list holds, by its number
abbrev pub target_of : Slots → ℕ → Spot
target_of slots.ManagedVars x = spot.Object x
target_of slots.ManagedStatics x = spot.Object x
target_of slots.Pins x = spot.Object x
target_of slots.PeerVars x = spot.Peer x
target_of slots.PeerStatics x = spot.Peer x
target_of slots.Names x = spot.Handle x

-- whether that is there to be drawn
abbrev pub is_there : Joint → Spot → Bool
is_there j (spot.Object m) = is_live j.graph.managed.heap m
is_there j (spot.Peer p) = is_live j.graph.peers.heap p
is_there j (spot.Handle h) = is_tabled j h
is_there j (spot.Slot s i) = true
is_there j (spot.Temporary i) = true

-- an arrow for each slot that holds something
abbrev pub slot_arrow : Joint → Slots → ℕ → Option ℕ → List Arrow
slot_arrow j s i None = []
slot_arrow j s i (Some x) = if is_there j (target_of s x) then arrow.Names (spot.Slot s i) (target_of s x) ∷ [] else []

abbrev pub slot_arrows : Joint → Slots → List (Option ℕ) → List Arrow
slot_arrows j s xs = flat_map (λ i. slot_arrow j s i (slot xs i)) (range_with_len 0 (length xs))

abbrev pub all_slots : Joint → List Arrow
all_slots j = slot_arrows j slots.ManagedVars
    j.graph.managed.heap.vars ++ (slot_arrows j slots.ManagedStatics
    j.graph.managed.heap.statics ++ (slot_arrows j slots.Pins j.graph.managed.pins
    ++ (slot_arrows j slots.PeerVars j.graph.peers.heap.vars ++
    (slot_arrows j slots.PeerStatics j.graph.peers.heap.statics ++ slot_arrows j slots.Names j.graph.peers.names))))

-- the handle that a managed object holds, if it holds one
abbrev pub handle_list : Joint → ℕ → List ℕ
handle_list j m = elim (handle_of j.graph.managed m) [ None ↦ [] | Some h ↦ h ∷ [] ]

-- the handles that managed objects hold
abbrev pub owned : Joint → List ℕ
owned j = flat_map (handle_list j) (numbers_to (length j.graph.managed.heap.fields))

-- whether a handle is drawn as a box: a raw one, or one that no managed object holds
abbrev pub is_box : List ℕ → ℕ → Issued → Bool
is_box owners h i = if is_held i.hold then not (is_in owners h) else true

-- a raw weak handle is drawn as a weak one
abbrev pub grip_style : Issued → Style
grip_style i = if is_held i.hold then style.Full else if is_strong i.strength then style.Full else style.Weak

-- the box of a handle, and its arrow where its peer isn't freed
abbrev pub box_arrow : Joint → ℕ → Issued → List Arrow
box_arrow j h i = if is_live j.graph.peers.heap i.peer then arrow.Grips h i.peer
    (grip_style i) ∷ [] else arrow.Stub h ∷ []

abbrev pub box_of : Joint → List ℕ → ℕ → Option Issued → List Arrow
box_of j owners h None = []
box_of j owners h (Some i) = if is_tabled j h && is_box owners h i then box_arrow j h i else []

abbrev pub boxes : Joint → List Arrow
boxes j = flat_map (λ h. box_of j (owned j) h (numbered_at j.graph.peers.issued h))
    (numbers_to (length j.graph.peers.issued))

-- the references that a cycle added, between unfreed peers
abbrev pub ref_spot : End → Spot
ref_spot (node p) = spot.Peer p
ref_spot (temporary i) = spot.Temporary i

abbrev pub ref_arrow : Joint → End × End → List Arrow
ref_arrow j e = if is_there j (ref_spot e.0) && is_there j
    (ref_spot e.1) then arrow.Refers (ref_spot e.0) (ref_spot e.1) ∷ [] else []

abbrev pub ref_arrows : View → List Arrow
ref_arrows v = flat_map (ref_arrow v.joint) v.refs

-- all arrows
abbrev pub arrows_of : View → List Arrow
arrows_of v = field_arrows Managed v.joint.graph.managed.heap ++
    (field_arrows Peers v.joint.graph.peers.heap ++ (ties v ++ (all_slots v.joint ++ (boxes v.joint ++ ref_arrows v))))

-- the picture
abbrev pub drawing_of : View → Drawing
drawing_of v = record {
  objects = object_nodes v.joint;
  peers = peer_nodes v.joint;
  dead = drawn_of v.joint (dead_of v.joint.graph.managed);
  candidates = drawn_of v.joint (candidates_of v.joint.graph.managed);
  arrows = arrows_of v;
}
