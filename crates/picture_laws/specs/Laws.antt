-- What is so of every picture.
use Rattle.std.specs.Prelude.{◌≡◌, ◌↔◌, length, map}
use Rattle.joint_machine.specs.Components.{Rises}
use Rattle.joint_machine.specs.Heaps.{IsLive}
use Rattle.joint_machine.specs.Joint.{Joint, Row, object, peer, IsReached}
use Rattle.heap_views.specs.Views.{View}
use Rattle.heap_pictures.specs.Drawing.{drawing_of}
use Rattle.picture_laws.specs.Paths.{HasNode, IsPathTo, spot_of_row}

-- a row of either heap is made and not freed
abbrev pub IsLiveRow : Joint → Row → Type 0
IsLiveRow j (object m) = IsLive j.graph.managed.heap m
IsLiveRow j (peer p) = IsLive j.graph.peers.heap p

-- the nodes are just the unfreed rows
abbrev pub NodesAreUnfreed : View → Type 0
NodesAreUnfreed v = (x : Row) → HasNode (drawing_of v) x ↔ IsLiveRow v.joint x

-- each row has one node, and the nodes stand by rising number
pub record HasOneNodeEach (v : View) : Type 0 where
  pub objects : Rises (map (λ n. n.m) (drawing_of v).objects)
  pub peers : Rises (map (λ n. n.p) (drawing_of v).peers)

-- a path from a box leads to a node exactly where the joint machine has its row reached
abbrev pub PathsAreReached : View → Type 0
PathsAreReached v = (x : Row) → HasNode (drawing_of v) x → IsPathTo (drawing_of v) (spot_of_row x) ↔ IsReached v.joint x

-- so it is of each state in which every managed object has a place for a handle, as every state of the joint machine
-- has
abbrev pub PicturesTell : Type 0
PicturesTell = (v : View) → length v.joint.graph.managed.held ≡ length v.joint.graph.managed.heap.fields
    → NodesAreUnfreed v × HasOneNodeEach v × PathsAreReached v
