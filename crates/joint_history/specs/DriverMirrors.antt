-- The driver's mirror under the peer lock: the mirror edges of its cycle's contraction come to stand as references
-- between the peers of its dead part's handles, all at once.
use Rattle.std.specs.Prelude.{◌≡◌, ℕ, false, List, length, Some}
use Rattle.joint_machine.specs.declared.names.Cycle.{Cycle}
use Rattle.joint_machine.specs.declared.events.Op.TheVariants as op
use Rattle.joint_machine.specs.declared.events.Reply.TheVariants as says
use Rattle.joint_machine.specs.Components.{End, mirror_edges}
use Rattle.joint_machine.specs.Control.{OpenSnap, contracted, weakening, carried_edges}
use Rattle.joint_machine.specs.Managed.{Managed, OpenCycle}
use Rattle.joint_machine.specs.PeerReplay.{PeerReplay}
use Rattle.joint_machine.specs.Sides.{Side, peer_rules}
use Rattle.joint_machine.specs.Told.{references_of}
use Rattle.bridge_graph.specs.Parts.{Part}
use Rattle.managed_heap.specs.Graphs.{IsDeadGraph}
use Rattle.order_table.specs.declared.views.View.{View}
use Rattle.order_table.specs.Views.{OrderId, Shown}
use Rattle.peer_mirror.specs.Carried.{carried_to_peers}
use Rattle.xref_list.specs.Listing.{Listing}
use Rattle.dead_parts.specs.Graphs.{numbered_comps}
use Rattle.joint_history.specs.Driven.{DriverMakes, DriverStands, driver_entry}
use Rattle.joint_history.specs.Locked.{Drew}

-- the graph is that of the open cycle's dead part, and these components and cross-references are those that the listing
-- has of its nodes, with as many heavy classes
pub record IsListedBy (g : Part) (l : Listing) (seen : Managed)
    (comps : List (List ℕ)) (heavy : List ℕ) (pairs : List (ℕ × ℕ)) : Type 0 where
  pub cycle : OpenCycle
  pub opened : seen.cycle ≡ Some cycle
  pub graph : IsDeadGraph seen cycle.dead g
  pub comps_same : comps ≡ numbered_comps g l.comps
  pub heavy_same : length heavy ≡ l.heavy
  pub pairs_same : pairs ≡ l.pairs

-- the side drew the cycle's mirror: one entry, with the mirror edges of the graph's components, carried to the peers of
-- its handles and to temporaries
pub record DrawsMirror (order : OrderId) (seat seat' : Shown) (side side' : Side PeerReplay)
    (index : ℕ) (k : Cycle) (snap : ℕ) (g : Part) (l : Listing) (n refs : ℕ) : Type 0 where
  pub drew : Drew peer_rules 1 order seat seat' side side'
      (driver_entry n index (op.Mirror k) (says.Refs refs) (Some snap))
      (references_of (carried_to_peers side.state.peers.issued g.nodes (mirror_edges l.comps l.pairs)))
  pub count : refs ≡ length (mirror_edges l.comps l.pairs)

-- the driver has contracted its cycle, which is this one and was opened by the entry with that number, to what the
-- listing has of the graph's nodes
pub record MayMirrorCycle (v : View) (index k snap : ℕ) (g : Part) (l : Listing) : Type 0 where
  pub opened : OpenSnap
  pub comps : List (List ℕ)
  pub heavy : List ℕ
  pub pairs : List (ℕ × ℕ)
  pub seen : Managed
  pub stands : DriverStands v index (contracted opened comps heavy pairs) seen
  pub listed : IsListedBy g l seen comps heavy pairs
  pub same_cycle : opened.cycle ≡ k
  pub same_snap : opened.snap ≡ snap

-- the driver mirrored its cycle, with so many references: they are the mirror edges, carried to the peers of the
-- handles as both stood before the entry
pub record MirrorsCycle (old new : View) (index n refs : ℕ) (k : Cycle) (o : OpenSnap)
    (comps : List (List ℕ)) (heavy : List ℕ) (pairs : List (ℕ × ℕ)) (m : Managed) : Type 0 where
  pub told : List (End × End)
  pub makes : DriverMakes old new (contracted o comps heavy pairs) m
      (driver_entry n index (op.Mirror k) (says.Refs refs) (Some o.snap)) (references_of told)
  pub carried : told ≡ carried_edges makes.state.managed.managed
      makes.state.peer.peers.issued (mirror_edges comps pairs)
  pub count : refs ≡ length (mirror_edges comps pairs)
  pub stands : DriverStands new index (weakening o 0 false false) m

-- so it is from wherever the driver might mirror it
abbrev pub MakesMirror : View → View → ℕ → Cycle → ℕ → Part → Listing → ℕ → ℕ → Type 0
MakesMirror old new index k snap g l refs n = (o : OpenSnap) (comps : List (List ℕ))
    (heavy : List ℕ) (pairs : List (ℕ × ℕ)) (m : Managed) → DriverStands old index (contracted o comps heavy pairs) m
    → IsListedBy g l m comps heavy pairs → o.cycle ≡ k.0 → o.snap ≡ snap
    → MirrorsCycle old new index n refs k o comps heavy pairs m
